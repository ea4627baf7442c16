-- The graph of the states reads the reduced words.
use Rattle.std.proofs.Common.{◌≡◌, ℕ, zero, suc, ◌<◌, List, [], ◌∷◌, ◌++◌, length, get_or, refl, sym, ◌∙◌, ap, subst, arith, ◌⊎◌, inl, inr, ◌↔◌, Option, Some, None, append_assoc, length-append, unwrap_or}
use Rattle.std.proofs.lemmas.List.{nil_from_length}
use Rattle.theory.specs.Word.{Word, IsOver}
use Rattle.theory.specs.Completion.{IsReduced, Listed}
use Rattle.theory.specs.Graph.{Graph, IsGraph, target, path}
use Rattle.theory.proofs.Words.{over_left, over_right}
use Rattle.theory.proofs.FactsLaws.{last_letter}
use Rattle.theory.proofs.GraphLaws.{path_append, path_front, path_letter}
use Rattle.rewriting.specs.Rules.{AreFalling}
use Rattle.rewriting.specs.States.{HasEnd, IsLongest, AreStates}
use Rattle.rewriting.specs.Tables.{Moves, move_by, edges, IsTable, IsTableOf}
use Rattle.rewriting.specs.Tries.{Reads, longer, words_of}
use Rattle.rewriting.proofs.StateLaws.{empty_longest, empty_reduced, end_found, end_kept, end_reduces, longest_more, reduced_front, reduced_more}
use Rattle.rewriting.proofs.TableLaws.{edge_is, table_graph}
use Rattle.rewriting.proofs.TrieLaws.{words_count}
use Rattle.reduced_automaton.specs.Paths.{HasPath, all_paths}
use Rattle.reduced_automaton.specs.Automaton.{IsReader, Leads}

module _ (rules : List (Word × Word)) (falling : AreFalling rules) (states : List Word) (are : AreStates rules states) where
  -- a left side at the end of the longest state and a letter stands at the end of the word and the letter
  end_back : (u : Word) (place a : ℕ) → IsLongest states u place → HasEnd rules (get_or states place [] ++ a ∷ []) → HasEnd rules (u ++ a ∷ [])
  end_back u place a is h =
      record {
        left = h.left;
        right = h.right;
        before = is.before ++ h.before;
        listed = h.listed;
        is =
            ap (λ x. x ++ a ∷ []) is.is ∙ append_assoc is.before (get_or states place []) (a ∷ []) ∙ ap (λ x. is.before ++ x) h.is
            ∙ sym (append_assoc is.before h.before h.left);
      }

  module _ (k : ℕ) (g : Graph) (moves : (n b : ℕ) → n < length states → b < k → Leads rules states (get_or states n [] ++ b ∷ []) (target g n b)) where
    -- a word that is read leads to the longest state at its end, and is reduced; one that is not read is not reduced
    abbrev Read : Word → Type 0
    Read u =
        ((n : ℕ) × (path g 0 u ≡ Some n) × IsLongest states u n × IsReduced (Listed rules) u)
        ⊎ (((n : ℕ) → path g 0 u ≡ Some n → ⊥) × (IsReduced (Listed rules) u → ⊥))

    read_edge : (u : Word) (n a : ℕ) → path g 0 u ≡ Some n → IsLongest states u n → IsReduced (Listed rules) u
        → (t : Option ℕ) → path g 0 (u ++ a ∷ []) ≡ t → Leads rules states (get_or states n [] ++ a ∷ []) t → Read (u ++ a ∷ [])
    read_edge u n a leads is reduced None e h = inr (
      λ m d. let bad : ⊥ = cc in bad,
      end_reduces rules (u ++ a ∷ []) (end_back u n a is h),
    )
    read_edge u n a leads is reduced (Some m) e h = inl (
      m,
      e,
      longest_more rules falling states are u n m a is h.1,
      reduced_more rules falling u a reduced (λ end. h.0 (end_kept rules falling states are u n a is end)),
    )

    read_more : (u : Word) (a : ℕ) → a < k → Read u → Read (u ++ a ∷ [])
    read_more u a less (inl r) =
        read_edge u r.0 a r.1 r.2 r.3 (target g r.0 a) (path_append g 0 r.0 u (a ∷ []) r.1 ∙ path_letter g r.0 a) (moves r.0 a r.2.within less)
    read_more u a less (inr r) = inr (
      λ n e. let front = path_front g 0 n u (a ∷ []) e in r.0 front.0 front.1,
      λ reduced. r.1 (reduced_front rules u (a ∷ []) reduced),
    )

    read : (n : ℕ) (u : Word) → length u ≡ n → IsOver k u → Read u
    read zero u e over = subst Read (sym (nil_from_length u e)) (inl (0, refl, empty_longest rules falling states are, empty_reduced rules falling))
    read (suc n) u e over = elim (last_letter u) [
      | inl d ↦ absurd (omega (arith, ap length d))
      | inr l ↦
          let whole : IsOver k (l.0 ++ l.1 ∷ []) = subst (λ w. IsOver k w) l.2 over in
          let front = read n l.0 (omega (arith, ap length l.2, length-append l.0 (l.1 ∷ []))) (over_left k l.0 (l.1 ∷ []) whole) in
          subst Read (sym l.2) (read_more l.0 l.1 (over_right k l.0 (l.1 ∷ []) whole).0 front)
    ]

    reads : (u : Word) → IsOver k u → HasPath (all_paths k g) 0 u ↔ IsReduced (Listed rules) u
    reads u over = go (read (length u) u refl over)
      where
        go : Read u → HasPath (all_paths k g) 0 u ↔ IsReduced (Listed rules) u
        go (inl r) = (λ h. r.3, λ reduced. record { over = over; end = r.0; is = r.1; ends = refl })
        go (inr r) = (λ h. absurd (r.0 h.end h.is), λ reduced. absurd (r.1 reduced))

-- the entry of a state and letter is where they lead
pub leads_by : (rules : List (Word × Word)) (states : List Word) (u : Word) (t : ℕ) (e : Option ℕ) → Reads rules states u t e → Leads rules states u (move_by e (Some t))
leads_by rules states u t None r = (r.ends, r.longest)
leads_by rules states u t (Some number) r = end_found rules u number r.ends

module _ (k : ℕ) (rules : List (Word × Word)) (m : Moves) (is : IsTableOf k rules m) (table : IsTable m) where
  table_leads : (n a : ℕ) → n < length (words_of rules m.prefixes) → a < k → Leads rules (words_of rules m.prefixes) (longer (words_of rules m.prefixes) n a) (target (edges m) n a)
  table_leads n a hn ha =
      let h : n < length m.prefixes = omega (arith, hn, words_count rules m.prefixes) in
      let to = is.full n a (omega (arith, h, table.target_rows.count)) ha in
      let read = subst (λ (t : Option ℕ). Reads rules (words_of rules m.prefixes) (longer (words_of rules m.prefixes) n a) (unwrap_or t 0) (target m.ends n a)) to.1 (is.reads n a h ha) in
      subst (λ t. Leads rules (words_of rules m.prefixes) (longer (words_of rules m.prefixes) n a) t) (sym (edge_is m table n a ∙ ap (λ t. move_by (target m.ends n a) t) to.1))
      (leads_by rules (words_of rules m.prefixes) (longer (words_of rules m.prefixes) n a) to.0 (target m.ends n a) read)

  pub table_reads : AreFalling rules → IsReader k rules (edges m)
  table_reads falling = record {
    graph = subst (λ z. IsGraph z (edges m)) is.letters (table_graph m table);
    reads = reads rules falling (words_of rules m.prefixes) is.states.are k (edges m) table_leads;
  }
