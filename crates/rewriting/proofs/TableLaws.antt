-- The table as a graph.
use Rattle.std.proofs.Common.{◌≡◌, ℕ, ◌+◌, ◌<◌, ◌≤◌, List, [], ◌∷◌, ◌++◌, length, map, drop, get_or, slice_get, sym, ◌∙◌, ap, ap₂, subst, subst₂, arith, inl, inr, Option, Some, None, unwrap_or, option_and_then}
use Rattle.std.proofs.lemmas.Bool.{cases_lt}
use Rattle.std.specs.List.{range_with_len}
use Rattle.std.proofs.lemmas.List.{append_assoc, append-nil, at_drop_more, same_from_push}
use Rattle.std.proofs.lemmas.List.FromFn.{get_or-map-range_with_len, length-map-range_with_len}
use Rattle.std.proofs.lemmas.Option.{get_or_from_slice_get, slice_get_within}
use Rattle.theory.specs.Word.{Word, IsOver}
use Rattle.theory.proofs.Words.{over_right}
use Rattle.theory.proofs.FactsLaws.{last_letter}
use Rattle.theory.specs.Graph.{Graph, IsGraph, path, target}
use Rattle.cells.specs.Rows.{AreRows}
use Rattle.cells.proofs.EntryLaws.{letters_past, rows_past, target_is}
use Rattle.rewriting.proofs.TrieLaws.{state_over}
use Rattle.rewriting.specs.Rules.{AreFalling}
use Rattle.rewriting.specs.Tries.{Reads, longer, state_at, words_of}
use Rattle.rewriting.specs.Tables.{Moves, move_by, move, edges, IsTable, IsTableOf}
use Rattle.rewriting.proofs.Standing.{filled, listed_at, listed_falls}
use Rattle.rewriting.proofs.StateLists.{item_at}

module _ (m : Moves) (is : IsTable m) where
  abbrev row : ℕ → List (Option ℕ)
  row node = map (λ letter. move m node letter) (range_with_len 0 m.letters)

  pub edges_count : length (edges m) ≡ length m.prefixes
  edges_count = length-map-range_with_len row 0 (length m.prefixes)

  row_at : (node : ℕ) (d : List (Option ℕ)) → node < length m.prefixes → get_or (edges m) node d ≡ row node
  row_at node d h = get_or-map-range_with_len row 0 (length m.prefixes) node node d h (omega arith)

  row_count : (node : ℕ) → length (row node) ≡ m.letters
  row_count node = length-map-range_with_len (λ letter. move m node letter) 0 m.letters

  edge_rows : AreRows (length m.prefixes) m.letters (edges m)
  edge_rows = record { count = edges_count; width = λ node d h. ap length (row_at node d (omega (arith, h, edges_count))) ∙ row_count node }

  none_both : (node letter : ℕ) → target m.ends node letter ≡ None → target m.targets node letter ≡ None → target (edges m) node letter ≡ None → target (edges m) node letter ≡ move m node letter
  none_both node letter end to none = none ∙ sym (ap₂ move_by end to)

  -- each edge is told by the entries
  pub edge_is : (node letter : ℕ) → target (edges m) node letter ≡ move m node letter
  edge_is node letter = elim (cases_lt node (length m.prefixes)) [
    | inr h ↦
        none_both node letter (rows_past _ _ m.ends is.end_rows node letter h) (rows_past _ _ m.targets is.target_rows node letter h) (rows_past _ _ (edges m) edge_rows node letter h)
    | inl h ↦ elim (cases_lt letter m.letters) [
      | inr l ↦
          none_both node letter (letters_past _ _ m.ends is.end_rows node letter l) (letters_past _ _ m.targets is.target_rows node letter l) (letters_past _ _ (edges m) edge_rows node letter l)
      | inl l ↦
          target_is (edges m) node letter ∙ ap (λ (r : List (Option ℕ)). get_or r letter None) (row_at node [] h)
          ∙ get_or-map-range_with_len (λ letter. move m node letter) 0 m.letters letter letter None l (omega arith)
    ]
  ]

  -- an edge leads to the state of its entry
  edge_to : (e t : Option ℕ) (next : ℕ) → move_by e t ≡ Some next → t ≡ Some next
  edge_to None t next e = e
  edge_to (Some number) t next e = let bad : ⊥ = cc in absurd bad

  pub table_graph : IsGraph m.letters (edges m)
  table_graph = record {
    rooted = omega (arith, is.some, edges_count);
    width = edge_rows.width;
    nodes = λ node letter next e.
        let to = edge_to (target m.ends node letter) (target m.targets node letter) next (sym (edge_is node letter) ∙ e) in
        let within = subst (λ (t : Option ℕ). unwrap_or t 0 < length m.prefixes) to (is.within node letter) in
        omega (arith, within, edges_count);
  }

-- a word from a place on, by its next letter
pub path_on : (g : Graph) (w : Word) (i a at : ℕ) → slice_get w i ≡ Some a → (t : Option ℕ) → target g at a ≡ t
    → path g at (drop i w) ≡ option_and_then (λ next. path g next (drop (i + 1) w)) t
path_on g w i a at read t leads =
    at_drop_more (path g at) w i 0 (slice_get_within w i a read)
    ∙ ap (λ b. path g at (b ∷ drop (i + 1) w)) (get_or_from_slice_get w i a 0 read)
    ∙ ap (λ (o : Option ℕ). option_and_then (λ next. path g next (drop (i + 1) w)) o) leads

-- a letter that no rule has
module _ (k : ℕ) (rules : List (Word × Word)) (m : Moves) (is : IsTableOf k rules m) (falling : AreFalling rules) (u : Word) (a : ℕ) (past : k ≤ a) where
  over_end : (x s : Word) → u ++ a ∷ [] ≡ x ++ s → IsOver k s → length s ≤ 0
  over_end x s e over = elim (last_letter s) [
    | inl d ↦ omega (arith, ap length d)
    | inr l ↦
        let last = same_from_push u (x ++ l.0) a l.1 (e ∙ ap (λ y. x ++ y) l.2 ∙ sym (append_assoc x l.0 (l.1 ∷ []))) in
        let below = (over_right k l.0 (l.1 ∷ []) (subst (λ w. IsOver k w) l.2 over)).0 in
        absurd (omega (arith, below, last.1, past))
  ]

  pub past_reads : Reads rules (words_of rules m.prefixes) (u ++ a ∷ []) 0 None
  past_reads = record {
    longest = record {
      within = is.states.are.prefixes.some;
      before = u ++ a ∷ [];
      is = sym (ap (λ w. (u ++ a ∷ []) ++ w) is.states.are.prefixes.root ∙ append-nil (u ++ a ∷ []));
      longest = λ x s e has.
          let at : get_or (words_of rules m.prefixes) has.0 [] ≡ s = item_at (words_of rules m.prefixes) s [] has in
          let short = over_end x s e (subst (λ w. IsOver k w) at (state_over k rules m.prefixes is.over has.0)) in
          omega (arith, short);
    };
    ends = λ h.
        let over = subst (λ (p : Word × Word). IsOver k p.0) (listed_at rules h.left h.right h.listed) (is.over h.listed.0 ([], []) h.listed.1).0 in
        let short = over_end h.before h.left h.is over in
        let some = filled h.left h.right (listed_falls rules falling h.left h.right h.listed) in
        omega (arith, short, some);
  }

-- what the table reads at a state and any letter
pub read_at : (k : ℕ) (rules : List (Word × Word)) (m : Moves) → IsTable m → AreFalling rules → IsTableOf k rules m → (state letter : ℕ) → state < length m.prefixes
    → Reads rules (words_of rules m.prefixes) (longer (words_of rules m.prefixes) state letter) (state_at m.targets state letter) (target m.ends state letter)
read_at k rules m table falling is state letter inside = elim (cases_lt letter k) [
  | inl l ↦ is.reads state letter inside l
  | inr h ↦
      let over : m.letters ≤ letter = omega (arith, h, is.letters) in
      subst₂ (λ (t e : Option ℕ). Reads rules (words_of rules m.prefixes) (longer (words_of rules m.prefixes) state letter) (unwrap_or t 0) e)
      (sym (letters_past _ _ m.targets table.target_rows state letter over)) (sym (letters_past _ _ m.ends table.end_rows state letter over))
      (past_reads k rules m is falling (get_or (words_of rules m.prefixes) state []) letter h)
]
