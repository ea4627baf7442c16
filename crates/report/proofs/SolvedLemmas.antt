-- The answers where the problem is decided.
use Rattle.std.proofs.Common.{◌≡◌, ◌↔◌, All, ℕ, Bool, true, false, IsTrue, true≢false, inl, inr, if◌then◌else◌, List, [], ◌∷◌, ◌++◌, map, length, Option, Result, refl, sym, ap, subst, subst₂, ◌∙◌}
use Rattle.std.proofs.lemmas.Bool.{le-leb, lt-leb}
use Rattle.ports.specs.declared.sink.Sink.{Ghosts}
use Rattle.ports.specs.declared.fault.WriteFault.{WriteFault}
use Rattle.ports.specs.Writes.{Writes}
use Rattle.ports.proofs.WriteLemmas.{meant_weaker}
use Rattle.theory.specs.Word.{Word, IsElement, IsOver}
use Rattle.theory.specs.ShortLex.{◌≺◌}
use Rattle.theory.specs.Listing.{IsPage}
use Rattle.theory.specs.Class.{IsLeast, IsNormal, HasIndex, IsInfinite, IsRuleList}
use Rattle.froidure_pin.specs.declared.tables.CayleyTables.{CayleyTables}
use Rattle.cayley.specs.Tables.{edge}
use Rattle.problem.specs.declared.kinds.Problem.{Problem}
use Rattle.problem.specs.Problem.{SameClassOf, SameValueOf, HasOneShape, IsWellPosed, count_of, has_empty_word, is_presented, letters_of, pairs_of}
use Rattle.problem.proofs.RelatedByValue.{related_by_value}
use Rattle.congruence_classes.specs.declared.indexes.Index.{Index}
use Rattle.congruence_classes.specs.declared.indexes.Index.TheVariants.{Finite, Infinite, Over}
use Rattle.element_tables.specs.CayleyGraphs.{AreTablesFor}
use Rattle.congruence_classes.specs.Indexes.{IsIndexWithin}
use Rattle.query_lang.specs.declared.script.Query.{Query}
use Rattle.query_lang.specs.declared.script.Query.TheVariants as query
use Rattle.query_lang.specs.Query.{IsQueryOf, needs_generators, needs_no_pairs}
use Rattle.element_tables.proofs.Alike.{graphs_alike}
use Rattle.element_tables.proofs.Elements.{class_over, rules_over, one_shape}
use Rattle.report_lines.specs.Lines.{cayley_lines, count_line, over_line, infinite_line, equal_line, normal_line, page_lines, rule_line, word_line, end_line}
use Rattle.report_lines.specs.LineBytes.{AreBytesOf}
use Rattle.report_lines.specs.Pages.{ArePageLines}
use Rattle.query_answers.specs.Answer.{AreLines}

-- s is what was solved, and p the problem that is asked about
module _ (p s : Problem) (solved : s ≡ p) where
  -- what holds of the classes of the one holds of those of the other
  of_problem : (P : (Word → Word → Type 0) → Type 0) → P (SameClassOf s) → P (SameClassOf p)
  of_problem P h = subst (λ x. P (SameClassOf x)) solved h

  -- a least word is over the letters
  pub normal_over : (letters : List ℕ) (w : Word) → letters ≡ letters_of p → count_of p ≡ length (letters_of p) → IsLeast (SameClassOf s) w → IsOver (length letters) w
  normal_over letters w over one_each least = subst (λ k. IsOver k w) (one_each ∙ sym (ap length over)) (class_over p w w (of_problem (λ R. R w w) least.element))

  -- the sides of rules are over the letters
  pub solved_rules_over : (letters : List ℕ) (rules : List (Word × Word)) → letters ≡ letters_of p → count_of p ≡ length (letters_of p) → IsRuleList (SameClassOf s) rules
      → All (λ r. IsOver (length letters) r.0 × IsOver (length letters) r.1) rules
  solved_rules_over letters rules over one_each h =
      subst (λ k. All (λ r. IsOver k r.0 × IsOver k r.1) rules) (one_each ∙ sym (ap length over)) (rules_over p rules (of_problem (λ R. IsRuleList R rules) h))

  module _ (bound : ℕ) where
    pub solved_count : (i : Index) (n : ℕ) → i ≡ Finite n → IsIndexWithin (SameClassOf s) bound i → AreLines p bound query.Index (count_line n ∷ [])
    solved_count i n e within =
        let h = subst (IsIndexWithin (SameClassOf s) bound) e within in
        inl (n, of_problem (λ R. HasIndex R n) h.0, ap (λ least. (if least then count_line n else over_line bound) ∷ []) (sym (le-leb n bound h.1)))

    pub solved_over : (i : Index) → i ≡ Over → IsIndexWithin (SameClassOf s) bound i → AreLines p bound query.Index (over_line bound ∷ [])
    solved_over i e within =
        let h = subst (IsIndexWithin (SameClassOf s) bound) e within in
        inl (h.0, of_problem (λ R. HasIndex R h.0) h.1, ap (λ least. (if least then count_line h.0 else over_line bound) ∷ []) (sym (lt-leb h.0 bound h.2)))

    pub solved_infinite : (i : Index) → i ≡ Infinite → IsIndexWithin (SameClassOf s) bound i → AreLines p bound query.Index (infinite_line ∷ [])
    solved_infinite i e within = inr (of_problem IsInfinite (subst (IsIndexWithin (SameClassOf s) bound) e within), refl)

    pub solved_rules : (rules : List (Word × Word)) → IsRuleList (SameClassOf s) rules
        → AreLines p bound query.RuleList (map (rule_line (letters_of p)) rules ++ end_line false ∷ [])
    solved_rules rules h = (rules, of_problem (λ R. IsRuleList R rules) h, refl)

    pub solved_equal : (u v : Word) (same : Bool) → IsTrue same ↔ SameClassOf s u v → AreLines p bound (query.Equal u v) (equal_line same ∷ [])
    solved_equal u v true h = inl (of_problem (λ R. R u v) (h.0 refl), refl)
    solved_equal u v false h = inr (of_problem (λ R. R u v → ⊥) (λ related. true≢false (sym (h.1 related))), refl)

    pub solved_normal : (u w : Word) → IsNormal (SameClassOf s) u w → AreLines p bound (query.Normal u) (normal_line (letters_of p) w ∷ [])
    solved_normal u w h = (w, of_problem (λ R. IsNormal R u w) h, refl)

    -- a page of the classes
    page : (q : Query) (count : ℕ) (after asked : Option Word) (letters : List ℕ) → q ≡ query.Classes count after → asked ≡ after → letters ≡ letters_of p → (lines : List (List ℕ)) → ArePageLines (IsLeast (SameClassOf s)) ◌≺◌ (word_line letters) asked count lines → AreLines p bound q lines
    page q count after asked letters is same over lines h =
        let here = subst (λ cursor. IsPage (IsLeast (SameClassOf s)) ◌≺◌ cursor count h.items h.more) same h.is_page in
        subst (λ s. AreLines p bound s lines) (sym is)
        (record {
          items = h.items;
          more = h.more;
          is_page = of_problem (λ R. IsPage (IsLeast R) ◌≺◌ after count h.items h.more) here;
          are_lines = h.are_lines ∙ ap (λ ls. page_lines (word_line ls) h.items h.more) over;
        })

    module _ (q : Query) (count : ℕ) (after asked : Option Word) (letters : List ℕ) (is : q ≡ query.Classes count after) (same : asked ≡ after) (over : letters ≡ letters_of p) where
      pub solved_page : {K : Type 0} (sink : Ghosts K) (old new : K) (r : Result (Unit {0}) WriteFault) → Writes sink (λ _. AreBytesOf (ArePageLines (IsLeast (SameClassOf s)) ◌≺◌ (word_line letters) asked count)) old new r → Writes sink (λ _. AreBytesOf (AreLines p bound q)) old new r
      solved_page sink old new r = meant_weaker sink old new r (λ _ bytes h. record { lines = h.lines; are_such = page q count after asked letters is same over h.lines h.are_such; are_bytes = h.are_bytes })

-- the lines of the problem that was solved are those of the query
pub solved_told : {K : Type 0} (sink : Ghosts K) (s p : Problem) (bound : ℕ) (r q : Query) → s ≡ p → q ≡ r → (old new : K) (result : Result (Unit {0}) WriteFault)
    → Writes sink (λ _. AreBytesOf (AreLines s bound r)) old new result → Writes sink (λ _. AreBytesOf (AreLines p bound q)) old new result
solved_told sink s p bound r q solved is old new result = subst₂ (λ (p : Problem) (q : Query). Writes sink (λ _. AreBytesOf (AreLines p bound q)) old new result) solved (sym is)

-- each letter of it is one
pub counted : (p s : Problem) → s ≡ p → count_of p ≡ length (letters_of p) → count_of s ≡ length (letters_of s)
counted p s solved one_each = subst (λ (q : Problem). count_of q ≡ length (letters_of q)) (sym solved) one_each

-- an element over the letters is one over so many
pub element_counted : (p : Problem) (w : Word) → count_of p ≡ length (letters_of p) → IsElement (has_empty_word p) (length (letters_of p)) w → IsElement (has_empty_word p) (count_of p) w
element_counted p w one_each = subst (λ k. IsElement (has_empty_word p) k w) (sym one_each)

-- what asks for generators is there only where they are given
is_generated : (p : Problem) (q r : Query) → q ≡ r → needs_generators r ≡ true → IsQueryOf p q → is_presented p ≡ false
is_generated p q r is needs asked = generated (is_presented p) asked.there
  where
    generated : (presented : Bool) → (presented ≡ true → needs_generators q ≡ false) → presented ≡ false
    generated true there = absurd (true≢false (sym needs ∙ sym (ap needs_generators is) ∙ there refl))
    generated false there = refl

-- generators are of one shape
pub solved_shape : (p : Problem) (q r : Query) → q ≡ r → needs_generators r ≡ true → IsWellPosed p → IsQueryOf p q → HasOneShape p
solved_shape p q r is needs posed asked = one_shape p (is_generated p q r is needs asked) posed

-- there are no pairs
pub solved_unpaired : (p : Problem) (q r : Query) → q ≡ r → needs_no_pairs r ≡ true → IsQueryOf p q → pairs_of p ≡ []
solved_unpaired p q r is needs asked = asked.unpaired (ap needs_no_pairs is ∙ needs)

-- without pairs the Cayley graphs are those of the elements
pub solved_cayley : (p : Problem) (bound : ℕ) (q : Query) (t : CayleyTables) → q ≡ query.Cayley → IsWellPosed p → IsQueryOf p q → AreTablesFor p t
    → AreLines p bound query.Cayley (cayley_lines (letters_of p) (count_of p) t.words (edge t.right) (edge t.left) ++ end_line false ∷ [])
solved_cayley p bound q t is posed asked tables =
    let alike = related_by_value p (solved_shape p q query.Cayley is refl posed asked) (solved_unpaired p q query.Cayley is refl asked) in
    (t.words, edge t.right, edge t.left, graphs_alike (SameValueOf p) (SameClassOf p) (λ u v. ((alike u v).1, (alike u v).0)) (count_of p) t.words (edge t.right) (edge t.left) tables.graphs, refl)
