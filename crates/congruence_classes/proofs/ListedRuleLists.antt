-- The rules of places and letters, one after another.
use Rattle.std.proofs.Common.{◌≡◌, ℕ, ◌+◌, ◌<◌, List, [], ◌∷◌, ◌++◌, refl, sym, ◌∙◌, ap, subst, subst₂, arith, ◌⊎◌, inl, inr, Option, Some, None}
use Rattle.std.proofs.lemmas.Bool.{cases_lt}
use Rattle.std.proofs.lemmas.List.Elements.{Contains-append_left, Contains-append_right, Contains-append_cases}
use Rattle.theory.specs.Word.{Word}
use Rattle.theory.specs.ShortLex.{◌≺◌}
use Rattle.theory.specs.Listing.{IsAfter, IsAscending}
use Rattle.theory.specs.Class.{RuleBefore}
use Rattle.theory.proofs.Counting.{IsIn, in_from_contains, contains_from_in}
use Rattle.word_graph.specs.Walk.{IsBefore}
use Rattle.word_graph.proofs.OrderLaws.{before_behind, letter_before}
use Rattle.congruence_classes.specs.ClassLists.{ClassList, AreAscending}
use Rattle.congruence_classes.specs.ListedRules.{normal_of, IsRuleAt, AreRulesTo}

-- an ascending list with a greater element at its end
ascending_push : {A : Type 0} (Less : A → A → Type 0) (cursor : Option A) (xs : List A) (y : A) → IsAscending Less cursor xs
    → IsAfter Less cursor y → ((x : A) → IsIn x xs → Less x y) → IsAscending Less cursor (xs ++ y ∷ [])
ascending_push Less cursor [] y up after all = (after, tt)
ascending_push Less cursor (x ∷ xs) y up after all = (up.0, ascending_push Less (Some x) xs y up.1 (all x (inl refl)) (λ z m. all z (inr m)))

before_on : (j b i a : ℕ) → IsBefore j b i a → IsBefore j b i (a + 1)
before_on j b i a (inl h) = inl h
before_on j b i a (inr h) = inr (h.0, omega (arith, h.1))

-- what is before one letter more is before the letter, or there
before_cases : (j b i a : ℕ) → IsBefore j b i (a + 1) → IsBefore j b i a ⊎ ((j ≡ i) × (b ≡ a))
before_cases j b i a (inl h) = inl (inl h)
before_cases j b i a (inr h) = elim (cases_lt b a) [ inl less ↦ inl (inr (h.0, less)) | inr most ↦ inr (h.0, omega (arith, h.1, most)) ]

before_next : (j b i k : ℕ) → IsBefore j b i k → IsBefore j b (i + 1) 0
before_next j b i k (inl h) = inl (omega arith)
before_next j b i k (inr h) = inl (omega (arith, h.0))

before_row : (j b i k : ℕ) → b < k → IsBefore j b (i + 1) 0 → IsBefore j b i k
before_row j b i k within (inl h) = elim (cases_lt j i) [ inl less ↦ inl less | inr most ↦ inr (omega (arith, h, most), within) ]
before_row j b i k within (inr h) = absurd (omega (arith, h.1))

-- a place and a letter have at most one rule
same_rule : (list : ClassList) (i a : ℕ) (p q : Word × Word) → IsRuleAt list i a p → IsRuleAt list i a q → p ≡ q
same_rule list i a p q h k =
    let left : p.0 ≡ q.0 = h.left ∙ sym k.left in
    let right : p.1 ≡ q.1 = h.right ∙ ap (normal_of list) left ∙ sym k.right in
    λ t. (left t, right t)

-- the left sides ascend
left_before : (list : ClassList) → AreAscending list.count list.word → (j b i a : ℕ) → IsBefore j b i a → i < list.count
    → (list.word j ++ b ∷ []) ≺ (list.word i ++ a ∷ [])
left_before list ascending j b i a (inl h) within = before_behind (list.word j) (list.word i) b a (ascending j i h within)
left_before list ascending j b i a (inr h) within =
    subst (λ l. (list.word j ++ b ∷ []) ≺ (list.word l ++ a ∷ [])) h.0 (letter_before (list.word j) b a h.1)

module _ (list : ClassList) (i a : ℕ) (rules : List (Word × Word)) (are : AreRulesTo list i a rules) where
  -- no rule at the letter
  pub rule_none : ((rule : Word × Word) → IsRuleAt list i a rule → ⊥) → AreRulesTo list i (a + 1) rules
  rule_none none = record {
    sound = λ rule m. let s = are.sound rule m in (s.0, s.1, before_on s.0 s.1 i a s.2, s.3, s.4, s.5);
    all = λ j b rule before within letter is. elim (before_cases j b i a before) [
      | inl old ↦ are.all j b rule old within letter is
      | inr here ↦ absurd (none rule (subst₂ (λ m l. IsRuleAt list m l rule) here.0 here.1 is))
    ];
    ascending = are.ascending;
  }

  -- one rule more
  pub rule_more : (new : Word × Word) → AreAscending list.count list.word → i < list.count → a < list.letters → IsRuleAt list i a new
      → AreRulesTo list i (a + 1) (rules ++ new ∷ [])
  rule_more new ascending within letter at = record {
    sound = λ rule m. elim (Contains-append_cases rules (new ∷ []) rule m) [
      | inl old ↦ let s = are.sound rule old in (s.0, s.1, before_on s.0 s.1 i a s.2, s.3, s.4, s.5)
      | inr last ↦ (i, a, inr (refl, omega arith), within, letter, subst (λ (r : Word × Word). IsRuleAt list i a r) (sym (only rule (in_from_contains rule (new ∷ []) last))) at)
    ];
    all = λ j b rule before row number is. elim (before_cases j b i a before) [
      | inl old ↦ Contains-append_left rules (new ∷ []) rule (are.all j b rule old row number is)
      | inr here ↦
          Contains-append_right rules (new ∷ []) rule
          (contains_from_in rule (new ∷ [])
          (inl (same_rule list i a rule new (subst₂ (λ m l. IsRuleAt list m l rule) here.0 here.1 is) at)))
    ];
    ascending = ascending_push RuleBefore None rules new are.ascending tt
        (λ rule m. let s = are.sound rule (contains_from_in rule rules m) in
        subst₂ (λ (u v : Word). u ≺ v) (sym s.5.left) (sym at.left) (left_before list ascending s.0 s.1 i a s.2 within));
  }
    where
      only : (rule : Word × Word) → IsIn rule (new ∷ []) → rule ≡ new
      only rule (inl e) = e
      only rule (inr m) = absurd m

-- behind all letters of a place comes the next place
pub next_place : (list : ClassList) (i : ℕ) (rules : List (Word × Word)) → AreRulesTo list i list.letters rules
    → AreRulesTo list (i + 1) 0 rules
next_place list i rules are = record {
  sound = λ rule m. let s = are.sound rule m in (s.0, s.1, before_next s.0 s.1 i list.letters s.2, s.3, s.4, s.5);
  all = λ j b rule before within letter is. are.all j b rule (before_row j b i list.letters letter before) within letter is;
  ascending = are.ascending;
}
