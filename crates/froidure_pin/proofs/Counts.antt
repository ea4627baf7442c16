-- Steps are no more than elements and rules.
use Rattle.std.proofs.Common.{◌≡◌, ℕ, ◌+◌, ◌≤◌, List, [], ◌∷◌, length, Option, None, Some, refl, arith, inl, inr}
use Rattle.theory.specs.Word.{Word}
use Rattle.theory.specs.Listing.{IsAfter, IsListOf, IsStrictOrder}
use Rattle.theory.specs.Class.{IsReducedRule, IsRuleList, RuleBefore}
use Rattle.theory.proofs.Counting.{IsIn, pigeonhole}
use Rattle.theory.proofs.ClassLaws.{rule_order}
use Rattle.froidure_pin.specs.Found.{Generated, IsSame}
use Rattle.froidure_pin.specs.Growing.{AreCounted}
use Rattle.froidure_pin.proofs.Search.{IsSetting, r_sym, r_trans}

-- what has the property is in the list of all that have it
list_has : {A : Type 0} (P : A → Type 0) (Less : A → A → Type 0) → IsStrictOrder P Less → (cursor : Option A) (xs : List A) → IsListOf P Less cursor xs → (y : A) → P y → IsAfter Less cursor y → IsIn y xs
list_has P Less order cursor [] h y has after = absurd (h y has after)
list_has P Less order cursor (x ∷ xs) h y has after = elim (order.cases y x has h.0.has) [
  | inl l ↦ absurd (h.0.least y has after l)
  | inr (inl e) ↦ inl e
  | inr (inr g) ↦ inr (list_has P Less order (Some x) xs h.1 y has g)
]

module _ {V : Type 0} {shape : V → ℕ × ℕ} {s : Generated V} (setting : IsSetting shape s) where
  pub counted_bound : {words : List Word} {n start steps : ℕ} (rules : List (Word × Word)) → AreCounted s words n start steps → IsRuleList (IsSame s) rules → steps ≤ start + (length words + length rules)
  counted_bound rules counted all =
      let fewer : length counted.rules ≤ length rules = pigeonhole (λ (p q : Word × Word). p ≡ q) counted.rules rules counted.apart (λ p m. (p, list_has (λ p. IsReducedRule (IsSame s) p.0 p.1) RuleBefore (rule_order (IsSame s) (record { symmetric = r_sym setting; transitive = r_trans setting })) None rules all p (counted.reduced p m) tt, refl)) in
      omega (arith, counted.few, fewer)
