-- Least words in ascending order, each found by its number.
use Rattle.std.proofs.Common.{◌≡◌, ◌≢◌, ℕ, ◌<◌, ◌≤◌, List, [], ◌∷◌, length, get_or, None, sym, subst, arith, inl, inr}
use Rattle.theory.specs.Word.{Word}
use Rattle.theory.specs.ShortLex.{◌≺◌}
use Rattle.theory.specs.Listing.{IsAscending}
use Rattle.theory.specs.Class.{IsLeast}
use Rattle.theory.proofs.Words.{order_cases, before_irrefl}
use Rattle.froidure_pin.specs.Found.{Generated, IsNumbered, IsSame, parent}
use Rattle.froidure_pin.proofs.Order.{below_or_not, equal_or_below}
use Rattle.froidure_pin.proofs.Starts.{at_in, ascending_between, parents_ascend}
use Rattle.froidure_pin.proofs.Search.{IsSetting, r_sym}

module _ {V : Type 0} {shape : V → ℕ × ℕ} {s : Generated V} (setting : IsSetting shape s)
    (words : List Word) (least_at : (m : ℕ) → m < length words → IsLeast (IsSame s) (get_or words m [])) (ascending : IsAscending ◌≺◌ None words) where
  -- a least word is the word of its number
  pub least_word : (u : Word) (m : ℕ) → IsLeast (IsSame s) u → IsNumbered s words m u → u ≡ get_or words m []
  least_word u m h n = elim (order_cases u (get_or words m [])) [
    | inl l ↦ absurd ((least_at m n.0).none_less u (r_sym setting u (get_or words m []) n.1) l)
    | inr (inl e) ↦ e
    | inr (inr g) ↦ absurd (h.none_less (get_or words m []) n.1 g)
  ]

  -- a parent of a greater number is a greater word
  pub parents_rise : (i j : ℕ) → i < j → j ≤ length words → parent words i ≺ parent words j
  parents_rise i j less h =
      ascending_between None ([] ∷ words) (parents_ascend words ascending (λ w m. let at = at_in w words [] m in subst (λ z. z ≢ []) at.2 (least_at at.0 at.1).element.left.0)) i j less (omega (arith, h))

  -- a parent has one number
  pub parent_once : (i j : ℕ) → i ≤ length words → j ≤ length words → parent words i ≡ parent words j → i ≡ j
  parent_once i j hi hj e = elim (below_or_not i j) [
    | inl less ↦ absurd (before_irrefl (parent words j) (subst (λ w. w ≺ parent words j) e (parents_rise i j less hj)))
    | inr le ↦ elim (equal_or_below j i le) [
      | inl s ↦ sym s
      | inr less ↦ absurd (before_irrefl (parent words i) (subst (λ w. w ≺ parent words i) (sym e) (parents_rise j i less hi)))
    ]
  ]
