-- Lists of what is found, with one product more.
use Rattle.std.proofs.Common.{◌≡◌, ℕ, Bool, true, false, [], ◌∷◌, ◌++◌, refl, sym, subst, if◌then◌else◌}
use Rattle.std.specs.List.{list_any, position_or_len}
use Rattle.froidure_pin.specs.Found.{FoundLists}
use Rattle.froidure_pin.specs.Kept.{HasTakenIn, IsNew, lists_of}
use Rattle.froidure_pin.specs.declared.growth.Growth.{Growth}
use Rattle.froidure_pin.specs.declared.parts.Factor.{Factor}
use Rattle.froidure_pin.specs.declared.parts.Tail.{Tail}

-- nothing
abbrev pub nothing : {V : Type 0} → FoundLists V
nothing = record { elements = []; factors = []; tails = []; right = []; left = [] }

-- a number more, and an element more
abbrev pub with_number : {V : Type 0} → FoundLists V → ℕ → FoundLists V
with_number lists m = record lists { right = lists.right ++ m ∷ [] }

abbrev pub with_element : {V : Type 0} → FoundLists V → V → Factor → Tail → ℕ → FoundLists V
with_element lists p factor tail m = record {
  elements = lists.elements ++ p ∷ [];
  factors = lists.factors ++ factor ∷ [];
  tails = lists.tails ++ tail ∷ [];
  right = lists.right ++ m ∷ [];
  left = lists.left;
}

module _ {V : Type 0} (equal : V → V → Bool) (lists : FoundLists V) (p : V) (factor : Factor) (tail : Tail) where
  abbrev chosen : Bool → FoundLists V
  chosen there = record {
    elements = if there then lists.elements else lists.elements ++ p ∷ [];
    factors = if there then lists.factors else lists.factors ++ factor ∷ [];
    tails = if there then lists.tails else lists.tails ++ tail ∷ [];
    right = lists.right ++ position_or_len (equal p) lists.elements ∷ [];
    left = lists.left;
  }

  -- a product is taken in
  abbrev pub taken : FoundLists V
  taken = chosen (list_any (equal p) lists.elements)

  -- it is there, or is new
  pub old_or_new : (P : FoundLists V → Type 0)
      → (list_any (equal p) lists.elements ≡ true → P (with_number lists (position_or_len (equal p) lists.elements)))
      → (list_any (equal p) lists.elements ≡ false → P (with_element lists p factor tail (position_or_len (equal p) lists.elements))) → P taken
  old_or_new P old new = by (list_any (equal p) lists.elements) refl
    where
      by : (there : Bool) → list_any (equal p) lists.elements ≡ there → P taken
      by true e = subst (λ there. P (chosen there)) (sym e) (old e)
      by false e = subst (λ there. P (chosen there)) (sym e) (new e)

pub taken_lists : {V : Type 0} {equal : V → V → Bool} {old new : Growth V} {made : V} {factor : Factor} {tail : Tail}
    → HasTakenIn equal old new made factor tail → lists_of new ≡ taken equal (lists_of old) made factor tail
taken_lists h = λ i. record { elements = h.elements i; factors = h.factors i; tails = h.tails i; right = h.right i; left = h.left i }

pub new_lists : {V : Type 0} {growth : Growth V} → IsNew growth → lists_of growth ≡ nothing
new_lists h = λ i. record { elements = h.elements i; factors = h.factors i; tails = h.tails i; right = h.right i; left = h.left i }
