-- What holds of a result that is known.
use Rattle.std.proofs.Common.{◌↔◌, ℕ, Bool, true, false, IfOk, IsTrue, OnOk, Ok, Err, sym, true≢false}
use Rattle.std.specs.Prelude.{Result}
use Rattle.froidure_pin.specs.Found.{Generated}
use Rattle.froidure_pin.specs.Growing.{IsOver, UnlessOver}

-- whether there are more elements than the bound, once a product is taken in
pub if_taken : {F P T : Type 0} {Q : Bool → Type 0} (r : Result Bool F) → ((over : Bool) → T → (IsTrue over ↔ P) → Q over) → OnOk r T → IfOk r (λ over. IsTrue over ↔ P) → IfOk r Q
if_taken (Ok over) f taken is = f over taken is
if_taken (Err e) f taken is = tt

module _ {V : Type 0} {s : Generated V} {bound : ℕ} {Holds : Type 0} where
  pub over_told : IsOver s bound → UnlessOver s bound true Holds
  over_told more = record { more = λ _. more; holds = λ e. absurd (true≢false e) }

  pub not_more : Holds → UnlessOver s bound false Holds
  not_more holds = record { more = λ e. absurd (true≢false (sym e)); holds = λ _. holds }
