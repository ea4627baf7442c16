-- Facts of results.
use Rattle.std.specs.Prelude.{Result, Ok, Err, IfOk}

-- what holds of each value holds of the one of a result
pub of_each : {T E : Type 0} (r : Result T E) (P : T → Type 0) → ((v : T) → P v) → IfOk r P
of_each (Ok v) P h = h v
of_each (Err e) P h = tt
