-- Results that go on.
use Rattle.std.specs.Prelude.{Result, Ok, Err}

-- what comes of a value, where there is one
abbrev pub and_then : {A B E : Type 0} → (A → Result B E) → Result A E → Result B E
and_then f (Ok x) = f x
and_then f (Err e) = Err e
