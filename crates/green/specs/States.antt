-- States of numbers in four bytes.
use Rattle.std.specs.Prelude.{ℕ, zero, suc, ◌/◌, ◌%◌, nat_eq, if◌then◌else◌}
use Rattle.green.specs.declared.states.State.{State}
use Rattle.green.specs.declared.states.State.TheVariants.{Unseen, OnPath, Done}

-- unseen is 0, a place the next odd number behind its double, and a name the even one behind that
abbrev pub state_of : ℕ → State
state_of zero = Unseen
state_of (suc n) = if nat_eq (n % 2) 0 then OnPath (n / 2) else Done (n / 2)
