-- What a run has taken of its source.
use Rattle.std.specs.Prelude.{◌≡◌, ℕ, List, Option}
use Rattle.ports.specs.Bytes.{GaveOver, GaveUpTo, IsAtEnd}
use Rattle.run_parts.specs.Limits.{most_bytes}
use Rattle.run_parts.specs.declared.fault.Fault.{Fault}
use Rattle.run_parts.specs.declared.fault.Fault.TheVariants.{TooLong, Script, Arguments, Read, Write, NoMemory}

-- all of it, which is no longer than a script may be
pub record IsTakenWhole (old new : Option (List ℕ)) : Type 0 where
  pub within : GaveUpTo most_bytes old new
  pub end : IsAtEnd new

-- where it ends with a fault: more than a script may have, all of it, nothing, or no more than a
-- script may have
abbrev pub IsTakenAt : Fault → Option (List ℕ) → Option (List ℕ) → Type 0
IsTakenAt TooLong old new = GaveOver most_bytes old new
IsTakenAt (Script line cause) old new = IsTakenWhole old new
IsTakenAt Arguments old new = new ≡ old
IsTakenAt Read old new = GaveUpTo most_bytes old new
IsTakenAt Write old new = IsTakenWhole old new
IsTakenAt NoMemory old new = GaveUpTo most_bytes old new
