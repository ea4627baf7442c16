-- Limits of this program.
use Rattle.std.specs.Prelude.{ℕ}

-- the greatest length of a script, in bytes
abbrev pub most_bytes : ℕ
most_bytes = 1048576
