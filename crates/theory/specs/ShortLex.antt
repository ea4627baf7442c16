-- The short-lex order (Sims 1994, ch. 2; libsemigroups: shortlex_compare).
use Rattle.std.specs.Prelude.{◌≡◌, length}
use Rattle.std.specs.Ordering.{on, then_cmp, nat_cmp}
use Rattle.std.specs.declared.cmp.Ordering.{Ordering}
use Rattle.std.specs.declared.cmp.Ordering.TheVariants.{Less}
use Rattle.std.specs.Cmp.Lexicographic.{slice_cmp}
use Rattle.theory.specs.Word.{Word}

infix 50 ◌≺◌
-- by length, and then letter by letter
abbrev pub shortlex : Word → Word → Ordering
shortlex = then_cmp (on length nat_cmp) (slice_cmp nat_cmp)

-- u comes before v
abbrev pub ◌≺◌ : Word → Word → Type 0
u ≺ v = shortlex u v ≡ Less
