-- The order in which equations are taken.
use Rattle.std.specs.Prelude.{ℕ, length, max}
use Rattle.std.specs.Cmp.{IsTotalOrder, back_total, nat_cmp_total, on_total, then_total}
use Rattle.std.specs.Ordering.{nat_cmp, on, flip_args, then_cmp}
use Rattle.std.specs.declared.cmp.Ordering.{Ordering}
use Rattle.theory.specs.Word.{Word}
use Rattle.knuth_bendix.specs.declared.equations.Equation.{Equation}

-- how many letters the longer word has
abbrev pub longer : Word × Word → ℕ
longer pair = max (length pair.0) (length pair.1)

-- the greater equation is the one whose longer word is shorter, or of two of one length the older
-- one
abbrev pub turn_cmp : Equation → Equation → Ordering
turn_cmp = then_cmp (flip_args (on (λ e. longer e.pair) nat_cmp))
    (flip_args (on (λ e. e.number) nat_cmp))

pub turn_total : IsTotalOrder turn_cmp
turn_total = then_total (back_total (on_total (λ e. longer e.pair) nat_cmp_total))
    (back_total (on_total (λ e. e.number) nat_cmp_total))
