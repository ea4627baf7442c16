use Rattle.std.proofs.Common.{ℕ, ◌^◌, ◌≤◌, arith, lit<}
use Rattle.std.proofs.Math.Nat.{pow-le-pow_right}
use Rattle.table_texts.proofs.texts.number_of.Goals as goal

small_power : (i : ℕ) → i ≤ 3 → 10 ^ i ≤ 1000
small_power i h = pow-le-pow_right {n = 10} (lit< tt) h

pub overflow_mul-number : goal.overflow_mul-number
overflow_mul-number c =
    let i : c.loop-byte.byte-index ≤ 3 = omega arith in
    omega (arith, small_power c.loop-byte.byte-index i, c.loop-byte.invariant.small)

pub overflow_add-number : goal.overflow_add-number
overflow_add-number c =
    let i : c.loop-byte.byte-index ≤ 3 = omega arith in
    omega (arith, small_power c.loop-byte.byte-index i, c.loop-byte.invariant.small)
