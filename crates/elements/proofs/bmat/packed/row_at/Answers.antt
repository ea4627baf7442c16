use Rattle.std.proofs.Common.{ℕ, ◌-◌, ◌*◌, ◌/◌, ◌^◌, ap, arith}
use Rattle.std.specs.Prelude.{bit_and}
use Rattle.std.proofs.lemmas.Nat.{one_shl}
use Rattle.elements.proofs.Bits.{row_bits}
use Rattle.elements.proofs.bmat.packed.row_at.Goals as goal

pub returns-clause-row : goal.returns-clause-row
returns-clause-row c =
    let n : ℕ = c.args.n in
    let m : ℕ = n - 1 - c.args.i in
    row_bits n c.args.x c.args.i m _ (omega arith) (ap (λ z. bit_and (c.args.x / 2 ^ (n * m)) (z - 1)) (one_shl n 64 (omega arith)))
