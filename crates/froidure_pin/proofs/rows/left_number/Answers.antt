use Rattle.std.proofs.Common.{◌+◌, ◌*◌, ◌≤◌, ℕ, arith, mul-le-mul_left}
use Rattle.froidure_pin.specs.Found.{entry}
use Rattle.froidure_pin.proofs.rows.left_number.Goals as goal

pub overflow_add-number : goal.overflow_add-number
overflow_add-number c =
    let number : ℕ = entry c.args.letters c.args.left.now.items c.args.factor.prefix c.args.before in
    let many : (number + 1) * 1 ≤ (number + 1) * c.args.letters = mul-le-mul_left (number + 1) (omega (arith, c.requires.letter)) in
    omega (arith, c.requires.product, many, c.entry-number.ensures)
