use Rattle.std.proofs.Common.{◌≡◌, length, subst, arith}
use Rattle.green.proofs.JoinLaws.{AreReadBefore, read_all}
use Rattle.green.proofs.joining.joined_names.Goals as goal

pub returns : goal.returns
returns c =
    let all : c.loop-name.name-index ≡ length c.args.second.now = omega (arith, c.loop-name-test.false, c.loop-name.auto.name-index-end) in
    read_all c.args.first.now c.args.second.now c.in_ok-least.least.items c.loop-name.names.items c.requires.count c.in_ok-least.ensures.least
    (subst (λ m. AreReadBefore c.args.second.now c.in_ok-least.least.items m c.loop-name.names.items) all c.loop-name.invariant)
