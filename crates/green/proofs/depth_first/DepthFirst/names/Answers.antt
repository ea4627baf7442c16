use Rattle.std.proofs.Common.{◌<◌, ◌++◌, ◌∷◌, ◌∙◌, [], ap, length, arith}
use Rattle.green.specs.Touring.{Tour}
use Rattle.green.proofs.NameLaws.{names_more}
use Rattle.green.proofs.depth_first.DepthFirst.names.Goals as goal

pub loop-number-init : goal.loop-number-init
loop-number-init c = record { count = ap length c.in_ok-names.ensures.items; at = λ i c l e. absurd (omega arith) }

pub loop-number-preserved : goal.loop-number-preserved
loop-number-preserved c =
    let more = names_more c.args.self.now.states c.loop-number.names.items c.push.new.self.items c.loop-number.number c.name.result c.loop-number.invariant.count
    c.loop-number.invariant.at c.name.ensures (c.in_ok-push.ensures.items ∙ ap (λ name. c.loop-number.names.items ++ name ∷ []) c.in_ok-in_four_bytes.ensures) in
    record { count = more.0; at = more.1 }

pub returns-clause-count : goal.returns-clause-count
returns-clause-count c =
    omega (arith, c.loop-number.invariant.count, c.loop-number-test.false, c.loop-number.auto.number-end, c.len-number-end.ensures, ap (λ (t : Tour). length t.states) c.self.view_is)

pub returns-clause-at : goal.returns-clause-at
returns-clause-at c i name l e =
    let less : i < c.loop-number.number =
    omega (arith, l, c.loop-number-test.false, c.len-number-end.ensures, ap (λ (t : Tour). length t.states) c.self.view_is) in
    c.loop-number.invariant.at i name less e
