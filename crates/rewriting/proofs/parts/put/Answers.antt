use Rattle.std.proofs.Common.{◌≡◌, ◌++◌, ◌∷◌, [], Some, length, ◌∙◌, ap, arith}
use Rattle.rewriting.proofs.PartLaws.{goes_out, stays_in}
use Rattle.rewriting.proofs.parts.put.Goals as goal

pub returns-in_ok-push-2-clause-kept : goal.returns-in_ok-push-2-clause-kept
returns-in_ok-push-2-clause-kept c =
    (goes_out c.args.left.now c.args.rule c.has_factor.result c.has_factor.ensures c.if-has_factor.true c.args.parts.now.kept.items c.args.parts.now.gone.items c.args.parts.now.moved.items 0).0

pub returns-in_ok-push-2-clause-gone : goal.returns-in_ok-push-2-clause-gone
returns-in_ok-push-2-clause-gone c =
    c.in_ok-push-2.ensures.items
    ∙ (goes_out c.args.left.now c.args.rule c.has_factor.result c.has_factor.ensures c.if-has_factor.true c.args.parts.now.kept.items c.args.parts.now.gone.items c.args.parts.now.moved.items 0).1

pub returns-in_ok-push-2-clause-moved : goal.returns-in_ok-push-2-clause-moved
returns-in_ok-push-2-clause-moved c =
    c.in_ok-push.ensures.items
    ∙ (goes_out c.args.left.now c.args.rule c.has_factor.result c.has_factor.ensures c.if-has_factor.true c.args.parts.now.kept.items c.args.parts.now.gone.items c.args.parts.now.moved.items
    (length c.args.parts.now.kept.items)).2

pub returns-in_ok-push-4-clause-kept : goal.returns-in_ok-push-4-clause-kept
returns-in_ok-push-4-clause-kept c =
    c.in_ok-push-4.ensures.items
    ∙ (stays_in c.args.left.now c.args.rule c.has_factor.result c.has_factor.ensures c.if-has_factor.false c.args.parts.now.kept.items c.args.parts.now.gone.items c.args.parts.now.moved.items 0).0

pub returns-in_ok-push-4-clause-gone : goal.returns-in_ok-push-4-clause-gone
returns-in_ok-push-4-clause-gone c =
    (stays_in c.args.left.now c.args.rule c.has_factor.result c.has_factor.ensures c.if-has_factor.false c.args.parts.now.kept.items c.args.parts.now.gone.items c.args.parts.now.moved.items 0).1

pub returns-in_ok-push-4-clause-moved : goal.returns-in_ok-push-4-clause-moved
returns-in_ok-push-4-clause-moved c =
    let count : c.len.result ≡ length c.args.parts.now.kept.items = omega (arith, c.len.ensures) in
    c.in_ok-push-3.ensures.items ∙ ap (λ n. c.args.parts.now.moved.items ++ Some n ∷ []) count
    ∙ (stays_in c.args.left.now c.args.rule c.has_factor.result c.has_factor.ensures c.if-has_factor.false c.args.parts.now.kept.items c.args.parts.now.gone.items c.args.parts.now.moved.items
    (length c.args.parts.now.kept.items)).2
