use Rattle.std.proofs.Common.{◌++◌, take, ◌∙◌, ap}
use Rattle.chains.proofs.StandingLaws.{replaced_is}
use Rattle.chains.proofs.steps.replaced.Goals as goal

pub returns : goal.returns
returns c =
    replaced_is c.args.factor.now c.args.word.now c.args.place c.args.by.now c.append.new.self c.append-2.new.self c.append-3.new.self (c.stands_at.ensures.0 c.if-not-stands_at.false)
    (c.in_ok-append.ensures.ok ∙ ap (λ w. w ++ take c.args.place c.args.word.now) c.in_ok-made.ensures) c.in_ok-append-2.ensures.ok c.in_ok-append-3.ensures.ok
