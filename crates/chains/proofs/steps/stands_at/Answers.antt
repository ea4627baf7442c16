use Rattle.chains.proofs.StandingLaws.{tested_at}
use Rattle.chains.proofs.steps.stands_at.Goals as goal

pub returns-then-place-word : goal.returns-then-place-word
returns-then-place-word c = tested_at c.args.factor.now c.args.word.now c.args.place c.starts_with.result c.if-place-word.true c.starts_with.ensures.value
