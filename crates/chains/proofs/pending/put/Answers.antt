use Rattle.std.proofs.Common.{◌++◌, ◌∙◌, ap}
use Rattle.std.proofs.lemmas.Result.{on_ok_weaker}
use Rattle.chains.proofs.DerivationLaws.{back_in_place}
use Rattle.chains.proofs.pending.put.Goals as goal

pub returns-else-step : goal.returns-else-step
returns-else-step c =
    on_ok_weaker c.put_back.result (λ e. e ∙ ap (λ s. c.args.pending.now.items ++ s) (back_in_place c.args.step c.args.steps.now c.if-step.false)) c.put_back.ensures
