use Rattle.chains.proofs.LighterLaws.{alike_whole}
use Rattle.chains.proofs.derivations.Derivations.shortened.Goals as goal

pub returns-clause-steps : goal.returns-clause-steps
returns-clause-steps c =
    alike_whole c.args.self.now c.in_ok-light.light c.args.from.now c.args.steps.now c.in_ok-lighter.lighter.items c.in_ok-light.ensures c.in_ok-lighter.ensures
