use Rattle.std.proofs.Common.{subst, Option}
use Rattle.chains.specs.Derivations.{Derived}
use Rattle.knuth_bendix.specs.Logs.{AreLogged}
use Rattle.knuth_bendix.proofs.LogLaws.{log_is}
use Rattle.knuth_bendix.proofs.logs.Log.reduce_in.Goals as goal

pub steps_of-requires-clause-logged : goal.steps_of-requires-clause-logged
steps_of-requires-clause-logged c =
    let is = log_is c.args.self.now c.self.inside.facts c.in-Some.facts c.self.view_is c.in-Some.is in
    subst (λ (o : Option Derived). AreLogged o c.args.rules.now) is c.requires
