use Rattle.std.proofs.Common.{subst, Option}
use Rattle.std.proofs.lemmas.Result.{IfOk-weaker}
use Rattle.chains.specs.Derivations.{Derived}
use Rattle.knuth_bendix.specs.Logs.{IsLogged}
use Rattle.knuth_bendix.proofs.LogLaws.{across_shows, log_is}
use Rattle.knuth_bendix.proofs.logs.Log.across.Goals as goal

pub returns : goal.returns
returns c =
    IfOk-weaker c.around.result _ _
    (λ steps e. across_shows c.args.self.now c.in-Some.facts.derivations (log_is c.args.self.now c.self.inside.facts c.in-Some.facts c.self.view_is c.in-Some.is)
    c.args.pair.now c.args.forward c.number_of.result c.args.back.now c.args.on.now steps.items c.number_of.ensures e)
    c.around.ensures

pub number_of-requires : goal.number_of-requires
number_of-requires c =
    let is = log_is c.args.self.now c.self.inside.facts c.in-Some.facts c.self.view_is c.in-Some.is in
    subst (λ (o : Option Derived). IsLogged o c.args.pair.now) is c.requires
