use Rattle.std.proofs.Common.{◌≡◌, Some, slice_get, length, refl, ap, subst, Option, arith, ◌-◌}
use Rattle.std.proofs.lemmas.Result.{IfOk-weaker}
use Rattle.theory.specs.Word.{Word}
use Rattle.chains.specs.Derivations.{Derived, all_of}
use Rattle.rewriting.proofs.Standing.{rule_read}
use Rattle.knuth_bendix.specs.Logs.{IsLogged}
use Rattle.knuth_bendix.specs.Overlaps.{rule_at}
use Rattle.knuth_bendix.proofs.LogLaws.{log_is, over_shows, rule_logged}
use Rattle.knuth_bendix.proofs.logs.Log.over.Goals as goal

pub returns : goal.returns
returns c =
    let first = rule_read c.args.rules.now c.args.rules.now c.args.overlap.first c.rule-first.result.now refl c.requires.first c.rule-first.ensures.rule in
    let second = rule_read c.args.rules.now c.args.rules.now c.args.overlap.second c.rule-second.result.now refl c.requires.second c.rule-second.ensures.rule in
    IfOk-weaker c.around.result _ _
    (λ steps e. over_shows c.args.self.now c.in-Some.facts.derivations (log_is c.args.self.now c.self.inside.facts c.in-Some.facts c.self.view_is c.in-Some.is)
    (rule_at c.args.rules.now c.args.overlap.first) (rule_at c.args.rules.now c.args.overlap.second) c.args.overlap.shared c.number_of.result c.number_of-2.result
    (c.len.result - c.args.overlap.shared) c.args.back.now c.args.on.now steps.items c.requires.shared_first c.requires.shared_second c.requires.overlaps
    (subst (λ (p : Word × Word). slice_get (all_of c.in-Some.facts.derivations).relations c.number_of.result ≡ Some p) first c.number_of.ensures)
    (subst (λ (p : Word × Word). slice_get (all_of c.in-Some.facts.derivations).relations c.number_of-2.result ≡ Some p) second c.number_of-2.ensures)
    (omega (arith, c.len.ensures, ap (λ (p : Word × Word). length p.0) first)) e)
    c.around.ensures

pub number_of-requires : goal.number_of-requires
number_of-requires c =
    subst (λ (o : Option Derived). IsLogged o c.rule-first.result.now) (log_is c.args.self.now c.self.inside.facts c.in-Some.facts c.self.view_is c.in-Some.is)
    (rule_logged c.args.self.now c.args.rules.now c.args.overlap.first c.rule-first.result.now c.requires.logged c.requires.first c.rule-first.ensures.rule)

pub number_of-requires-2 : goal.number_of-requires-2
number_of-requires-2 c =
    subst (λ (o : Option Derived). IsLogged o c.rule-second.result.now) (log_is c.args.self.now c.self.inside.facts c.in-Some.facts c.self.view_is c.in-Some.is)
    (rule_logged c.args.self.now c.args.rules.now c.args.overlap.second c.rule-second.result.now c.requires.logged c.requires.second c.rule-second.ensures.rule)
