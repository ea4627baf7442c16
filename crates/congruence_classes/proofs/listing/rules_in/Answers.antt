use Rattle.std.proofs.lemmas.Result.{IfOk-weaker}
use Rattle.theory.specs.Class.{IsRuleList}
use Rattle.problem.specs.Problem.{SameClassOf, count_of, has_empty_word}
use Rattle.congruence_classes.specs.ListedRules.{AreRulesTo}
use Rattle.congruence_classes.proofs.ListedRuleLaws.{kept_in_contexts, reduced_list, rule_list}
use Rattle.congruence_classes.proofs.listing.rules_in.Goals as goal

pub all_rules-requires-clause-reduced : goal.all_rules-requires-clause-reduced
all_rules-requires-clause-reduced g c =
    let p = c.args.problem.now in
    reduced_list (SameClassOf p) (has_empty_word p) (count_of p) (g.L.ListedClasses.list c.args.classes.now) c.requires.solution (kept_in_contexts p c.requires.allowed)

pub returns : goal.returns
returns g c =
    let p = c.args.problem.now in
    let list = g.L.ListedClasses.list c.args.classes.now in
    IfOk-weaker c.all_rules.result (AreRulesTo list list.count 0) (IsRuleList (SameClassOf p))
    (rule_list (SameClassOf p) (has_empty_word p) (count_of p) list c.requires.solution (kept_in_contexts p c.requires.allowed))
    c.all_rules.ensures
