use Rattle.theory.proofs.CompletionLaws.{rule_falls}
use Rattle.theory.proofs.Completed.{no_rule_inside, rule_is_one}
use Rattle.theory.proofs.completion.rules_are_reduced.Goals as goal

pub returns-clause-falls : goal.returns-clause-falls
returns-clause-falls c = rule_falls

pub returns-clause-one : goal.returns-clause-one
returns-clause-one c = rule_is_one

pub returns-clause-apart : goal.returns-clause-apart
returns-clause-apart c = no_rule_inside
