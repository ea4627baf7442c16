use Rattle.theory.proofs.CyclicRules.{completion_ends_at_three, completion_needs_three, rule_is}
use Rattle.theory.proofs.examples.length_three.Goals as goal

pub returns-clause-enough : goal.returns-clause-enough
returns-clause-enough c = completion_ends_at_three

pub returns-clause-needed : goal.returns-clause-needed
returns-clause-needed c = completion_needs_three

pub returns-clause-rule : goal.returns-clause-rule
returns-clause-rule c = rule_is
