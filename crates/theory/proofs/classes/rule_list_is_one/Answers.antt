use Rattle.theory.proofs.ClassLaws.{rule_list_unique}
use Rattle.theory.proofs.classes.rule_list_is_one.Goals as goal

pub returns : goal.returns
returns c = rule_list_unique
