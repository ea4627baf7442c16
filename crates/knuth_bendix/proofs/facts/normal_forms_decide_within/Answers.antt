use Rattle.knuth_bendix.proofs.Endings.{normal_forms_decide}
use Rattle.knuth_bendix.proofs.facts.normal_forms_decide_within.Goals as goal

pub returns : goal.returns
returns c = normal_forms_decide
