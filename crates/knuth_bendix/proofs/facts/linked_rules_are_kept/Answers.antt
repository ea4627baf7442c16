use Rattle.knuth_bendix.proofs.BoundedConfluence.{rules_from_links}
use Rattle.knuth_bendix.proofs.facts.linked_rules_are_kept.Goals as goal

pub returns : goal.returns
returns c = rules_from_links
