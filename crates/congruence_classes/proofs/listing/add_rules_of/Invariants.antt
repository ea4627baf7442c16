use Rattle.congruence_classes.specs.ListedRules.{AreRulesTo}
use Rattle.congruence_classes.proofs.listing.add_rules_of.Given as goal

abbrev pub invariant-loop-number : goal.invariant-loop-number
invariant-loop-number g l = AreRulesTo (g.L.ListedClasses.list l.classes) l.place l.number l.rules
