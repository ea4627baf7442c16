use Rattle.congruence_classes.specs.ListedRules.{AreRulesTo}
use Rattle.congruence_classes.proofs.listing.all_rules.Given as goal

abbrev pub invariant-loop-place : goal.invariant-loop-place
invariant-loop-place g l = AreRulesTo (g.L.ListedClasses.list l.classes) l.place 0 l.rules
