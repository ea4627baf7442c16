use Rattle.std.proofs.Common.{◌≡◌, ◌-◌, ◌≤◌}
use Rattle.theory.specs.Class.{SameClass}
use Rattle.congruence_classes.proofs.RewrittenCounts.{IsCountTo}
use Rattle.congruence_classes.proofs.reduced_words.ReducedClasses.count.Given as goal

abbrev pub invariant-loop-next : goal.invariant-loop-next
invariant-loop-next l = record {
  kept : l.self ≡ l.fn.self;
  within : l.count ≤ l.bound;
  is : IsCountTo (SameClass l.fn.self.congruence) l.count l.next;
}

abbrev pub decreases-loop-next : goal.decreases-loop-next
decreases-loop-next l = l.bound - l.count
