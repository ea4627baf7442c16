use Rattle.std.proofs.Common.{length}
use Rattle.coincidence.specs.Joining.{KeepsNodes}
use Rattle.coincidence.proofs.JoinLaws.{AreTaking}
use Rattle.coincidence.proofs.cosets.Cosets.next_merge.Given as goal

abbrev pub invariant-loop-p : goal.invariant-loop-p
invariant-loop-p l = record {
  taking : AreTaking l.initial.self l.self;
  rest : KeepsNodes l.initial.self l.self;
}

abbrev pub decreases-loop-p : goal.decreases-loop-p
decreases-loop-p l = length l.self.queue.items
