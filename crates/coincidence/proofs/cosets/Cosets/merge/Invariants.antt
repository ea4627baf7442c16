use Rattle.coincidence.specs.Live.{count_on}
use Rattle.coincidence.proofs.JoinLaws.{IsJoining}
use Rattle.coincidence.proofs.cosets.Cosets.merge.Given as goal

abbrev pub invariant-loop-merge : goal.invariant-loop-merge
invariant-loop-merge l = IsJoining l.fn.self l.self l.x l.y l.fn.at l.to

abbrev pub decreases-loop-merge : goal.decreases-loop-merge
decreases-loop-merge l = count_on l.self.live.items
