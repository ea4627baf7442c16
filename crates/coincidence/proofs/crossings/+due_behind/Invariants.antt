use Rattle.std.proofs.Common.{length, take, ◌-◌}
use Rattle.theory.specs.Graph.{target}
use Rattle.coincidence.specs.Links.{chain_count}
use Rattle.coincidence.specs.Reading.{IsDueBehind}
use Rattle.coincidence.specs.Seen.{HoldWhereSeen}
use Rattle.coincidence.specs.declared.due.Due.TheVariants.{Nothing}
use Rattle.coincidence.proofs.ReadLaws.{IsListing}
use Rattle.coincidence.proofs.crossings.+due_behind.Given as goal

abbrev pub decreases-due_behind : goal.decreases-due_behind
decreases-due_behind l = l.count

abbrev pub invariant-loop-at : goal.invariant-loop-at
invariant-loop-at l = record {
  listing : IsListing l.edges l.node l.letter (λ source. IsDueBehind l.edges.graph source (take (l.count - 1) l.crossing.side.now) l.crossing.side.now l.crossing.other.now Nothing) l.at;
  seen : HoldWhereSeen l.crossing.pairs.now l.edges.graph l.seen;
}

abbrev pub decreases-loop-at : goal.decreases-loop-at
decreases-loop-at l = chain_count (length l.edges.graph) (λ n. target l.edges.nexts n l.letter) l.at
