use Rattle.std.proofs.Common.{◌≢◌, length}
use Rattle.cayley.specs.Tables.{edge}
use Rattle.green.specs.Touring.{IsTour, KeepsSeen, left_over, state_at}
use Rattle.green.specs.declared.states.State.TheVariants.{Unseen}
use Rattle.green.proofs.depth_first.DepthFirst.visit.Given as goal

abbrev pub invariant-loop-self : goal.invariant-loop-self
invariant-loop-self l = record {
  tour : IsTour (length l.rows) l.letters (edge l.rows) l.self;
  kept : KeepsSeen l.fn.self l.self;
  seen : state_at l.self.states l.number ≢ Unseen;
}

abbrev pub decreases-loop-self : goal.decreases-loop-self
decreases-loop-self l = left_over l.letters l.self
