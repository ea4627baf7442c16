use Rattle.std.proofs.Common.{◌≢◌, ◌+◌, ◌≤◌, length}
use Rattle.cayley.specs.Tables.{edge}
use Rattle.green.specs.Touring.{IsEdgeFrom, IsOnTop, IsTourBut, KeepsSeen, left_over, state_at}
use Rattle.green.specs.declared.states.State.TheVariants.{Unseen}
use Rattle.green.proofs.depth_first.DepthFirst.enter.Given as goal

abbrev pub invariant-loop-letter : goal.invariant-loop-letter
invariant-loop-letter l = record {
  tour : IsTourBut (length l.rows) l.letters (edge l.rows) (IsEdgeFrom l.number l.letter) l.self;
  top : IsOnTop l.self l.number;
  left : left_over l.letters l.self + l.letters ≤ left_over l.letters l.fn.self + l.letter;
  kept : KeepsSeen l.fn.self l.self;
  seen : state_at l.self.states l.number ≢ Unseen;
}
