use Rattle.std.proofs.Common.{◌≡◌}
use Rattle.green.specs.Touring.{HasClosed}
use Rattle.green.proofs.depth_first.DepthFirst.finish.Given as goal

abbrev pub invariant-loop-later : goal.invariant-loop-later
invariant-loop-later l = record {
  closed : HasClosed l.place l.later l.name l.fn.self.states l.self-inside.states.items;
  path : l.self-inside.path.items ≡ l.fn.self.path;
  ahead : l.self-inside.ahead.items ≡ l.fn.self.ahead;
  starts : l.self-inside.starts.items ≡ l.fn.self.starts;
}
