use Rattle.std.proofs.Common.{◌≡◌, ◌≤◌, length, take, ◌-◌}
use Rattle.ports.specs.Bytes.{TakesAll}
use Rattle.ports.proofs.write.write_all.Given as goal

abbrev pub invariant-loop-done : goal.invariant-loop-done
invariant-loop-done g l = record {
  within : l.done ≤ length l.bytes;
  taken : TakesAll (g.O.Sink.taken l.fn.sink) (g.O.Sink.taken l.sink) (take l.done l.bytes);
  faults : g.O.Sink.faults l.sink ≡ g.O.Sink.faults l.fn.sink;
  refusals : g.O.Sink.refusals l.sink ≡ g.O.Sink.refusals l.fn.sink;
}

abbrev pub decreases-loop-done : goal.decreases-loop-done
decreases-loop-done g l = length l.bytes - l.done
