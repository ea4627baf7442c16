-- What sources and sinks in memory mean to contracts.
use Rattle.std.specs.Prelude.{ℕ, List, [], ◌++◌, drop}
use Rattle.ports.specs.Bytes.{next}

-- A source: the bytes that are left, the greatest piece of a read, the numbers of the calls that
-- fail, how many calls were made, and how many failed.
pub record SourceState : Type 0 where
  pub left : List ℕ
  pub piece : ℕ
  pub fails : List ℕ
  pub calls : ℕ
  pub faults : ℕ

-- before the first call
abbrev pub source_start : List ℕ → ℕ → List ℕ → SourceState
source_start bytes piece fails = record {
  left = bytes;
  piece = piece;
  fails = fails;
  calls = 0;
  faults = 0;
}

-- after a call that read n bytes
abbrev pub source_read : SourceState → ℕ → SourceState
source_read s n = record {
  left = drop n s.left;
  piece = s.piece;
  fails = s.fails;
  calls = next s.calls;
  faults = s.faults;
}

-- after a call that failed
abbrev pub source_failed : SourceState → SourceState
source_failed s = record {
  left = s.left;
  piece = s.piece;
  fails = s.fails;
  calls = next s.calls;
  faults = next s.faults;
}

-- A sink: the bytes that were taken, the greatest piece of a write, the numbers of the calls that
-- fail, how many calls were made, how many failed, and how many were refused memory.
pub record SinkState : Type 0 where
  pub taken : List ℕ
  pub piece : ℕ
  pub fails : List ℕ
  pub calls : ℕ
  pub faults : ℕ
  pub refusals : ℕ

-- before the first call
abbrev pub sink_start : ℕ → List ℕ → SinkState
sink_start piece fails = record {
  taken = [];
  piece = piece;
  fails = fails;
  calls = 0;
  faults = 0;
  refusals = 0;
}

-- after a call that took these bytes
abbrev pub sink_took : SinkState → List ℕ → SinkState
sink_took s bytes = record {
  taken = s.taken ++ bytes;
  piece = s.piece;
  fails = s.fails;
  calls = next s.calls;
  faults = s.faults;
  refusals = s.refusals;
}

-- after a call that failed
abbrev pub sink_failed : SinkState → SinkState
sink_failed s = record {
  taken = s.taken;
  piece = s.piece;
  fails = s.fails;
  calls = next s.calls;
  faults = next s.faults;
  refusals = s.refusals;
}

-- after a call that was refused memory
abbrev pub sink_refused : SinkState → SinkState
sink_refused s = record {
  taken = s.taken;
  piece = s.piece;
  fails = s.fails;
  calls = next s.calls;
  faults = s.faults;
  refusals = next s.refusals;
}

-- A sink whose calls do not fail: the bytes that were taken, and how many calls were refused
-- memory.
pub record SureSinkState : Type 0 where
  pub taken : List ℕ
  pub refusals : ℕ

-- before the first call
abbrev pub sure_sink_start : SureSinkState
sure_sink_start = record { taken = []; refusals = 0 }

-- after a call that took these bytes
abbrev pub sure_sink_took : SureSinkState → List ℕ → SureSinkState
sure_sink_took s bytes = record { taken = s.taken ++ bytes; refusals = s.refusals }

-- after a call that was refused memory
abbrev pub sure_sink_refused : SureSinkState → SureSinkState
sure_sink_refused s = record { taken = s.taken; refusals = next s.refusals }
