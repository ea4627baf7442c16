use Rattle.std.proofs.Common.{◌≡◌, ◌≤◌, ℕ, List, [], ◌++◌, codes, take, length, slice_index_or, Ok}
use Rattle.std.specs.List.{flat_map}
use Rattle.ports.specs.Writes.{WritesBytes}
use Rattle.report_lines.proofs.class_lines.write_lines.Given as goal

abbrev pub invariant-loop-place : goal.invariant-loop-place
invariant-loop-place g l = record {
  count : length l.lines.items ≡ length l.fn.lines.items;
  rest : (k : ℕ) → l.place ≤ k → slice_index_or l.lines.items k [] ≡ slice_index_or l.fn.lines.items k [];
  written : WritesBytes g.O.Sink (flat_map (λ (line : List ℕ). line ++ codes "\n") (take l.place l.fn.lines.items)) l.fn.sink l.sink (Ok (tt {0}));
}
