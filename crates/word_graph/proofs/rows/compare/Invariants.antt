use Rattle.std.proofs.Common.{◌≡◌, ℕ, List, drop, map}
use Rattle.std.specs.Prelude.{Some}
use Rattle.std.specs.Ordering.{nat_cmp}
use Rattle.std.specs.Cmp.Lexicographic.{slice_cmp}
use Rattle.word_graph.proofs.rows.compare.Given as goal

abbrev pub invariant-loop-place : goal.invariant-loop-place
invariant-loop-place l = (s t : List ℕ) → l.entries ≡ map Some s → l.others ≡ map Some t
    → slice_cmp nat_cmp s t ≡ slice_cmp nat_cmp (drop l.place s) (drop l.place t)
