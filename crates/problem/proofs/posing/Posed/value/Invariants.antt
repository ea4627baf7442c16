use Rattle.std.proofs.Common.{◌≡◌, ℕ, ◌<◌, length, take, get_or}
use Rattle.elements.specs.Generators.{value_by}
use Rattle.problem.proofs.posing.Posed.value.Given as goal

-- the value of the letters so far
abbrev pub invariant-loop-place : goal.invariant-loop-place
invariant-loop-place g l = record {
  shape : (i : ℕ) (unused : g.row.E.Denot) → i < length l.self.generators → g.E.Values.shape l.value ≡ g.E.Values.shape (get_or l.self.generators i unused);
  so_far : (unused : g.row.E.Denot) → l.value ≡ value_by g.E.Values.product l.self.generators unused (take l.place l.word);
}
