use Rattle.std.proofs.Common.{◌≡◌, ℕ, ◌<◌, get_or}
use Rattle.froidure_pin.proofs.shape.have_one_shape.Given as goal

-- those so far have the shape of the first
abbrev pub invariant-loop-generator : goal.invariant-loop-generator
invariant-loop-generator g l = (k : ℕ) (unused : g.row.E.Denot) → k < l.generator-index → g.E.Values.shape (get_or l.generators.items 0 unused) ≡ g.E.Values.shape (get_or l.generators.items k unused)
