use Rattle.std.proofs.Common.{◌≡◌, ◌⊎◌, ℕ, Some}
use Rattle.theory.specs.Graph.{path}
use Rattle.coincidence.specs.Seen.{IsSeen}
use Rattle.coincidence.proofs.reads.note_round.Given as goal

abbrev pub invariant-loop : goal.invariant-loop
invariant-loop l = record {
  home : path l.edges.graph l.at l.one.side.now ≡ Some l.at;
  noted : (n i : ℕ) → IsSeen l.seen n i → IsSeen l.initial.seen n i ⊎ ((i ≡ l.one.number) × (path l.edges.graph n l.one.side.now ≡ Some n));
}
