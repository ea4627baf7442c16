use Rattle.std.proofs.Common.{◌∷◌, ◌++◌, []}
use Rattle.rewriting.proofs.NewerLaws.{IsSought, height}
use Rattle.rewriting.proofs.lookups.Lookup.newer_end.Given as goal

abbrev pub invariant-loop-at : goal.invariant-loop-at
invariant-loop-at l =
    IsSought l.rules l.self.first l.self.newer l.key (l.letters ++ l.letter ∷ []) l.at

abbrev pub decreases-loop-at : goal.decreases-loop-at
decreases-loop-at l = height l.at
