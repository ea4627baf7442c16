use Rattle.std.proofs.Common.{◌≡◌, fold}
use Rattle.words.specs.Pieces.{pieces}
use Rattle.words.proofs.letters.hash_letters.Given as goal

-- the pieces so far
abbrev pub invariant-loop-piece : goal.invariant-loop-piece
invariant-loop-piece g l = l.state ≡ fold g.H.Hasher.write l.initial.state (pieces l.piece l.letters)
