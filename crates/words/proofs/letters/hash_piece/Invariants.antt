use Rattle.std.proofs.Common.{◌≡◌, length, take}
use Rattle.words.proofs.letters.hash_piece.Given as goal

-- the letters so far
abbrev pub invariant-loop-place : goal.invariant-loop-place
invariant-loop-place g l = (take l.place l.bytes ≡ take l.place l.letters) × (length l.bytes ≡ 32)
