use Rattle.std.proofs.Common.{◌≡◌, ◌*◌, map, fold}
use Rattle.std.specs.List.{range_with_len}
use Rattle.elements.specs.Hashes.{block_number, numbers_hash}
use Rattle.elements.proofs.bmat.hash_bits.Given as goal

-- the writes so far
abbrev pub invariant-loop-k : goal.invariant-loop-k
invariant-loop-k g l = l.state ≡ fold g.H.Hasher.write l.initial.state (numbers_hash (map (λ k. block_number l.bits (64 * k)) (range_with_len 0 l.k)))
