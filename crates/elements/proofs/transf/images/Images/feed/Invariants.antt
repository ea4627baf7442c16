use Rattle.std.proofs.Common.{◌≡◌, ◌*◌, map, fold}
use Rattle.std.specs.List.{range_with_len}
use Rattle.elements.specs.Hashes.{octet, numbers_hash}
use Rattle.elements.proofs.transf.images.Images.feed.Given as goal

-- the writes so far
abbrev pub invariant-loop-k : goal.invariant-loop-k
invariant-loop-k g l = l.state ≡ fold g.H.Hasher.write l.initial.state (numbers_hash (map (λ k. octet l.self (8 * k)) (range_with_len 0 l.k)))
