use Rattle.std.proofs.Common.{◌≡◌, take, fold}
use Rattle.elements.specs.Hashes.{entries_hash}
use Rattle.elements.proofs.entries.hash_entries.Given as goal

-- the writes so far
abbrev pub invariant-loop-entry : goal.invariant-loop-entry
invariant-loop-entry g l = l.state ≡ fold g.H.Hasher.write l.initial.state (entries_hash (take l.entry-index l.entries))
