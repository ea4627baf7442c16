use Rattle.std.proofs.Common.{ℕ, ◌+◌, ◌*◌, ◌∷◌, [], ◌++◌, map, ap, ◌∙◌, sym, arith}
use Rattle.std.specs.List.{range_with_len}
use Rattle.std.proofs.lemmas.List.FromFn.{map-range_with_len_more}
use Rattle.elements.specs.Hashes.{block_number}
use Rattle.elements.proofs.Writes.{writes_more}
use Rattle.elements.proofs.bmat.hash_bits.Goals as goal

pub loop-k-preserved : goal.loop-k-preserved
loop-k-preserved g c =
    let k = c.loop-k.k in
    let block : ℕ → ℕ = λ k. block_number c.args.bits.now (64 * k) in
    let one_more = map-range_with_len_more block 0 k k (omega arith) ∙ ap (λ n. map block (range_with_len 0 k) ++ n ∷ []) (sym c.block_at.ensures) in
    writes_more g.H.Hasher.write c.args.state.now c.loop-k.state c.write_u64.new.self (map block (range_with_len 0 k)) (map block (range_with_len 0 (k + 1))) c.block_at.result one_more c.loop-k.invariant c.write_u64.ensures
