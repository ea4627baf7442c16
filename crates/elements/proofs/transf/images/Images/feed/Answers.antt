use Rattle.std.proofs.Common.{ℕ, ◌+◌, ◌*◌, ◌∷◌, [], ◌++◌, map, ap, ◌∙◌, sym, arith}
use Rattle.std.specs.List.{range_with_len}
use Rattle.std.proofs.lemmas.List.FromFn.{map-range_with_len_more}
use Rattle.elements.specs.Hashes.{octet}
use Rattle.elements.proofs.Writes.{writes_more}
use Rattle.elements.proofs.transf.images.Images.feed.Goals as goal

pub loop-k-preserved : goal.loop-k-preserved
loop-k-preserved g c =
    let k = c.loop-k.k in
    let eight : ℕ → ℕ = λ k. octet c.args.self.now (8 * k) in
    let one_more = map-range_with_len_more eight 0 k k (omega arith) ∙ ap (λ n. map eight (range_with_len 0 k) ++ n ∷ []) (sym c.octet.ensures) in
    writes_more g.H.Hasher.write c.args.state.now c.loop-k.state c.write_u64.new.self (map eight (range_with_len 0 k)) (map eight (range_with_len 0 (k + 1))) c.octet.result one_more c.loop-k.invariant c.write_u64.ensures
