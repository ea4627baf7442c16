use Rattle.std.proofs.Common.{ℕ, ◌*◌, ◌≤◌, fold, ap, ◌∙◌, sym, arith}
use Rattle.std.proofs.lemmas.Nat.{mul-le}
use Rattle.elements.proofs.Bits.{packed_hash}
use Rattle.elements.proofs.bmat.hash_packed.Goals as goal

pub returns-then-n-gt0 : goal.returns-then-n-gt0
returns-then-n-gt0 g c =
    let n : ℕ = c.args.n in
    let few : n * n ≤ 8 * 8 = mul-le n n 8 8 c.requires.few c.requires.few in
    let some : 1 * 1 ≤ n * n = mul-le 1 1 n n (omega arith) (omega arith) in
    c.write_u64.ensures ∙ ap (fold g.H.Hasher.write c.args.state.now) (sym (packed_hash (n * n) c.args.x (omega (arith, some)) (omega (arith, few)) c.requires.below))
