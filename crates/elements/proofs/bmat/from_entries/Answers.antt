use Rattle.std.proofs.Common.{◌≡◌, ℕ, ◌*◌, ◌≤◌, ◌<◌, ◌^◌, refl, sym, ap, subst, ◌∙◌, arith}
use Rattle.std.proofs.lemmas.Nat.{mul-le}
use Rattle.elements.specs.Bits.{bits}
use Rattle.elements.specs.Hashes.{bits_number}
use Rattle.elements.proofs.Bits.{bits_of_number}
use Rattle.elements.proofs.bmat.from_entries.Goals as goal

pub invariant_of-result : goal.invariant_of-result
invariant_of-result c =
    let n : ℕ = c.args.dimension in
    let few : n * n ≤ 8 * 8 = mul-le n n 8 8 c.if-dimension-le8.true c.if-dimension-le8.true in
    let made = bits_of_number c.args.entries.items (omega (arith, few, c.requires)) in
    let is : c.number_of.result ≡ bits_number c.args.entries.items = c.number_of.ensures ∙ ap bits_number c.deref.ensures.value in
    (c.if-dimension-le8.true, rw is (subst (λ k. bits_number c.args.entries.items < 2 ^ k) c.requires made.1))

pub returns-then-dimension-le8 : goal.returns-then-dimension-le8
returns-then-dimension-le8 c =
    let n : ℕ = c.args.dimension in
    let few : n * n ≤ 8 * 8 = mul-le n n 8 8 c.if-dimension-le8.true c.if-dimension-le8.true in
    let made = bits_of_number c.args.entries.items (omega (arith, few, c.requires)) in
    let is : c.number_of.result ≡ bits_number c.args.entries.items = c.number_of.ensures ∙ ap bits_number c.deref.ensures.value in
    (refl, (λ t. bits (sym c.requires t) (is t)) ∙ made.0)
