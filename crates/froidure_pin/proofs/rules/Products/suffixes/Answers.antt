use Rattle.std.proofs.Common.{◌≡◌, ℕ, ◌+◌, [], ◌∷◌, ◌++◌, ◌∙◌, length, sym, ap, subst, arith}
use Rattle.froidure_pin.specs.Found.{no_factor, factor_at}
use Rattle.froidure_pin.specs.Rules.{AreSuffixes}
use Rattle.froidure_pin.proofs.OneShape.{get_any}
use Rattle.froidure_pin.proofs.RuleSteps.{suffix_reads, suffixes_more, suffixes_none}
use Rattle.froidure_pin.proofs.rules.Products.suffixes.Goals as goal

pub loop-number-init : goal.loop-number-init
loop-number-init c =
    subst (λ xs. AreSuffixes c.args.self.now.letters c.args.self.now.factors.now.items c.args.self.now.right.now.items xs 0)
    (sym (c.in_ok-push.ensures.items ∙ ap (λ xs. xs ++ 0 ∷ []) c.new-suffixes.ensures.items))
    (suffixes_none c.args.self.now.letters c.args.self.now.factors.now.items c.args.self.now.right.now.items c.requires.rows)

pub suffix_of-suffix-requires : goal.suffix_of-suffix-requires
suffix_of-suffix-requires c =
    let at : factor_at c.args.self.now.factors.now.items c.loop-number.number ≡ c.index.result.now = get_any c.args.self.now.factors.now.items c.loop-number.number no_factor c.index.result.now (omega arith) ∙ sym c.index.ensures in
    let reads = suffix_reads c.args.self.now.letters c.args.self.now.factors.now.items c.args.self.now.right.now.items c.requires.rows c.loop-number.suffixes.items c.loop-number.number c.index.result.now c.requires.some c.requires.known c.loop-number.invariant (omega arith) at in
    record { letter = reads.0; parent = reads.1; product = reads.2; few = reads.3 }

pub loop-number-preserved : goal.loop-number-preserved
loop-number-preserved c =
    let i : ℕ = c.loop-number.number in
    let at : factor_at c.args.self.now.factors.now.items c.loop-number.number ≡ c.index.result.now = get_any c.args.self.now.factors.now.items c.loop-number.number no_factor c.index.result.now (omega arith) ∙ sym c.index.ensures in
    subst (λ xs. AreSuffixes c.args.self.now.letters c.args.self.now.factors.now.items c.args.self.now.right.now.items xs (i + 1)) (sym c.in_ok-push-2.ensures.items) (suffixes_more c.args.self.now.letters c.args.self.now.factors.now.items c.args.self.now.right.now.items c.requires.rows c.loop-number.suffixes.items i c.suffix_of-suffix.result c.index.result.now c.requires.known c.loop-number.invariant (omega arith) at c.suffix_of-suffix.ensures)

pub returns : goal.returns
returns c =
    let full : c.loop-number.number ≡ length c.args.self.now.factors.now.items = omega (arith, c.loop-number-test.false, c.loop-number.auto.number-end) in
    subst (λ n. AreSuffixes c.args.self.now.letters c.args.self.now.factors.now.items c.args.self.now.right.now.items c.loop-number.suffixes.items n) full c.loop-number.invariant
