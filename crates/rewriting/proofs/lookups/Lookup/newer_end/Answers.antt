use Rattle.std.proofs.Common.{◌∷◌, [], length, ap, arith, length-append}
use Rattle.rewriting.specs.Tries.{left_at}
use Rattle.rewriting.proofs.NewerLaws.{no_number, sought_end, sought_on, sought_start, sought_within}
use Rattle.rewriting.proofs.lookups.Lookup.newer_end.Goals as goal

pub returns-then-letters-others : goal.returns-then-letters-others
returns-then-letters-others c = λ place from ends.
    omega (
      arith,
      c.requires.long place from ends.within,
      ap length ends.is,
      length-append c.args.letters.now (c.args.letter ∷ []),
      length-append ends.before (left_at c.args.rules.now place),
      c.if-letters-others.true,
    )

pub loop-at-init : goal.loop-at-init
loop-at-init c =
    sought_start c.requires c.args.letters.now c.args.letter c.key_of.result c.key_on-key.result c.key_on-key.ensures.few c.key_of.ensures.key c.key_on-key.ensures.key c.last_of-at.result c.last_of-at.ensures

pub ends-requires : goal.ends-requires
ends-requires c =
    let within = sought_within c.requires c.args.letters.now c.args.letter c.key_of.result c.key_on-key.result c.key_on-key.ensures.few c.key_of.ensures.key c.key_on-key.ensures.key c.loop-at.at c.loop-at.invariant c.in-Some.number c.in-Some.is in
    omega (arith, within, c.requires.count)

pub index-at-requires : goal.index-at-requires
index-at-requires c =
    let within = sought_within c.requires c.args.letters.now c.args.letter c.key_of.result c.key_on-key.result c.key_on-key.ensures.few c.key_of.ensures.key c.key_on-key.ensures.key c.loop-at.at c.loop-at.invariant c.in-Some.number c.in-Some.is in
    omega (arith, within, c.args.self.now.newer.before.ok)

pub loop-at-preserved : goal.loop-at-preserved
loop-at-preserved c =
    (sought_on c.requires c.args.letters.now c.args.letter c.key_of.result c.key_on-key.result c.key_on-key.ensures.few c.key_of.ensures.key c.key_on-key.ensures.key c.loop-at.at c.loop-at.invariant c.in-Some.number c.in-Some.is c.index-at.result.now c.index-at.ensures (λ ends. let is = c.ends.ensures.1 ends in let other = c.if-ends.false in let bad : ⊥ = cc in bad)).0

pub loop-at-smaller : goal.loop-at-smaller
loop-at-smaller c =
    (sought_on c.requires c.args.letters.now c.args.letter c.key_of.result c.key_on-key.result c.key_on-key.ensures.few c.key_of.ensures.key c.key_on-key.ensures.key c.loop-at.at c.loop-at.invariant c.in-Some.number c.in-Some.is c.index-at.result.now c.index-at.ensures (λ ends. let is = c.ends.ensures.1 ends in let other = c.if-ends.false in let bad : ⊥ = cc in bad)).1

pub returns : goal.returns
returns c =
    sought_end c.requires c.args.letters.now c.args.letter c.key_of.result c.key_on-key.result c.key_on-key.ensures.few c.key_of.ensures.key c.key_on-key.ensures.key c.loop-at.at c.loop-at.invariant (no_number c.loop-at.at c.in_default.not-Some)
