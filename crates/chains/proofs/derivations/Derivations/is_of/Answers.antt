use Rattle.chains.specs.Derivations.{all_of}
use Rattle.chains.proofs.DerivationLaws.{first_tested, sides_tested}
use Rattle.chains.proofs.WalkLaws.{not_both}
use Rattle.chains.proofs.derivations.Derivations.is_of.Goals as goal

pub returns-then-eq : goal.returns-then-eq
returns-then-eq c =
    let both = sides_tested (all_of c.args.self.now).relations c.args.number c.sides.result.0.now c.sides.result.1.now c.args.left.now c.args.right.now
    c.letters.result.now c.letters-2.result.now c.letters-then-eq.result.now c.letters-then-eq-2.result.now c.eq.result c.eq-then-eq.result c.sides.ensures
    c.letters.ensures c.letters-2.ensures c.eq.ensures c.letters-then-eq.ensures c.letters-then-eq-2.ensures c.eq-then-eq.ensures in
    (λ t. both.0 (c.if-eq.true, t), λ e. (both.1 e).1)

pub returns-else-eq : goal.returns-else-eq
returns-else-eq c = (
  λ t. absurd (not_both c.eq.result c.if-eq.false t),
  λ e. first_tested (all_of c.args.self.now).relations c.args.number c.sides.result.0.now c.sides.result.1.now c.args.left.now c.args.right.now
      c.letters.result.now c.letters-2.result.now c.eq.result c.sides.ensures c.letters.ensures c.letters-2.ensures c.eq.ensures e,
)
