use Rattle.std.proofs.Common.{◌≡◌, ◌<◌, ◌↔◌, ℕ, List, Contains, IsTrue, false, arith, sym, subst}
use Rattle.theory.specs.Word.{Word}
use Rattle.theory.specs.Congruence.{Presentation}
use Rattle.sims_one.specs.Targets.{seen, Agree, IsSound}
use Rattle.sims_one.proofs.FrontLaws.{max_below}
use Rattle.sims_one.proofs.paths.is_sound.Goals as goal

pub overflow_add-node-end : goal.overflow_add-node-end
overflow_add-node-end c = omega (arith, c.greatest-node-end.ensures, max_below 17 0 c.args.targets.now (omega arith) c.requires)

pub agree_at-requires-clause-node : goal.agree_at-requires-clause-node
agree_at-requires-clause-node c = omega (arith, c.loop-node-test.true, c.greatest-node-end.ensures, max_below 17 0 c.args.targets.now (omega arith) c.requires)

-- one node at which relations fail is enough
fails_at : (p : Presentation) (k : ℕ) (relations : List (Word × Word)) (t : List ℕ) (node : ℕ) → k ≡ p.letters → relations ≡ p.relations → node < seen t
    → (((r s : Word) → Contains relations (r, s) → Agree k t node r s) → IsTrue false) → IsTrue false ↔ IsSound p t
fails_at p k relations t node ek er h fails = (
  λ holds. cc,
  λ sound. fails (λ r s m. subst (λ z. Agree z t node r s) (sym ek) (sound node r s h (subst (λ (ps : List (Word × Word)). Contains ps (r, s)) er m))),
)

pub returns-then-not-agree_at : goal.returns-then-not-agree_at
returns-then-not-agree_at c =
    fails_at c.args.presentation.now.presentation c.letters-letters.result c.relations-relations.result.now c.args.targets.now c.loop-node.node
    c.letters-letters.ensures.letters c.relations-relations.ensures.relations (omega (arith, c.loop-node-test.true, c.greatest-node-end.ensures)) c.if-not-agree_at.ensures.1
