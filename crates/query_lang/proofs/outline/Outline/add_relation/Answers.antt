use Rattle.std.proofs.Common.{◌≤◌, [], ◌∷◌, length, arith, subst}
use Rattle.presentation.specs.Presented.{Posed}
use Rattle.query_lang.specs.Relations.{most_relations}
use Rattle.query_lang.proofs.RoleLemmas.{outlined_after, side_over}
use Rattle.query_lang.proofs.outline.Outline.add_relation.Goals as goal

pub add-requires-clause-left : goal.add-requires-clause-left
add-requires-clause-left c = side_over c.self.inside.presentation c.args.self.now c.args.left c.alphabet-alphabet.ensures.presented c.self.view_is c.requires.left

pub add-requires-clause-right : goal.add-requires-clause-right
add-requires-clause-right c = side_over c.self.inside.presentation c.args.self.now c.args.right c.alphabet-alphabet.ensures.presented c.self.view_is c.requires.right

pub invariant_of-self : goal.invariant_of-self
invariant_of-self c =
    let few = subst (λ (o : Posed). length o.congruence.presentation.relations ≤ most_relations) c.self.view_is c.self.invariant.few in
    outlined_after c.add.result c.self.inside.presentation c.add.new.self c.args.self.now ((c.args.left, c.args.right) ∷ []) c.self.invariant c.self.view_is c.add.ensures.ok c.add.ensures.err (omega (arith, few, c.requires.few))
