use Rattle.presentation.specs.Added.{inverse_relations}
use Rattle.query_lang.proofs.RoleLemmas.{outlined_after}
use Rattle.query_lang.proofs.outline.Outline.add_inverse.Goals as goal

pub invariant_of-self : goal.invariant_of-self
invariant_of-self c =
    outlined_after c.add_inverse.result c.self.inside.presentation c.add_inverse.new.self c.args.self.now (inverse_relations c.args.x c.args.y c.args.e) c.self.invariant c.self.view_is c.add_inverse.ensures.ok c.add_inverse.ensures.err c.requires.few
