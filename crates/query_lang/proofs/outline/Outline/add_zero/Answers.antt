use Rattle.std.proofs.Common.{◌≡◌, ◌+◌, ◌<◌, ◌≤◌, length, sym, subst}
use Rattle.presentation.specs.Added.{zero_relations}
use Rattle.query_lang.specs.Relations.{most_relations}
use Rattle.query_lang.proofs.RoleLemmas.{outline_letters, outlined_after}
use Rattle.query_lang.proofs.outline.Outline.add_zero.Goals as goal

pub add_zero-requires : goal.add_zero-requires
add_zero-requires c =
    subst (λ n. c.args.z < n) (sym (outline_letters c.self.inside.presentation c.args.self.now c.alphabet-alphabet.ensures.presented c.self.view_is)) c.requires.within

pub invariant_of-self : goal.invariant_of-self
invariant_of-self c =
    let letters = outline_letters c.self.inside.presentation c.args.self.now c.alphabet-alphabet.ensures.presented c.self.view_is in
    outlined_after c.add_zero.result c.self.inside.presentation c.add_zero.new.self c.args.self.now (zero_relations c.self.inside.presentation.presentation.letters c.args.z) c.self.invariant c.self.view_is c.add_zero.ensures.ok c.add_zero.ensures.err
    (subst (λ n. length c.args.self.now.congruence.presentation.relations + length (zero_relations n c.args.z) ≤ most_relations) (sym letters) c.requires.few)
