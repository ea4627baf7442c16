use Rattle.std.proofs.Common.{◌≡◌, ◌+◌, ◌<◌, ◌≤◌, length, sym, subst}
use Rattle.presentation.specs.Added.{identity_relations}
use Rattle.query_lang.specs.Relations.{most_relations}
use Rattle.query_lang.proofs.RoleLemmas.{outline_letters, outlined_after}
use Rattle.query_lang.proofs.outline.Outline.add_identity.Goals as goal

pub add_identity-requires : goal.add_identity-requires
add_identity-requires c =
    subst (λ n. c.args.e < n) (sym (outline_letters c.self.inside.presentation c.args.self.now c.alphabet-alphabet.ensures.presented c.self.view_is)) c.requires.within

pub invariant_of-self : goal.invariant_of-self
invariant_of-self c =
    let letters = outline_letters c.self.inside.presentation c.args.self.now c.alphabet-alphabet.ensures.presented c.self.view_is in
    outlined_after c.add_identity.result c.self.inside.presentation c.add_identity.new.self c.args.self.now (identity_relations c.self.inside.presentation.presentation.letters c.args.e) c.self.invariant c.self.view_is c.add_identity.ensures.ok c.add_identity.ensures.err
    (subst (λ n. length c.args.self.now.congruence.presentation.relations + length (identity_relations n c.args.e) ≤ most_relations) (sym letters) c.requires.few)
