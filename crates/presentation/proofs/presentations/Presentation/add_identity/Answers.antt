use Rattle.std.proofs.Common.{subst, sym, ap, ◌∙◌}
use Rattle.theory.specs.Congruence.{AreElements}
use Rattle.presentation.specs.Added.{identity_relations}
use Rattle.presentation.proofs.AddedLemmas.{identity_elements}
use Rattle.presentation.proofs.presentations.Presentation.add_identity.Goals as goal

pub append-requires-clause-elements : goal.append-requires-clause-elements
append-requires-clause-elements c =
    subst (AreElements c.args.self.now.presentation.is_monoid c.args.self.now.presentation.letters)
    (sym (c.in_ok-more.ensures ∙ ap (λ k. identity_relations k c.args.e) c.letters-letters.ensures.letters))
    (identity_elements c.args.self.now.presentation.is_monoid c.args.self.now.presentation.letters c.args.e c.requires)
