use Rattle.std.proofs.Common.{subst, sym, ap, ◌∙◌}
use Rattle.theory.specs.Congruence.{AreElements}
use Rattle.presentation.specs.Added.{zero_relations}
use Rattle.presentation.proofs.AddedLemmas.{zero_elements}
use Rattle.presentation.proofs.presentations.Presentation.add_zero.Goals as goal

pub append-requires-clause-elements : goal.append-requires-clause-elements
append-requires-clause-elements c =
    subst (AreElements c.args.self.now.presentation.is_monoid c.args.self.now.presentation.letters)
    (sym (c.in_ok-more.ensures ∙ ap (λ k. zero_relations k c.args.z) c.letters-letters.ensures.letters))
    (zero_elements c.args.self.now.presentation.is_monoid c.args.self.now.presentation.letters c.args.z c.requires)
