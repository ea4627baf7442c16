use Rattle.std.proofs.Common.{arith, ◌∷◌, []}
use Rattle.presentation.proofs.AddedLemmas.{products_count}
use Rattle.presentation.proofs.added.relations_with.Goals as goal

pub returns-clause-identity : goal.returns-clause-identity
returns-clause-identity c = omega (arith, products_count c.args.letter (λ x. x ∷ []) c.args.letters c.requires.within)

pub returns-clause-zero : goal.returns-clause-zero
returns-clause-zero c = omega (arith, products_count c.args.letter (λ x. c.args.letter ∷ []) c.args.letters c.requires.within)
