use Rattle.std.proofs.Common.{◌≡◌, ◌≤◌, [], length, refl, arith}
use Rattle.std.proofs.lemmas.List.{length-map}
use Rattle.std.proofs.lemmas.List.Elements.{All-nil}
use Rattle.theory.specs.Word.{Word, IsElement, reversed_pair, reversed_pairs}
use Rattle.theory.specs.Congruence.{AreElements, Congruence, IsWellFormed}
use Rattle.theory.specs.declared.Kind.TheVariants.{Left}
use Rattle.theory.proofs.KindLaws.{backwards_well_formed}
use Rattle.presentation.proofs.presentations.Presentation.reversed.Goals as goal

pub invariant_of-result : goal.invariant_of-result
invariant_of-result c =
    let left : Congruence = record { presentation = record { letters = length c.self.inside.alphabet; is_monoid = c.self.inside.monoid; relations = c.self.inside.relations }; kind = Left; pairs = [] } in
    let well : IsWellFormed left = record { relations = c.self.invariant.elements; pairs = All-nil (λ (q : Word × Word). IsElement c.self.inside.monoid (length c.self.inside.alphabet) q.0 × IsElement c.self.inside.monoid (length c.self.inside.alphabet) q.1) } in
    let turned : AreElements c.self.inside.monoid (length c.self.inside.alphabet) (reversed_pairs c.self.inside.relations) = (backwards_well_formed left well).relations in
    let relations : c.in_ok-relations.relations ≡ reversed_pairs c.self.inside.relations = c.in_ok-relations.ensures in
    let alphabet : c.in_ok-alphabet.alphabet ≡ c.self.inside.alphabet = c.in_ok-alphabet.ensures in
    let few : length (reversed_pairs c.self.inside.relations) ≤ 8192 = omega (arith, length-map c.self.inside.relations reversed_pair, c.self.invariant.few) in
    rw (relations, alphabet) (record { letters = refl; elements = turned; few = few })
