-- Elements of generators of one shape, without pairs.
use Rattle.std.proofs.Common.{◌≡◌, ℕ, ◌↔◌, Bool, List, [], ◌∷◌, length}
use Rattle.theory.specs.Word.{Word}
use Rattle.theory.specs.Value.{IsProduct, SameValue, SameElement}
use Rattle.theory.specs.Semigroup.{Semigroup}
use Rattle.theory.specs.declared.Kind.{Kind}
use Rattle.theory.proofs.ValueLaws.{same_element_without_pairs}
use Rattle.elements.specs.Generators.{HaveOneShape, value_by}
use Rattle.elements.proofs.Semigroups.{semigroup_of}
use Rattle.elements.specs.TransfLaws.{composed_products}
use Rattle.elements.specs.PPermLaws.{partial_products}
use Rattle.elements.specs.BMatLaws.{boolean_products}
use Rattle.elements.specs.MaxPlusLaws.{truncated_products}
use Rattle.problem.specs.declared.kinds.Problem.{Problem}
use Rattle.problem.specs.declared.kinds.Problem.TheVariants.{Presented, Transf, PPerm, BMat, MaxPlus}
use Rattle.problem.specs.Problem.{SameClassOf, SameValueOf, HasOneShape, pairs_of, no_matrix, no_truncated_matrix}

module _ {V : Type 0} {shape : V → ℕ × ℕ} {product : V → V → V} {equal : V → V → Bool}
    (laws : (one : ℕ × ℕ) → IsProduct (λ x. shape x ≡ one) product equal) (generators : List V) (unused : V) where
  by_generators : HaveOneShape shape generators → (kind : Kind) (pairs : List (Word × Word)) → pairs ≡ [] → (u v : Word)
      → SameElement (length generators) equal (value_by product generators unused) kind pairs u v
      ↔ SameValue (length generators) equal (value_by product generators unused) u v
  by_generators shaped kind [] e =
      let semi : Semigroup shape product equal = semigroup_of generators unused shaped in
      same_element_without_pairs semi (laws semi.one) kind
  by_generators shaped kind (p ∷ pairs) e = absurd (cc)

pub related_by_value : (p : Problem) → HasOneShape p → pairs_of p ≡ [] → (u v : Word) → SameClassOf p u v ↔ SameValueOf p u v
related_by_value (Presented p) shaped none u v = absurd shaped
related_by_value (Transf p) shaped none u v = by_generators composed_products p.generators [] shaped p.kind p.pairs none u v
related_by_value (PPerm p) shaped none u v = by_generators partial_products p.generators [] shaped p.kind p.pairs none u v
related_by_value (BMat p) shaped none u v = by_generators boolean_products p.generators no_matrix shaped p.kind p.pairs none u v
related_by_value (MaxPlus p) shaped none u v = by_generators truncated_products p.generators no_truncated_matrix shaped p.kind p.pairs none u v
