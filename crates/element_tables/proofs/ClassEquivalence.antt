-- To be of one class is an equivalence.
use Rattle.std.proofs.Common.{Bool, List, [], length}
use Rattle.theory.specs.Word.{Word}
use Rattle.theory.specs.Value.{IsProduct, SameElement, SameValue}
use Rattle.theory.specs.declared.Kind.{Kind}
use Rattle.theory.proofs.Chains.{joined_congruence}
use Rattle.theory.proofs.ClassLaws.{IsPartialEquivalence, same_class_equivalence}
use Rattle.elements.specs.Generators.{value_by}
use Rattle.elements.specs.TransfLaws.{composed_products}
use Rattle.elements.specs.PPermLaws.{partial_products}
use Rattle.elements.specs.BMatLaws.{boolean_products}
use Rattle.elements.specs.MaxPlusLaws.{truncated_products}
use Rattle.problem.specs.declared.kinds.Problem.{Problem}
use Rattle.problem.specs.declared.kinds.Problem.TheVariants as problem
use Rattle.problem.specs.Problem.{SameClassOf, no_matrix, no_truncated_matrix}

module _ {V : Type 0} {product : V → V → V} {equal : V → V → Bool} (generators : List V) (unused : V) where
  -- chains join as an equivalence, whatever the pairs are
  element_equivalence : {HasShape : V → Type 0} → IsProduct HasShape product equal → (kind : Kind) (pairs : List (Word × Word))
      → IsPartialEquivalence (SameElement (length generators) equal (value_by product generators unused) kind pairs)
  element_equivalence laws kind pairs =
      let value_of : Word → V = value_by product generators unused in
      let chains =
      joined_congruence (SameValue (length generators) equal value_of) kind pairs
      (λ u v h. record { left = h.right; right = h.left; related = laws.symmetric (value_of u) (value_of v) h.related }) in
      record {
        symmetric = λ u v h. record { left = h.right; right = h.left; related = chains.symmetric u v h.related };
        transitive = λ u v w h g. record { left = h.left; right = g.right; related = chains.transitive u v w h.related g.related };
      }

pub problem_equivalence : (p : Problem) → IsPartialEquivalence (SameClassOf p)
problem_equivalence (problem.Presented p) = same_class_equivalence p.congruence
problem_equivalence (problem.Transf p) = element_equivalence p.generators [] (composed_products (0, 0)) p.kind p.pairs
problem_equivalence (problem.PPerm p) = element_equivalence p.generators [] (partial_products (0, 0)) p.kind p.pairs
problem_equivalence (problem.BMat p) = element_equivalence p.generators no_matrix (boolean_products (0, 0)) p.kind p.pairs
problem_equivalence (problem.MaxPlus p) = element_equivalence p.generators no_truncated_matrix (truncated_products (0, 0)) p.kind p.pairs
