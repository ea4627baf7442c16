-- The tables and classes that a search over elements finds are those of its problem.
use Rattle.std.proofs.Common.{ℕ, ◌==◌, List, [], refl, ap, subst, Option}
use Rattle.std.specs.Cmp.Lexicographic.{pointwise}
use Rattle.std.specs.Option.{option_eq}
use Rattle.elements.specs.Transf.{composed}
use Rattle.elements.specs.TransfLaws.{composed_products}
use Rattle.elements.specs.PPerm.{partially_composed}
use Rattle.elements.specs.PPermLaws.{partial_products}
use Rattle.elements.specs.BMat.{BooleanMatrix, boolean_product}
use Rattle.elements.specs.BMatLaws.{boolean_matrix_eq, boolean_products}
use Rattle.elements.specs.MaxPlus.{TruncatedMatrix, truncated_product}
use Rattle.elements.specs.MaxPlusLaws.{truncated_matrix_eq, truncated_products}
use Rattle.froidure_pin.specs.declared.tables.CayleyTables.{CayleyTables}
use Rattle.problem.specs.declared.kinds.Problem.{Problem}
use Rattle.problem.specs.declared.kinds.Problem.TheVariants as problem
use Rattle.problem.specs.Problem.{IsWellPosed, no_matrix, no_truncated_matrix}
use Rattle.cayley.specs.Run.{PairsTask}
use Rattle.cayley.specs.Whole.{AreTablesOf, AreClassesOf}
use Rattle.element_tables.specs.CayleyGraphs.{AreTablesFor}
use Rattle.congruence_classes.specs.ElementLists.{AreClassesFor}
use Rattle.congruence_classes.proofs.ElementTables.{classes_in, graphs}
use Rattle.congruence.specs.Engines.{Search, Transformations, PartialPermutations, BooleanMatrices, TruncatedMatrices, IsTaskFor}

-- the tables of a search are those of the problem whose task it has
pub transf_tables : (p : Problem) (task : PairsTask (List ℕ)) (t : CayleyTables) → IsTaskFor p (Search (Transformations task))
    → ((unused : List ℕ) → AreTablesOf composed (pointwise ◌==◌) task.generators unused t) → AreTablesFor p t
transf_tables (problem.Presented p) task t is tables = absurd is
transf_tables (problem.Transf p) task t is tables =
    let are : AreTablesOf composed (pointwise ◌==◌) p.generators [] t = subst (λ (gs : List (List ℕ)). AreTablesOf composed (pointwise ◌==◌) gs [] t) (ap (λ (s : PairsTask (List ℕ)). s.generators) is) (tables []) in
    record { fit = are.fit; letters = are.letters; graphs = graphs composed_products p.generators [] t are; every = are.every }
transf_tables (problem.PPerm p) task t is tables = absurd is
transf_tables (problem.BMat p) task t is tables = absurd is
transf_tables (problem.MaxPlus p) task t is tables = absurd is

pub pperm_tables : (p : Problem) (task : PairsTask (List (Option ℕ))) (t : CayleyTables) → IsTaskFor p (Search (PartialPermutations task))
    → ((unused : List (Option ℕ)) → AreTablesOf partially_composed (pointwise (option_eq ◌==◌)) task.generators unused t) → AreTablesFor p t
pperm_tables (problem.Presented p) task t is tables = absurd is
pperm_tables (problem.Transf p) task t is tables = absurd is
pperm_tables (problem.PPerm p) task t is tables =
    let are : AreTablesOf partially_composed (pointwise (option_eq ◌==◌)) p.generators [] t = subst (λ (gs : List (List (Option ℕ))). AreTablesOf partially_composed (pointwise (option_eq ◌==◌)) gs [] t) (ap (λ (s : PairsTask (List (Option ℕ))). s.generators) is) (tables []) in
    record { fit = are.fit; letters = are.letters; graphs = graphs partial_products p.generators [] t are; every = are.every }
pperm_tables (problem.BMat p) task t is tables = absurd is
pperm_tables (problem.MaxPlus p) task t is tables = absurd is

pub bmat_tables : (p : Problem) (task : PairsTask BooleanMatrix) (t : CayleyTables) → IsTaskFor p (Search (BooleanMatrices task))
    → ((unused : BooleanMatrix) → AreTablesOf boolean_product boolean_matrix_eq task.generators unused t) → AreTablesFor p t
bmat_tables (problem.Presented p) task t is tables = absurd is
bmat_tables (problem.Transf p) task t is tables = absurd is
bmat_tables (problem.PPerm p) task t is tables = absurd is
bmat_tables (problem.BMat p) task t is tables =
    let are : AreTablesOf boolean_product boolean_matrix_eq p.generators no_matrix t = subst (λ (gs : List BooleanMatrix). AreTablesOf boolean_product boolean_matrix_eq gs no_matrix t) (ap (λ (s : PairsTask BooleanMatrix). s.generators) is) (tables no_matrix) in
    record { fit = are.fit; letters = are.letters; graphs = graphs boolean_products p.generators no_matrix t are; every = are.every }
bmat_tables (problem.MaxPlus p) task t is tables = absurd is

pub mpt_tables : (p : Problem) (task : PairsTask TruncatedMatrix) (t : CayleyTables) → IsTaskFor p (Search (TruncatedMatrices task))
    → ((unused : TruncatedMatrix) → AreTablesOf truncated_product truncated_matrix_eq task.generators unused t) → AreTablesFor p t
mpt_tables (problem.Presented p) task t is tables = absurd is
mpt_tables (problem.Transf p) task t is tables = absurd is
mpt_tables (problem.PPerm p) task t is tables = absurd is
mpt_tables (problem.BMat p) task t is tables = absurd is
mpt_tables (problem.MaxPlus p) task t is tables =
    let are : AreTablesOf truncated_product truncated_matrix_eq p.generators no_truncated_matrix t = subst (λ (gs : List TruncatedMatrix). AreTablesOf truncated_product truncated_matrix_eq gs no_truncated_matrix t) (ap (λ (s : PairsTask TruncatedMatrix). s.generators) is) (tables no_truncated_matrix) in
    record { fit = are.fit; letters = are.letters; graphs = graphs truncated_products p.generators no_truncated_matrix t are; every = are.every }

-- and the classes too
pub transf_classes : (p : Problem) (task : PairsTask (List ℕ)) (t : CayleyTables) (classes : List ℕ) → IsWellPosed p
    → IsTaskFor p (Search (Transformations task)) → ((unused : List ℕ) → AreTablesOf composed (pointwise ◌==◌) task.generators unused t)
    → ((unused : List ℕ) → AreClassesOf composed (pointwise ◌==◌) task.generators unused task.kind task.pairs t classes) → AreClassesFor p t classes
transf_classes (problem.Presented p) task t classes posed is tables are = absurd is
transf_classes (problem.Transf p) task t classes posed is tables are =
    record {
      semigroup = refl;
      classes_in = classes_in composed_products p.generators [] t
          (subst (λ (s : PairsTask (List ℕ)). AreTablesOf composed (pointwise ◌==◌) s.generators [] t) is (tables [])) posed.one_shape p.kind p.pairs classes
          (subst (λ (s : PairsTask (List ℕ)). AreClassesOf composed (pointwise ◌==◌) s.generators [] s.kind s.pairs t classes) is (are []));
    }
transf_classes (problem.PPerm p) task t classes posed is tables are = absurd is
transf_classes (problem.BMat p) task t classes posed is tables are = absurd is
transf_classes (problem.MaxPlus p) task t classes posed is tables are = absurd is

pub pperm_classes : (p : Problem) (task : PairsTask (List (Option ℕ))) (t : CayleyTables) (classes : List ℕ) → IsWellPosed p
    → IsTaskFor p (Search (PartialPermutations task)) → ((unused : List (Option ℕ)) → AreTablesOf partially_composed (pointwise (option_eq ◌==◌)) task.generators unused t)
    → ((unused : List (Option ℕ)) → AreClassesOf partially_composed (pointwise (option_eq ◌==◌)) task.generators unused task.kind task.pairs t classes) → AreClassesFor p t classes
pperm_classes (problem.Presented p) task t classes posed is tables are = absurd is
pperm_classes (problem.Transf p) task t classes posed is tables are = absurd is
pperm_classes (problem.PPerm p) task t classes posed is tables are =
    record {
      semigroup = refl;
      classes_in = classes_in partial_products p.generators [] t
          (subst (λ (s : PairsTask (List (Option ℕ))). AreTablesOf partially_composed (pointwise (option_eq ◌==◌)) s.generators [] t) is (tables [])) posed.one_shape p.kind p.pairs classes
          (subst (λ (s : PairsTask (List (Option ℕ))). AreClassesOf partially_composed (pointwise (option_eq ◌==◌)) s.generators [] s.kind s.pairs t classes) is (are []));
    }
pperm_classes (problem.BMat p) task t classes posed is tables are = absurd is
pperm_classes (problem.MaxPlus p) task t classes posed is tables are = absurd is

pub bmat_classes : (p : Problem) (task : PairsTask BooleanMatrix) (t : CayleyTables) (classes : List ℕ) → IsWellPosed p
    → IsTaskFor p (Search (BooleanMatrices task)) → ((unused : BooleanMatrix) → AreTablesOf boolean_product boolean_matrix_eq task.generators unused t)
    → ((unused : BooleanMatrix) → AreClassesOf boolean_product boolean_matrix_eq task.generators unused task.kind task.pairs t classes) → AreClassesFor p t classes
bmat_classes (problem.Presented p) task t classes posed is tables are = absurd is
bmat_classes (problem.Transf p) task t classes posed is tables are = absurd is
bmat_classes (problem.PPerm p) task t classes posed is tables are = absurd is
bmat_classes (problem.BMat p) task t classes posed is tables are =
    record {
      semigroup = refl;
      classes_in = classes_in boolean_products p.generators no_matrix t
          (subst (λ (s : PairsTask BooleanMatrix). AreTablesOf boolean_product boolean_matrix_eq s.generators no_matrix t) is (tables no_matrix)) posed.one_shape p.kind p.pairs classes
          (subst (λ (s : PairsTask BooleanMatrix). AreClassesOf boolean_product boolean_matrix_eq s.generators no_matrix s.kind s.pairs t classes) is (are no_matrix));
    }
bmat_classes (problem.MaxPlus p) task t classes posed is tables are = absurd is

pub mpt_classes : (p : Problem) (task : PairsTask TruncatedMatrix) (t : CayleyTables) (classes : List ℕ) → IsWellPosed p
    → IsTaskFor p (Search (TruncatedMatrices task)) → ((unused : TruncatedMatrix) → AreTablesOf truncated_product truncated_matrix_eq task.generators unused t)
    → ((unused : TruncatedMatrix) → AreClassesOf truncated_product truncated_matrix_eq task.generators unused task.kind task.pairs t classes) → AreClassesFor p t classes
mpt_classes (problem.Presented p) task t classes posed is tables are = absurd is
mpt_classes (problem.Transf p) task t classes posed is tables are = absurd is
mpt_classes (problem.PPerm p) task t classes posed is tables are = absurd is
mpt_classes (problem.BMat p) task t classes posed is tables are = absurd is
mpt_classes (problem.MaxPlus p) task t classes posed is tables are =
    record {
      semigroup = refl;
      classes_in = classes_in truncated_products p.generators no_truncated_matrix t
          (subst (λ (s : PairsTask TruncatedMatrix). AreTablesOf truncated_product truncated_matrix_eq s.generators no_truncated_matrix t) is (tables no_truncated_matrix)) posed.one_shape p.kind p.pairs classes
          (subst (λ (s : PairsTask TruncatedMatrix). AreClassesOf truncated_product truncated_matrix_eq s.generators no_truncated_matrix s.kind s.pairs t classes) is (are no_truncated_matrix));
    }
