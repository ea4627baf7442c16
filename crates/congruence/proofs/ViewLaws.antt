-- Of which problem classes are, by how they are known.
use Rattle.std.proofs.Common.{◌≡◌, sym, ◌∙◌, ap, List}
use Rattle.presentation.specs.Presented.{Posed}
use Rattle.problem.specs.declared.kinds.Problem.{Problem}
use Rattle.problem.specs.declared.kinds.Problem.TheVariants.{Presented}
use Rattle.race.specs.declared.lanes.Lane.{Lane}
use Rattle.congruence.specs.declared.answers.Classes.{Classes}
use Rattle.congruence.specs.declared.answers.Classes.TheVariants.{Cosets, Reduced, Elements}
use Rattle.congruence.specs.declared.engine.Engine.{Engine}
use Rattle.congruence.specs.Classes.{problem_of}
use Rattle.congruence.specs.Solution.{Solution}

module _ (s : Solution) (classes : Classes) (lanes : List (Lane Engine)) (view : record { problem = problem_of classes; lanes = lanes } ≡ s) where
  pub of_cosets : (p : Problem) → classes ≡ Cosets p → p ≡ s.problem
  of_cosets p is = ap problem_of (sym is) ∙ ap (λ (t : Solution). t.problem) view

  pub of_reduced : (c : Posed) → classes ≡ Reduced c → Presented c ≡ s.problem
  of_reduced c is = ap problem_of (sym is) ∙ ap (λ (t : Solution). t.problem) view

  pub of_elements : (p : Problem) → classes ≡ Elements p → p ≡ s.problem
  of_elements p is = ap problem_of (sym is) ∙ ap (λ (t : Solution). t.problem) view
