use Rattle.std.proofs.Common.{◌≡◌, Some, [], ◌∷◌, ◌++◌, ◌∙◌, sym, ap, subst₂, List, Option, ℕ, set}
use Rattle.word_graph.specs.Steps.{IsWalkedTo}
use Rattle.word_graph.specs.Levels.{IsLevelledBefore}
use Rattle.word_graph.specs.declared.walks.Step.{Step}
use Rattle.word_graph.proofs.StepLaws.{walked_start}
use Rattle.word_graph.proofs.LevelSteps.{levelled_start}
use Rattle.word_graph.proofs.walks.Walk.at_root.Goals as goal

pub returns-clause-walk : goal.returns-clause-walk
returns-clause-walk c = λ k g shape.
    let steps : c.push.new.self.items ≡ record { node = 0; parent = 0; letter = c.new.result } ∷ [] = c.in_ok-push.ensures.items ∙ ap (λ (xs : List Step). xs ++ record { node = 0; parent = 0; letter = c.new.result } ∷ []) c.new-steps.ensures.items in
    subst₂ (λ (xs : List Step) (ps : List (Option ℕ)). IsWalkedTo k g xs (set ps 0 (Some 0)) 0 0) (sym steps) (sym c.in_ok-places.ensures)
    (walked_start k g c.args.nodes c.new.result c.requires shape)

pub returns-clause-levels : goal.returns-clause-levels
returns-clause-levels c = λ k g shape.
    let steps : c.push.new.self.items ≡ record { node = 0; parent = 0; letter = c.new.result } ∷ [] = c.in_ok-push.ensures.items ∙ ap (λ (xs : List Step). xs ++ record { node = 0; parent = 0; letter = c.new.result } ∷ []) c.new-steps.ensures.items in
    subst₂ (λ (xs : List Step) (ps : List (Option ℕ)). IsLevelledBefore k g xs (set ps 0 (Some 0)) 0) (sym steps) (sym c.in_ok-places.ensures)
    (levelled_start k g c.args.nodes c.new.result c.requires shape)
