use Rattle.std.proofs.Common.{◌≡◌, ℕ, List, Option, Some, [], ◌∷◌, ◌++◌, ◌∙◌, ap}
use Rattle.coincidence.specs.declared.order.Step.{Step}
use Rattle.coincidence.proofs.KeptLaws.{kept_root}
use Rattle.coincidence.proofs.order.Order.new.Goals as goal

pub returns : goal.returns
returns c = λ k.
    let steps : c.push.new.self.items ≡ record { node = 0; parent = 0; letter = 0 } ∷ [] = c.in_ok-push.ensures.items ∙ ap (λ (z : List Step). z ++ record { node = 0; parent = 0; letter = 0 } ∷ []) c.new-steps.ensures.items in
    let places : c.push-2.new.self.items ≡ Some 0 ∷ [] = c.in_ok-push-2.ensures.items ∙ ap (λ (z : List (Option ℕ)). z ++ Some 0 ∷ []) c.new-places.ensures.items in
    rw (steps, places) (kept_root k)
