use Rattle.std.proofs.Common.{List, ◌∷◌, map, subst}
use Rattle.std.specs.BinaryHeap.{heap_items}
use Rattle.std.specs.List.Sorted.{IsPermutation}
use Rattle.std.proofs.lemmas.List.Sorted.{IsPermutation-map}
use Rattle.theory.specs.Word.{Word}
use Rattle.knuth_bendix.specs.declared.equations.Equation.{Equation}
use Rattle.knuth_bendix.proofs.WaitingLaws.{shortest_first}
use Rattle.knuth_bendix.proofs.equations.Equations.pop.Goals as goal

pub returns-clause-pair : goal.returns-clause-pair
returns-clause-pair c =
    let pairs : List Equation → List (Word × Word) = map (λ (e : Equation). e.pair) in
    let first : Equation = c.in_ok-first.first in
    let new : List Equation = heap_items c.pop.new.self in
    subst (λ (ps : List (Word × Word)). IsPermutation ps (first.pair ∷ pairs new)) c.self.view_is
    (IsPermutation-map (λ (e : Equation). e.pair) (heap_items c.self.inside.heap) (first ∷ new) c.in_ok-first.ensures.permutation)

pub returns-clause-shortest : goal.returns-clause-shortest
returns-clause-shortest c =
    shortest_first c.in_ok-first.first (heap_items c.pop.new.self) (c.in_ok-first.ensures.below_top c.self.invariant)
