use Rattle.std.proofs.Common.{List, [], ◌∷◌, ◌++◌, map, subst}
use Rattle.std.specs.BinaryHeap.{heap_items}
use Rattle.std.specs.List.Sorted.{IsPermutation}
use Rattle.std.proofs.lemmas.List.Sorted.{IsPermutation-map, IsPermutation-push_more, IsPermutation-refl}
use Rattle.theory.specs.Word.{Word}
use Rattle.knuth_bendix.specs.declared.equations.Equation.{Equation}
use Rattle.knuth_bendix.proofs.equations.Equations.push.Goals as goal

pub returns : goal.returns
returns c =
    let pairs : List Equation → List (Word × Word) = map (λ (e : Equation). e.pair) in
    let old : List Equation = heap_items c.self.inside.heap in
    let new : List Equation = heap_items c.push.new.self in
    let pushed : Equation = record { pair = (c.args.left, c.args.right); number = c.self.inside.pushed } in
    subst (λ (ps : List (Word × Word)). IsPermutation (ps ++ (c.args.left, c.args.right) ∷ []) (pairs new)) c.self.view_is
    (IsPermutation-push_more (pairs old) (pairs old) (pairs new) (c.args.left, c.args.right) (IsPermutation-refl (pairs old))
    (IsPermutation-map (λ (e : Equation). e.pair) (pushed ∷ old) new c.in_ok-push.ensures.permutation))
