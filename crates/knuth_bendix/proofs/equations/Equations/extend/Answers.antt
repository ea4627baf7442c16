use Rattle.std.proofs.Common.{List, [], ◌∷◌, ◌++◌, append_assoc, subst}
use Rattle.std.specs.List.Sorted.{IsPermutation}
use Rattle.std.proofs.lemmas.List.Sorted.{IsPermutation-append_left, IsPermutation-trans}
use Rattle.theory.specs.Word.{Word}
use Rattle.knuth_bendix.proofs.equations.Equations.extend.Goals as goal

pub loop-pair-preserved : goal.loop-pair-preserved
loop-pair-preserved c =
    let old : List (Word × Word) = c.args.self.now in
    let pushed : List (Word × Word) = c.in-Some.pair ∷ [] in
    subst (λ (ps : List (Word × Word)). IsPermutation ps c.push.new.self) (append_assoc old c.loop-pair.yielded pushed)
    (IsPermutation-trans ((old ++ c.loop-pair.yielded) ++ pushed) (c.loop-pair.self ++ pushed) c.push.new.self
    (IsPermutation-append_left pushed (old ++ c.loop-pair.yielded) c.loop-pair.self c.loop-pair.invariant) c.in_ok-push.ensures)
