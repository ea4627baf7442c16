use Rattle.std.proofs.Common.{◌<◌, List, [], ◌∷◌, ◌++◌, length, sym, ap₂, subst₂, arith, inl, inr}
use Rattle.std.specs.List.Sorted.{IsPermutation}
use Rattle.theory.specs.Word.{Word}
use Rattle.knuth_bendix.proofs.ShortRelations.{short_step}
use Rattle.knuth_bendix.proofs.completions.short_relations.Goals as goal
use Rattle.knuth_bendix.proofs.completions.short_relations.Goals.{then-is_short+in_ok-copy+in_ok-copy-2+in_ok-push, else-is_short}

pub loop-place-preserved : goal.loop-place-preserved
loop-place-preserved c =
    let q = c.pair-relation.result.now in
    let within : c.loop-place.place < length c.args.relations.now = omega arith in
    short_step c.args.bound c.args.relations.now c.loop-place.equations c.if-is_short.equations c.loop-place.place q c.is_short.result within c.pair-relation.ensures
    c.is_short.ensures
    (elim c.if-is_short.branch [
      | then-is_short+in_ok-copy+in_ok-copy-2+in_ok-push w ↦
          inl (w.if-is_short.true, subst₂ (λ (p : Word × Word) (es : List (Word × Word)). IsPermutation (c.loop-place.equations ++ p ∷ []) es) (ap₂ (λ (a b : Word). (a, b)) w.in_ok-copy.ensures w.in_ok-copy-2.ensures) (sym w.equations-is) w.in_ok-push.ensures)
      | else-is_short w ↦ inr (w.if-is_short.false, w.equations-is)
    ])
    c.loop-place.invariant
