use Rattle.std.proofs.Common.{◌∙◌, ◌++◌, ◌∷◌, [], sym, subst, All}
use Rattle.std.proofs.lemmas.List.Elements.{All-contains, Contains-append_right}
use Rattle.congruence_closure.specs.Maps.{AreIn}
use Rattle.congruence_closure.specs.Closing.{IsClosing}
use Rattle.congruence_closure.proofs.ClosingLaws.{same_step, merged_step, itself, all_front}
use Rattle.congruence_closure.proofs.closing.close.Goals as goal

pub loop-left-preserved : goal.loop-left-preserved
loop-left-preserved g c =
    let m = g.M.Maps.maps c.args.maps.now in
    let rest = c.pop.new.self.items in
    let old = subst (λ xs. All (AreIn m.bound) xs) c.in-Some.ensures.items c.loop-left.invariant.within in
    record {
      count = c.merge.ensures.count ∙ c.loop-left.invariant.count;
      below = c.merge.ensures.below;
      within = all_front (AreIn m.bound) rest ((c.in-Some.left, c.in-Some.right) ∷ []) old;
      closing = λ pairs h.
          let before = subst (λ xs. IsClosing m pairs c.loop-left.parents.items xs) c.in-Some.ensures.items (c.loop-left.invariant.closing pairs h) in
          let same = c.merge.ensures.same c.if-merge.false before.label before.labels in
          same_step m pairs c.loop-left.parents.items c.merge.new.parents.items rest c.in-Some.left c.in-Some.right before same.0 same.1;
    }

pub loop-left-preserved-in-Continue-1 : goal.loop-left-preserved-in-Continue-1
loop-left-preserved-in-Continue-1 g c =
    let m = g.M.Maps.maps c.args.maps.now in
    let rest = c.pop.new.self.items in
    let old = subst (λ xs. All (AreIn m.bound) xs) c.in-Some.ensures.items c.loop-left.invariant.within in
    let taken : AreIn m.bound (c.in-Some.left, c.in-Some.right) = All-contains (AreIn m.bound) (rest ++ (c.in-Some.left, c.in-Some.right) ∷ []) (c.in-Some.left, c.in-Some.right) old (Contains-append_right rest ((c.in-Some.left, c.in-Some.right) ∷ []) (c.in-Some.left, c.in-Some.right) (itself (c.in-Some.left, c.in-Some.right))) in
    record {
      count = c.merge.ensures.count ∙ c.loop-left.invariant.count;
      below = c.merge.ensures.below;
      within = c.in_ok-push_images.ensures.within (all_front (AreIn m.bound) rest ((c.in-Some.left, c.in-Some.right) ∷ []) old);
      closing = λ pairs h.
          let before = subst (λ xs. IsClosing m pairs c.loop-left.parents.items xs) c.in-Some.ensures.items (c.loop-left.invariant.closing pairs h) in
          let merged = c.merge.ensures.merged c.if-merge.true before.label before.labels in
          subst (λ xs. IsClosing m pairs c.merge.new.parents.items xs) (sym c.in_ok-push_images.ensures.images)
          (merged_step m pairs c.loop-left.parents.items c.merge.new.parents.items rest c.in-Some.left c.in-Some.right before merged taken.0 taken.1);
    }
