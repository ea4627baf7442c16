use Rattle.std.proofs.Common.{◌≡◌, ℕ, ◌+◌, ◌<◌, List, [], ◌∷◌, ◌++◌, length, rules, sym, ◌∙◌, ap, subst₂, arith, slice_index}
use Rattle.std.proofs.lemmas.List.{get_or_default}
use Rattle.cayley.proofs.PlacedClasses.{ArePlacedTo, root_placed, class_placed}
use Rattle.cayley.proofs.placing.placed.Goals as goal
use Rattle.cayley.proofs.placing.placed.Goals.{else-least-number+in_ok-push-2+in_ok-push-3, then-least-number+in_ok-push}

pub loop-number-preserved : goal.loop-number-preserved
loop-number-preserved c =
    let n : ℕ = c.loop-number.number in
    let inside : n < length c.args.classes.now = search rules in
    elim c.if-least-number.branch [
      | then-least-number+in_ok-push w ↦
          let below : slice_index c.args.classes.now n < n = w.if-least-number.true in
          let place : w.index.result.now ≡ slice_index c.loop-number.places.items (slice_index c.args.classes.now n) =
          w.index.ensures ∙ get_or_default c.loop-number.places.items (slice_index c.args.classes.now n) w.index.result.now 0 (omega (arith, c.loop-number.invariant.count, below)) in
          subst₂ (λ (rs ps : List ℕ). ArePlacedTo c.args.classes.now (n + 1) rs ps) (sym (ap (λ v. v.items) w.roots-is))
          (sym (ap (λ v. v.items) w.places-is ∙ w.in_ok-push.ensures.items ∙ ap (λ (x : ℕ). c.loop-number.places.items ++ x ∷ []) place))
          (class_placed c.args.classes.now n c.loop-number.roots.items c.loop-number.places.items c.loop-number.invariant c.requires inside below)
      | else-least-number+in_ok-push-2+in_ok-push-3 w ↦
          let own : slice_index c.args.classes.now n ≡ n = omega (arith, w.if-least-number.false, c.requires.below n inside) in
          let place : w.len.result ≡ length c.loop-number.roots.items = search rules in
          subst₂ (λ (rs ps : List ℕ). ArePlacedTo c.args.classes.now (n + 1) rs ps) (sym (ap (λ v. v.items) w.roots-is ∙ w.in_ok-push-3.ensures.items))
          (sym (ap (λ v. v.items) w.places-is ∙ w.in_ok-push-2.ensures.items ∙ ap (λ (x : ℕ). c.loop-number.places.items ++ x ∷ []) place))
          (root_placed c.args.classes.now n c.loop-number.roots.items c.loop-number.places.items c.loop-number.invariant own)
    ]
