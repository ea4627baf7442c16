use Rattle.std.proofs.Common.{◌≡◌, ◌∙◌, ◌+◌, ◌++◌, ◌∷◌, [], ◌<◌, suc, ap, sym, arith, length, subst, append_assoc, All}
use Rattle.std.proofs.lemmas.List.{length_push}
use Rattle.std.proofs.lemmas.List.Elements.{All-push}
use Rattle.congruence_closure.specs.Maps.{AreIn}
use Rattle.congruence_closure.specs.Closing.{images}
use Rattle.congruence_closure.proofs.closing.push_images.Goals as goal

pub loop-map-preserved : goal.loop-map-preserved
loop-map-preserved g c =
    let m = g.M.Maps.maps c.args.maps.now in
    let i = c.args.left in
    let j = c.args.right in
    let a = c.loop-map.map in
    let near : a < m.count = omega (arith, c.loop-map-test.true, c.count-map-end.ensures) in
    let added : c.push.new.self.items ≡ c.loop-map.waiting.items ++ (m.image i a, m.image j a) ∷ [] =
    c.in_ok-push.ensures.items ∙ ap (λ n. c.loop-map.waiting.items ++ (n, c.image-in-loop-map.result) ∷ []) c.image.ensures ∙ ap (λ n. c.loop-map.waiting.items ++ (m.image i a, n) ∷ []) c.image-in-loop-map.ensures in
    let next : a + 1 ≡ suc a = omega arith in
    record {
      images =
          added ∙ ap (λ xs. xs ++ (m.image i a, m.image j a) ∷ []) c.loop-map.invariant.images
          ∙ append_assoc c.args.waiting.now.items (images m i j a) ((m.image i a, m.image j a) ∷ [])
          ∙ ap (λ n. c.args.waiting.now.items ++ images m i j n) (sym next);
      count = ap length added ∙ length_push c.loop-map.waiting.items (m.image i a, m.image j a) ∙ omega (arith, c.loop-map.invariant.count);
      within = λ h. subst (λ xs. All (AreIn m.bound) xs) (sym added) (All-push (AreIn m.bound) c.loop-map.waiting.items (m.image i a, m.image j a) (c.loop-map.invariant.within h)
          (c.requires.maps i a c.requires.left near, c.requires.maps j a c.requires.right near));
    }
