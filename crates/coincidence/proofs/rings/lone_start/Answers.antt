use Rattle.std.proofs.Common.{◌≡◌, ◌+◌, ◌-◌, ◌<◌, ℕ, refl, subst, take, drop, arith}
use Rattle.coincidence.specs.Rings.{IsLoneWalk}
use Rattle.coincidence.proofs.RingLaws.{lone_step}
use Rattle.coincidence.proofs.rings.lone_start.Goals as goal

pub loop-place-preserved : goal.loop-place-preserved
loop-place-preserved c =
    let one : ◌≡◌ {A = ℕ} c.loop-place.place ((c.loop-place.place - 1) + 1) = omega (arith, c.loop-place-test.true) in
    let less : c.loop-place.place - 1 < c.args.to = omega (arith, c.loop-place-test.true, c.loop-place.invariant.below) in
    record {
      above = omega (arith, c.loop-place-test.true);
      below = omega (arith, c.loop-place.invariant.below);
      walk = lone_step c.args.edges.now.graph c.loop-place.at c.args.node c.in-Some.source c.letter.result (c.loop-place.place - 1) c.args.to c.args.word.now less c.letter.ensures (c.in-Some.ensures c.in-Some.source refl)
          (subst (λ z. IsLoneWalk c.args.edges.now.graph c.loop-place.at (take (c.args.to - z) (drop z c.args.word.now)) c.args.node) one c.loop-place.invariant.walk);
    }
