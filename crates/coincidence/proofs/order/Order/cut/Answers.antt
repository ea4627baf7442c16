use Rattle.std.proofs.Common.{arith, subst}
use Rattle.coincidence.specs.Kept.{IsPlaced}
use Rattle.coincidence.proofs.order.Order.cut.Goals as goal
use Rattle.coincidence.proofs.KeptLaws.{kept_lost}

pub loop-self-preserved : goal.loop-self-preserved
loop-self-preserved c =
    let s = c.loop-self.invariant.some in
    record {
      some = (s.0, s.1, s.2, c.pop.ensures.kept s.0 s.1 s.2 s.3);
      kept = λ k g marked h. c.pop.ensures.kept k g marked (c.loop-self.invariant.kept k g marked h);
      places = λ n p. c.loop-self.invariant.places n (c.pop.ensures.places n p);
      inside = omega (arith, c.loop-self.invariant.inside, c.pop.ensures.shape);
    }

pub returns-clause-places : goal.returns-clause-places
returns-clause-places c = λ n p.
    let s = c.loop-self.invariant.some in
    (c.loop-self.invariant.places n p, λ e. kept_lost s.0 s.1 s.2 c.loop-self.self c.args.lost (omega arith) c.requires.lost s.3 (subst (λ z. IsPlaced c.loop-self.self z) e p))
