use Rattle.std.proofs.Common.{ap}
use Rattle.knuth_bendix.proofs.LogLaws.{fact_logged}
use Rattle.knuth_bendix.proofs.logs.push_fact.Goals as goal

pub returns-clause-logged : goal.returns-clause-logged
returns-clause-logged c =
    fact_logged c.args.derivations.now c.push.new.self _ c.args.pair.now.0 c.args.pair.now.1 c.in_ok-push.ensures.ok (ap (λ p. p.0) c.in_ok-left.ensures) (ap (λ p. p.1) c.in_ok-left.ensures)
