use Rattle.std.proofs.Common.{◌≢◌, length, sym, subst}
use Rattle.problem.specs.Problem.{pairs_of}
use Rattle.query_lang.specs.Pairing.{IsPairable, most_pairs}
use Rattle.query_lang.proofs.PairingLemmas.{pair_fits}
use Rattle.query_lang.proofs.pairing.Paired.with_sides.Goals as goal

pub invariant_of-result : goal.invariant_of-result
invariant_of-result c =
    subst IsPairable (sym c.in_ok-with_pair.ensures)
    (pair_fits c.self.inside.problem c.args.kind _ c.self.invariant (subst (λ p. length (pairs_of p) ≢ most_pairs) (sym c.self.view_is) c.requires.few))
