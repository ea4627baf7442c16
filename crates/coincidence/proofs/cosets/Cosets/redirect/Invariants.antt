use Rattle.coincidence.specs.Absorbing.{IsRedirecting, KeepsRest, absorbing_of}
use Rattle.coincidence.proofs.AbsorbLaws.{count_into}
use Rattle.coincidence.proofs.cosets.Cosets.redirect.Given as goal

abbrev pub invariant-loop-source : goal.invariant-loop-source
invariant-loop-source l = record {
  redirecting : IsRedirecting (absorbing_of l.initial.self) (absorbing_of l.self) l.merge l.letter;
  rest : KeepsRest l.initial.self l.self;
}

abbrev pub decreases-loop-source : goal.decreases-loop-source
decreases-loop-source l = count_into l.self.edges.graph l.letter l.merge.lost
