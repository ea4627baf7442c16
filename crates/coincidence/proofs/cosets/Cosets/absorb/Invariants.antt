use Rattle.coincidence.specs.Absorbing.{KeepsRest, absorbing_of}
use Rattle.coincidence.proofs.AbsorbLaws.{IsAbsorbedTo}
use Rattle.coincidence.proofs.cosets.Cosets.absorb.Given as goal

abbrev pub invariant-loop-number : goal.invariant-loop-number
invariant-loop-number l = record {
  so_far : IsAbsorbedTo (absorbing_of l.initial.self) (absorbing_of l.self) l.merge l.number;
  rest : KeepsRest l.initial.self l.self;
}
