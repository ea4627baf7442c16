use Rattle.std.proofs.Common.{subst}
use Rattle.reduced_automaton.specs.Automaton.{IsReader, Reading}
use Rattle.reduced_automaton.proofs.FrameLaws.{framed_goes_on}
use Rattle.reduced_automaton.proofs.automata.Automaton.next_in.Goals as goal

pub returns-in_err-framing-clause-goes_on : goal.returns-in_err-framing-clause-goes_on
returns-in_err-framing-clause-goes_on c =
    let P : Reading → Type 0 = λ r. IsReader r.letters r.rules r.graph in
    framed_goes_on c.args.self.now c.args.frame.now (subst P c.self.view_is c.self.invariant.reader) c.requires
