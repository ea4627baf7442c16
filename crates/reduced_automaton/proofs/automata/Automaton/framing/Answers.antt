use Rattle.std.proofs.Common.{◌≤◌, sym, subst}
use Rattle.std.specs.Result.{IfOk}
use Rattle.reduced_automaton.specs.Automaton.{Reading}
use Rattle.reduced_automaton.specs.Framings.{IsFraming}
use Rattle.reduced_automaton.proofs.automata.Automaton.framing.Goals as goal

pub of-requires : goal.of-requires
of-requires c =
    let P : Reading → Type 0 = λ r. c.args.frame.now.letters ≤ r.letters in
    subst P (sym c.self.view_is) c.requires

pub returns : goal.returns
returns c =
    let P : Reading → Type 0 = λ r. IfOk c.of.result (IsFraming r.letters r.graph c.args.frame.now) in
    subst P c.self.view_is c.of.ensures
