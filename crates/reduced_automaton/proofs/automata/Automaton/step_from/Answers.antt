use Rattle.std.proofs.Common.{Some, subst}
use Rattle.rewriting.specs.Tables.{move_by}
use Rattle.rewriting.specs.Tries.{longer}
use Rattle.reduced_automaton.specs.Automaton.{Leads}
use Rattle.reduced_automaton.proofs.ReaderLaws.{leads_by}
use Rattle.reduced_automaton.proofs.automata.Automaton.step_from.Goals as goal

pub returns-in-None : goal.returns-in-None
returns-in-None c =
    subst (λ e. Leads c.args.self.now.rules c.args.self.now.states (longer c.args.self.now.states c.args.state c.args.letter) (move_by e (Some c.read-next.result.0))) c.in-None.is
    (leads_by c.args.self.now.rules c.args.self.now.states (longer c.args.self.now.states c.args.state c.args.letter) c.read-next.result.0 c.read-next.result.1 c.read-next.ensures)

pub returns-in-Some : goal.returns-in-Some
returns-in-Some c =
    subst (λ e. Leads c.args.self.now.rules c.args.self.now.states (longer c.args.self.now.states c.args.state c.args.letter) (move_by e (Some c.read-next.result.0))) c.in-Some.is
    (leads_by c.args.self.now.rules c.args.self.now.states (longer c.args.self.now.states c.args.state c.args.letter) c.read-next.result.0 c.read-next.result.1 c.read-next.ensures)
