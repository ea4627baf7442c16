use Rattle.std.proofs.Common.{◌≡◌, sym, ◌∙◌, ap₂, subst}
use Rattle.theory.specs.Graph.{target as target_of}
use Rattle.rewriting.specs.Tables.{Moves, edges, move_by}
use Rattle.rewriting.proofs.TableLaws.{edge_is}
use Rattle.rewriting.proofs.index_automaton.IndexAutomaton.target.Goals as goal

pub returns : goal.returns
returns c =
    let P : Moves → Type 0 = λ m. c.move_by.result ≡ target_of (edges m) c.args.node c.args.letter in
    subst P c.self.view_is (c.move_by.ensures ∙ ap₂ move_by c.get.ensures.entry c.get-2.ensures.entry ∙ sym (edge_is _ c.self.invariant c.args.node c.args.letter))
