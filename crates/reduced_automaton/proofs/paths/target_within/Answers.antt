use Rattle.std.proofs.Common.{sym, ◌∙◌, arith}
use Rattle.rewriting.specs.Tables.{edges}
use Rattle.reduced_automaton.proofs.MarkLaws.{narrowed_in, narrowed_past}
use Rattle.reduced_automaton.proofs.paths.target_within.Goals as goal

pub returns-then-letters-number : goal.returns-then-letters-number
returns-then-letters-number c = sym (narrowed_past c.args.letters (edges c.args.graph.now) c.args.node c.args.letter (omega (arith, c.number.ensures, c.if-letters-number.true)))

pub returns : goal.returns
returns c = c.target.ensures ∙ sym (narrowed_in c.args.letters (edges c.args.graph.now) c.args.node c.args.letter (omega (arith, c.number.ensures, c.if-letters-number.false)))
