use Rattle.std.proofs.Common.{sym, ◌∙◌, arith}
use Rattle.std.proofs.lemmas.List.{at_drop_all}
use Rattle.theory.specs.Graph.{path as path_of}
use Rattle.rewriting.specs.Tables.{edges}
use Rattle.rewriting.proofs.TableLaws.{path_on}
use Rattle.rewriting.proofs.index_automaton.IndexAutomaton.path_from.Goals as goal

pub returns-in-None : goal.returns-in-None
returns-in-None c = sym (path_on (edges c.args.self.now) c.args.word.now c.loop-i.i c.letter.result c.loop-i.at c.letter.ensures _ (sym c.in-None.ensures)) ∙ c.loop-i.invariant

pub loop-i-preserved : goal.loop-i-preserved
loop-i-preserved c = sym (path_on (edges c.args.self.now) c.args.word.now c.loop-i.i c.letter.result c.loop-i.at c.letter.ensures _ (sym c.in-Some.ensures)) ∙ c.loop-i.invariant

pub returns : goal.returns
returns c = sym (at_drop_all (path_of (edges c.args.self.now) c.loop-i.at) c.args.word.now c.loop-i.i (omega arith)) ∙ c.loop-i.invariant
