use Rattle.std.proofs.Common.{◌<◌, length, sym, subst, arith}
use Rattle.reduced_automaton.specs.Automaton.{Reading}
use Rattle.rewriting.specs.Tries.{Reads, longer, words_of}
use Rattle.rewriting.proofs.TrieLaws.{words_count}
use Rattle.reduced_automaton.proofs.automata.Automaton.read.Goals as goal

pub read-requires : goal.read-requires
read-requires c =
    let size = words_count c.self.inside.rules c.self.inside.table.prefixes in
    let P : Reading → Type 0 = λ r. c.args.state < length r.states in
    let inside : c.args.state < length (words_of c.self.inside.rules c.self.inside.table.prefixes) = subst P (sym c.self.view_is) c.requires in
    omega (arith, size, inside)

pub returns : goal.returns
returns c =
    let P : Reading → Type 0 = λ r. Reads r.rules r.states (longer r.states c.args.state c.args.letter) c.read.result.0 c.read.result.1 in
    subst P c.self.view_is (c.read.ensures c.self.inside.table.letters c.self.inside.rules c.len-count.ensures.falling c.self.invariant.table)
