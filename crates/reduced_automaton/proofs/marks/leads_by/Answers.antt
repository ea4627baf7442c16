use Rattle.std.proofs.Common.{sym, arith}
use Rattle.rewriting.specs.Tables.{edges}
use Rattle.reduced_automaton.proofs.MarkLaws.{narrowed_next}
use Rattle.reduced_automaton.proofs.marks.leads_by.Goals as goal

pub bounds-marks-next : goal.bounds-marks-next
bounds-marks-next c =
    let inside = narrowed_next c.args.letters (edges c.args.graph.now) c.letters-letters.result c.letters-letters.ensures.graph c.args.node c.args.letter c.in-Some.next (sym c.in-Some.ensures) in
    omega (arith, inside, c.requires)
