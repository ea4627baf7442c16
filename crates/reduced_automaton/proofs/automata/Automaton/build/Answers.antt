use Rattle.std.proofs.Common.{List, subst, sym}
use Rattle.theory.specs.Word.{Word}
use Rattle.rewriting.specs.Rules.{AreFalling}
use Rattle.rewriting.specs.Tables.{IsTableOf}
use Rattle.reduced_automaton.proofs.ReaderLaws.{table_reads}
use Rattle.reduced_automaton.proofs.automata.Automaton.build.Goals as goal

pub invariant_of-result : goal.invariant_of-result
invariant_of-result c =
    let falling : AreFalling c.in_ok-rules.rules = subst (λ (rs : List (Word × Word)). AreFalling rs) (sym c.in_ok-rules.ensures) c.len-count.ensures.falling in
    let table = subst (λ k. IsTableOf k c.in_ok-rules.rules c.in_ok-table.table) (sym c.in_ok-table.ensures.letters) c.in_ok-table.ensures in
    let reader = table_reads c.in_ok-table.table.letters c.in_ok-rules.rules c.in_ok-table.table table c.letters-letters.ensures.table falling in
    record {
      table = table;
      reader = reader;
      depths = c.in_ok-depths.ensures c.in_ok-table.table.letters reader.graph;
    }
