use Rattle.std.proofs.Common.{◌≡◌, ℕ, ◌<◌, length, get_or}
use Rattle.theory.specs.Graph.{path}
use Rattle.theory.specs.Word.{Word}
use Rattle.line_parts.proofs.tables.meets_relations.Given as goal

abbrev pub invariant-loop-relation : goal.invariant-loop-relation
invariant-loop-relation l = record {
  met : (i : ℕ) (d : Word × Word) → i < l.relation-index
      → (node : ℕ) → node < length l.fn.table
      → path l.fn.table node (get_or l.fn.relations i d).0 ≡ path l.fn.table node (get_or l.fn.relations i d).1;
}
