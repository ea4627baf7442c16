use Rattle.std.proofs.Common.{sym, ◌∙◌}
use Rattle.line_parts.proofs.TableLemmas.{congruence_table}
use Rattle.line_parts.proofs.tables.congruence_table_of.Goals as goal

pub returns-clause-table : goal.returns-clause-table
returns-clause-table c =
    congruence_table c.args.is_monoid c.args.letters c.args.relations.now c.in_ok-table.table c.in_ok-table.ensures.table (sym c.meets_relations.ensures ∙ c.if-not-meets_relations.false)
