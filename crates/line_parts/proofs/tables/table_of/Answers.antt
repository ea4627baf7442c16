use Rattle.std.proofs.Common.{◌≡◌, true, sym, ap, ◌∙◌, subst, Err, true≢false}
use Rattle.theory.specs.Lattice.{HasFreeRoot}
use Rattle.word_graph.specs.Standard.{IsStandardGraph}
use Rattle.table_texts.specs.TableText.{table_read}
use Rattle.table_texts.specs.declared.fault.TableFault.{TableFault}
use Rattle.line_parts.specs.Faults.{IsLineFault}
use Rattle.line_parts.specs.Tables.{IsTable, table_of}
use Rattle.line_parts.proofs.FaultLemmas.{handed_on}
use Rattle.line_parts.proofs.TableLemmas.{is_taken, not_free, not_standard, table_refused}
use Rattle.line_parts.proofs.tables.table_of.Goals as goal
use Rattle.line_parts.proofs.tables.table_of.Goals.{else-not-is_monoid-via-then-not-is_monoid+in_ok-avoids_root+else-not-branch, else-not-is_monoid-via-else-not-is_monoid}

pub returns-in_err-table-clause-err : goal.returns-in_err-table-clause-err
returns-in_err-table-clause-err c =
    handed_on _ _ _ c.from_residual.ensures.1
    (table_refused c.args.is_monoid c.args.letters c.args.token.now c.in_err-table.field-0.0
    (λ place e. c.in_err-table.ensures.bad place (ap (λ (f : TableFault). Err f) e)))

pub returns-then-not-is_standard-clause-err : goal.returns-then-not-is_standard-clause-err
returns-then-not-is_standard-clause-err c =
    subst (IsLineFault (table_of c.args.is_monoid c.args.letters c.args.token.now)) (sym c.refused.ensures)
    (not_standard c.args.is_monoid c.args.letters c.args.token.now (λ standard.
    let same : table_read c.args.token.now ≡ c.in_ok-table.table = sym c.in_ok-table.ensures.ok in
    let is : c.is_standard.result ≡ true = (c.is_standard.ensures c.args.letters c.in_ok-table.ensures.graph).1 (subst (IsStandardGraph c.args.letters) same standard) in
    cc))

pub returns-then-not-branch-clause-err : goal.returns-then-not-branch-clause-err
returns-then-not-branch-clause-err c =
    subst (IsLineFault (table_of c.args.is_monoid c.args.letters c.args.token.now)) (sym c.refused-then-not-branch.ensures)
    (not_free c.args.is_monoid c.args.letters c.args.token.now c.if-not-is_monoid.true (λ free.
    let is : c.in_ok-avoids_root.field-0 ≡ true = c.in_ok-avoids_root.ensures.1 (subst HasFreeRoot (sym c.in_ok-table.ensures.ok) free) in
    true≢false (sym is ∙ c.if-not-branch.true)))

-- the table is one, by its two tests
made : (c : goal.Joined-else-not-is_monoid) → IsTable c.args.is_monoid c.args.letters c.in_ok-table.table
made c = record {
  standard = (c.is_standard.ensures c.args.letters c.in_ok-table.ensures.graph).0 c.if-not-is_standard.false;
  free = elim c.else-not-is_monoid.branch [
    | else-not-is_monoid-via-then-not-is_monoid+in_ok-avoids_root+else-not-branch w ↦ λ semigroup. w.in_ok-avoids_root.ensures.0 w.if-not-branch.false
    | else-not-is_monoid-via-else-not-is_monoid w ↦ λ semigroup. absurd (true≢false (sym w.if-not-is_monoid.false ∙ semigroup))
  ];
}

pub returns-clause-ok : goal.returns-clause-ok
returns-clause-ok c =
    is_taken c.args.is_monoid c.args.letters c.args.token.now c.in_ok-table.table (record { good = c.in_ok-table.ensures.good; is = sym c.in_ok-table.ensures.ok }) (made c)

pub returns-clause-table : goal.returns-clause-table
returns-clause-table c = made c
