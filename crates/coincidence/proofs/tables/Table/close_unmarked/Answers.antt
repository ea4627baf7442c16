use Rattle.std.proofs.Common.{◌≡◌, None, OnOk, Some, subst, sym}
use Rattle.theory.specs.Facts.{ClosedAll}
use Rattle.theory.specs.Graph.{PathsRelate, SameEnd}
use Rattle.coincidence.specs.Table.{CosetTable, HoldWhereMarked}
use Rattle.coincidence.proofs.tables.Table.close_unmarked.Goals as goal

pub returns-clause-relates : goal.returns-clause-relates
returns-clause-relates c =
    subst (λ (was : CosetTable). OnOk c.close.result (PathsRelate c.close.new.self.graph (ClosedAll was.congruence (SameEnd was.graph))))
    c.in_ok-gather_unmarked.ensures.same c.close.ensures.relates

pub close-requires : goal.close-requires
close-requires c = record {
  at = λ n is. let no : None ≡ Some n = is in cc;
  held = λ n is. let no : None ≡ Some n = is in cc;
  hold = λ _. subst HoldWhereMarked (sym c.in_ok-gather_unmarked.ensures.same) c.requires;
}
