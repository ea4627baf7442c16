use Rattle.std.proofs.Common.{◌≡◌, None, OnOk, Some, false, true, subst}
use Rattle.theory.specs.Facts.{ClosedAll}
use Rattle.theory.specs.Graph.{PathsRelate, SameEnd}
use Rattle.coincidence.specs.Table.{CosetTable}
use Rattle.coincidence.proofs.tables.Table.close_all.Goals as goal

pub returns-clause-relates : goal.returns-clause-relates
returns-clause-relates c =
    subst (λ (was : CosetTable). OnOk c.close.result (PathsRelate c.close.new.self.graph (ClosedAll was.congruence (SameEnd was.graph))))
    c.in_ok-gather.ensures.same c.close.ensures.relates

pub close-requires : goal.close-requires
close-requires c = record {
  at = λ n is. let no : None ≡ Some n = is in cc;
  held = λ n is. let no : None ≡ Some n = is in cc;
  hold = λ e. let no : false ≡ true = e in cc;
}
