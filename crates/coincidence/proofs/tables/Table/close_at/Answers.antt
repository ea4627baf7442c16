use Rattle.std.proofs.Common.{◌≡◌, OnOk, Result, Ok, Err, false, true, subst}
use Rattle.word_graph.proofs.WalkLaws.{some_same}
use Rattle.coincidence.specs.Holding.{HoldBefore}
use Rattle.coincidence.specs.Table.{IsLive}
use Rattle.coincidence.proofs.CloseLaws.{closed_at_word}
use Rattle.coincidence.proofs.tables.Table.close_at.Goals as goal

on_ok : {T E : Type 0} {P Q : Type 0} (r : Result T E) → (P → Q) → OnOk r P → OnOk r Q
on_ok (Ok x) f p = f p
on_ok (Err e) f p = tt

pub returns-clause-relates : goal.returns-clause-relates
returns-clause-relates c =
    on_ok c.close.result (λ relates w at. closed_at_word c.args.self.now.congruence c.args.self.now.graph c.close.new.self.graph c.args.node w at relates)
    c.close.ensures.relates

pub close-requires : goal.close-requires
close-requires c = record {
  at = λ n is. subst (IsLive c.args.self.now) (some_same c.args.node n is) c.requires.node;
  held = λ n is. subst (λ z. HoldBefore c.args.self.now.congruence.presentation.relations c.args.self.now.graph z c.args.held) (some_same c.args.node n is) c.requires.held;
  hold = λ e. let no : false ≡ true = e in cc;
}
