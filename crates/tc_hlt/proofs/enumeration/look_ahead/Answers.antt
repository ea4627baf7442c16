use Rattle.std.proofs.Common.{◌≡◌, true, false, sym, ◌∙◌}
use Rattle.tc_hlt.proofs.LookLaws.{row_stays, look_closed}
use Rattle.tc_hlt.proofs.RowLaws.{row_holds}
use Rattle.tc_hlt.proofs.enumeration.look_ahead.Goals as goal

pub returns-then-not-is_lookahead-clause-rows : goal.returns-then-not-is_lookahead-clause-rows
returns-then-not-is_lookahead-clause-rows c =
    row_stays c.args.table.now c.args.made (λ due. let no : false ≡ true = sym c.if-not-is_lookahead.true ∙ (c.is_lookahead.ensures ∙ due) in cc) c.requires.row

pub returns-clause-rows : goal.returns-clause-rows
returns-clause-rows c =
    look_closed c.draw_all.result c.args.table.now c.draw_all.new.table c.args.made (sym c.is_lookahead.ensures ∙ c.if-not-is_lookahead.false)
    c.draw_all.ensures.congruence c.draw_all.ensures.relates c.draw_all.ensures.marks c.draw_all.ensures.ok c.requires.row

pub draw_all-requires-clause-rows : goal.draw_all-requires-clause-rows
draw_all-requires-clause-rows c = row_holds c.args.table.now c.args.made c.requires.table c.requires.row
