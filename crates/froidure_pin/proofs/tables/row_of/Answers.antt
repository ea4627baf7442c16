use Rattle.std.proofs.Common.{[], ◌∷◌, ◌++◌, ap, ◌∙◌}
use Rattle.froidure_pin.specs.Found.{entry}
use Rattle.froidure_pin.proofs.RowLists.{row_more}
use Rattle.froidure_pin.proofs.tables.row_of.Goals as goal

pub loop-letter-preserved : goal.loop-letter-preserved
loop-letter-preserved c =
    row_more (entry c.args.letters c.args.numbers.now.items c.args.parent) c.loop-letter.row.items c.push.new.self.items c.loop-letter.letter
    (c.in_ok-push.ensures.items ∙ ap (λ n. c.loop-letter.row.items ++ n ∷ []) c.entry.ensures) c.loop-letter.invariant
