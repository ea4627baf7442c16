use Rattle.std.proofs.Common.{◌<◌, false, length, slice_index, sym, ◌∙◌, arith}
use Rattle.std.proofs.lemmas.List.{get_or_default}
use Rattle.green.proofs.IdempotentLaws.{marked_seen}
use Rattle.green.proofs.idempotent.mark.Goals as goal

pub returns-then-index : goal.returns-then-index
returns-then-index c =
    let name = c.requires.both.within c.args.number c.requires.number in
    let place : slice_index c.args.both.now c.args.number < length c.args.seen.now.items = omega (arith, name, c.requires.both.count, c.requires.marked.seen_count) in
    marked_seen c.args.tables.now c.args.both.now c.requires.both c.args.number c.requires.number c.args.seen.now.items c.args.marks.now.items c.requires.marked
    (get_or_default c.args.seen.now.items (slice_index c.args.both.now c.args.number) false c.index.result.now place ∙ sym c.index.ensures ∙ c.if-index.true)
