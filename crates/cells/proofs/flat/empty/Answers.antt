use Rattle.std.proofs.Common.{◌<◌, length, None, replicate, arith, ◌∙◌, ap, length-set}
use Rattle.cells.proofs.CellLaws.{all_none, none_more}
use Rattle.cells.proofs.flat.empty.Goals as goal

pub loop-place-preserved : goal.loop-place-preserved
loop-place-preserved c =
    let inside : c.loop-place.place < length c.loop-place.entries.items = omega (arith, c.loop-place.invariant.0) in
    rw c.new.ensures (length-set c.loop-place.entries.items c.loop-place.place None ∙ c.loop-place.invariant.0, none_more c.loop-place.entries.items c.loop-place.place inside c.loop-place.invariant.1)

pub returns : goal.returns
returns c =
    all_none c.loop-place.entries.items (λ i l. c.loop-place.invariant.1 i (omega (arith, l, c.loop-place.invariant.0))) ∙ ap (λ n. replicate n None) c.loop-place.invariant.0
