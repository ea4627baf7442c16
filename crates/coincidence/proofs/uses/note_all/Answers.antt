use Rattle.std.proofs.Common.{◌≡◌, ◌<◌, Vec, Global, length, map, arith}
use Rattle.coincidence.specs.declared.groups.Group.{Group}
use Rattle.coincidence.proofs.UsesLaws.{noted_step, noted_end}
use Rattle.coincidence.proofs.uses.note_all.Goals as goal

pub loop-place-preserved : goal.loop-place-preserved
loop-place-preserved c =
    let less : c.loop-place.place < length c.args.side.now = omega arith in
    noted_step c.args.power (map (λ (v : Vec Group Global). v.items) c.args.letters.now.items) (map (λ (v : Vec Group Global). v.items) c.loop-place.letters.items) (map (λ (v : Vec Group Global). v.items) c.put_at.new.letters.items)
    c.args.side.now c.args.pair c.loop-place.place c.letter.result c.place_told.result c.kind_at-kind.result less c.letter.ensures c.kind_at-kind.ensures c.place_told.ensures c.in_ok-put_at.ensures c.loop-place.invariant

pub returns : goal.returns
returns c =
    let end : c.loop-place.place ≡ length c.args.side.now = omega arith in
    noted_end c.args.power (map (λ (v : Vec Group Global). v.items) c.args.letters.now.items) (map (λ (v : Vec Group Global). v.items) c.loop-place.letters.items) c.args.side.now c.args.pair c.loop-place.place end c.loop-place.invariant
