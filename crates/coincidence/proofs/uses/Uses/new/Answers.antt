use Rattle.std.proofs.Common.{◌≡◌, ◌<◌, Vec, Global, length, map, arith}
use Rattle.coincidence.specs.declared.groups.Group.{Group}
use Rattle.coincidence.proofs.UsesLaws.{uses_step, uses_end}
use Rattle.coincidence.proofs.uses.Uses.new.Goals as goal

pub loop-number-preserved : goal.loop-number-preserved
loop-number-preserved c =
    let less : c.loop-number.number < length c.args.pairs.now = omega arith in
    uses_step c.args.second c.args.pairs.now (map (λ (v : Vec Group Global). v.items) c.loop-number.letters.items) (map (λ (v : Vec Group Global). v.items) c.note_side.new.letters.items) c.loop-number.number c.pair.result.now
    less c.pair.ensures c.in_ok-note_side.ensures c.loop-number.invariant

pub returns : goal.returns
returns c =
    let end : c.loop-number.number ≡ length c.args.pairs.now = omega arith in
    uses_end c.args.second c.args.pairs.now (map (λ (v : Vec Group Global). v.items) c.loop-number.letters.items) c.loop-number.number end c.loop-number.invariant
