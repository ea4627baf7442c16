use Rattle.std.proofs.Common.{Vec, Global, map, subst}
use Rattle.coincidence.specs.Uses.{IsPutAt}
use Rattle.coincidence.specs.declared.groups.Group.{Group}
use Rattle.coincidence.proofs.UsesLaws.{room_put}
use Rattle.coincidence.proofs.uses.put_at.Goals as goal

pub returns : goal.returns
returns c =
    let old = map (λ (v : Vec Group Global). v.items) c.args.letters.now.items in
    let mid = map (λ (v : Vec Group Global). v.items) c.letter_room.new.letters.items in
    let new = map (λ (v : Vec Group Global). v.items) c.put_within.new.letters.items in
    room_put old mid new c.args.letter c.args.kind c.args.place c.in_ok-letter_room.ensures.same (subst (λ z. IsPutAt mid new z c.args.kind c.args.place) c.number-number.ensures c.in_ok-put_within.ensures)
