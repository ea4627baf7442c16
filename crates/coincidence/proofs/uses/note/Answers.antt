use Rattle.std.proofs.Common.{Vec, Global, ℕ, map}
use Rattle.coincidence.proofs.UsesLaws.{room_noted}
use Rattle.coincidence.proofs.uses.note.Goals as goal

pub returns : goal.returns
returns c = room_noted (map (λ (v : Vec (ℕ × ℕ) Global). v.items) c.args.lists.now.items) (map (λ (v : Vec (ℕ × ℕ) Global). v.items) c.make_room.new.lists.items) (map (λ (v : Vec (ℕ × ℕ) Global). v.items) c.put.new.lists.items)
    c.args.number c.args.entry c.in_ok-make_room.ensures.same c.in_ok-put.ensures
