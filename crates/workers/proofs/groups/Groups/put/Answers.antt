use Rattle.std.proofs.Common.{◌≡◌, ◌-◌, ◌+◌, ◌%◌, ◌∷◌, arith, add-one, ◌∙◌, ap, sym}
use Rattle.workers.specs.Dealt.{Dealt, dealt}
use Rattle.workers.proofs.DealtLaws.{has_room, put_groups}
use Rattle.workers.proofs.groups.Groups.put.Goals as goal

pub overflow_add-self : goal.overflow_add-self
overflow_add-self g c =
    let room : c.self.inside.first ≡ c.args.self.now.room = ap (λ (d : Dealt g.row.I.Denot). d.room) c.self.view_is in
    omega (arith, room, c.requires, c.self.invariant.small)

pub push_reserved-requires : goal.push_reserved-requires
push_reserved-requires g c =
    let s = c.self.inside in
    let room : s.first ≡ c.args.self.now.room = ap (λ (d : Dealt g.row.I.Denot). d.room) c.self.view_is in
    has_room s.count (s.count + 1) s.first (s.first - 1) ((s.first - 1) % c.len.result) s.groups.items c.index_mut-group.result.now (sym (add-one s.count)) (omega (arith, room, c.requires)) (ap (λ w. (s.first - 1) % w) (c.len.ensures ∙ s.groups.ok.0)) c.index_mut-group.ensures.value c.self.invariant

pub invariant_of-self : goal.invariant_of-self
invariant_of-self g c =
    let s = c.self.inside in
    let room : s.first ≡ c.args.self.now.room = ap (λ (d : Dealt g.row.I.Denot). d.room) c.self.view_is in
    (put_groups s.count (s.count + 1) s.first (s.first - 1) ((s.first - 1) % c.len.result) s.groups.items c.index_mut-group.result.now (sym (add-one s.count)) (omega (arith, room, c.requires)) (ap (λ w. (s.first - 1) % w) (c.len.ensures ∙ s.groups.ok.0)) c.index_mut-group.ensures.value c.self.invariant
    c.push_reserved.new.self c.args.item c.push_reserved.ensures.items c.push_reserved.ensures.capacity).0

pub returns : goal.returns
returns g c =
    let s = c.self.inside in
    let room : s.first ≡ c.args.self.now.room = ap (λ (d : Dealt g.row.I.Denot). d.room) c.self.view_is in
    ap (λ xs. dealt (s.first - 1) xs) (put_groups s.count (s.count + 1) s.first (s.first - 1) ((s.first - 1) % c.len.result) s.groups.items c.index_mut-group.result.now (sym (add-one s.count)) (omega (arith, room, c.requires)) (ap (λ w. (s.first - 1) % w) (c.len.ensures ∙ s.groups.ok.0)) c.index_mut-group.ensures.value c.self.invariant
    c.push_reserved.new.self c.args.item c.push_reserved.ensures.items c.push_reserved.ensures.capacity).1
    ∙ ap (λ (d : Dealt g.row.I.Denot). dealt (d.room - 1) (c.args.item ∷ d.items)) c.self.view_is
