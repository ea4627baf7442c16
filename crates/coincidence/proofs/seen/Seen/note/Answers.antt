use Rattle.std.proofs.Common.{◌∙◌, get_or, ap, refl, arith}
use Rattle.std.proofs.lemmas.List.{get_or_default}
use Rattle.coincidence.proofs.SeenLaws.{seen_noted}
use Rattle.coincidence.proofs.seen.Seen.note.Goals as goal

pub returns : goal.returns
returns c =
    seen_noted c.args.self.now c.make_room.new.masks.items _ c.args.node c.args.relation c.index_mut.result.now (omega (arith, c.if-relation-ge-RELATIONS_KEPT.false)) c.in-Ok.ensures.room
    (λ n. c.in-Ok.ensures.same n ∙ ap (λ z. get_or z n 0) c.self.view_is)
    (c.index_mut.ensures.value ∙ get_or_default c.make_room.new.masks.items c.args.node c.index_mut.result.now 0 c.in-Ok.ensures.room) refl
