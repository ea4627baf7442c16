use Rattle.std.proofs.Common.{◌∙◌, Vec, Global, ℕ}
use Rattle.coincidence.proofs.UsesLaws.{room_step}
use Rattle.coincidence.proofs.uses.make_room.Goals as goal

pub loop-alloc-preserved : goal.loop-alloc-preserved
loop-alloc-preserved c = λ a. rw (c.in_ok-push.ensures.items) (room_step (λ (v : Vec (ℕ × ℕ) Global). v.items) c.loop-alloc.lists.items c.new.result c.new.ensures.items a ∙ c.loop-alloc.invariant a)
