use Rattle.std.proofs.Common.{◌∙◌, Vec, Global}
use Rattle.coincidence.specs.declared.groups.Group.{Group}
use Rattle.coincidence.proofs.UsesLaws.{letter_step}
use Rattle.coincidence.proofs.uses.letter_room.Goals as goal

pub loop-alloc-preserved : goal.loop-alloc-preserved
loop-alloc-preserved c = λ a. rw (c.in_ok-push.ensures.items) (letter_step (λ (v : Vec Group Global). v.items) c.loop-alloc.letters.items c.new.result c.new.ensures.items a ∙ c.loop-alloc.invariant a)
