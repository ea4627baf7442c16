use Rattle.std.proofs.Common.{vec_len, vec_capacity}
use Rattle.sims_one.proofs.PartLaws.{Dealing}
use Rattle.sims_one.proofs.runs.deal.Given as goal

abbrev pub invariant-loop-part : goal.invariant-loop-part
invariant-loop-part g l = Dealing l.fn.parts.items (vec_capacity l.fn.parts) l.parts l.groups

abbrev pub decreases-loop-part : goal.decreases-loop-part
decreases-loop-part g l = vec_len l.parts
