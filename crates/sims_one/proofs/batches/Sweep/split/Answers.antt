use Rattle.std.proofs.Common.{subst}
use Rattle.sims_one.specs.Asked.{asked}
use Rattle.sims_one.specs.Fronts.{lists_in, AreLonger}
use Rattle.sims_one.proofs.CutLaws.{joined_longer}
use Rattle.sims_one.proofs.batches.Sweep.split.Goals as goal

pub returns-then-len-gt1 : goal.returns-then-len-gt1
returns-then-len-gt1 c =
    joined_longer (asked c.args.request.now) (lists_in c.args.self.now.fronts.items) (lists_in c.in_ok-longer.longer.items) (lists_in c.args.self.now.tables.items) c.requires.joined
    (subst (λ ts. AreLonger (asked c.args.request.now) (lists_in ts) (lists_in c.in_ok-longer.longer.items)) c.as_slice.ensures.value c.in_ok-longer.ensures)
