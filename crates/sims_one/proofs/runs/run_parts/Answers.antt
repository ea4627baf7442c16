use Rattle.std.proofs.Common.{map, ap, ◌∙◌}
use Rattle.sims_one.proofs.PartLaws.{tasks_kept, all_done}
use Rattle.sims_one.proofs.runs.run_parts.Goals as goal

pub returns-then-gather-clause-tasks : goal.returns-then-gather-clause-tasks
returns-then-gather-clause-tasks g c =
    let kind = g.P.Part in
    ap (map kind.task) c.gather.ensures.parts ∙ tasks_kept kind c.deal.new.groups.items c.run.new.self.items c.run.ensures.made ∙ ap (map kind.task) c.deal.ensures.groups

pub returns-then-gather-clause-done : goal.returns-then-gather-clause-done
returns-then-gather-clause-done g c = rw c.gather.ensures.parts (all_done g.P.Part c.deal.new.groups.items c.run.new.self.items c.run.ensures.made (c.gather.ensures.ran c.if-gather.true))

pub returns-clause-tasks : goal.returns-clause-tasks
returns-clause-tasks g c =
    let kind = g.P.Part in
    ap (map kind.task) c.gather.ensures.parts ∙ tasks_kept kind c.deal.new.groups.items c.run.new.self.items c.run.ensures.made ∙ ap (map kind.task) c.deal.ensures.groups
