use Rattle.std.proofs.Common.{◌∙◌, arith}
use Rattle.std.proofs.lemmas.List.Elements.{AllWithin-more_set}
use Rattle.sims_one.proofs.PartLaws.{map_kept}
use Rattle.sims_one.proofs.runs.run_in_order.Goals as goal

pub returns-in_err-run-clause-tasks : goal.returns-in_err-run-clause-tasks
returns-in_err-run-clause-tasks g c = let kind = g.P.Part in map_kept kind.task c.loop-i.parts c.loop-i.i c.index-parts-i.result c.run.new.self c.run.ensures.task ∙ c.loop-i.invariant.0

pub loop-i-preserved : goal.loop-i-preserved
loop-i-preserved g c =
    let kind = g.P.Part in (
      map_kept kind.task c.loop-i.parts c.loop-i.i c.index-parts-i.result c.run.new.self c.run.ensures.task ∙ c.loop-i.invariant.0,
      AllWithin-more_set c.loop-i.parts c.loop-i.i c.run.new.self (omega arith) kind.is_done c.loop-i.invariant.1 c.in_ok-run.ensures.done,
    )
