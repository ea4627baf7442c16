use Rattle.std.proofs.Common.{◌∙◌}
use Rattle.sims_one.specs.Asked.{asked}
use Rattle.sims_one.specs.Fronts.{lists_in}
use Rattle.sims_one.proofs.CutLaws.{open_batch, joined_batch, on_done}
use Rattle.sims_one.proofs.batches.Sweep.run_batch.Goals as goal

pub parts_of-requires-clause-opened : goal.parts_of-requires-clause-opened
parts_of-requires-clause-opened g c =
    open_batch (asked c.args.request.now) c.args.self.now.fronts.items c.as_slice.result.now c.in_ok-rest.rest.items c.min-most.result (c.as_slice.ensures.value ∙ c.in_ok-rest.ensures.items) c.requires.joined.opened

pub returns-clause-joined : goal.returns-clause-joined
returns-clause-joined g c =
    on_done c.add_tables.result _ _ c.add_tables.ensures
    (λ added. joined_batch (asked c.args.request.now) c.args.self.now.fronts.items c.as_slice.result.now c.in_ok-rest.rest.items c.min-most.result (c.as_slice.ensures.value ∙ c.in_ok-rest.ensures.items)
    (lists_in c.args.self.now.tables.items) (lists_in c.add_tables.new.tables.items) c.run_parts.new.parts.items c.in_ok-rest.ensures.tail c.requires.joined
    (c.in_ok-run_parts.ensures.tasks ∙ c.in_ok-parts.ensures) c.in_ok-run_parts.ensures.done added)
