use Rattle.sims_one.specs.Asked.{asked}
use Rattle.sims_one.specs.Fronts.{lists_in}
use Rattle.sims_one.proofs.PageLaws.{tables_whole}
use Rattle.sims_one.proofs.pages.find_tables.Goals as goal

pub returns-in-Ok : goal.returns-in-Ok
returns-in-Ok g c = tables_whole (asked c.args.request.now) (lists_in c.in-Ok.tables.items) c.in-Ok.ensures
