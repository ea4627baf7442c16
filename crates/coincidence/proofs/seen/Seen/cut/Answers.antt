use Rattle.std.proofs.Common.{◌∙◌, ap, take}
use Rattle.coincidence.proofs.SeenLaws.{seen_cut}
use Rattle.coincidence.proofs.seen.Seen.cut.Goals as goal

pub returns : goal.returns
returns c = seen_cut c.args.self.now c.truncate.new.self.items c.args.node (c.truncate.ensures.items ∙ ap (take c.args.node) c.self.view_is)
