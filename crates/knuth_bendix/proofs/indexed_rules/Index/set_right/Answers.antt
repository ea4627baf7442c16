use Rattle.std.proofs.Common.{refl, ap, set}
use Rattle.knuth_bendix.proofs.MarkLaws.{index_set}
use Rattle.knuth_bendix.proofs.indexed_rules.Index.set_right.Goals as goal

pub returns : goal.returns
returns c = λ rules is.
    index_set rules c.args.self.now _ c.args.place c.args.right.now is refl (ap (λ n. set c.args.self.now.rights.items c.args.place n) c.sign.ensures)
