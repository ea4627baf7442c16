use Rattle.std.proofs.Common.{◌∙◌, ap, arith, length, get_or}
use Rattle.coincidence.proofs.SeenLaws.{bits_unseen}
use Rattle.coincidence.proofs.seen.Seen.unseen.Goals as goal

pub returns : goal.returns
returns c = bits_unseen c.args.self.now c.args.node c.args.mask c.index.result.now c.without.result
    (omega (arith, c.if-len-node.false, c.len.ensures, ap length c.self.view_is)) (c.index.ensures ∙ ap (λ z. get_or z c.args.node c.index.result.now) c.self.view_is) c.without.ensures
