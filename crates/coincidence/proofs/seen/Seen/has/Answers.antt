use Rattle.std.proofs.Common.{◌∙◌, ap, arith, length, get_or}
use Rattle.coincidence.proofs.SeenLaws.{bit_seen}
use Rattle.coincidence.proofs.seen.Seen.has.Goals as goal

pub returns : goal.returns
returns c = bit_seen c.args.self.now c.args.node c.args.relation c.index.result.now (omega (arith, c.if-relation-ge-RELATIONS_KEPT.false))
    (omega (arith, c.if-len-node.false, c.len.ensures, ap length c.self.view_is)) (c.index.ensures ∙ ap (λ z. get_or z c.args.node c.index.result.now) c.self.view_is)
