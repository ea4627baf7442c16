use Rattle.std.proofs.Common.{◌≡◌, ◌<◌, ◌∙◌, ap, arith, length, get_or, min}
use Rattle.coincidence.proofs.SeenLaws.{run_seen}
use Rattle.coincidence.proofs.seen.Seen.next_unseen.Goals as goal

pub returns : goal.returns
returns c = λ i from less.
    run_seen c.args.self.now c.args.node c.args.relation c.index.result.now i (omega arith) (omega (arith, c.if-len-node.false, c.len.ensures, ap length c.self.view_is))
    (c.index.ensures ∙ ap (λ z. get_or z c.args.node c.index.result.now) c.self.view_is) from (omega (arith, less, c.min.ensures)) (omega (arith, less, c.min.ensures, c.trailing_ones.ensures))
