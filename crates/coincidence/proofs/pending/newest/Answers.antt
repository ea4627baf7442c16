use Rattle.std.proofs.Common.{◌≡◌, ◌-◌, length, get_or, ap, ◌∙◌, arith}
use Rattle.coincidence.proofs.PendingLaws.{newest_entry}
use Rattle.coincidence.proofs.pending.newest.Goals as goal

pub returns-then-count-gt0 : goal.returns-then-count-gt0
returns-then-count-gt0 c =
    let long : c.len-count.result ≡ length c.args.entries.now.items = omega (arith, c.len-count.ensures, c.args.entries.now.ok) in
    newest_entry c.args.entries.now.items c.index.result.now (omega (arith, long, c.if-count-gt0.true))
    (c.index.ensures ∙ ap (λ i. get_or c.args.entries.now.items (i - 1) c.index.result.now) long)
