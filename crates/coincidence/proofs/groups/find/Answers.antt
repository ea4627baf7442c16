use Rattle.std.proofs.Common.{◌<◌, ◌∙◌, length, ap, sym, arith}
use Rattle.std.proofs.lemmas.List.{get_or_read}
use Rattle.coincidence.specs.declared.groups.Group.{Group}
use Rattle.coincidence.proofs.groups.find.Goals as goal

pub returns-then-is_same : goal.returns-then-is_same
returns-then-is_same c =
    let less : c.loop-k.k < length c.args.groups.now.items = omega arith in
    (less, λ d. ap (λ (z : Group). z.kind) (sym (get_or_read c.args.groups.now.items c.loop-k.k c.index.result.now less c.index.ensures d)) ∙ c.is_same.ensures c.if-is_same.true)
