use Rattle.std.proofs.Common.{◌∙◌, arith, subst, All}
use Rattle.congruence_closure.specs.Maps.{AreIn}
use Rattle.congruence_closure.proofs.ClosingLaws.{start_closing, closed_classes}
use Rattle.congruence_closure.proofs.closing.least_classes.Goals as goal

pub returns : goal.returns
returns g c =
    let m = g.M.Maps.maps c.args.maps.now in
    let start = start_closing m c.args.pairs.items c.in_ok-classes.classes.items (λ i h. c.in_ok-classes.ensures.own i (omega (arith, h, c.in_ok-classes.ensures.count))) in
    closed_classes m c.args.pairs.items c.requires.maps (subst (λ n. All (AreIn n) c.args.pairs.items) c.requires.bound c.requires.pairs)
    c.close.new.parents.items c.flatten.new.parents.items (c.in_ok-close.ensures.closed c.args.pairs.items start)
    (c.flatten.ensures.count ∙ c.in_ok-close.ensures.count) c.flatten.ensures.roots
