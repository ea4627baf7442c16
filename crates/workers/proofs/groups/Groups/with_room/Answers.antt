use Rattle.std.proofs.Common.{◌≤◌, length, arith}
use Rattle.std.proofs.lemmas.Grind.{common_steps}
use Rattle.workers.proofs.DealtLaws.{no_groups}
use Rattle.workers.proofs.groups.Groups.with_room.Goals as goal

pub invariant_of-result : goal.invariant_of-result
invariant_of-result g c =
    let e = c.in_ok-groups.ensures in
    let m = c.min.ensures in
    let items = c.requires.0 in
    let workers = c.requires.1 in
    let some : 1 ≤ length c.in_ok-groups.groups.items = rw (e.count, m) (grind (arith, common_steps)) in
    no_groups c.args.count c.in_ok-groups.groups.items c.ranges.count.fits some e.empty e.room
