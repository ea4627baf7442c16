use Rattle.std.proofs.Common.{◌≡◌, map}
use Rattle.std.specs.List.{AllWithin}
use Rattle.sims_one.proofs.runs.run_in_order.Given as goal

abbrev pub invariant-loop-i : goal.invariant-loop-i
invariant-loop-i g l =
    let kind = g.P.Part in
    (map kind.task l.parts ≡ map kind.task l.fn.parts) × AllWithin kind.is_done l.parts 0 l.i
