use Rattle.std.proofs.Common.{◌≡◌, [], length, get_or, arith}
use Rattle.std.proofs.lemmas.List.{get_or_default}
use Rattle.coincidence.proofs.PlaceLaws.{among_at}
use Rattle.coincidence.proofs.StartLaws.{list_more, list_end, list_found}
use Rattle.coincidence.proofs.reads.due_in_list.Goals as goal

pub due_unless_seen-requires-clause-number : goal.due_unless_seen-requires-clause-number
due_unless_seen-requires-clause-number c = c.requires.within (get_or c.args.list.now c.loop-k.k (0, 0)).0 (get_or c.args.list.now c.loop-k.k (0, 0)).1 (among_at c.args.list.now c.loop-k.k (0, 0) (omega arith))

pub returns-in_default-clause-due : goal.returns-in_default-clause-due
returns-in_default-clause-due c =
    let i = (get_or c.args.list.now c.loop-k.k (0, 0)).0 in
    let within = c.requires.within i (get_or c.args.list.now c.loop-k.k (0, 0)).1 (among_at c.args.list.now c.loop-k.k (0, 0) (omega arith)) in
    list_found c.args.edges.now.graph c.args.begun.now.pairs.now c.args.node i c.args.list.now (get_or c.args.begun.now.pairs.now i ([], [])) c.due_unless_seen.result (λ e. c.in_default.not-Nothing e)
    within (get_or_default c.args.begun.now.pairs.now i ([], []) (get_or c.args.begun.now.pairs.now i ([], [])) within) (c.due_unless_seen.ensures.due ([], []))

pub loop-k-preserved : goal.loop-k-preserved
loop-k-preserved c =
    let i = (get_or c.args.list.now c.loop-k.k (0, 0)).0 in
    let within = c.requires.within i (get_or c.args.list.now c.loop-k.k (0, 0)).1 (among_at c.args.list.now c.loop-k.k (0, 0) (omega arith)) in
    record {
      quiet = list_more c.args.edges.now.graph c.args.begun.now.pairs.now c.args.node c.args.list.now c.loop-k.k (get_or c.args.begun.now.pairs.now i ([], [])) within (get_or_default c.args.begun.now.pairs.now i ([], []) (get_or c.args.begun.now.pairs.now i ([], [])) within) (c.in-Nothing.ensures.due ([], [])) c.loop-k.invariant.quiet;
      seen = c.due_unless_seen.ensures.seen;
    }

pub returns-clause-due : goal.returns-clause-due
returns-clause-due c =
    let end : c.loop-k.k ≡ length c.args.list.now = omega arith in
    list_end c.args.edges.now.graph c.args.begun.now.pairs.now c.args.node c.args.list.now c.loop-k.k end c.loop-k.invariant.quiet
