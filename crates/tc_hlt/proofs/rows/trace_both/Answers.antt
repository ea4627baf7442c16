use Rattle.std.proofs.Common.{◌≡◌, ◌-◌, ◌⊎◌, length, take, Some, sym, ◌∙◌, subst}
use Rattle.theory.specs.Graph.{path}
use Rattle.coincidence.specs.Table.{IsLive}
use Rattle.tc_hlt.specs.Tracing.{AreSides, IsAlong, NoDrawing}
use Rattle.tc_hlt.proofs.GrowLaws.{both_grown, both_made, both_there, grown_live, leads_live, sides_kept, sides_turned}
use Rattle.tc_hlt.proofs.rows.trace_both.Goals as goal

pub meet-requires-clause-at : goal.meet-requires-clause-at
meet-requires-clause-at c =
    let here : path c.trace_front.new.table.graph c.args.node (take (length c.args.first.now - 1) c.args.first.now) ≡ Some c.in_ok-at.at = subst (λ n. path c.trace_front.new.table.graph c.args.node (take n c.args.first.now) ≡ Some c.in_ok-at.at) c.before_last.ensures c.in_ok-at.ensures.end in
    let there : path c.trace_front-2.new.table.graph c.args.node (take (length c.args.second.now - 1) c.args.second.now) ≡ Some c.in_ok-other.other = subst (λ n. path c.trace_front-2.new.table.graph c.args.node (take n c.args.second.now) ≡ Some c.in_ok-other.other) c.before_last-2.ensures c.in_ok-other.ensures.end in
    let at : path c.trace_front-2.new.table.graph c.args.node (take (length c.args.first.now - 1) c.args.first.now) ≡ Some c.in_ok-at.at = c.in_ok-other.ensures.grown.paths c.args.node c.in_ok-at.at (take (length c.args.first.now - 1) c.args.first.now) here in
    let live : IsLive c.trace_front-2.new.table c.args.node = grown_live (IsAlong (take c.before_last-2.result c.args.second.now)) NoDrawing c.trace_front.new.table c.trace_front-2.new.table c.args.node c.args.node c.trace_front.ensures.table c.trace_front-2.ensures.table c.in_ok-other.ensures.grown
    (grown_live (IsAlong (take c.before_last.result c.args.first.now)) NoDrawing c.args.table.now c.trace_front.new.table c.args.node c.args.node c.requires.table c.trace_front.ensures.table c.in_ok-at.ensures.grown c.requires.node) in
    leads_live c.trace_front-2.new.table c.args.node c.in_ok-at.at (take (length c.args.first.now - 1) c.args.first.now) c.trace_front-2.ensures.table live at

pub meet-requires-clause-end : goal.meet-requires-clause-end
meet-requires-clause-end c =
    let here : path c.trace_front.new.table.graph c.args.node (take (length c.args.first.now - 1) c.args.first.now) ≡ Some c.in_ok-at.at = subst (λ n. path c.trace_front.new.table.graph c.args.node (take n c.args.first.now) ≡ Some c.in_ok-at.at) c.before_last.ensures c.in_ok-at.ensures.end in
    let there : path c.trace_front-2.new.table.graph c.args.node (take (length c.args.second.now - 1) c.args.second.now) ≡ Some c.in_ok-other.other = subst (λ n. path c.trace_front-2.new.table.graph c.args.node (take n c.args.second.now) ≡ Some c.in_ok-other.other) c.before_last-2.ensures c.in_ok-other.ensures.end in
    let at : path c.trace_front-2.new.table.graph c.args.node (take (length c.args.first.now - 1) c.args.first.now) ≡ Some c.in_ok-at.at = c.in_ok-other.ensures.grown.paths c.args.node c.in_ok-at.at (take (length c.args.first.now - 1) c.args.first.now) here in
    let live : IsLive c.trace_front-2.new.table c.args.node = grown_live (IsAlong (take c.before_last-2.result c.args.second.now)) NoDrawing c.trace_front.new.table c.trace_front-2.new.table c.args.node c.args.node c.trace_front.ensures.table c.trace_front-2.ensures.table c.in_ok-other.ensures.grown
    (grown_live (IsAlong (take c.before_last.result c.args.first.now)) NoDrawing c.args.table.now c.trace_front.new.table c.args.node c.args.node c.requires.table c.trace_front.ensures.table c.in_ok-at.ensures.grown c.requires.node) in
    let end : path c.trace_front-2.new.table.graph c.args.node c.args.second.now ≡ Some c.in-Some.end = sym (c.end_of.ensures c.args.node there) ∙ c.in-Some.is in
    leads_live c.trace_front-2.new.table c.args.node c.in-Some.end c.args.second.now c.trace_front-2.ensures.table live end

pub finish-requires-clause-at : goal.finish-requires-clause-at
finish-requires-clause-at c =
    let here : path c.trace_front.new.table.graph c.args.node (take (length c.args.first.now - 1) c.args.first.now) ≡ Some c.in_ok-at.at = subst (λ n. path c.trace_front.new.table.graph c.args.node (take n c.args.first.now) ≡ Some c.in_ok-at.at) c.before_last.ensures c.in_ok-at.ensures.end in
    let there : path c.trace_front-2.new.table.graph c.args.node (take (length c.args.second.now - 1) c.args.second.now) ≡ Some c.in_ok-other.other = subst (λ n. path c.trace_front-2.new.table.graph c.args.node (take n c.args.second.now) ≡ Some c.in_ok-other.other) c.before_last-2.ensures c.in_ok-other.ensures.end in
    let at : path c.trace_front-2.new.table.graph c.args.node (take (length c.args.first.now - 1) c.args.first.now) ≡ Some c.in_ok-at.at = c.in_ok-other.ensures.grown.paths c.args.node c.in_ok-at.at (take (length c.args.first.now - 1) c.args.first.now) here in
    let live : IsLive c.trace_front-2.new.table c.args.node = grown_live (IsAlong (take c.before_last-2.result c.args.second.now)) NoDrawing c.trace_front.new.table c.trace_front-2.new.table c.args.node c.args.node c.trace_front.ensures.table c.trace_front-2.ensures.table c.in_ok-other.ensures.grown
    (grown_live (IsAlong (take c.before_last.result c.args.first.now)) NoDrawing c.args.table.now c.trace_front.new.table c.args.node c.args.node c.requires.table c.trace_front.ensures.table c.in_ok-at.ensures.grown c.requires.node) in
    leads_live c.trace_front-2.new.table c.args.node c.in_ok-at.at (take (length c.args.first.now - 1) c.args.first.now) c.trace_front-2.ensures.table live at

pub meet-requires-in-None-clause-at : goal.meet-requires-in-None-clause-at
meet-requires-in-None-clause-at c =
    let here : path c.trace_front.new.table.graph c.args.node (take (length c.args.first.now - 1) c.args.first.now) ≡ Some c.in_ok-at.at = subst (λ n. path c.trace_front.new.table.graph c.args.node (take n c.args.first.now) ≡ Some c.in_ok-at.at) c.before_last.ensures c.in_ok-at.ensures.end in
    let there : path c.trace_front-2.new.table.graph c.args.node (take (length c.args.second.now - 1) c.args.second.now) ≡ Some c.in_ok-other.other = subst (λ n. path c.trace_front-2.new.table.graph c.args.node (take n c.args.second.now) ≡ Some c.in_ok-other.other) c.before_last-2.ensures c.in_ok-other.ensures.end in
    let at : path c.trace_front-2.new.table.graph c.args.node (take (length c.args.first.now - 1) c.args.first.now) ≡ Some c.in_ok-at.at = c.in_ok-other.ensures.grown.paths c.args.node c.in_ok-at.at (take (length c.args.first.now - 1) c.args.first.now) here in
    let live : IsLive c.trace_front-2.new.table c.args.node = grown_live (IsAlong (take c.before_last-2.result c.args.second.now)) NoDrawing c.trace_front.new.table c.trace_front-2.new.table c.args.node c.args.node c.trace_front.ensures.table c.trace_front-2.ensures.table c.in_ok-other.ensures.grown
    (grown_live (IsAlong (take c.before_last.result c.args.first.now)) NoDrawing c.args.table.now c.trace_front.new.table c.args.node c.args.node c.requires.table c.trace_front.ensures.table c.in_ok-at.ensures.grown c.requires.node) in
    let made = c.in_ok-end-in-None.ensures.grown c.args.node at in
    let end : path c.finish.new.table.graph c.args.node c.args.first.now ≡ Some c.in_ok-end-in-None.end = c.in_ok-end-in-None.ensures.end c.args.node at in
    leads_live c.finish.new.table c.args.node c.in_ok-other.other (take (length c.args.second.now - 1) c.args.second.now) c.finish.ensures.table
    (grown_live (IsAlong c.args.first.now) NoDrawing c.trace_front-2.new.table c.finish.new.table c.args.node c.args.node c.trace_front-2.ensures.table c.finish.ensures.table made live)
    (made.paths c.args.node c.in_ok-other.other (take (length c.args.second.now - 1) c.args.second.now) there)

pub meet-requires-in-None-clause-end : goal.meet-requires-in-None-clause-end
meet-requires-in-None-clause-end c =
    let here : path c.trace_front.new.table.graph c.args.node (take (length c.args.first.now - 1) c.args.first.now) ≡ Some c.in_ok-at.at = subst (λ n. path c.trace_front.new.table.graph c.args.node (take n c.args.first.now) ≡ Some c.in_ok-at.at) c.before_last.ensures c.in_ok-at.ensures.end in
    let there : path c.trace_front-2.new.table.graph c.args.node (take (length c.args.second.now - 1) c.args.second.now) ≡ Some c.in_ok-other.other = subst (λ n. path c.trace_front-2.new.table.graph c.args.node (take n c.args.second.now) ≡ Some c.in_ok-other.other) c.before_last-2.ensures c.in_ok-other.ensures.end in
    let at : path c.trace_front-2.new.table.graph c.args.node (take (length c.args.first.now - 1) c.args.first.now) ≡ Some c.in_ok-at.at = c.in_ok-other.ensures.grown.paths c.args.node c.in_ok-at.at (take (length c.args.first.now - 1) c.args.first.now) here in
    let live : IsLive c.trace_front-2.new.table c.args.node = grown_live (IsAlong (take c.before_last-2.result c.args.second.now)) NoDrawing c.trace_front.new.table c.trace_front-2.new.table c.args.node c.args.node c.trace_front.ensures.table c.trace_front-2.ensures.table c.in_ok-other.ensures.grown
    (grown_live (IsAlong (take c.before_last.result c.args.first.now)) NoDrawing c.args.table.now c.trace_front.new.table c.args.node c.args.node c.requires.table c.trace_front.ensures.table c.in_ok-at.ensures.grown c.requires.node) in
    let made = c.in_ok-end-in-None.ensures.grown c.args.node at in
    let end : path c.finish.new.table.graph c.args.node c.args.first.now ≡ Some c.in_ok-end-in-None.end = c.in_ok-end-in-None.ensures.end c.args.node at in
    leads_live c.finish.new.table c.args.node c.in_ok-end-in-None.end c.args.first.now c.finish.ensures.table
    (grown_live (IsAlong c.args.first.now) NoDrawing c.trace_front-2.new.table c.finish.new.table c.args.node c.args.node c.trace_front-2.ensures.table c.finish.ensures.table made live) end

pub returns-in_ok-met-in-Some-clause-grown : goal.returns-in_ok-met-in-Some-clause-grown
returns-in_ok-met-in-Some-clause-grown c =
    let here : path c.trace_front.new.table.graph c.args.node (take (length c.args.first.now - 1) c.args.first.now) ≡ Some c.in_ok-at.at = subst (λ n. path c.trace_front.new.table.graph c.args.node (take n c.args.first.now) ≡ Some c.in_ok-at.at) c.before_last.ensures c.in_ok-at.ensures.end in
    let there : path c.trace_front-2.new.table.graph c.args.node (take (length c.args.second.now - 1) c.args.second.now) ≡ Some c.in_ok-other.other = subst (λ n. path c.trace_front-2.new.table.graph c.args.node (take n c.args.second.now) ≡ Some c.in_ok-other.other) c.before_last-2.ensures c.in_ok-other.ensures.end in
    let at : path c.trace_front-2.new.table.graph c.args.node (take (length c.args.first.now - 1) c.args.first.now) ≡ Some c.in_ok-at.at = c.in_ok-other.ensures.grown.paths c.args.node c.in_ok-at.at (take (length c.args.first.now - 1) c.args.first.now) here in
    let live : IsLive c.trace_front-2.new.table c.args.node = grown_live (IsAlong (take c.before_last-2.result c.args.second.now)) NoDrawing c.trace_front.new.table c.trace_front-2.new.table c.args.node c.args.node c.trace_front.ensures.table c.trace_front-2.ensures.table c.in_ok-other.ensures.grown
    (grown_live (IsAlong (take c.before_last.result c.args.first.now)) NoDrawing c.args.table.now c.trace_front.new.table c.args.node c.args.node c.requires.table c.trace_front.ensures.table c.in_ok-at.ensures.grown c.requires.node) in
    let end : path c.trace_front-2.new.table.graph c.args.node c.args.second.now ≡ Some c.in-Some.end = sym (c.end_of.ensures c.args.node there) ∙ c.in-Some.is in
    both_grown c.before_last.result c.before_last-2.result c.args.first.now c.args.second.now (λ x u v. ⊥ ⊎ AreSides c.args.second.now c.args.first.now x u v) c.args.table.now c.trace_front.new.table c.trace_front-2.new.table c.meet.new.table c.args.node (sides_turned c.args.first.now c.args.second.now)
    c.in_ok-at.ensures.grown c.in_ok-other.ensures.grown
    (both_there c.args.first.now c.args.second.now c.trace_front-2.new.table c.meet.new.table c.args.node c.in-Some.end c.in_ok-other.ensures.grown.failed end (c.in_ok-met-in-Some.ensures.grown c.args.node c.args.second.now at end))

pub returns-in_ok-met-in-None-clause-grown : goal.returns-in_ok-met-in-None-clause-grown
returns-in_ok-met-in-None-clause-grown c =
    let here : path c.trace_front.new.table.graph c.args.node (take (length c.args.first.now - 1) c.args.first.now) ≡ Some c.in_ok-at.at = subst (λ n. path c.trace_front.new.table.graph c.args.node (take n c.args.first.now) ≡ Some c.in_ok-at.at) c.before_last.ensures c.in_ok-at.ensures.end in
    let there : path c.trace_front-2.new.table.graph c.args.node (take (length c.args.second.now - 1) c.args.second.now) ≡ Some c.in_ok-other.other = subst (λ n. path c.trace_front-2.new.table.graph c.args.node (take n c.args.second.now) ≡ Some c.in_ok-other.other) c.before_last-2.ensures c.in_ok-other.ensures.end in
    let at : path c.trace_front-2.new.table.graph c.args.node (take (length c.args.first.now - 1) c.args.first.now) ≡ Some c.in_ok-at.at = c.in_ok-other.ensures.grown.paths c.args.node c.in_ok-at.at (take (length c.args.first.now - 1) c.args.first.now) here in
    let live : IsLive c.trace_front-2.new.table c.args.node = grown_live (IsAlong (take c.before_last-2.result c.args.second.now)) NoDrawing c.trace_front.new.table c.trace_front-2.new.table c.args.node c.args.node c.trace_front.ensures.table c.trace_front-2.ensures.table c.in_ok-other.ensures.grown
    (grown_live (IsAlong (take c.before_last.result c.args.first.now)) NoDrawing c.args.table.now c.trace_front.new.table c.args.node c.args.node c.requires.table c.trace_front.ensures.table c.in_ok-at.ensures.grown c.requires.node) in
    let made = c.in_ok-end-in-None.ensures.grown c.args.node at in
    let end : path c.finish.new.table.graph c.args.node c.args.first.now ≡ Some c.in_ok-end-in-None.end = c.in_ok-end-in-None.ensures.end c.args.node at in
    both_grown c.before_last.result c.before_last-2.result c.args.first.now c.args.second.now (λ x u v. ⊥ ⊎ AreSides c.args.first.now c.args.second.now x u v) c.args.table.now c.trace_front.new.table c.trace_front-2.new.table c.meet-in-None.new.table c.args.node (sides_kept c.args.first.now c.args.second.now)
    c.in_ok-at.ensures.grown c.in_ok-other.ensures.grown
    (both_made c.args.first.now c.args.second.now c.trace_front-2.new.table c.finish.new.table c.meet-in-None.new.table c.args.node made
    (c.in_ok-met-in-None.ensures.grown c.args.node c.args.first.now (made.paths c.args.node c.in_ok-other.other (take (length c.args.second.now - 1) c.args.second.now) there) end))
