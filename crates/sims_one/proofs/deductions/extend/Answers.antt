use Rattle.std.proofs.Common.{◌∙◌, false, Bool, Some, None, ap, get_or, set, subst, sym}
use Rattle.sims_one.specs.Known.{Keeps}
use Rattle.sims_one.proofs.EdgeLaws.{kept_on, extended, extended_known, on_ok}
use Rattle.sims_one.proofs.TrailLaws.{grows_one, grows_on}
use Rattle.sims_one.proofs.deductions.extend.Goals as goal

pub returns-in-Some-clause-extends : goal.returns-in-Some-clause-extends
returns-in-Some-clause-extends c =
    extended_known c.args.presentation.now.presentation c.args.known.now c.args.place c.args.target c.max-known.result c.max-known.ensures c.in-Some.other
    (λ u has. has c.args.place c.in-Some.other (sym c.in-Some.ensures.target))

pub returns-then-not-branch-clause-extends : goal.returns-then-not-branch-clause-extends
returns-then-not-branch-clause-extends c =
    let p = c.args.presentation.now.presentation in
    let targets = c.in_ok-learn.ensures.targets ∙ ap (λ z. set c.args.known.now.targets z (Some c.args.target)) c.at.ensures.place in
    extended p c.args.known.now c.args.place c.args.target c.max-known.result c.max-known.ensures c.learn.new.self c.read_new_node.new.known false
    c.in_ok-learn.ensures.nodes targets (subst (λ (b : Bool). Keeps p c.learn.new.self c.read_new_node.new.known b) c.if-not-branch.true c.in_ok-read_new_node.ensures.keeps)

pub returns-clause-extends : goal.returns-clause-extends
returns-clause-extends c =
    let p = c.args.presentation.now.presentation in
    let targets = c.in_ok-learn.ensures.targets ∙ ap (λ z. set c.args.known.now.targets z (Some c.args.target)) c.at.ensures.place in
    let node = subst (λ (b : Bool). Keeps p c.learn.new.self c.read_new_node.new.known b) c.if-not-branch.false c.in_ok-read_new_node.ensures.keeps in
    on_ok c.read_edges.result _ _ c.read_edges.ensures.keeps
    (λ b kept. extended p c.args.known.now c.args.place c.args.target c.max-known.result c.max-known.ensures c.learn.new.self c.read_edges.new.known b
    c.in_ok-learn.ensures.nodes targets (kept_on p c.learn.new.self c.read_new_node.new.known c.read_edges.new.known b node kept))

pub returns-then-not-branch-clause-grows : goal.returns-then-not-branch-clause-grows
returns-then-not-branch-clause-grows c =
    let fresh = ap (λ z. get_or c.args.known.now.targets z None) c.at.ensures.place ∙ sym c.in_default.ensures.target in
    let learned = grows_one c.args.known.now c.learn.new.self c.at.result c.args.target fresh c.in_ok-learn.ensures.targets c.in_ok-learn.ensures.trail in
    grows_on c.args.known.now c.learn.new.self c.read_new_node.new.known learned c.in_ok-read_new_node.ensures.keeps.grows

pub returns-clause-grows : goal.returns-clause-grows
returns-clause-grows c =
    let fresh = ap (λ z. get_or c.args.known.now.targets z None) c.at.ensures.place ∙ sym c.in_default.ensures.target in
    let learned = grows_one c.args.known.now c.learn.new.self c.at.result c.args.target fresh c.in_ok-learn.ensures.targets c.in_ok-learn.ensures.trail in
    let node = grows_on c.args.known.now c.learn.new.self c.read_new_node.new.known learned c.in_ok-read_new_node.ensures.keeps.grows in
    on_ok c.read_edges.result _ _ c.read_edges.ensures.keeps (λ b kept. grows_on c.args.known.now c.read_new_node.new.known c.read_edges.new.known node kept.grows)
