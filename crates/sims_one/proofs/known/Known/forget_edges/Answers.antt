use Rattle.std.proofs.Common.{◌∙◌, ◌<◌, ◌≤◌, ℕ, List, Option, length, take, drop, ap, sym, arith}
use Rattle.std.proofs.lemmas.List.{take_all}
use Rattle.sims_one.specs.declared.trail.Edge.{Edge}
use Rattle.sims_one.specs.Edges.{without}
use Rattle.sims_one.proofs.TrailLaws.{without_last, take_last, nothing_behind}
use Rattle.sims_one.proofs.known.Known.forget_edges.Goals as goal

pub loop-self-preserved : goal.loop-self-preserved
loop-self-preserved c =
    let old = c.loop-self.self in
    let new = c.forget_edge.new.self in
    let rest = c.pop.new.self in
    let n = c.args.count in
    let less : n < length old.trail = omega (arith, c.loop-self-test.true, c.len.ensures) in
    record {
      nodes = c.forget_edge.ensures.nodes ∙ c.loop-self.invariant.nodes;
      targets = ap (λ (es : List Edge). without new.targets (drop n es)) c.forget_edge.ensures.trail
          ∙ ap (λ (ts : List (Option ℕ)). without ts (drop n rest)) c.forget_edge.ensures.targets
          ∙ sym (without_last old.targets rest old.trail c.in-Some.edge n c.in-Some.ensures.trail less) ∙ c.loop-self.invariant.targets;
      trail = ap (take n) c.forget_edge.ensures.trail ∙ sym (take_last rest old.trail c.in-Some.edge n c.in-Some.ensures.trail less) ∙ c.loop-self.invariant.trail;
    }

pub returns-clause-targets : goal.returns-clause-targets
returns-clause-targets c =
    let all : length c.loop-self.self.trail ≤ c.args.count = omega (arith, c.loop-self-test.false, c.len.ensures) in
    nothing_behind c.loop-self.self.targets c.loop-self.self.trail c.args.count all ∙ c.loop-self.invariant.targets

pub returns-clause-trail : goal.returns-clause-trail
returns-clause-trail c =
    let all : length c.loop-self.self.trail ≤ c.args.count = omega (arith, c.loop-self-test.false, c.len.ensures) in
    sym (take_all c.args.count c.loop-self.self.trail all) ∙ c.loop-self.invariant.trail
