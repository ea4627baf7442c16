use Rattle.std.proofs.Common.{◌≡◌, List, length, subst, arith}
use Rattle.std.specs.Prelude.{IfNone}
use Rattle.sims_one.specs.declared.trail.Edge.{Edge}
use Rattle.sims_one.proofs.TrailLaws.{popped_none}
use Rattle.sims_one.proofs.trail.Trail.pop.Goals as goal

pub returns-clause-none : goal.returns-clause-none
returns-clause-none c =
    let edges = c.self.inside.edges in
    subst (λ (es : List Edge). IfNone c.pop.result (length es ≡ 0)) c.self.view_is
    (popped_none c.pop.result edges.items c.pop.new.self.items edges.len c.pop.ensures.items c.pop.ensures.rest (omega (arith, edges.ok.0)))
