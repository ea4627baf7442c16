use Rattle.std.proofs.Common.{subst}
use Rattle.congruence.specs.declared.engine.Engine.{Engine}
use Rattle.congruence.specs.Engines.{IsTaskFor, task_of}
use Rattle.congruence.proofs.EngineGraphs.{definitions_graph, rows_graph}
use Rattle.congruence.proofs.engine.Engine.classes.Goals as goal

pub by_cosets-requires : goal.by_cosets-requires
by_cosets-requires c =
    definitions_graph c.args.problem.now (record { congruence = c.in-Felsch.felsch.congruence; budget = c.in-Felsch.felsch.budget }) c.in-Felsch.felsch.made
    c.in_ok-graph-in-Felsch.field-0 c.in-Felsch.felsch.graph c.alphabet.ensures.posed (subst (λ (e : Engine). IsTaskFor c.args.problem.now (task_of e)) c.in-Felsch.is c.requires.task)
    c.in_ok-graph-in-Felsch.ensures.standard c.in_ok-graph-in-Felsch.ensures.shows c.in_ok-graph-in-Felsch.ensures.graph c.in_ok-graph-in-Felsch.ensures.stage c.in_ok-graph-in-Felsch.ensures.complete

pub by_cosets-requires-in-Hlt : goal.by_cosets-requires-in-Hlt
by_cosets-requires-in-Hlt c =
    rows_graph c.args.problem.now (record { congruence = c.in-Hlt.hlt.congruence; budget = c.in-Hlt.hlt.budget }) c.in-Hlt.hlt.made
    c.in_ok-graph-in-Hlt.field-0 c.in-Hlt.hlt.graph c.alphabet.ensures.posed (subst (λ (e : Engine). IsTaskFor c.args.problem.now (task_of e)) c.in-Hlt.is c.requires.task)
    c.in_ok-graph-in-Hlt.ensures.standard c.in_ok-graph-in-Hlt.ensures.shows c.in_ok-graph-in-Hlt.ensures.graph c.in_ok-graph-in-Hlt.ensures.end
