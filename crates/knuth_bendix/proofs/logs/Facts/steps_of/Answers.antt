use Rattle.std.proofs.Common.{List, slice_index_or, sym, subst, subst₂, take, arith}
use Rattle.std.proofs.lemmas.List.{take_all}
use Rattle.std.proofs.lemmas.Option.{slice_get-get_or}
use Rattle.chains.specs.Derivations.{all_of}
use Rattle.chains.specs.declared.steps.ChainStep.{ChainStep}
use Rattle.rewriting.specs.declared.traces.Applied.{Applied}
use Rattle.knuth_bendix.specs.Logs.{AreFor}
use Rattle.knuth_bendix.proofs.LogLaws.{applied_within, for_leads, for_more, take_next}
use Rattle.knuth_bendix.proofs.logs.Facts.steps_of.Goals as goal

pub step_of-requires-clause-within : goal.step_of-requires-clause-within
step_of-requires-clause-within c =
    let none : Applied = record { place = 0; rule = 0 } in
    applied_within c.args.rules.now c.args.trace.now c.requires.lead.0 c.requires.lead.1 c.requires.lead.2 c.loop-at.at-index (slice_index_or c.args.trace.now c.loop-at.at-index none)
    (slice_get-get_or c.args.trace.now c.loop-at.at-index none (omega arith))

pub loop-at-preserved : goal.loop-at-preserved
loop-at-preserved c =
    let none : Applied = record { place = 0; rule = 0 } in
    let next : Applied = slice_index_or c.args.trace.now c.loop-at.at-index none in
    let relations = (all_of c.args.self.now.derivations).relations in
    subst₂ (λ (t : List Applied) (s : List ChainStep). AreFor c.args.rules.now relations t s)
    (sym (take_next c.args.trace.now c.loop-at.at-index next (slice_get-get_or c.args.trace.now c.loop-at.at-index none (omega arith)))) (sym c.in_ok-push.ensures.items)
    (for_more c.args.rules.now relations (take c.loop-at.at-index c.args.trace.now) c.loop-at.steps.items next c.step_of.result c.loop-at.invariant c.step_of.ensures)

pub returns : goal.returns
returns c =
    let relations = (all_of c.args.self.now.derivations).relations in
    λ u v leads.
    for_leads c.args.rules.now (all_of c.args.self.now.derivations) c.args.trace.now c.loop-at.steps.items u v
    (subst (λ (t : List Applied). AreFor c.args.rules.now relations t c.loop-at.steps.items) (take_all c.loop-at.at-index c.args.trace.now (omega arith)) c.loop-at.invariant) leads
