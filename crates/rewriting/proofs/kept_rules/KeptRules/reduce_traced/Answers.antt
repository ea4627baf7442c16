use Rattle.std.proofs.Common.{rules, List, ◌++◌, reverse, sym, ◌∙◌, subst, arith}
use Rattle.std.proofs.lemmas.List.{nil_from_length}
use Rattle.theory.specs.Word.{Word}
use Rattle.rewriting.specs.Traces.{LeadBy, word_so_far}
use Rattle.rewriting.specs.declared.traces.Applied.{Applied}
use Rattle.rewriting.proofs.TraceLaws.{traced_end, traced_start}
use Rattle.rewriting.proofs.ReductionLaws.{read_end}
use Rattle.rewriting.proofs.LookupLaws.{reducing_by_start}
use Rattle.rewriting.proofs.kept_rules.KeptRules.reduce_traced.Goals as goal

pub loop-letter-init : goal.loop-letter-init
loop-letter-init c = record {
  rewriting =
      reducing_by_start c.self.inside.rules c.len-count.ensures.falling c.self.inside.lookup c.self.invariant c.args.word.now
      c.begin.new.reduction.done.items c.begin.new.reduction.rest.items c.begin.new.reduction.states.items c.in_ok-begin.ensures.done c.in_ok-begin.ensures.rest c.in_ok-begin.ensures.states;
  traced = traced_start c.self.inside.rules c.args.word.now c.new-trace.result.items c.begin.new.reduction.done.items c.begin.new.reduction.rest.items c.new-trace.ensures.items c.in_ok-begin.ensures.done c.in_ok-begin.ensures.rest;
}

pub returns-clause-reached : goal.returns-clause-reached
returns-clause-reached c =
    (read_end c.self.view_is c.loop-letter.reduction c.loop-letter.invariant.rewriting.reducing (omega (arith, c.in_default.ensures.cases.0, c.loop-letter.reduction.rest.ok))
    (c.in_ok-reduced.ensures ∙ c.as_slice.ensures.value)).0

pub returns-clause-reduced : goal.returns-clause-reduced
returns-clause-reduced c =
    (read_end c.self.view_is c.loop-letter.reduction c.loop-letter.invariant.rewriting.reducing (omega (arith, c.in_default.ensures.cases.0, c.loop-letter.reduction.rest.ok))
    (c.in_ok-reduced.ensures ∙ c.as_slice.ensures.value)).1

pub returns-clause-traced : goal.returns-clause-traced
returns-clause-traced c =
    let ended = traced_end c.self.inside.rules c.args.word.now c.loop-letter.trace.items c.loop-letter.reduction.done.items c.loop-letter.reduction.rest.items
    (nil_from_length c.loop-letter.reduction.rest.items (omega (arith, c.in_default.ensures.cases.0, c.loop-letter.reduction.rest.ok))) c.loop-letter.invariant.traced in
    let told = subst (λ (rs : List (Word × Word)). LeadBy rs c.args.word.now c.loop-letter.trace.items c.loop-letter.reduction.done.items) c.self.view_is ended in
    subst (λ u. LeadBy c.args.self.now c.args.word.now c.loop-letter.trace.items u) (sym (c.in_ok-reduced.ensures ∙ c.as_slice.ensures.value)) told

pub loop-letter-preserved : goal.loop-letter-preserved
loop-letter-preserved c = record {
  rewriting = search rules;
  traced =
      subst (λ (t : List Applied). LeadBy c.self.inside.rules c.args.word.now t (word_so_far c.read_letter.new.reduction)) (sym c.in_ok-note.ensures)
      (c.in_ok-applied.ensures.traced c.args.word.now c.loop-letter.trace.items
      (subst (λ (rest : Word). LeadBy c.self.inside.rules c.args.word.now c.loop-letter.trace.items (c.loop-letter.reduction.done.items ++ reverse rest))
      c.in-Some.ensures.items c.loop-letter.invariant.traced));
}
