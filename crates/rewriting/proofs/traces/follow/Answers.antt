use Rattle.std.proofs.Common.{List, refl, sym, subst, append-nil, arith}
use Rattle.rewriting.proofs.Standing.{rule_read}
use Rattle.rewriting.proofs.ReductionLaws.{letter_follows, rule_ends, rule_follows, rule_some, rule_within}
use Rattle.rewriting.proofs.TraceLaws.{traced_back, traced_push}
use Rattle.rewriting.specs.Traces.{LeadBy, word_so_far}
use Rattle.rewriting.specs.declared.traces.Applied.{Applied}
use Rattle.rewriting.proofs.traces.follow.Goals as goal

pub rule-requires : goal.rule-requires
rule-requires c = (rule_ends c.len-count.ensures.falling c.requires.2 c.in-Some.rule c.in-Some.is).within

pub go_back-requires-clause-some : goal.go_back-requires-clause-some
go_back-requires-clause-some c = rule_some c.len-count.ensures.falling c.requires.2 c.in-Some.rule c.in-Some.is c.rule.result.now c.rule.ensures.rule

pub go_back-requires-clause-within : goal.go_back-requires-clause-within
go_back-requires-clause-within c = rule_within c.len-count.ensures.falling c.requires.2 c.in-Some.rule c.in-Some.is c.rule.result.now c.rule.ensures.rule

pub returns-in_ok-push-in-None-clause-reducing : goal.returns-in_ok-push-in-None-clause-reducing
returns-in_ok-push-in-None-clause-reducing c = λ states word at.
    letter_follows c.len-count.ensures.falling at c.push.new.reduction.done.items c.push.new.reduction.rest.items c.push.new.reduction.states.items c.in-None.is
    c.in_ok-push-in-None.ensures.done c.in_ok-push-in-None.ensures.states c.in_ok-push-in-None.ensures.rest

pub returns-in_ok-go_back-in-Some-clause-reducing : goal.returns-in_ok-go_back-in-Some-clause-reducing
returns-in_ok-go_back-in-Some-clause-reducing c = λ states word at.
    rule_follows c.len-count.ensures.falling at c.in-Some.rule c.in-Some.is c.rule.result.now c.rule.ensures.rule
    c.go_back.new.reduction.done.items c.go_back.new.reduction.rest.items c.go_back.new.reduction.states.items
    c.in_ok-go_back-in-Some.ensures.done c.in_ok-go_back-in-Some.ensures.states c.in_ok-go_back-in-Some.ensures.rest

pub returns-in_ok-go_back-in-Some-clause-traced : goal.returns-in_ok-go_back-in-Some-clause-traced
returns-in_ok-go_back-in-Some-clause-traced c = λ u trace leads.
    let ends = rule_ends c.len-count.ensures.falling c.requires.2 c.in-Some.rule c.in-Some.is in
    traced_back c.args.rules.now u trace c.args.reduction.now.done.items c.args.reduction.now.rest.items c.args.letter leads c.in-Some.rule c.rule.result.now ends
    (rule_read c.args.rules.now c.args.rules.now c.in-Some.rule c.rule.result.now refl ends.within c.rule.ensures.rule)
    (rule_some c.len-count.ensures.falling c.requires.2 c.in-Some.rule c.in-Some.is c.rule.result.now c.rule.ensures.rule)
    c.go_back.new.reduction.done.items c.go_back.new.reduction.rest.items _ c.len-place.result c.in_ok-go_back-in-Some.ensures.done c.in_ok-go_back-in-Some.ensures.rest
    (omega (arith, c.len-place.ensures)) refl

pub returns-in_ok-push-in-None-clause-traced : goal.returns-in_ok-push-in-None-clause-traced
returns-in_ok-push-in-None-clause-traced c = λ u trace leads.
    subst (λ (t : List Applied). LeadBy c.args.rules.now u t (word_so_far c.push.new.reduction)) (sym (append-nil trace))
    (traced_push c.args.rules.now u trace c.args.reduction.now.done.items c.args.reduction.now.rest.items c.args.letter leads
    c.push.new.reduction.done.items c.push.new.reduction.rest.items c.in_ok-push-in-None.ensures.done c.in_ok-push-in-None.ensures.rest)
