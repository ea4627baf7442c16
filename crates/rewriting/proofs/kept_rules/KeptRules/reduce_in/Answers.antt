use Rattle.std.proofs.Common.{◌∙◌, arith}
use Rattle.std.proofs.lemmas.Result.{IfOk-weaker}
use Rattle.rewriting.proofs.ReductionLaws.{read_end}
use Rattle.rewriting.proofs.LookupLaws.{reducing_by_start}
use Rattle.rewriting.proofs.kept_rules.KeptRules.reduce_in.Goals as goal

pub loop-letter-init : goal.loop-letter-init
loop-letter-init c =
    reducing_by_start c.self.inside.rules c.len-count.ensures.falling c.self.inside.lookup c.self.invariant c.args.word.now
    c.begin.new.reduction.done.items c.begin.new.reduction.rest.items c.begin.new.reduction.states.items c.in_ok-begin.ensures.done c.in_ok-begin.ensures.rest c.in_ok-begin.ensures.states

pub returns-clause-reached : goal.returns-clause-reached
returns-clause-reached c =
    IfOk-weaker c.word_of.result _ _ (λ w e. (read_end c.self.view_is c.loop-letter.room c.loop-letter.invariant.reducing
    (omega (arith, c.in_default.ensures.cases.0, c.loop-letter.room.rest.ok)) (e ∙ c.as_slice.ensures.value)).0) c.word_of.ensures

pub returns-clause-reduced : goal.returns-clause-reduced
returns-clause-reduced c =
    IfOk-weaker c.word_of.result _ _ (λ w e. (read_end c.self.view_is c.loop-letter.room c.loop-letter.invariant.reducing
    (omega (arith, c.in_default.ensures.cases.0, c.loop-letter.room.rest.ok)) (e ∙ c.as_slice.ensures.value)).1) c.word_of.ensures
