use Rattle.std.proofs.Common.{refl, ◌∙◌, arith}
use Rattle.std.proofs.lemmas.Result.{IfOk-weaker}
use Rattle.rewriting.specs.Tries.{words_of}
use Rattle.rewriting.proofs.StateLaws.{empty_longest}
use Rattle.rewriting.proofs.ReductionLaws.{read_end, reducing_start}
use Rattle.rewriting.proofs.index_automaton.IndexAutomaton.reduce_in.Goals as goal

pub loop-letter-init : goal.loop-letter-init
loop-letter-init c =
    let falling = c.len-count.ensures.falling in
    let states = words_of c.args.rules.now c.args.self.now.prefixes in
    reducing_start c.args.rules.now falling states (empty_longest c.args.rules.now falling states c.requires.states.are) c.args.word.now
    c.begin.new.reduction.done.items c.begin.new.reduction.rest.items c.begin.new.reduction.states.items c.in_ok-begin.ensures.done c.in_ok-begin.ensures.rest c.in_ok-begin.ensures.states

pub returns-clause-reached : goal.returns-clause-reached
returns-clause-reached c =
    IfOk-weaker c.word_of.result _ _ (λ w e. (read_end refl c.loop-letter.room c.loop-letter.invariant
    (omega (arith, c.in_default.ensures.cases.0, c.loop-letter.room.rest.ok)) (e ∙ c.as_slice.ensures.value)).0) c.word_of.ensures

pub returns-clause-reduced : goal.returns-clause-reduced
returns-clause-reduced c =
    IfOk-weaker c.word_of.result _ _ (λ w e. (read_end refl c.loop-letter.room c.loop-letter.invariant
    (omega (arith, c.in_default.ensures.cases.0, c.loop-letter.room.rest.ok)) (e ∙ c.as_slice.ensures.value)).1) c.word_of.ensures
