use Rattle.std.proofs.Common.{arith}
use Rattle.std.proofs.lemmas.Result.{on_ok_weaker}
use Rattle.rewriting.specs.Lookups.{states_by}
use Rattle.rewriting.specs.Reductions.{IsAtStep}
use Rattle.rewriting.proofs.LookupLaws.{letter_at, letter_steps}
use Rattle.rewriting.proofs.lookups.Lookup.read_letter.Goals as goal
use Rattle.rewriting.proofs.lookups.Lookup.read_letter.Goals.{After-follow}

pub step-step-requires : goal.step-step-requires
step-step-requires c =
    letter_at c.args.rules.now c.args.self.now c.args.word.now c.args.reduction.now c.args.letter c.requires
    c.as_slice.result.now c.len.result c.index-state.result.now c.as_slice.ensures.value (omega (arith, c.len.ensures)) c.index-state.ensures

pub follow-requires : goal.follow-requires
follow-requires c = (
  states_by c.requires.is,
  c.args.word.now,
  letter_steps c.args.rules.now c.args.self.now c.args.word.now c.args.reduction.now c.args.letter c.requires
      c.as_slice.result.now c.len.result c.index-state.result.now c.as_slice.ensures.value (omega (arith, c.len.ensures)) c.index-state.ensures
      c.step-step.result c.step-step.ensures,
)

-- what the step does
steps : (c : After-follow) → IsAtStep c.args.rules.now (states_by c.requires.is) c.args.word.now c.args.reduction.now c.args.letter c.step-step.result
steps c =
    letter_steps c.args.rules.now c.args.self.now c.args.word.now c.args.reduction.now c.args.letter c.requires
    c.as_slice.result.now c.len.result c.index-state.result.now c.as_slice.ensures.value (omega (arith, c.len.ensures)) c.index-state.ensures
    c.step-step.result c.step-step.ensures

pub returns-clause-rewriting : goal.returns-clause-rewriting
returns-clause-rewriting c =
    on_ok_weaker c.follow.result
    (λ follows. record { is = c.requires.is; reducing = (follows (states_by c.requires.is) c.args.word.now (steps c)).0 }) c.follow.ensures.reducing

pub returns-clause-less : goal.returns-clause-less
returns-clause-less c = on_ok_weaker c.follow.result (λ follows. (follows (states_by c.requires.is) c.args.word.now (steps c)).1) c.follow.ensures.reducing
