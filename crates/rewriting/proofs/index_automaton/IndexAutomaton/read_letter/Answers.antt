use Rattle.std.proofs.Common.{arith}
use Rattle.rewriting.specs.Tries.{words_of}
use Rattle.rewriting.proofs.TrieLaws.{words_count}
use Rattle.rewriting.proofs.ReductionLaws.{last_read, read_steps}
use Rattle.rewriting.proofs.index_automaton.IndexAutomaton.read_letter.Goals as goal

pub read-step-requires : goal.read-step-requires
read-step-requires c =
    let last = last_read c.args.rules.now (words_of c.args.rules.now c.args.self.now.prefixes) c.args.word.now c.args.reduction.now.done.items _ c.args.reduction.now.states.items
    c.len.result c.index-state.result.now c.requires.reducing (omega (arith, c.len.ensures)) c.index-state.ensures in
    omega (arith, last.within, words_count c.args.rules.now c.args.self.now.prefixes)

pub follow-requires : goal.follow-requires
follow-requires c = (
  words_of c.args.rules.now c.args.self.now.prefixes,
  c.args.word.now,
  read_steps c.args.rules.now c.len-count.ensures.falling (words_of c.args.rules.now c.args.self.now.prefixes) c.requires.table.states.are c.args.word.now c.args.reduction.now c.args.letter
      c.len.result c.index-state.result.now c.read-step.result c.requires.reducing (omega (arith, c.len.ensures)) c.index-state.ensures
      (c.read-step.ensures c.args.self.now.letters c.args.rules.now c.len-count.ensures.falling c.requires.table),
)

pub returns : goal.returns
returns c =
    let at =
    read_steps c.args.rules.now c.len-count.ensures.falling (words_of c.args.rules.now c.args.self.now.prefixes) c.requires.table.states.are c.args.word.now c.args.reduction.now c.args.letter
    c.len.result c.index-state.result.now c.read-step.result c.requires.reducing (omega (arith, c.len.ensures)) c.index-state.ensures
    (c.read-step.ensures c.args.self.now.letters c.args.rules.now c.len-count.ensures.falling c.requires.table) in
    let follows = c.in_ok-_applied.ensures.reducing (words_of c.args.rules.now c.args.self.now.prefixes) c.args.word.now at in
    record { reducing = follows.0; less = follows.1 }
