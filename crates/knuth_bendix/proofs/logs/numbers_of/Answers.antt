use Rattle.std.proofs.Common.{length, Some, refl, sym, ◌∙◌, ap, arith}
use Rattle.std.proofs.lemmas.Option.{slice_get_read}
use Rattle.std.specs.HashMap.{get}
use Rattle.knuth_bendix.specs.Logs.{same_words}
use Rattle.knuth_bendix.proofs.LogLaws.{numbers_step}
use Rattle.knuth_bendix.proofs.logs.numbers_of.Goals as goal

pub loop-number-init : goal.loop-number-init
loop-number-init c = λ pair. rw c.new-numbers.ensures.empty (λ place within e. omega (arith, within))

pub loop-number-preserved : goal.loop-number-preserved
loop-number-preserved c =
    let sides = slice_get_read c.args.relations.now (length c.args.relations.now) c.loop-number.number c.pair-pair.result.now refl (omega (arith, c.loop-number.auto.number-end, c.len-number-end.ensures)) c.pair-pair.ensures in
    numbers_step c.args.relations.now c.loop-number.number (get same_words c.loop-number.numbers) (get same_words c.insert.new.self) c.in_ok-words.words c.loop-number.invariant
    (sides ∙ ap Some (sym c.in_ok-words.ensures)) c.in_ok-_old.ensures.updates.0
