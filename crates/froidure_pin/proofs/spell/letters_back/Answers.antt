use Rattle.std.proofs.Common.{◌+◌, arith, sym, ap, ◌∙◌, ◌++◌, ◌∷◌, []}
use Rattle.froidure_pin.specs.Found.{parent, words_of}
use Rattle.froidure_pin.proofs.Spelling.{spell_more}
use Rattle.froidure_pin.proofs.spell.letters_back.Goals as goal

pub loop-at-preserved : goal.loop-at-preserved
loop-at-preserved c =
    let more = spell_more c.args.factors.now.items c.loop-at.at c.index-factor.result.now c.loop-at.back.items c.push.new.self.items (parent (words_of c.args.factors.now.items) (c.args.number + 1)) c.requires.factors (omega arith) (omega arith) (sym c.index-factor.ensures) (c.in_ok-push.ensures.items ∙ ap (λ n. c.loop-at.back.items ++ n ∷ []) c.new.ensures) c.loop-at.invariant.spelled in
    record { within = omega (arith, more.0); spelled = more.1 }
