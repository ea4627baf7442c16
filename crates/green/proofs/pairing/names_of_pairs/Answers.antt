use Rattle.std.proofs.Common.{◌++◌, ◌∷◌, ◌∙◌, [], ap}
use Rattle.green.proofs.PairLaws.{numbered_more}
use Rattle.green.proofs.pairing.names_of_pairs.Goals as goal

pub loop-number-preserved : goal.loop-number-preserved
loop-number-preserved c =
    let stored = c.in_ok-place.ensures.stored in
    numbered_more c.args.first.now c.args.second.now c.loop-number.names.items c.push.new.self.items c.loop-number.number c.in_ok-place.place c.loop-number.pairs.keys
    c.insert_full.new.self.keys _ stored.0 c.loop-number.invariant c.in_ok-place.ensures.keys c.in_ok-place.ensures.within stored.1 stored.2 c.in_ok-place.ensures.unique
    (c.in_ok-push.ensures.items ∙ ap (λ name. c.loop-number.names.items ++ name ∷ []) c.in_ok-in_four_bytes.ensures)
