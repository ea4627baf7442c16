use Rattle.std.proofs.Common.{◌≡◌, ◌+◌, List, [], true, false, take, sym, subst, subst₂, ◌∙◌, ap, arith}
use Rattle.theory.specs.Word.{Word as Letters}
use Rattle.theory.specs.PlacedStep.{last_word}
use Rattle.chains.specs.Walks.{IsStraightWalk}
use Rattle.chains.specs.declared.steps.ChainStep.{ChainStep}
use Rattle.chains.proofs.PlaceLaws.{new_last, new_nowhere, old_place, old_stay}
use Rattle.chains.proofs.WalkLaws.{walk_back, walk_on}
use Rattle.chains.proofs.walks.Walk.reach.Goals as goal

pub returns-then-is_new : goal.returns-then-is_new
returns-then-is_new c =
    λ p u walk gives.
    let words = c.args.self.now.words.keys in
    let known : c.in_ok-place.is_new ≡ true = grind (arith, c.if-is_new.true) in
    let last = new_last words c.insert_full.new.self.keys c.args.word c.in_ok-place.is_new c.in_ok-place.ensures.added c.in_ok-place.ensures.keys known in
    let none = new_nowhere words c.insert_full.new.self.keys c.args.word c.in_ok-place.is_new c.in_ok-place.ensures.added c.in_ok-place.ensures.keys known in
    let went = walk_on p u words c.args.self.now.steps.items walk c.args.step c.args.word gives none in (
      subst₂ (λ (ws : List Letters) (ss : List ChainStep). IsStraightWalk p u ws ss) (sym last) (sym c.in_ok-push.ensures.items) went.0,
      subst (λ (ws : List Letters). last_word [] ws ≡ c.args.word) (sym last) went.1,
    )

pub returns : goal.returns
returns c =
    λ p u walk gives.
    let words = c.args.self.now.words.keys in
    let known : c.in_ok-place.is_new ≡ false = grind (arith, c.if-is_new.false) in
    let stay = old_stay words c.insert_full.new.self.keys c.args.word c.in_ok-place.is_new c.in_ok-place.ensures.added c.in_ok-place.ensures.keys known in
    let at = old_place words c.insert_full.new.self.keys c.args.word c.in_ok-place.is_new c.in_ok-place.ensures.added c.in_ok-place.ensures.keys known c.in_ok-place.place c.in_ok-place.ensures.stored in
    let cut = c.truncate.ensures.keys ∙ ap (take (c.in_ok-place.place + 1)) stay in
    let went = walk_back p u words c.args.self.now.steps.items walk c.in_ok-place.place c.args.word at in (
      subst₂ (λ (ws : List Letters) (ss : List ChainStep). IsStraightWalk p u ws ss) (sym cut) (sym c.truncate-2.ensures.items) went.0,
      subst (λ (ws : List Letters). last_word [] ws ≡ c.args.word) (sym cut) went.1,
    )
