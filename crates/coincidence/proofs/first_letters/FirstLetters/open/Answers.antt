use Rattle.std.proofs.Common.{ℕ, ◌∙◌, ◌⊎◌, subst, sym}
use Rattle.coincidence.specs.Places.{HasBit}
use Rattle.coincidence.specs.Starts.{IsShutAt}
use Rattle.coincidence.proofs.PlaceLaws.{none_of}
use Rattle.coincidence.proofs.StartLaws.{open_more}
use Rattle.coincidence.proofs.first_letters.FirstLetters.open.Goals as goal
use Rattle.coincidence.proofs.first_letters.FirstLetters.open.Goals.{then-is_none, else-is_none}

pub loop-number-preserved : goal.loop-number-preserved
loop-number-preserved c = elim c.if-is_none.branch [
  | then-is_none w ↦ subst Left (sym w.open-is)
      (open_more c.args.edges.now.graph c.args.node c.args.self.now.every c.loop-number.open w.without-open.result c.new-letter.result c.args.self.now.letters.items (sym c.target.ensures ∙ none_of c.target.result w.if-is_none.ensures)
      (λ i h. subst (λ z. HasBit w.without-open.result i ⊎ HasBit z i) w.of.ensures (w.without-open.ensures i h)) c.loop-number.invariant)
  | else-is_none w ↦ subst Left (sym w.open-is) c.loop-number.invariant
]
  where
    Left : ℕ → Type 0
    Left opened = (i : ℕ) → HasBit c.args.self.now.every i → HasBit opened i ⊎ IsShutAt c.args.edges.now.graph c.args.node c.args.self.now.letters.items i
