use Rattle.std.proofs.Common.{◌≡◌, arith, inl, inr, sym, ap, ◌∙◌, subst, not}
use Rattle.std.proofs.lemmas.Bool.{cases_lt}
use Rattle.coincidence.specs.Kept.{LeadsToPlaced}
use Rattle.coincidence.proofs.KeptLaws.{placed_read}
use Rattle.coincidence.proofs.order.Order.next_unplaced.Goals as goal

pub loop-number-preserved : goal.loop-number-preserved
loop-number-preserved c = λ a from less. elim (cases_lt a c.loop-number.number) [
  | inl before ↦ c.loop-number.invariant a from before
  | inr past ↦
      let a_is : c.new.result ≡ a = omega (arith, c.new.ensures, c.requires.few, past, less) in
      let number : c.new.result ≡ c.loop-number.number = omega (arith, c.new.ensures, c.requires.few) in
      let within = c.requires.nodes c.new.result c.in-Some.next (sym c.in-Some.ensures) in
      subst (λ z. LeadsToPlaced c.args.edges.now.graph c.args.self.now c.args.node z) a_is
      (c.in-Some.next, sym c.in-Some.ensures, placed_read c.args.self.now.places.items c.in-Some.next c.index.result.now within c.index.ensures (c.is_none.ensures ∙ ap not c.if-is_none.false))
]
