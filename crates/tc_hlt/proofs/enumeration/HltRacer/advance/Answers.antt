use Rattle.std.proofs.Common.{◌∙◌, sym, ap, subst, Bool}
use Rattle.coset_enumeration.specs.Enumeration.{answer_of, run_of}
use Rattle.tc_hlt.specs.Stage.{IsRun}
use Rattle.tc_hlt.proofs.TurnLaws.{turn_of, turn_after}
use Rattle.tc_hlt.proofs.enumeration.HltRacer.advance.Goals as goal

pub go_on-requires-clause-turn : goal.go_on-requires-clause-turn
go_on-requires-clause-turn c =
    let run : IsRun c.self.inside.table c.self.inside.congruence.congruence c.self.inside.next (run_of c.self.inside.table c.self.inside.budget c.self.inside.made c.self.inside.begun _) = rw c.in-More.is at c.self.invariant in
    turn_of c.self.inside.table c.self.inside.congruence.congruence c.self.inside.budget c.self.inside.made c.count-made.result c.self.inside.begun c.self.inside.next c.then_some-row.result run c.then_some-row.ensures c.count-made.ensures

pub invariant_of-self-2 : goal.invariant_of-self-2
invariant_of-self-2 c =
    let run : IsRun c.self.inside.table c.self.inside.congruence.congruence c.self.inside.next (run_of c.self.inside.table c.self.inside.budget c.self.inside.made c.self.inside.begun _) = rw c.in-More.is at c.self.invariant in
    subst (λ n. IsRun c.go_on.new.table c.self.inside.congruence.congruence n (run_of c.go_on.new.table c.self.inside.budget c.count-made.result _ c.answer-self-inside.result)) (sym c.unwrap_or-self-inside.ensures)
    (turn_after c.self.inside.table c.go_on.new.table c.self.inside.congruence.congruence c.self.inside.budget c.self.inside.made c.count-made.result c.self.inside.begun c.self.inside.next
    c.in-Ok.next c.answer-self-inside.result run c.go_on.ensures.table c.go_on.ensures.congruence c.in-Ok.ensures.rows c.count-made.ensures c.in-Ok.ensures.next
    (c.answer-self-inside.ensures ∙ ap (λ (b : Bool). answer_of b c.count-made.result c.self.inside.budget) c.is_some.ensures))

pub returns-clause-decided : goal.returns-clause-decided
returns-clause-decided c = (invariant_of-self-2 c).told.decided

pub returns-clause-spent : goal.returns-clause-spent
returns-clause-spent c = (invariant_of-self-2 c).told.spent
