use Rattle.std.proofs.Common.{refl, ◌∙◌, ap, Bool}
use Rattle.coset_enumeration.specs.Enumeration.{answer_of, run_of}
use Rattle.tc_felsch.specs.Stage.{IsRun}
use Rattle.tc_felsch.proofs.TurnLaws.{run_after}
use Rattle.tc_felsch.proofs.enumeration.FelschRacer.advance.Goals as goal

pub invariant_of-self-2 : goal.invariant_of-self-2
invariant_of-self-2 c =
    let run : IsRun c.self.inside.table c.self.inside.next (run_of c.self.inside.table c.self.inside.budget c.self.inside.made c.self.inside.begun _) = rw c.in-More.is at c.self.invariant in
    run_after c.self.inside.table c.go_on.new.table c.self.inside.budget c.self.inside.made c.count-self-inside.result c.self.inside.begun c.self.inside.next c.in-Ok.next run
    (rw (c.take-due.ensures.value) at c.in-Ok.ensures.start) (rw (c.take-due.ensures.value) at c.in-Ok.ensures.stage) (rw (c.take-due.ensures.value) at c.in-Ok.ensures.nodes) c.go_on.ensures.table c.count-self-inside.ensures
    c.answer-self-inside.result c.in-Ok.ensures.next (c.answer-self-inside.ensures ∙ ap (λ (b : Bool). answer_of b c.count-self-inside.result c.self.inside.budget) c.is_some.ensures)

pub returns-clause-spent : goal.returns-clause-spent
returns-clause-spent c = (invariant_of-self-2 c).told.spent

pub returns-clause-decided : goal.returns-clause-decided
returns-clause-decided c = (invariant_of-self-2 c).told.decided

pub returns-clause-stage : goal.returns-clause-stage
returns-clause-stage c = λ n. (invariant_of-self-2 c).told.stage n refl
