use Rattle.std.proofs.Common.{◌≡◌, [], List, Option, Some, subst, sym}
use Rattle.theory.specs.Word.{Word}
use Rattle.coincidence.specs.DueSpec.{IsDueAt}
use Rattle.coincidence.specs.Pending.{IsClosedBut}
use Rattle.coincidence.specs.Drawing.{IsDueOf, IsLast}
use Rattle.coincidence.specs.declared.due.Due.TheVariants.{Nothing}
use Rattle.coincidence.specs.declared.pending.Pending.{Pending}
use Rattle.coincidence.proofs.DrawLaws.{due_entry, due_last}
use Rattle.coincidence.proofs.closing.due_next.Goals as goal

pub loop-entry-preserved : goal.loop-entry-preserved
loop-entry-preserved c =
    let last : IsLast c.loop-entry.pending (Some c.in-Some.entry) = c.in-Some.ensures in
    let drop : IsDueOf c.args.congruence.now.congruence.presentation.relations c.args.edges.now.graph c.args.live.now.items c.in-Some.entry Nothing = c.in-Nothing.ensures.due in
    let rest : c.drop_last.new.self ≡ last.0 = c.drop_last.ensures last.0 c.in-Some.entry last.1 in
    record {
      closed = subst (λ (z : List Pending). IsClosedBut c.args.congruence.now.congruence.presentation.relations c.args.edges.now.graph c.args.live.now.items z) (sym rest)
          (drop last.0 (subst (λ (z : List Pending). IsClosedBut c.args.congruence.now.congruence.presentation.relations c.args.edges.now.graph c.args.live.now.items z) last.1 c.loop-entry.invariant.closed));
      seen = c.due_of.ensures.seen;
    }

pub returns-in_default-due_of : goal.returns-in_default-due_of
returns-in_default-due_of c =
    record {
      due = due_entry c.args.congruence.now.congruence c.args.edges.now.graph c.args.live.now.items c.in-Some.entry c.due_of.result c.requires.live (λ e. c.in_default-due_of.not-Nothing e) c.due_of.ensures.due;
      closed = c.loop-entry.invariant.closed;
      seen = c.due_of.ensures.seen;
    }

pub returns-clause-due : goal.returns-clause-due
returns-clause-due c =
    let none : c.loop-entry.pending ≡ [] = subst (λ (o : Option Pending). IsLast c.loop-entry.pending o) c.in_default.is c.last.ensures in
    due_last c.args.congruence.now.congruence c.args.edges.now.graph c.args.live.now.items c.due_at.result
    (subst (λ (z : List Pending). IsClosedBut c.args.congruence.now.congruence.presentation.relations c.args.edges.now.graph c.args.live.now.items z) none c.loop-entry.invariant.closed)
    (subst (λ (z : List (Word × Word)). IsDueAt c.args.edges.now.graph 0 z c.due_at.result) c.pairs.ensures c.due_at.ensures)
