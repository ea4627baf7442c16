use Rattle.std.proofs.Common.{◌≡◌, List, Some, subst, sym}
use Rattle.coincidence.specs.Pending.{IsClosedBut}
use Rattle.coincidence.specs.Drawing.{IsDueOf, IsLast}
use Rattle.coincidence.specs.declared.due.Due.TheVariants.{Nothing}
use Rattle.coincidence.specs.declared.pending.Pending.{Pending}
use Rattle.coincidence.proofs.DrawLaws.{due_entry}
use Rattle.coincidence.proofs.closing.due_in_nodes.Goals as goal

pub loop-node-preserved : goal.loop-node-preserved
loop-node-preserved c =
    let last : IsLast c.loop-node.pending (Some c.in-Some.node) = c.in-Some.ensures in
    let drop : IsDueOf c.args.congruence.now.congruence.presentation.relations c.args.edges.now.graph c.args.live.now.items c.in-Some.node Nothing = c.in-Nothing.ensures.due in
    let rest : c.drop_last.new.self ≡ last.0 = c.drop_last.ensures last.0 c.in-Some.node last.1 in
    record {
      closed = subst (λ (z : List Pending). IsClosedBut c.args.congruence.now.congruence.presentation.relations c.args.edges.now.graph c.args.live.now.items z) (sym rest)
          (drop last.0 (subst (λ (z : List Pending). IsClosedBut c.args.congruence.now.congruence.presentation.relations c.args.edges.now.graph c.args.live.now.items z) last.1 c.loop-node.invariant.closed));
      seen = c.due_of.ensures.seen;
    }

pub returns-in_default-due_of : goal.returns-in_default-due_of
returns-in_default-due_of c =
    record {
      due = λ _. due_entry c.args.congruence.now.congruence c.args.edges.now.graph c.args.live.now.items c.in-Some.node c.due_of.result c.requires.live (λ e. c.in_default-due_of.not-Nothing e) c.due_of.ensures.due;
      closed = c.loop-node.invariant.closed;
      seen = c.due_of.ensures.seen;
    }
