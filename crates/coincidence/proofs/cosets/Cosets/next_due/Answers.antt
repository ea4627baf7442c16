use Rattle.std.proofs.Common.{◌≡◌, ℕ, Option, None, Some, Result, Ok, Err, IfOk, refl, sym, ◌∙◌, subst}
use Rattle.word_graph.proofs.WalkLaws.{some_same}
use Rattle.coincidence.specs.DueSpec.{IsDueIn}
use Rattle.coincidence.specs.Holding.{HoldOnceDrawn}
use Rattle.coincidence.specs.declared.cosets.Cosets.{Cosets}
use Rattle.coincidence.proofs.HeldLaws.{read_whole}
use Rattle.coincidence.proofs.cosets.Cosets.next_due.Goals as goal

-- what holds of all holds of a result
all_ok : {T E : Type 0} {P : T → Type 0} (r : Result T E) → ((x : T) → P x) → IfOk r P
all_ok (Ok x) all = all x
all_ok (Err e) all = tt

pub due_unmarked-requires-clause-hold : goal.due_unmarked-requires-clause-hold
due_unmarked-requires-clause-hold c = c.requires.hold (c.is_at_nodes.ensures c.if-is_at_nodes.true)

pub returns-then-is_at_nodes-clause-due : goal.returns-then-is_at_nodes-clause-due
returns-then-is_at_nodes-clause-due c = subst (λ (at : Option ℕ). IfOk c.due_unmarked.result (IsDueIn c.args.congruence.now.congruence c.due_unmarked.new.self.edges.graph c.due_unmarked.new.self.live.items at)) (sym c.in-None.is) c.due_unmarked.ensures.due

pub returns-then-is_at_nodes-clause-held : goal.returns-then-is_at_nodes-clause-held
returns-then-is_at_nodes-clause-held c = all_ok c.due_unmarked.result (λ due n is. let no : None ≡ Some n = sym c.in-None.is ∙ is in cc)

pub returns-else-is_at_nodes-clause-due : goal.returns-else-is_at_nodes-clause-due
returns-else-is_at_nodes-clause-due c = subst (λ (at : Option ℕ). IsDueIn c.args.congruence.now.congruence c.args.self.now.edges.graph c.args.self.now.live.items at c.due_next.result) (sym c.in-None.is) c.due_next.ensures.due

pub returns-else-is_at_nodes-clause-whole : goal.returns-else-is_at_nodes-clause-whole
returns-else-is_at_nodes-clause-whole c =
    let new : Cosets = record c.args.self.now { pending = c.due_next.new.pending; seen = c.due_next.new.seen } in
    read_whole c.args.congruence.now.congruence c.args.self.now new refl c.due_next.ensures.closed c.due_next.ensures.seen c.requires.whole

pub returns-in-Some-clause-due : goal.returns-in-Some-clause-due
returns-in-Some-clause-due c = subst (λ (at : Option ℕ). IsDueIn c.args.congruence.now.congruence c.args.self.now.edges.graph c.args.self.now.live.items at c.due_there.result) (sym c.in-Some.is) c.due_there.ensures.due

pub returns-in-Some-clause-held : goal.returns-in-Some-clause-held
returns-in-Some-clause-held c = λ n is. subst (λ z. HoldOnceDrawn c.args.congruence.now.congruence.presentation.relations c.args.self.now.edges.graph z c.due_there.result c.due_there.new.held) (some_same c.in-Some.node n (sym c.in-Some.is ∙ is)) c.due_there.ensures.held
