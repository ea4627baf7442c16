use Rattle.std.proofs.Common.{◌≡◌, ◌<◌, ℕ, List, [], Option, Some, None, length, arith, subst, sym, ◌∙◌}
use Rattle.theory.specs.Graph.{target, IsGraph}
use Rattle.word_graph.proofs.EdgeLaws.{target_in}
use Rattle.coincidence.specs.Links.{Links, IsBack, IsBacked}
use Rattle.coincidence.proofs.LinkLaws.{linked_first, linked_later, next_within}
use Rattle.coincidence.proofs.BackLaws.{back_behind, backed_first, backed_later}
use Rattle.coincidence.proofs.edges.Edges.remove_edge.Goals as goal

-- where the node before one stands
back_inside : (k : ℕ) (t : Links) (befores : List (List (Option ℕ))) (n a m : ℕ) (before : Option ℕ) → IsGraph k t.graph → IsBacked k t befores → target t.graph n a ≡ Some m → before ≡ target befores n a
    → (p : ℕ) → before ≡ Some p → (p < length t.graph) × (a < k)
back_inside k t befores n a m before is b edge read p some =
    let stood : IsBack t n a m (Some p) = subst (IsBack t n a m) (sym read ∙ some) (b.backs n a m edge) in
    let at = target_in k t.graph is p a m stood.0 in
    (at.0, at.1)

pub put_at-requires-clause-node : goal.put_at-requires-clause-node
put_at-requires-clause-node c = λ n is.
    omega (arith, next_within c.self.inside.letters _ c.args.node c.args.letter c.in-Some.to n c.self.invariant.linked (sym c.in-Some.ensures.entry) (sym c.get-next.ensures.entry ∙ is), c.self.invariant.backed.rows)

pub put_at-requires-clause-letter : goal.put_at-requires-clause-letter
put_at-requires-clause-letter c = λ i d h.
    let at = target_in c.self.inside.letters c.self.inside.targets c.self.invariant.linked.graph c.args.node c.args.letter c.in-Some.to (sym c.in-Some.ensures.entry) in
    omega (arith, at.1, c.self.invariant.backed.width i d h)

pub put_at-requires-clause-entry : goal.put_at-requires-clause-entry
put_at-requires-clause-entry c = λ p is.
    let t : Links = record { graph = c.self.inside.targets; firsts = c.self.inside.firsts; nexts = c.self.inside.nexts } in
    let at = back_inside c.self.inside.letters t c.self.inside.befores c.args.node c.args.letter c.in-Some.to c.get-before.result c.self.invariant.linked.graph c.self.invariant.backed (sym c.in-Some.ensures.entry) c.get-before.ensures.entry p is in
    omega (arith, at.0, c.self.invariant.backed.rows)

pub invariant_of-self : goal.invariant_of-self
invariant_of-self c =
    let t : Links = record { graph = c.self.inside.targets; firsts = c.self.inside.firsts; nexts = c.self.inside.nexts } in
    let k = c.self.inside.letters in
    let i = c.self.invariant.linked in
    let b = c.self.invariant.backed in
    let stood : IsBack t c.args.node c.args.letter c.in-Some.to None = subst (IsBack t c.args.node c.args.letter c.in-Some.to) (sym c.get-before.ensures.entry ∙ c.in-None.is) (b.backs c.args.node c.args.letter c.in-Some.to (sym c.in-Some.ensures.entry)) in
    record {
      linked = rw (c.put.ensures, c.put-in-None.ensures, c.get-next.ensures.entry)
          (linked_first k t c.args.node c.args.letter c.in-Some.to i (sym c.in-Some.ensures.entry) (λ list s. back_behind t c.args.node c.args.letter c.in-Some.to None list stood s));
      backed = rw (c.put.ensures, c.put-in-None.ensures, c.put_at.ensures, c.get-next.ensures.entry)
          (backed_first k t c.self.inside.befores c.args.node c.args.letter c.in-Some.to c.get-before.result i b (sym c.in-Some.ensures.entry) c.get-before.ensures.entry c.in-None.is);
    }

pub put-requires-in-None-clause-entry : goal.put-requires-in-None-clause-entry
put-requires-in-None-clause-entry c = λ n is.
    omega (arith, next_within c.self.inside.letters _ c.args.node c.args.letter c.in-Some.to n c.self.invariant.linked (sym c.in-Some.ensures.entry) (sym c.get-next.ensures.entry ∙ is), c.self.invariant.linked.first_rows)

pub put-requires-in-Some-before-clause-entry : goal.put-requires-in-Some-before-clause-entry
put-requires-in-Some-before-clause-entry c = λ n is.
    omega (arith, next_within c.self.inside.letters _ c.args.node c.args.letter c.in-Some.to n c.self.invariant.linked (sym c.in-Some.ensures.entry) (sym c.get-next.ensures.entry ∙ is), c.self.invariant.linked.next_rows)

pub put-requires-in-Some-before-clause-node : goal.put-requires-in-Some-before-clause-node
put-requires-in-Some-before-clause-node c =
    let t : Links = record { graph = c.self.inside.targets; firsts = c.self.inside.firsts; nexts = c.self.inside.nexts } in
    let at = back_inside c.self.inside.letters t c.self.inside.befores c.args.node c.args.letter c.in-Some.to c.get-before.result c.self.invariant.linked.graph c.self.invariant.backed (sym c.in-Some.ensures.entry) c.get-before.ensures.entry c.in-Some-before.before c.in-Some-before.is in
    omega (arith, at.0, c.self.invariant.linked.next_rows)

pub put-requires-in-Some-before-clause-letter : goal.put-requires-in-Some-before-clause-letter
put-requires-in-Some-before-clause-letter c =
    let t : Links = record { graph = c.self.inside.targets; firsts = c.self.inside.firsts; nexts = c.self.inside.nexts } in
    let at = back_inside c.self.inside.letters t c.self.inside.befores c.args.node c.args.letter c.in-Some.to c.get-before.result c.self.invariant.linked.graph c.self.invariant.backed (sym c.in-Some.ensures.entry) c.get-before.ensures.entry c.in-Some-before.before c.in-Some-before.is in
    omega (arith, at.1, c.self.invariant.linked.nexts c.in-Some-before.before [] (omega (arith, at.0, c.self.invariant.linked.next_rows)))

pub invariant_of-self-in-Some-before : goal.invariant_of-self-in-Some-before
invariant_of-self-in-Some-before c =
    let t : Links = record { graph = c.self.inside.targets; firsts = c.self.inside.firsts; nexts = c.self.inside.nexts } in
    let k = c.self.inside.letters in
    let i = c.self.invariant.linked in
    let b = c.self.invariant.backed in
    let stood : IsBack t c.args.node c.args.letter c.in-Some.to (Some c.in-Some-before.before) = subst (IsBack t c.args.node c.args.letter c.in-Some.to) (sym c.get-before.ensures.entry ∙ c.in-Some-before.is) (b.backs c.args.node c.args.letter c.in-Some.to (sym c.in-Some.ensures.entry)) in
    record {
      linked = rw (c.put.ensures, c.put-in-Some-before.ensures, c.get-next.ensures.entry)
          (linked_later k t c.args.node c.args.letter c.in-Some.to c.in-Some-before.before i (sym c.in-Some.ensures.entry) (λ list s. back_behind t c.args.node c.args.letter c.in-Some.to (Some c.in-Some-before.before) list stood s));
      backed = rw (c.put.ensures, c.put-in-Some-before.ensures, c.put_at.ensures, c.get-next.ensures.entry)
          (backed_later k t c.self.inside.befores c.args.node c.args.letter c.in-Some.to c.in-Some-before.before c.get-before.result i b (sym c.in-Some.ensures.entry) c.get-before.ensures.entry c.in-Some-before.is);
    }
