use Rattle.std.proofs.Common.{◌≡◌, ◌<◌, ℕ, [], None, length, arith, subst, sym, ◌∙◌, ap}
use Rattle.theory.specs.Graph.{target}
use Rattle.coincidence.specs.Links.{Links, IsLinked}
use Rattle.coincidence.proofs.LinkLaws.{first_within, linked_set}
use Rattle.cells.proofs.EntryLaws.{entry_length, entry_width}
use Rattle.coincidence.proofs.BackLaws.{backed_set}
use Rattle.word_graph.proofs.WalkLaws.{some_same}
use Rattle.coincidence.proofs.edges.Edges.set_edge.Goals as goal

-- the number of letters bounds the letter
bound : (k a : ℕ) (t u : Links) → t ≡ u → IsLinked k t → ((k : ℕ) → IsLinked k u → a < k) → a < k
bound k a t u e is below = below k (subst (IsLinked k) e is)

node_of : (n : ℕ) (t u : Links) → t ≡ u → n < length u.graph → n < length t.graph
node_of n t u e h = subst (λ (z : Links). n < length z.graph) (sym e) h

pub put-requires-clause-letter : goal.put-requires-clause-letter
put-requires-clause-letter c =
    let i = c.self.invariant.linked in
    let n = node_of c.args.node _ c.args.self.now c.self.view_is c.requires.node in
    omega (arith, bound c.self.inside.letters c.args.letter _ c.args.self.now c.self.view_is i c.requires.letter, i.nexts c.args.node [] (omega (arith, n, i.next_rows)))

pub put-requires-clause-entry : goal.put-requires-clause-entry
put-requires-clause-entry c = λ n is.
    omega (arith, first_within c.self.inside.letters _ c.args.to c.args.letter n c.self.invariant.linked (sym c.get-first.ensures.entry ∙ is), c.self.invariant.linked.next_rows)

pub put-requires-2-clause-node : goal.put-requires-2-clause-node
put-requires-2-clause-node c =
    let n = node_of c.args.node _ c.args.self.now c.self.view_is c.requires.node in
    omega (arith, n, c.self.invariant.backed.rows)

pub put-requires-2-clause-letter : goal.put-requires-2-clause-letter
put-requires-2-clause-letter c =
    let n = node_of c.args.node _ c.args.self.now c.self.view_is c.requires.node in
    omega (arith, bound c.self.inside.letters c.args.letter _ c.args.self.now c.self.view_is c.self.invariant.linked c.requires.letter, c.self.invariant.backed.width c.args.node [] (omega (arith, n, c.self.invariant.backed.rows)))

pub put_at-requires-clause-node : goal.put_at-requires-clause-node
put_at-requires-clause-node c = λ n is.
    omega (arith, first_within c.self.inside.letters _ c.args.to c.args.letter n c.self.invariant.linked (sym c.get-first.ensures.entry ∙ is), c.self.invariant.backed.rows, ap length c.put-2.ensures, entry_length c.self.inside.befores c.args.node c.args.letter None)

pub put_at-requires-clause-letter : goal.put_at-requires-clause-letter
put_at-requires-clause-letter c =
    let n = node_of c.args.node _ c.args.self.now c.self.view_is c.requires.node in
    let b = c.self.invariant.backed in
    let less = bound c.self.inside.letters c.args.letter _ c.args.self.now c.self.view_is c.self.invariant.linked c.requires.letter in
    let wide = entry_width c.self.inside.letters c.self.inside.befores c.args.node c.args.letter None (omega (arith, n, b.rows)) b.width in
    rw (c.put-2.ensures) (λ i d h. omega (arith, less, wide i d h))

pub put_at-requires-clause-entry : goal.put_at-requires-clause-entry
put_at-requires-clause-entry c = λ n is.
    let less = node_of c.args.node _ c.args.self.now c.self.view_is c.requires.node in
    omega (arith, less, some_same c.args.node n is, c.self.invariant.backed.rows, ap length c.put-2.ensures, entry_length c.self.inside.befores c.args.node c.args.letter None)

pub put-requires-3-clause-letter : goal.put-requires-3-clause-letter
put-requires-3-clause-letter c =
    let i = c.self.invariant.linked in
    let n = node_of c.args.to _ c.args.self.now c.self.view_is c.requires.to in
    omega (arith, bound c.self.inside.letters c.args.letter _ c.args.self.now c.self.view_is i c.requires.letter, i.firsts c.args.to [] (omega (arith, n, i.first_rows)))

pub put-requires-4-clause-letter : goal.put-requires-4-clause-letter
put-requires-4-clause-letter c =
    let i = c.self.invariant.linked in
    let n = node_of c.args.node _ c.args.self.now c.self.view_is c.requires.node in
    omega (arith, bound c.self.inside.letters c.args.letter _ c.args.self.now c.self.view_is i c.requires.letter, i.graph.width c.args.node [] n)

pub invariant_of-self : goal.invariant_of-self
invariant_of-self c =
    let t : Links = record { graph = c.self.inside.targets; firsts = c.self.inside.firsts; nexts = c.self.inside.nexts } in
    let i = c.self.invariant.linked in
    let n = node_of c.args.node t c.args.self.now c.self.view_is c.requires.node in
    let m = node_of c.args.to t c.args.self.now c.self.view_is c.requires.to in
    let a = bound c.self.inside.letters c.args.letter t c.args.self.now c.self.view_is i c.requires.letter in
    let missing : target c.self.inside.targets c.args.node c.args.letter ≡ None = subst (λ (z : Links). target z.graph c.args.node c.args.letter ≡ None) (sym c.self.view_is) c.requires.missing in
    record {
      linked = rw (c.put-4.ensures, c.put-3.ensures, c.put.ensures, c.get-first.ensures.entry)
          (linked_set c.self.inside.letters t c.args.node c.args.letter c.args.to i n a m missing);
      backed = rw (c.put-4.ensures, c.put-3.ensures, c.put_at.ensures, c.put-2.ensures, c.put.ensures, c.get-first.ensures.entry)
          (backed_set c.self.inside.letters t c.self.inside.befores c.args.node c.args.letter c.args.to i c.self.invariant.backed n a m missing);
    }
