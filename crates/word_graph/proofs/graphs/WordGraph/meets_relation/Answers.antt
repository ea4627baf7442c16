use Rattle.std.proofs.Common.{◌≡◌, ℕ, length, not, Bool, Option, Some, None, true, false, nat_eq, sym, ◌∙◌, ap, subst, refl, arith, inl, inr}
use Rattle.std.specs.Option.{option_eq}
use Rattle.std.proofs.lemmas.Bool.{cases_lt, eq-eqb, eqb-true}
use Rattle.theory.specs.Graph.{Graph, path}
use Rattle.word_graph.proofs.graphs.WordGraph.meets_relation.Goals as goal

equal_targets : (o p : Option ℕ) → option_eq nat_eq o p ≡ true → o ≡ p
equal_targets None None e = refl
equal_targets None (Some b) e = cc
equal_targets (Some a) None e = cc
equal_targets (Some a) (Some b) e = ap Some (eqb-true a b e)

targets_equal : (o : Option ℕ) → option_eq nat_eq o o ≡ true
targets_equal None = refl
targets_equal (Some a) = eq-eqb a a refl

equal_of : (o p : Option ℕ) → o ≡ p → option_eq nat_eq o p ≡ true
equal_of o p e = subst (λ q. option_eq nat_eq o q ≡ true) e (targets_equal o)

same : (b : Bool) → false ≡ not b → b ≡ true
same true e = refl
same false e = cc

other : (b : Bool) → true ≡ not b → b ≡ true → ⊥
other true e h = cc
other false e h = cc

pub returns-then-ne : goal.returns-then-ne
returns-then-ne c = (
  λ e. absurd (let bad : ⊥ = cc in bad),
  λ h.
      let size : length c.self.inside.rows ≡ length c.args.self.now = ap (λ (g : Graph). length g) c.self.view_is in
      let one : path c.args.self.now c.loop-node.node c.args.left.now ≡ path c.args.self.now c.loop-node.node c.args.right.now = h c.loop-node.node (omega (arith, size)) in
      absurd (other (option_eq nat_eq c.path.result c.path-in-loop-node.result) (sym c.if-ne.true ∙ c.ne.ensures) (equal_of c.path.result c.path-in-loop-node.result (c.path.ensures ∙ one ∙ sym c.path-in-loop-node.ensures))),
)

pub loop-node-preserved : goal.loop-node-preserved
loop-node-preserved c = λ n h.
    elim (cases_lt n c.loop-node.node) [
      | inl old ↦ c.loop-node.invariant n old
      | inr new ↦
          let e : n ≡ c.loop-node.node = omega arith in
          subst (λ z. path c.args.self.now z c.args.left.now ≡ path c.args.self.now z c.args.right.now) (sym e)
          (sym c.path.ensures ∙ equal_targets c.path.result c.path-in-loop-node.result (same (option_eq nat_eq c.path.result c.path-in-loop-node.result) (sym c.if-ne.false ∙ c.ne.ensures)) ∙ c.path-in-loop-node.ensures)
    ]

pub returns : goal.returns
returns c = (
  λ e n h.
      let size : length c.self.inside.rows ≡ length c.args.self.now = ap (λ (g : Graph). length g) c.self.view_is in
      c.loop-node.invariant n (omega (arith, size)),
  λ h. refl,
)
