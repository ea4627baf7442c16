use Rattle.std.proofs.Common.{◌≡◌, ◌≢◌, ℕ, length, Option, Some, None, true, false, sym, ◌∙◌, ap, subst, refl, arith, inl, inr}
use Rattle.std.specs.Option.{is_some, IfSome, IfNone}
use Rattle.std.proofs.lemmas.Bool.{cases_lt}
use Rattle.theory.specs.Graph.{Graph, target}
use Rattle.word_graph.proofs.graphs.WordGraph.is_complete.Goals as goal

some_of : (r : Option ℕ) (P : ℕ → Type 0) → IfSome r P → is_some r ≡ true → (a : ℕ) × P a
some_of None P p e = cc
some_of (Some a) P p e = (a, p)

none_of : (r : Option ℕ) (P : Type 0) → IfNone r P → is_some r ≡ false → P
none_of None P p e = p
none_of (Some a) P p e = cc

there : (o : Option ℕ) → o ≢ None → (m : ℕ) × (o ≡ Some m)
there None h = absurd (h refl)
there (Some m) h = (m, refl)

pub returns-then-is_some : goal.returns-then-is_some
returns-then-is_some c = λ k graph. (
  λ e. absurd (let bad : ⊥ = cc in bad),
  λ complete.
      let found = some_of c.missing_letter.result _ c.missing_letter.ensures.some (sym c.is_some.ensures ∙ c.if-is_some.true) in
      let at = found.1 k graph in
      let size : length c.self.inside.rows ≡ length c.args.self.now = ap (λ (g : Graph). length g) c.self.view_is in
      let edge = complete c.loop-node.node found.0 (omega (arith, size)) at.0 in
      let e : None ≡ Some edge.0 = sym at.1 ∙ edge.1 in
      absurd (let bad : ⊥ = cc in bad),
)

pub loop-node-preserved : goal.loop-node-preserved
loop-node-preserved c = λ k n b graph hn hb.
    elim (cases_lt n c.loop-node.node) [
      | inl old ↦ c.loop-node.invariant k n b graph old hb
      | inr new ↦
          let e : n ≡ c.loop-node.node = omega arith in
          let here = none_of c.missing_letter.result _ c.missing_letter.ensures.none (sym c.is_some.ensures ∙ c.if-is_some.false) in
          subst (λ z. target c.args.self.now z b ≢ None) (sym e) (here k b graph hb)
    ]

pub returns : goal.returns
returns c = λ k graph. (
  λ e n b hn hb.
      let size : length c.self.inside.rows ≡ length c.args.self.now = ap (λ (g : Graph). length g) c.self.view_is in
      there (target c.args.self.now n b) (c.loop-node.invariant k n b graph (omega (arith, size)) hb),
  λ complete. refl,
)
