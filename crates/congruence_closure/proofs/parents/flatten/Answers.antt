use Rattle.std.proofs.Common.{◌≡◌, ◌∙◌, ◌<◌, ◌≤◌, ℕ, ap, sym, slice_index, arith, length, inl, inr, List}
use Rattle.std.proofs.lemmas.Bool.{cases_eq}
use Rattle.congruence_closure.specs.Labels.{AreBelow, AreLabels}
use Rattle.congruence_closure.proofs.parents.flatten.Goals as goal

-- the parent's parent is the root, where the numbers before have theirs
at_root : (label : ℕ → ℕ) (xs : List ℕ) (n : ℕ) → AreLabels label xs → AreBelow xs → n < length xs → ((i : ℕ) → i < n → slice_index xs i ≡ label i)
    → slice_index xs (slice_index xs n) ≡ label n
at_root label xs n l below h before = elim (cases_eq (slice_index xs n) n) [
  | inl top ↦ ap (slice_index xs) top ∙ top ∙ sym (l.root n h top)
  | inr d ↦ before (slice_index xs n) (less (slice_index xs n) n d (below n h)) ∙ l.parent n h
]
  where
    less : (a b : ℕ) → (a ≡ b → ⊥) → a ≤ b → a < b
    less a b d m = omega (arith, d, m)

pub loop-number-preserved : goal.loop-number-preserved
loop-number-preserved c =
    let here : c.loop-number.number < length c.loop-number.parents.items = omega (arith, c.loop-number-test.true, c.len-number-end.ensures, c.loop-number.invariant.count) in
    record {
      count = c.skip_parent.ensures.count ∙ c.loop-number.invariant.count;
      below = c.skip_parent.ensures.below;
      labels = λ label l. c.skip_parent.ensures.labels label (c.loop-number.invariant.labels label l);
      roots = λ label l i h. elim (cases_eq i c.loop-number.number) [
        | inl e ↦ ap (slice_index c.skip_parent.new.parents.items) e ∙ c.skip_parent.ensures.there ∙ c.skip_parent.ensures.parent ∙ at_root label c.loop-number.parents.items c.loop-number.number (c.loop-number.invariant.labels label l) c.loop-number.invariant.below here (c.loop-number.invariant.roots label l) ∙ sym (ap label e)
        | inr d ↦ let less : i < c.loop-number.number = omega (arith, d, h) in c.skip_parent.ensures.others i less ∙ c.loop-number.invariant.roots label l i less
      ];
    }
