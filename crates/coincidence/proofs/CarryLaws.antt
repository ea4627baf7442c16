-- Where nodes go when they are merged.
use Rattle.std.proofs.Common.{◌≡◌, ℕ, ◌<◌, inl, inr, List, length, slice_index, option_map, sym, ap, ◌∙◌, subst, arith, Option, Some, None, refl}
use Rattle.std.proofs.lemmas.Bool.{cases_lt}
use Rattle.std.proofs.lemmas.List.{get_or_past}
use Rattle.theory.specs.Word.{Word}
use Rattle.theory.specs.Graph.{Graph, path, IsGraph}
use Rattle.coincidence.specs.Folding.{IsMerging}
use Rattle.coincidence.specs.Closing.{IsEdged}
use Rattle.coincidence.specs.Marks.{IsCarried}
use Rattle.word_graph.proofs.StandardLaws.{path_in}
use Rattle.coincidence.proofs.CloseLaws.{IsPlaced, edged_path}
use Rattle.coincidence.proofs.MergeLaws.{folded_path}

-- each node is where it was
pub carried_apart : (k : ℕ) (g : Graph) (class : List ℕ) → IsGraph k g → length class ≡ length g → ((n : ℕ) → n < length g → slice_index class n ≡ n) → IsCarried g g class
carried_apart k g class graph shape own = record {
  shape = shape;
  below = λ n. elim (cases_lt n (length g)) [ inl h ↦ omega (arith, own n h) | inr past ↦ omega (arith, get_or_past class n 0 (omega (arith, past, shape))) ];
  follows = λ w n at. at ∙ ap (λ z. Some z) (sym (own n (path_in k g graph 0 n w graph.rooted at)));
}

-- a merging takes each node to its class
pub carried_merged : (old new : Graph) (class : List ℕ) (x y : ℕ) → IsMerging old x y new class → IsCarried old new class
carried_merged old new class x y m = record {
  shape = m.classing.shape;
  below = m.classing.below;
  follows = λ w n at.
      let root : slice_index class 0 ≡ 0 = omega (arith, m.classing.below 0) in
      subst (λ z. path new z w ≡ Some (slice_index class n)) root (folded_path old class new m.folded 0 n w at);
}

-- an edge more takes no node away
pub carried_edged : (first old new : Graph) (class : List ℕ) (j a m : ℕ) → IsEdged old new j a m → IsCarried first old class → IsCarried first new class
carried_edged first old new class j a m f c = record {
  shape = c.shape;
  below = c.below;
  follows = λ w n at. edged_path old new j a m f 0 (slice_index class n) w (c.follows w n at);
}

-- one merging after another
pub carried_on : (k : ℕ) (first old new : Graph) (class next both : List ℕ) → IsGraph k first → IsCarried first old class → IsCarried old new next → length both ≡ length class
    → ((n : ℕ) → n < length class → slice_index both n ≡ slice_index next (slice_index class n)) → IsCarried first new both
carried_on k first old new class next both graph c d shape gone = record {
  shape = shape ∙ c.shape;
  below = λ n. elim (cases_lt n (length class)) [
    | inl h ↦ omega (arith, gone n h, c.below n, d.below (slice_index class n))
    | inr past ↦ omega (arith, get_or_past both n 0 (omega (arith, past, shape)))
  ];
  follows = λ w n at.
      let within : n < length class = omega (arith, path_in k first graph 0 n w graph.rooted at, c.shape) in
      d.follows w (slice_index class n) (c.follows w n at) ∙ ap (λ z. Some z) (sym (gone n within));
}

-- the node at which relations are read, where it has gone
pub placed_at : (first g : Graph) (class : List ℕ) → IsCarried first g class → (from at : Option ℕ) → ((n : ℕ) → from ≡ Some n → (w : Word) × (path first 0 w ≡ Some n)) → at ≡ option_map (slice_index class) from → IsPlaced first from g at
placed_at first g class c from at reached e = subst (IsPlaced first from g) (sym e) (go from reached)
  where
    go : (from : Option ℕ) → ((n : ℕ) → from ≡ Some n → (w : Word) × (path first 0 w ≡ Some n)) → IsPlaced first from g (option_map (slice_index class) from)
    go None reached = tt
    go (Some n) reached = let w = reached n refl in (w.0, w.1, c.follows w.0 n w.1)

-- and some word leads there
pub placed_reached : (first g : Graph) (from at : Option ℕ) → IsPlaced first from g at → (n : ℕ) → at ≡ Some n → (w : Word) × (path g 0 w ≡ Some n)
placed_reached first g None None p n e = cc
placed_reached first g None (Some k) p n e = absurd p
placed_reached first g (Some l) None p n e = absurd p
placed_reached first g (Some l) (Some k) p n e = (p.0, p.2 ∙ e)
