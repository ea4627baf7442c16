-- There is a walk over each graph, and so a standard one with its equal paths.
use Rattle.std.proofs.Common.{◌≡◌, ℕ, zero, suc, ◌+◌, ◌<◌, ◌≤◌, Bool, true, false, List, [], ◌∷◌, ◌++◌, map, length, replicate, get_or, set, Option, Some, None, refl, subst, arith, inl, inr}
use Rattle.std.specs.Option.{is_some}
use Rattle.std.proofs.lemmas.Bool.{cases_lt}
use Rattle.std.proofs.lemmas.List.{length_push, length-map}
use Rattle.theory.specs.Graph.{Graph, target, IsGraph, IsComplete, SameEnd, Shows}
use Rattle.theory.proofs.GraphLaws.{complete_all_defined}
use Rattle.word_graph.specs.Steps.{step_at, IsWalkedTo}
use Rattle.word_graph.specs.Renumber.{renumber}
use Rattle.word_graph.specs.Standard.{IsStandardGraph, renumbered}
use Rattle.word_graph.specs.declared.walks.Step.{Step}
use Rattle.word_graph.proofs.StepLaws.{walked_none, walked_known, walked_found, walked_row, walked_start}
use Rattle.word_graph.proofs.StandardLaws.{renumbered_shows, renumbered_standard}

-- a walk that has come to a row and letter, with at least so many steps
record Walking (k : ℕ) (g : Graph) (count i a : ℕ) : Type 0 where
  steps : List Step
  places : List (Option ℕ)
  some : count ≤ length steps
  is : IsWalkedTo k g steps places i a

module _ (k : ℕ) (g : Graph) (graph : IsGraph k g) where
  follow : (count i a : ℕ) → i < count → a < k → Walking k g count i a → Walking k g count i (a + 1)
  follow count i a hi ha w = go (target g (step_at w.steps i).node a) refl
    where
      inside : i < length w.steps
      inside = let h = w.some in omega (arith, h, hi)

      at : (next : ℕ) → target g (step_at w.steps i).node a ≡ Some next → (b : Bool) → is_some (get_or w.places next None) ≡ b → Walking k g count i (a + 1)
      at next e true h = record { steps = w.steps; places = w.places; some = w.some; is = walked_known k g w.steps w.places i a next graph inside e h w.is }
      at next e false h = record {
        steps = w.steps ++ record { node = next; parent = i; letter = a } ∷ [];
        places = set w.places next (Some (length w.steps));
        some = let h = w.some in omega (arith, h, length_push w.steps (record { node = next; parent = i; letter = a }));
        is = walked_found k g w.steps w.places i a next graph inside ha e h w.is;
      }

      go : (t : Option ℕ) → target g (step_at w.steps i).node a ≡ t → Walking k g count i (a + 1)
      go None e = record { steps = w.steps; places = w.places; some = w.some; is = walked_none k g w.steps w.places i a inside e w.is }
      go (Some next) e = at next e (is_some (get_or w.places next None)) refl

  follow_row : (count i : ℕ) → i < count → (m a : ℕ) → a + m ≡ k → Walking k g count i a → Walking k g count i k
  follow_row count i hi zero a e w = let same : a ≡ k = omega arith in subst (Walking k g count i) same w
  follow_row count i hi (suc m) a e w = follow_row count i hi m (a + 1) (omega arith) (follow count i a hi (omega arith) w)

  next_row : (count i : ℕ) → i < count → Walking k g count i 0 → Walking k g count (i + 1) 0
  next_row count i hi w =
      let r = follow_row count i hi k 0 (omega arith) w in
      record { steps = r.steps; places = r.places; some = r.some; is = walked_row k g r.steps r.places i graph r.is }

  -- a walk that has come to its end
  record Walked : Type 0 where
    steps : List Step
    places : List (Option ℕ)
    is : IsWalkedTo k g steps places (length steps) 0

  ended : (i : ℕ) (w : Walking k g i i 0) → length w.steps ≤ i → Walked
  ended i w h =
      let some = w.some in
      let same : i ≡ length w.steps = omega (arith, h, some) in
      record { steps = w.steps; places = w.places; is = subst (λ z. IsWalkedTo k g w.steps w.places z 0) same w.is }

  one_more : (i : ℕ) (w : Walking k g i i 0) → i < length w.steps → Walking k g (i + 1) (i + 1) 0
  one_more i w more = next_row (i + 1) i (omega arith) (record { steps = w.steps; places = w.places; some = omega (arith, more); is = w.is })

  go_on : (fuel i : ℕ) → length g ≤ i + fuel → Walking k g i i 0 → Walked
  go_on zero i enough w = elim (cases_lt i (length w.steps)) [
    | inl more ↦ let left = w.is.left in absurd (omega (arith, enough, more, left))
    | inr past ↦ ended i w past
  ]
  go_on (suc fuel) i enough w = elim (cases_lt i (length w.steps)) [
    | inl more ↦ go_on fuel (i + 1) (omega (arith, enough)) (one_more i w more)
    | inr past ↦ ended i w past
  ]

  walk_there : Walked
  walk_there = go_on (length g) 0 (omega arith) (record {
    steps = record { node = 0; parent = 0; letter = 0 } ∷ [];
    places = set (replicate (length g) None) 0 (Some 0);
    some = omega arith;
    is = walked_start k g (length g) 0 graph.rooted refl;
  })

  -- a standard graph with the equal paths of a complete one, and no more nodes
  pub standard_there : IsComplete k g → (h : Graph) × IsStandardGraph k h × Shows h (SameEnd g) × (length h ≤ length g)
  standard_there complete =
      let w = walk_there in (
        renumbered w.steps w.places g,
        renumbered_standard k g w.steps w.places graph w.is (complete_all_defined k g graph complete),
        renumbered_shows k g w.steps w.places graph w.is,
        omega (arith, length-map w.steps (λ (s : Step). map (renumber w.places) (get_or g s.node [])), w.is.left),
      )
