-- Chains with places.
use Rattle.std.proofs.Common.{◌≡◌, ℕ, zero, suc, ◌<◌, Bool, true, false, List, [], ◌∷◌, length, refl, ap, arith, inl, inr, Contains, Some, slice_get, get_or}
use Rattle.theory.specs.Word.{Word}
use Rattle.theory.specs.Congruence.{Presentation, EitherWay, of_presentation}
use Rattle.theory.specs.Chain.{StepBy, Chain, Related}
use Rattle.theory.specs.PlacedStep.{PlacedStep, Gives, AllGive, read_sides, last_word}
use Rattle.theory.specs.declared.Kind.TheVariants.{TwoSided}
use Rattle.theory.proofs.Chains.{joined_one, joined_refl, joined_trans}
use Rattle.theory.proofs.Related.{none_either}

contains_at : {X : Type 0} (xs : List X) (i : ℕ) (x : X) → slice_get xs i ≡ Some x → Contains xs x
contains_at {X} xs i x e = let r = go xs i e in (i, r.0, r.1)
  where
    go : (xs : List X) (i : ℕ) → slice_get xs i ≡ Some x → (i < length xs) × (get_or xs i x ≡ x)
    go [] i e = cc
    go (y ∷ ys) zero e = let same : y ≡ x = cc in (omega arith, same)
    go (y ∷ ys) (suc i) e = let r = go ys i e in (omega (arith, r.0), r.1)

at_contains : {X : Type 0} (xs : List X) (i : ℕ) (x : X) → i < length xs → get_or xs i x ≡ x → slice_get xs i ≡ Some x
at_contains [] i x h e = absurd (omega arith)
at_contains (y ∷ ys) zero x h e = ap (λ z. Some z) e
at_contains (y ∷ ys) (suc i) x h e = at_contains ys i x (omega arith) e

-- a step with a place is a step
pub gives_related : (p : Presentation) (u v : Word) (step : PlacedStep) → Gives p u step v → Related (of_presentation p) u v
gives_related p u v step g =
    joined_one (StepBy (EitherWay p.relations) TwoSided []) u v
    (inl
    (record { before = g.before; from = (read_sides step.forward g.sides).0; to = (read_sides step.forward g.sides).1; after = g.after; base = read step.forward; place = tt; source = g.source; target = g.target }))
  where
    read : (forward : Bool) → EitherWay p.relations (read_sides forward g.sides).0 (read_sides forward g.sides).1
    read true = inl (contains_at p.relations step.relation g.sides g.known)
    read false = inr (contains_at p.relations step.relation g.sides g.known)

-- steps with places lead to related words
pub all_give_related : (p : Presentation) (u : Word) (steps : List PlacedStep) (vs : List Word) → AllGive p u steps vs
    → Related (of_presentation p) u (last_word u vs)
all_give_related p u [] [] h = joined_refl (StepBy (EitherWay p.relations) TwoSided []) u
all_give_related p u (step ∷ steps) (v ∷ vs) h =
    joined_trans (StepBy (EitherWay p.relations) TwoSided []) u v (last_word v vs) (gives_related p u v step h.0) (all_give_related p v steps vs h.1)
all_give_related p u [] (v ∷ vs) h = absurd h
all_give_related p u (step ∷ steps) [] h = absurd h

-- and related words have such steps
pub related_all_give : (p : Presentation) (u v : Word) → Related (of_presentation p) u v
    → (steps : List PlacedStep) × (vs : List Word) × AllGive p u steps vs × (last_word u vs ≡ v)
related_all_give p u v h = go u h.0 h.1
  where
    placed : (u w : Word) → StepBy (EitherWay p.relations) TwoSided [] u w → (step : PlacedStep) × Gives p u step w
    placed u w s = elim s [
      | inl a ↦ elim (a.base) [
        | inl m ↦ (
          record { place = length a.before; relation = m.0; forward = true },
          record {
            sides = (a.from, a.to);
            known = at_contains p.relations m.0 (a.from, a.to) m.1 m.2;
            before = a.before;
            after = a.after;
            placed = refl;
            source = a.source;
            target = a.target;
          },
        )
        | inr m ↦ (
          record { place = length a.before; relation = m.0; forward = false },
          record {
            sides = (a.to, a.from);
            known = at_contains p.relations m.0 (a.to, a.from) m.1 m.2;
            before = a.before;
            after = a.after;
            placed = refl;
            source = a.source;
            target = a.target;
          },
        )
      ]
      | inr b ↦ absurd (none_either b.from b.to b.base)
    ]

    go : (u : Word) (ws : List Word) → Chain (StepBy (EitherWay p.relations) TwoSided []) u ws v
        → (steps : List PlacedStep) × (vs : List Word) × AllGive p u steps vs × (last_word u vs ≡ v)
    go u [] e = ([], [], tt, e)
    go u (w ∷ ws) c =
        let first = placed u w c.0 in
        let rest = go w ws c.1 in
        (first.0 ∷ rest.0, w ∷ rest.1, (first.1, rest.2), rest.3)
