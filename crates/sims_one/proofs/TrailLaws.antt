-- Edges in the order in which they became known.
use Rattle.std.proofs.Common.{◌≡◌, ℕ, zero, suc, ◌-◌, ◌<◌, ◌≤◌, List, [], ◌∷◌, ◌++◌, length, take, drop, set, get_or, Option, Some, None, refl, sym, ◌∙◌, ap, arith, append_assoc}
use Rattle.std.proofs.lemmas.List.{append-nil, length-append, length-take-le, take-append-drop, take_at, take-append-le, drop-append-le}
use Rattle.std.proofs.Math.ListN.{drop_of_length-le}
use Rattle.std.specs.Prelude.{IfNone, option_to_list}
use Rattle.sims_one.specs.declared.trail.Edge.{Edge}
use Rattle.sims_one.specs.declared.known.Known.{Known}
use Rattle.sims_one.specs.Edges.{without}
use Rattle.sims_one.specs.Known.{Grows}

pub without_more : (targets : List (Option ℕ)) (es fs : List Edge) → without targets (es ++ fs) ≡ without (without targets fs) es
without_more targets [] fs = refl
without_more targets (e ∷ es) fs = ap (λ (ts : List (Option ℕ)). set ts e.place None) (without_more targets es fs)

-- a target that was not known before
without_new : (targets : List (Option ℕ)) (place m : ℕ) → get_or targets place None ≡ None → set (set targets place (Some m)) place None ≡ targets
without_new [] place m e = refl
without_new (x ∷ targets) zero m e = ap (λ (y : Option ℕ). y ∷ targets) (sym e)
without_new (x ∷ targets) (suc place) m e = ap (λ (ts : List (Option ℕ)). x ∷ ts) (without_new targets place m e)

-- the edges behind the first ones
pub drop_behind : (es fs : List Edge) (n : ℕ) → n ≡ length es → drop n (es ++ fs) ≡ fs
drop_behind es fs n e = drop-append-le n es fs (omega (arith, e)) ∙ ap (λ (xs : List Edge). xs ++ fs) (drop_of_length-le es (omega (arith, e)))

-- the last edge goes
pub without_last : (targets : List (Option ℕ)) (rest trail : List Edge) (e : Edge) (n : ℕ) → trail ≡ rest ++ e ∷ [] → n < length trail
    → without targets (drop n trail) ≡ without (set targets e.place None) (drop n rest)
without_last targets rest trail e n is less =
    let inside : n ≤ length rest = omega (arith, less, ap length is, length-append rest (e ∷ [])) in
    ap (λ (es : List Edge). without targets (drop n es)) is ∙ ap (without targets) (drop-append-le n rest (e ∷ []) inside)
    ∙ without_more targets (drop n rest) (e ∷ [])

pub take_last : (rest trail : List Edge) (e : Edge) (n : ℕ) → trail ≡ rest ++ e ∷ [] → n < length trail → take n trail ≡ take n rest
take_last rest trail e n is less =
    let inside : n ≤ length rest = omega (arith, less, ap length is, length-append rest (e ∷ [])) in
    ap (take n) is ∙ take-append-le n rest (e ∷ []) inside

-- nothing is behind the end
pub nothing_behind : (targets : List (Option ℕ)) (trail : List Edge) (n : ℕ) → length trail ≤ n → targets ≡ without targets (drop n trail)
nothing_behind targets trail n all = sym (ap (without targets) (drop_of_length-le trail all))

-- none is taken where there is none
pub popped_none : (r : Option Edge) (old new : List Edge) (n : ℕ) → old ≡ new ++ option_to_list r → new ≡ take (n - 1) old → n ≡ length old → IfNone r (length old ≡ 0)
popped_none None old new n items rest long =
    omega (arith, ap length items, length-append new [], ap length rest, long, length-take-le (n - 1) old (omega (arith, long)))
popped_none (Some e) old new n items rest long = tt

-- what has been taken away in two steps
pub without_twice : (targets : List (Option ℕ)) (trail : List Edge) (n m : ℕ) → n ≤ m → m ≤ length trail
    → without (without targets (drop m trail)) (drop n (take m trail)) ≡ without targets (drop n trail)
without_twice targets trail n m less inside =
    let low : n ≤ length (take m trail) = omega (arith, less, length-take-le m trail inside) in
    sym (without_more targets (drop n (take m trail)) (drop m trail))
    ∙ ap (without targets) (sym (drop-append-le n (take m trail) (drop m trail) low) ∙ ap (drop n) (take-append-drop m trail))

-- what is known grows
pub grows_same : (old new : Known) → new.targets ≡ old.targets → new.trail ≡ old.trail → Grows old new
grows_same old new targets trail = record { since = []; trail = trail ∙ sym (append-nil old.trail); targets = targets }

pub grows_one : (old new : Known) (e : Edge) (m : ℕ) → get_or old.targets e.place None ≡ None → new.targets ≡ set old.targets e.place (Some m)
    → new.trail ≡ old.trail ++ e ∷ [] → Grows old new
grows_one old new e m fresh targets trail = record {
  since = e ∷ [];
  trail = trail;
  targets = ap (λ (ts : List (Option ℕ)). set ts e.place None) targets ∙ without_new old.targets e.place m fresh;
}

pub grows_on : (old known new : Known) → Grows old known → Grows known new → Grows old new
grows_on old known new g h = record {
  since = g.since ++ h.since;
  trail = h.trail ∙ ap (λ (es : List Edge). es ++ h.since) g.trail ∙ append_assoc old.trail g.since h.since;
  targets = without_more new.targets g.since h.since ∙ ap (λ (ts : List (Option ℕ)). without ts g.since) h.targets ∙ g.targets;
}

-- and is forgotten again
pub forgotten : (old new : Known) (n : ℕ) → Grows old new → n ≡ length old.trail
    → (without new.targets (drop n new.trail) ≡ old.targets) × (take n new.trail ≡ old.trail)
forgotten old new n g e = (
  ap (λ (es : List Edge). without new.targets (drop n es)) g.trail ∙ ap (without new.targets) (drop_behind old.trail g.since n e) ∙ g.targets,
  ap (take n) g.trail ∙ take_at old.trail g.since n (sym e),
)
