-- Chains without detours: cut, and with one word more.
use Rattle.std.proofs.Common.{◌≡◌, ℕ, zero, suc, ◌+◌, List, [], ◌∷◌, ◌++◌, take, length, refl, sym, ◌∙◌, ap, subst, arith, inl, inr, Some, Contains, slice_get, ◌-◌, Bool, false, IsTrue}
use Rattle.theory.specs.Word.{Word}
use Rattle.theory.specs.Congruence.{Presentation}
use Rattle.theory.specs.PlacedStep.{Gives, AllGive, AreDifferent, last_word}
use Rattle.theory.proofs.Counting.{IsIn, contains_from_in, in_from_contains}
use Rattle.chains.specs.Chains.{step_of, steps_of}
use Rattle.chains.specs.Walks.{IsStraightWalk}
use Rattle.chains.specs.declared.steps.ChainStep.{ChainStep}

-- a front of words that are all different
in_front : (n : ℕ) (ws : List Word) (w : Word) → IsIn w (take n ws) → IsIn w ws
in_front zero ws w m = absurd m
in_front (suc n) [] w m = absurd m
in_front (suc n) (x ∷ ws) w (inl e) = inl e
in_front (suc n) (x ∷ ws) w (inr m) = inr (in_front n ws w m)

different_front : (n : ℕ) (ws : List Word) → AreDifferent ws → AreDifferent (take n ws)
different_front zero ws d = tt
different_front (suc n) [] d = tt
different_front (suc n) (w ∷ ws) d = (
  λ m. d.0 (contains_from_in w ws (in_front n ws w (in_from_contains w (take n ws) m))),
  different_front n ws d.1,
)

-- and one word more
in_more : (ws : List Word) (v w : Word) → IsIn w (ws ++ v ∷ []) → (w ≡ v → ⊥) → IsIn w ws
in_more [] v w (inl e) other = absurd (other e)
in_more [] v w (inr m) other = absurd m
in_more (x ∷ ws) v w (inl e) other = inl e
in_more (x ∷ ws) v w (inr m) other = inr (in_more ws v w m other)

different_more : (ws : List Word) (v : Word) → AreDifferent ws → (Contains ws v → ⊥) → AreDifferent (ws ++ v ∷ [])
different_more [] v d n = (λ m. in_from_contains v [] m, tt)
different_more (w ∷ ws) v d n = (
  λ m. d.0 (contains_from_in w ws
      (in_more ws v w (in_from_contains w (ws ++ v ∷ []) m) (λ e. n (contains_from_in v (w ∷ ws) (inl (sym e)))))),
  different_more ws v d.1 (λ m. n (contains_from_in v (w ∷ ws) (inr (in_from_contains v ws m)))),
)

-- steps up to a place among their words
give_front : (p : Presentation) (u : Word) (steps : List ChainStep) (vs : List Word) (i : ℕ) (w : Word) → AllGive p u (steps_of steps) vs
    → slice_get (u ∷ vs) i ≡ Some w → AllGive p u (steps_of (take i steps)) (take i vs) × (last_word u (take i vs) ≡ w)
give_front p u steps vs zero w all is = (tt, let same : u ≡ w = cc in same)
give_front p u [] [] (suc i) w all is = let bad : ⊥ = cc in absurd bad
give_front p u [] (v ∷ vs) (suc i) w all is = absurd all
give_front p u (s ∷ steps) [] (suc i) w all is = absurd all
give_front p u (s ∷ steps) (v ∷ vs) (suc i) w all is = let r = give_front p v steps vs i w all.1 is in ((all.0, r.0), r.1)

-- and with one step more
give_more : (p : Presentation) (u : Word) (steps : List ChainStep) (vs : List Word) (s : ChainStep) (v : Word) → AllGive p u (steps_of steps) vs
    → Gives p (last_word u vs) (step_of s) v → AllGive p u (steps_of (steps ++ s ∷ [])) (vs ++ v ∷ [])
give_more p u [] [] s v all g = (g, tt)
give_more p u [] (w ∷ vs) s v all g = absurd all
give_more p u (t ∷ steps) [] s v all g = absurd all
give_more p u (t ∷ steps) (w ∷ vs) s v all g = (all.0, give_more p w steps vs s v all.1 g)

last_more : (u : Word) (vs : List Word) (v : Word) → last_word u (vs ++ v ∷ []) ≡ v
last_more u [] v = refl
last_more u (w ∷ vs) v = last_more w vs v

module _ (p : Presentation) (u : Word) (words : List Word) (steps : List ChainStep) (walk : IsStraightWalk p u words steps) where
  -- the walk stands again at a place
  pub walk_back : (place : ℕ) (word : Word) → slice_get words place ≡ Some word
      → IsStraightWalk p u (take (place + 1) words) (take place steps) × (last_word [] (take (place + 1) words) ≡ word)
  walk_back place word is =
      let front = give_front p u steps walk.chain.0 place word walk.chain.2 (subst (λ (ws : List Word). slice_get ws place ≡ Some word) walk.chain.1 is) in
      let more : place + 1 ≡ suc place = omega arith in
      let words_are : take (place + 1) words ≡ u ∷ take place walk.chain.0 =
      ap (λ n. take n words) more ∙ ap (take (suc place)) walk.chain.1 in (
        record { chain = (take place walk.chain.0, words_are, front.0); different = different_front (place + 1) words walk.different },
        ap (last_word []) words_are ∙ front.1,
      )

  -- and goes on by a step
  pub walk_on : (s : ChainStep) (word : Word) → Gives p (last_word [] words) (step_of s) word → (Contains words word → ⊥)
      → IsStraightWalk p u (words ++ word ∷ []) (steps ++ s ∷ []) × (last_word [] (words ++ word ∷ []) ≡ word)
  walk_on s word gives new =
      let from = subst (λ (ws : List Word). Gives p (last_word [] ws) (step_of s) word) walk.chain.1 gives in (
        record {
          chain = (walk.chain.0 ++ word ∷ [], ap (λ (ws : List Word). ws ++ word ∷ []) walk.chain.1, give_more p u steps walk.chain.0 s word walk.chain.2 from);
          different = different_more words word walk.different new;
        },
        last_more [] words word,
      )

-- the last word
pub last_is : (words : List Word) (word : Word) → Some word ≡ slice_get words (length words - 1) → last_word [] words ≡ word
last_is [] word is = let bad : ⊥ = cc in absurd bad
last_is (u ∷ words) word is = go u words (is ∙ ap (slice_get (u ∷ words)) (let at : length (u ∷ words) - 1 ≡ length words = omega arith in at))
  where
    go : (u : Word) (words : List Word) → Some word ≡ slice_get (u ∷ words) (length words) → last_word u words ≡ word
    go u [] is = let same : u ≡ word = cc in same
    go u (v ∷ words) is = go v words is

pub not_both : (r : Bool) → r ≡ false → IsTrue r → ⊥
not_both r is t = cc
