-- Levels of words of one length.
use Rattle.std.proofs.Common.{◌≡◌, ℕ, zero, suc, ◌+◌, ◌*◌, ◌<◌, ◌≤◌, List, [], ◌∷◌, ◌++◌, length, get_or, ap, ◌∙◌, arith, inl, inr, length-append, mul-le-mul_right}
use Rattle.theory.specs.Word.{Word}
use Rattle.froidure_pin.specs.Found.{parent}
use Rattle.froidure_pin.specs.Growing.{IsLevel, ReachesShorter, ReachesAsLong}
use Rattle.froidure_pin.proofs.Order.{below_or_not, equal_or_below}
use Rattle.froidure_pin.proofs.Places.{at_last}
use Rattle.froidure_pin.proofs.Starts.{get_front}

-- a word that is one letter longer goes behind
pub level_push : (words : List Word) (c : Word) (number first last : ℕ) → first ≤ number → number < last → length c ≡ length (get_or words number []) + 1 → IsLevel words first last → IsLevel (words ++ c ∷ []) first last
level_push words c number first last low high long level =
    let more = length-append words (c ∷ []) in
    let same : length (get_or words number []) ≡ length (get_or words first []) = level.here number low high in
    let front : (j : ℕ) → j < length words → length (get_or (words ++ c ∷ []) j []) ≡ length (get_or words j []) = λ j h. ap length (get_front words (c ∷ []) j [] h) in
    let base : length (get_or (words ++ c ∷ []) first []) ≡ length (get_or words first []) = front first (omega (arith, level.within)) in
    record {
      within = omega (arith, level.within);
      here = λ j p q. omega (arith, front j (omega (arith, level.within)), level.here j p q, base);
      behind = λ j p q. elim (equal_or_below j (length words) (omega arith)) [
        | inl e ↦
            let at : get_or (words ++ c ∷ []) j [] ≡ c = ap (λ n. get_or (words ++ c ∷ []) n []) e ∙ at_last words c [] in
            omega (arith, ap length at, long, same, base)
        | inr less ↦ omega (arith, front j less, level.behind j p less, base)
      ];
    }

-- the next level
pub level_next : (words : List Word) (first last : ℕ) → first < last → IsLevel words first last → IsLevel words last (length words)
level_next words first last some level = record {
  within = omega arith;
  here = λ j p q. omega (arith, level.behind j p q, level.behind last (omega arith) (omega arith));
  behind = λ j p q. absurd (omega arith);
}

-- what is shorter than a word of the level is before the level
pub level_shorter : (k : ℕ) (words : List Word) (first last number : ℕ) → first ≤ number → number < last → IsLevel words first last → ReachesShorter k words ((first + 1) * k) number
level_shorter k words first last number low high level = record { row = λ j h less. mul-le-mul_right k (early j h less) }
  where
    early : (j : ℕ) → j ≤ length words → length (parent words j) < length (get_or words number []) → j + 1 ≤ first + 1
    early zero h less = omega arith
    early (suc j) h less = elim (below_or_not j first) [
      | inl l ↦ omega arith
      | inr after ↦ elim (below_or_not j last) [
        | inl inside ↦ absurd (omega (arith, level.here j after inside, level.here number low high))
        | inr behind ↦ absurd (omega (arith, level.behind j behind (omega arith), level.here number low high))
      ]
    ]

-- what is as long as a word of the level is not behind it
pub level_as_long : (k : ℕ) (words : List Word) (first last number : ℕ) → first ≤ number → number < last → IsLevel words first last → ReachesAsLong k words ((last + 1) * k) number
level_as_long k words first last number low high level = record {
  row = λ j h less. elim (below_or_not j last) [
    | inl inside ↦ mul-le-mul_right k (omega arith)
    | inr behind ↦ absurd (omega (arith, level.behind j behind h, level.here number low high))
  ];
}

-- what is longer than the word of a number need not be reached
pub shorter_push : (k : ℕ) (words : List Word) (c : Word) (n number : ℕ) → number < length words → length c ≡ length (get_or words number []) + 1 → ReachesShorter k words n number → ReachesShorter k (words ++ c ∷ []) n number
shorter_push k words c n number within long reach = record { row = row }
  where
    more : length (words ++ c ∷ []) ≡ length words + 1
    more = omega (arith, length-append words (c ∷ []))

    base : length (get_or (words ++ c ∷ []) number []) ≡ length (get_or words number [])
    base = ap length (get_front words (c ∷ []) number [] within)

    row : (j : ℕ) → j ≤ length (words ++ c ∷ []) → length (parent (words ++ c ∷ []) j) < length (get_or (words ++ c ∷ []) number []) → (j + 1) * k ≤ n
    row j h less = elim (equal_or_below j (length words + 1) (omega (arith, more))) [
      | inl e ↦
          let last : j ≡ suc (length words) = omega (arith, e) in
          let at : parent (words ++ c ∷ []) j ≡ c = ap (λ m. parent (words ++ c ∷ []) m) last ∙ at_last words c [] in
          absurd (omega (arith, ap length at, long, base))
      | inr l ↦
          let same : parent (words ++ c ∷ []) j ≡ parent words j = get_front ([] ∷ words) (c ∷ []) j [] (omega arith) in
          reach.row j (omega arith) (omega (arith, ap length same, base))
    ]
