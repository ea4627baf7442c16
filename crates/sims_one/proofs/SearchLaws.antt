-- What a search among the tables behind a list of targets finds.
use Rattle.std.proofs.Common.{◌≡◌, ℕ, ◌+◌, ◌*◌, ◌<◌, ◌≤◌, List, [], ◌∷◌, ◌++◌, length, sym, ◌∙◌, ap, subst, subst₂, arith, inl, inr, append-nil, append_assoc}
use Rattle.std.proofs.lemmas.Bool.{cases_lt}
use Rattle.theory.specs.Congruence.{Presentation}
use Rattle.sims_one.specs.Targets.{seen, IsFront, AreAllowed, IsSound, IsTable, IsWithin, IsBeyond, least_target, most_nodes}
use Rattle.sims_one.specs.Search.{Before, IsLeastWithin, NoneWithin, IsLeastBeyond, NoneBeyond}
use Rattle.sims_one.proofs.FrontLaws.{allowed_next, front_next, full_ends, before_itself, before_both, before_heads}
use Rattle.sims_one.proofs.PathLaws.{sound_front}

module _ (p : Presentation) (n : ℕ) (t : List ℕ) where
  front_in : (u : List ℕ) → IsTable p n u → (w : IsWithin t u) → IsFront p.letters (t ++ w.rest)
  front_in u table w = subst (λ (xs : List ℕ). IsFront p.letters xs) w.is table.front

  -- no table goes on where the relations fail
  pub none_broken : (IsSound p t → ⊥) → NoneWithin p n t
  none_broken broken u table w = broken (sound_front p t w.rest (subst (λ (xs : List ℕ). IsSound p xs) w.is table.sound))

  -- a whole table
  pub full_least : IsFront p.letters t → AreAllowed p n t → IsSound p t → p.letters * seen t ≤ length t → IsLeastWithin p n t t
  full_least front allowed sound full = record {
    table = record { front = front; allowed = allowed; full = omega (arith, front.fits, full); sound = sound };
    within = record { rest = []; is = sym (append-nil t) };
    least = λ u table w before. go u w.rest w.is table before;
  }
    where
      go : (u rest : List ℕ) → u ≡ t ++ rest → IsTable p n u → Before u t → ⊥
      go u [] e table before = before_itself t (subst (λ (xs : List ℕ). Before xs t) (e ∙ append-nil t) before)
      go u (m ∷ rest) e table before = full_ends p.letters t m rest (subst (λ (xs : List ℕ). IsFront p.letters xs) e table.front) full

  -- where a target is wanting, tables go on with one
  module _ (wants : length t < p.letters * seen t) where
    pub within_beyond : (u : List ℕ) → IsTable p n u → IsWithin t u → IsBeyond t (least_target p.is_monoid) u
    within_beyond u table w = go w.rest w.is
      where
        go : (rest : List ℕ) → u ≡ t ++ rest → IsBeyond t (least_target p.is_monoid) u
        go [] e =
            let same : u ≡ t = e ∙ append-nil t in
            let full : length t ≡ p.letters * seen t = subst (λ (xs : List ℕ). length xs ≡ p.letters * seen xs) same table.full in
            absurd (omega (arith, full, wants))
        go (m ∷ rest) e = record {
          target = m;
          rest = rest;
          is = e;
          from = (allowed_next p n t m rest (subst (λ (xs : List ℕ). AreAllowed p n xs) e table.allowed)).0;
        }

    pub none_wanting : NoneBeyond p n t (least_target p.is_monoid) → NoneWithin p n t
    none_wanting none u table w = none u table (within_beyond u table w)

    pub least_wanting : (found : List ℕ) → IsLeastBeyond p n t (least_target p.is_monoid) found → IsLeastWithin p n t found
    least_wanting found l = record {
      table = l.table;
      within = record { rest = l.beyond.target ∷ l.beyond.rest; is = l.beyond.is };
      least = λ u table w before. l.least u table (within_beyond u table w) before;
    }

  -- no table goes on with a target from the first one up to another
  abbrev pub NoneBetween : ℕ → ℕ → Type 0
  NoneBetween first f = (u : List ℕ) → IsTable p n u → (b : IsBeyond t first u) → b.target < f → ⊥

  within_beyond_any : (first : ℕ) (u : List ℕ) → IsBeyond t first u → IsWithin t u
  within_beyond_any first u b = record { rest = b.target ∷ b.rest; is = b.is }

  -- the tables have no lesser target than the least one that is tried
  pub between_least : (first f : ℕ) → ((u : List ℕ) → IsTable p n u → (b : IsBeyond t first u) → IsWithin t u → f ≤ b.target) → NoneBetween first f
  between_least first f least u table b h = omega (arith, least u table b (within_beyond_any first u b), h)

  within_pushed : (first f : ℕ) (u : List ℕ) → (b : IsBeyond t first u) → b.target ≡ f → IsWithin (t ++ f ∷ []) u
  within_pushed first f u b e = record {
    rest = b.rest;
    is = b.is ∙ ap (λ z. t ++ z ∷ b.rest) e ∙ sym (append_assoc t (f ∷ []) b.rest);
  }

  pub between_more : (first f : ℕ) → NoneBetween first f → NoneWithin p n (t ++ f ∷ []) → NoneBetween first (f + 1)
  between_more first f none within u table b h = elim (cases_lt b.target f) [
    | inl less ↦ none u table b less
    | inr most ↦ within u table (within_pushed first f u b (omega arith))
  ]

  pub between_end : (first f limit : ℕ) → NoneBetween first f → limit ≤ f
      → ((u : List ℕ) → IsTable p n u → (b : IsBeyond t first u) → IsWithin t u → b.target < most_nodes p.is_monoid n → b.target ≤ seen t → b.target < limit) → NoneBeyond p n t first
  between_end first f limit none past all u table b =
      let front : IsFront p.letters (t ++ b.target ∷ b.rest) = subst (λ (xs : List ℕ). IsFront p.letters xs) b.is table.front in
      let allowed : AreAllowed p n (t ++ b.target ∷ b.rest) = subst (λ (xs : List ℕ). AreAllowed p n xs) b.is table.allowed in
      none u table b (omega (arith, past, all u table b (within_beyond_any first u b) (allowed_next p n t b.target b.rest allowed).1 (front_next p.letters t b.target b.rest front)))

  pub between_found : (first f : ℕ) (found : List ℕ) → NoneBetween first f → first ≤ f → IsLeastWithin p n (t ++ f ∷ []) found → IsLeastBeyond p n t first found
  between_found first f found none from l = record {
    table = l.table;
    beyond = record { target = f; rest = l.within.rest; is = is; from = from };
    least = least;
  }
    where
      is : found ≡ t ++ f ∷ l.within.rest
      is = l.within.is ∙ append_assoc t (f ∷ []) l.within.rest

      least : (u : List ℕ) → IsTable p n u → IsBeyond t first u → Before u found → ⊥
      least u table b before = elim (cases_lt b.target f) [
        | inl less ↦ none u table b less
        | inr most ↦ elim (cases_lt f b.target) [
          | inl more ↦
              let other : Before found u = subst₂ Before (sym is) (sym b.is) (before_heads t f b.target l.within.rest b.rest more) in
              before_both u found before other
          | inr less ↦ l.least u table (within_pushed first f u b (omega arith)) before
        ]
      ]
