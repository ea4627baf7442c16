-- Searching after a cursor.
use Rattle.std.proofs.Common.{◌≡◌, ℕ, suc, ◌*◌, ◌<◌, ◌≤◌, List, [], ◌∷◌, ◌++◌, length, take, drop, get_or, refl, sym, ◌∙◌, ap, subst, subst₂, arith, inl, inr, append-nil, append_assoc, length-append}
use Rattle.std.proofs.Math.Seq.{get_or-append_seam}
use Rattle.std.proofs.lemmas.Bool.{cases_lt}
use Rattle.std.proofs.lemmas.List.{take_at, take-append-le, take-append-drop}
use Rattle.theory.specs.Congruence.{Presentation}
use Rattle.sims_one.specs.Targets.{seen, least_target, most_nodes, IsFront, AreAllowed, IsTable, IsWithin, IsBeyond}
use Rattle.sims_one.specs.Search.{Before, IsLeastWithin, NoneWithin, IsLeastBeyond, NoneBeyond, IsLeastAfter, NoneAfter, NoneFrom}
use Rattle.sims_one.proofs.FrontLaws.{allowed_front, allowed_next, full_ends, before_itself, before_both, before_heads, common_front, Compared, compared}
use Rattle.sims_one.proofs.FrontLaws.Compared.{begins, below, above}

-- what goes on behind t and one more target goes on behind t
pub within_less : (t : List ℕ) (m : ℕ) (u : List ℕ) → IsWithin (t ++ m ∷ []) u → IsWithin t u
within_less t m u w = record { rest = m ∷ w.rest; is = w.is ∙ append_assoc t (m ∷ []) w.rest }

pub beyond_within : (t : List ℕ) (first : ℕ) (u : List ℕ) → IsBeyond t first u → IsWithin t u
beyond_within t first u b = record { rest = b.target ∷ b.rest; is = b.is }

module _ (p : Presentation) (n : ℕ) where
  -- no table has a target that is not allowed
  pub none_barred : (t : List ℕ) (m : ℕ) → ((least_target p.is_monoid ≤ m) × (m < most_nodes p.is_monoid n) → ⊥) → NoneWithin p n (t ++ m ∷ [])
  none_barred t m barred u table w =
      let is : u ≡ t ++ m ∷ w.rest = w.is ∙ append_assoc t (m ∷ []) w.rest in
      barred (allowed_next p n t m w.rest (subst (λ (xs : List ℕ). AreAllowed p n xs) is table.allowed))

  -- a table has a target
  some_target : 0 < p.letters → (u : List ℕ) → IsTable p n u → (m : ℕ) × (rest : List ℕ) × (u ≡ m ∷ rest)
  some_target some [] table = absurd (omega (arith, table.full))
  some_target some (m ∷ rest) table = (m, rest, refl)

  pub first_found : 0 < p.letters → (found : List ℕ) → IsLeastWithin p n [] found → IsLeastAfter p n [] found
  first_found some found l = record {
    table = l.table;
    after = let e = some_target some found l.table in subst (λ (xs : List ℕ). Before [] xs) (sym e.2) refl;
    least = λ u table after before. l.least u table (record { rest = u; is = refl }) before;
  }

  pub first_none : NoneWithin p n [] → NoneAfter p n []
  first_none none u table after = none u table (record { rest = u; is = refl })

  pub from_start : (cursor : List ℕ) → p.letters * seen cursor ≤ length cursor → NoneFrom p n cursor cursor
  from_start cursor full u table w after = go w.rest w.is
    where
      go : (rest : List ℕ) → u ≡ cursor ++ rest → ⊥
      go [] e = before_itself cursor (subst (λ (xs : List ℕ). Before cursor xs) (e ∙ append-nil cursor) after)
      go (m ∷ rest) e = full_ends p.letters cursor m rest (subst (λ (xs : List ℕ). IsFront p.letters xs) e table.front) full

  pub from_end : (cursor : List ℕ) → NoneFrom p n cursor [] → NoneAfter p n cursor
  from_end cursor none u table after = none u table (record { rest = u; is = refl }) after

  module _ (cursor t : List ℕ) (l : ℕ) (rest : List ℕ) (is : cursor ≡ t ++ l ∷ rest) (none : NoneFrom p n cursor (t ++ l ∷ [])) where
    -- what comes after the cursor behind t has a greater target
    beyond : (u : List ℕ) → IsTable p n u → IsWithin t u → Before cursor u → IsBeyond t (suc l) u
    beyond u table w after = go w.rest w.is
      where
        go : (more : List ℕ) → u ≡ t ++ more → IsBeyond t (suc l) u
        go [] e =
            let h : Before (t ++ l ∷ rest) (t ++ []) = subst₂ Before is e after in
            let k = sym (common_front t (l ∷ rest) []) ∙ h in cc
        go (m ∷ more) e = elim (cases_lt l m) [
          | inl less ↦ record { target = m; rest = more; is = e; from = omega arith }
          | inr most ↦ elim (cases_lt m l) [
            | inl lower ↦
                let back : Before u cursor = subst₂ Before (sym e) (sym is) (before_heads t m l more rest lower) in
                absurd (before_both u cursor back after)
            | inr higher ↦
                let same : m ≡ l = omega arith in
                absurd (none u table (record { rest = more; is = e ∙ ap (λ z. t ++ z ∷ more) same ∙ sym (append_assoc t (l ∷ []) more) }) after)
          ]
        ]

    pub from_more : NoneBeyond p n t (suc l) → NoneFrom p n cursor t
    from_more past u table w after = past u table (beyond u table w after)

    pub from_found : (found : List ℕ) → IsLeastBeyond p n t (suc l) found → IsLeastAfter p n cursor found
    from_found found f = record {
      table = f.table;
      after = subst₂ Before (sym is) (sym f.beyond.is) (before_heads t l f.beyond.target rest f.beyond.rest (omega (arith, f.beyond.from)));
      least = λ u table after before. go u table after before (compared t u);
    }
      where
        go : (u : List ℕ) → IsTable p n u → Before cursor u → Before u found → Compared t u → ⊥
        go u table after before (begins more e) = f.least u table (beyond u table (record { rest = more; is = e }) after) before
        go u table after before (below h) =
            before_both u found before (subst (λ (xs : List ℕ). Before xs u) (sym f.beyond.is) (h (f.beyond.target ∷ f.beyond.rest)))
        go u table after before (above h) =
            before_both cursor u after (subst (λ (xs : List ℕ). Before u xs) (sym is) (h (l ∷ rest)))

  -- tables have allowed targets alone
  pub none_beyond : (t : List ℕ) (first : ℕ) → (AreAllowed p n t → ⊥) → NoneBeyond p n t first
  none_beyond t first not u table b =
      not (allowed_front p n t (b.target ∷ b.rest) (subst (λ (xs : List ℕ). AreAllowed p n xs) b.is table.allowed))

-- the next target of the cursor
pub next_within : (t cursor : List ℕ) (place target : ℕ) → (w : IsWithin t cursor) → place ≡ length t → place < length cursor → target ≡ get_or cursor place 0 → IsWithin (t ++ target ∷ []) cursor
next_within t cursor place target w here within is = go w.rest w.is
  where
    go : (rest : List ℕ) → cursor ≡ t ++ rest → IsWithin (t ++ target ∷ []) cursor
    go [] e = absurd (omega (arith, within, here, ap length (e ∙ append-nil t)))
    go (m ∷ rest) e =
        let at : get_or cursor place 0 ≡ m = ap (λ (xs : List ℕ). get_or xs place 0) e ∙ ap (λ i. get_or (t ++ m ∷ rest) i 0) here ∙ get_or-append_seam t m rest 0 in
        record { rest = rest; is = e ∙ ap (λ z. t ++ z ∷ rest) (sym at ∙ sym is) ∙ sym (append_assoc t (target ∷ []) rest) }

-- all of the cursor
pub whole_within : (t cursor : List ℕ) → IsWithin t cursor → length cursor ≤ length t → t ≡ cursor
whole_within t cursor w long = go w.rest w.is
  where
    go : (rest : List ℕ) → cursor ≡ t ++ rest → t ≡ cursor
    go [] e = sym (e ∙ append-nil t)
    go (m ∷ rest) e = absurd (omega (arith, long, ap length e, length-append t (m ∷ rest)))

pub along : (cursor t : List ℕ) (target : ℕ) → (w : IsWithin (t ++ target ∷ []) cursor) → cursor ≡ t ++ target ∷ w.rest
along cursor t target w = w.is ∙ append_assoc t (target ∷ []) w.rest

pub within_long : (t cursor : List ℕ) (m : ℕ) → IsWithin (t ++ m ∷ []) cursor → length t < length cursor
within_long t cursor m w = omega (arith, ap length w.is, length-append (t ++ m ∷ []) w.rest, length-append t (m ∷ []))

pub nothing_left : (s : List ℕ) → length s ≡ 0 → s ≡ []
nothing_left [] h = refl
nothing_left (x ∷ s) h = absurd (omega arith)

-- the targets that are kept
pub kept_all : (s cursor : List ℕ) (kept : ℕ) → IsWithin s cursor → kept ≤ length s → length s ≤ kept → s ≡ take kept cursor
kept_all s cursor kept w low high = sym (ap (take kept) w.is ∙ take_at s w.rest kept (omega (arith, low, high)))

pub kept_within : (t cursor found : List ℕ) (m kept : ℕ) → IsWithin (t ++ m ∷ []) cursor → kept ≤ length t → IsWithin t found → IsWithin (take kept cursor) found
kept_within t cursor found m kept w low f =
    let same : take kept cursor ≡ take kept t = ap (take kept) (along cursor t m w) ∙ take-append-le kept t (m ∷ w.rest) low in
    subst (λ (xs : List ℕ). IsWithin xs found) (sym same)
    (record { rest = drop kept t ++ f.rest; is = f.is ∙ ap (λ (xs : List ℕ). xs ++ f.rest) (sym (take-append-drop kept t)) ∙ append_assoc (take kept t) (drop kept t) f.rest })
