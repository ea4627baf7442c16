-- Powers of a number in an H-class with an idempotent: by Green's theorem they come back to it (Howie 1995, 2.2.5).
use Rattle.std.proofs.Common.{◌≡◌, ℕ, zero, suc, ◌<◌, [], ◌∷◌, length, reverse, refl, sym, ◌∙◌, ap, subst}
use Rattle.theory.specs.Word.{Word, IsOver}
use Rattle.theory.specs.Green.{Reaches, here, further, IsEdge, follow}
use Rattle.theory.proofs.KindLaws.{over_turned}
use Rattle.froidure_pin.specs.declared.tables.CayleyTables.{CayleyTables}
use Rattle.cayley.specs.Tables.{edge, word_at, FitTogether}
use Rattle.green.specs.Related.{AreOfLetters, AreRelated, DoAgree, DoCommute, IsIdempotentAt, product_in}
use Rattle.theory.specs.declared.Relation.TheVariants.{L, H}
use Rattle.green.proofs.FiniteLaws.{follow_reaches, follow_within, round, times, word_past}

-- the letters of the edges that lead from one number to another
along : (k : ℕ) (next : ℕ → ℕ → ℕ) {i j : ℕ} → Reaches (IsEdge k next) i j → (u : Word) × IsOver k u × (follow next i u ≡ j)
along k next here = ([], tt, refl)
along k next (further e r) =
    let rest = along k next r in
    (e.0 ∷ rest.0, (e.1, rest.1), ap (λ m. follow next m rest.0) e.2 ∙ rest.2)

pub times_last : (f : ℕ → ℕ) (s i : ℕ) → times f (suc s) i ≡ f (times f s i)
times_last f zero i = refl
times_last f (suc s) i = times_last f s (f i)

module _ (t : CayleyTables) (fit : FitTogether t) (commute : DoCommute t) (words : AreOfLetters t) (agree : DoAgree t) where
  abbrev n : ℕ
  n = length t.words

  abbrev k : ℕ
  k = length t.letters

  back_over : (i : ℕ) → i < n → IsOver k (reverse (word_at t i))
  back_over i l = over_turned k (word_at t i) (words i l)

  product_within : (i j : ℕ) → i < n → j < n → product_in t i j < n
  product_within i j l m = follow_within n k (edge t.left) fit.left.within (reverse (word_at t i)) j (back_over i l) m

  past : (u v : Word) (i : ℕ) → IsOver k u → IsOver k v → i < n → follow (edge t.left) (follow (edge t.right) i u) v ≡ follow (edge t.right) (follow (edge t.left) i v) u
  past = word_past n k (edge t.right) (edge t.left) fit.right.within fit.left.within commute

  associates : (i j m : ℕ) → i < n → j < n → m < n → product_in t (product_in t i j) m ≡ product_in t i (product_in t j m)
  associates i j m l below small =
      agree (product_in t i j) m (product_within i j l below) small
      ∙ sym (past (word_at t m) (reverse (word_at t i)) j (words m small) (back_over i l) below)
      ∙ sym (ap (product_in t i) (agree j m below small))

  pub times_below : (x s i : ℕ) → x < n → i < n → times (product_in t x) s i < n
  times_below x zero i l m = m
  times_below x (suc s) i l m = times_below x s (product_in t x i) l (product_within x i l m)

  power_times : (x s i j : ℕ) → x < n → i < n → j < n → product_in t (times (product_in t x) s i) j ≡ times (product_in t x) s (product_in t i j)
  power_times x zero i j l m small = refl
  power_times x (suc s) i j l m small =
      power_times x s (product_in t x i) j l (product_within x i l m) small ∙ ap (times (product_in t x) s) (associates x i j l m small)

  -- where powers come back to a number, the one before is idempotent
  pub power_squares : (x s : ℕ) → x < n → times (product_in t x) (suc s) x ≡ x → IsIdempotentAt t (times (product_in t x) s x)
  power_squares x s l e = record {
    below = times_below x s x l l;
    back =
        power_times x s x (times (product_in t x) s x) l l (times_below x s x l l)
        ∙ ap (times (product_in t x) s) (sym (times_last (product_in t x) s x) ∙ e);
  }

  module _ (x e : ℕ) (l : x < n) (idempotent : IsIdempotentAt t e) (related : AreRelated H t x e) where
    -- an idempotent is an identity in its R-class, on the left, and in its L-class, on the right
    keeps_before : product_in t e x ≡ x
    keeps_before =
        let by = along k (edge t.right) related.0.1 in
        ap (product_in t e) (sym by.2) ∙ past by.0 (reverse (word_at t e)) e by.1 (back_over e idempotent.below) idempotent.below
        ∙ ap (λ m. follow (edge t.right) m by.0) idempotent.back ∙ by.2

    -- what leads from the number to its idempotent leads from its square to the number
    square_leads : (v : Word) → IsOver k v → follow (edge t.left) x v ≡ e → (m : ℕ) → m < n → follow (edge t.left) (product_in t x m) v ≡ product_in t e m
    square_leads v over to m small =
        ap (λ i. follow (edge t.left) i v) (agree x m l small) ∙ past (word_at t m) v x (words m small) over l
        ∙ ap (λ i. follow (edge t.right) i (word_at t m)) to ∙ sym (agree e m idempotent.below small)

    fixed_before : (s : ℕ) → product_in t e (times (product_in t x) s x) ≡ times (product_in t x) s x
    fixed_before zero = keeps_before
    fixed_before (suc s) =
        let last = times_last (product_in t x) s x in
        let m : ℕ = times (product_in t x) s x in
        ap (product_in t e) last ∙ sym (associates e x m idempotent.below l (times_below x s x l l)) ∙ ap (λ i. product_in t i m) keeps_before ∙ sym last

    -- powers stay in the L-class
    pub power_stays : (s : ℕ) → AreRelated L t (times (product_in t x) s x) (product_in t x (times (product_in t x) s x))
    power_stays s =
        let by = along k (edge t.left) related.1.0 in
        let m : ℕ = times (product_in t x) s x in
        let small : m < n = times_below x s x l l in (
          follow_reaches n k (edge t.left) fit.left.within (reverse (word_at t x)) m (back_over x l),
          subst (Reaches (IsEdge k (edge t.left)) (product_in t x m)) (square_leads by.0 by.1 by.2 m small ∙ fixed_before s)
              (follow_reaches n k (edge t.left) fit.left.within by.0 (product_in t x m) by.1),
        )

    -- powers by multiplication on either side
    same_powers : (s i : ℕ) → i < n → product_in t x i ≡ follow (edge t.right) i (word_at t x) → times (product_in t x) s i ≡ times (λ m. follow (edge t.right) m (word_at t x)) s i
    same_powers zero i m h = refl
    same_powers (suc s) i m h =
        ap (times (product_in t x) s) h
        ∙ same_powers s (follow (edge t.right) i (word_at t x)) (follow_within n k (edge t.right) fit.right.within (word_at t x) i (words x l) m)
        (past (word_at t x) (reverse (word_at t x)) i (words x l) (back_over x l) m ∙ ap (λ j. follow (edge t.right) j (word_at t x)) h)

    pub comes_back : (s : ℕ) × (s < n) × (times (product_in t x) (suc s) x ≡ x)
    comes_back =
        let by = along k (edge t.left) related.1.0 in
        let over = words x l in
        let whole = round n (λ m. follow (edge t.right) m (word_at t x)) (λ m. follow (edge t.left) m by.0) (λ m b. follow_within n k (edge t.right) fit.right.within (word_at t x) m over b)
        (λ m b. follow_within n k (edge t.left) fit.left.within by.0 m by.1 b) (λ m b. sym (past (word_at t x) by.0 m over by.1 b)) x l
        (sym (past (word_at t x) by.0 x over by.1 l) ∙ ap (λ m. follow (edge t.left) m by.0) (sym (agree x x l l)) ∙ square_leads by.0 by.1 by.2 x l ∙ keeps_before) in
        (whole.0, whole.1, same_powers (suc whole.0) x l (agree x x l l) ∙ whole.2)

    -- where powers come back to the number, the one before is its idempotent
    pub power_is : (s : ℕ) → times (product_in t x) (suc s) x ≡ x → e ≡ times (product_in t x) s x
    power_is s back =
        let by = along k (edge t.left) related.1.0 in
        let m : ℕ = times (product_in t x) s x in
        sym by.2 ∙ ap (λ i. follow (edge t.left) i by.0) (sym back ∙ times_last (product_in t x) s x)
        ∙ square_leads by.0 by.1 by.2 m (times_below x s x l l) ∙ fixed_before s
