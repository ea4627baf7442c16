-- The first place whose field is not good.
use Rattle.std.proofs.Common.{◌≡◌, ℕ, zero, suc, ◌+◌, ◌<◌, ◌⊎◌, List, [], ◌∷◌, Err, length, get_or, slice_get, ap, ◌∙◌, sym, subst, inl, inr, arith}
use Rattle.std.specs.Prelude.{Result, Some, All}
use Rattle.std.proofs.lemmas.Option.{slice_get-get_or, slice_get_within, same_Some}
use Rattle.elements.specs.declared.field.ElementFault.{ElementFault}
use Rattle.elements.specs.declared.field.ElementFault.TheVariants.{BadEntry}
use Rattle.elements.specs.declared.field.Field.{Field}
use Rattle.elements.specs.Fields.{IsFirstRefused, IsImage, IsImageAt, IsFirstBad}

pub below_or_at : (k n : ℕ) → k < n + 1 → (k < n) ⊎ (k ≡ n)
below_or_at k n h = grind arith

-- one fault tells one place
pub one_entry : {T : Type 0} {a b : ℕ} → ◌≡◌ {A = Result T ElementFault} (Err (BadEntry a)) (Err (BadEntry b)) → a ≡ b
one_entry e = cc

pub two_ways : (i j : ℕ) → (i ≡ j) ⊎ ((i < j) ⊎ (j < i))
two_ways i j = grind arith

pub all_one : {X : Type 0} (P : X → Type 0) (x : X) → P x → All P (x ∷ [])
all_one P x p zero d lt = p
all_one P x p (suc k) d lt = absurd (omega arith)

-- the fields below n are good
abbrev pub AreGood : (Field → Type 0) → List Field → ℕ → Type 0
AreGood IsGood fields n = (k : ℕ) (f : Field) → k < n → slice_get fields k ≡ Some f → IsGood f

module _ (IsGood : Field → Type 0) (fields : List Field) where
  pub good_more : (n : ℕ) (d : Field) → AreGood IsGood fields n → n < length fields → IsGood (get_or fields n d) → AreGood IsGood fields (n + 1)
  good_more n d before within good = λ k f lt at. elim (below_or_at k n lt) [
    | inl b ↦ before k f b at
    | inr b ↦
        let here : slice_get fields k ≡ Some (get_or fields n d) = ap (slice_get fields) b ∙ slice_get-get_or fields n d within in
        subst IsGood (same_Some _ _ (sym here ∙ at)) good
  ]

  pub all_good : (n : ℕ) → AreGood IsGood fields n → length fields ≡ n → All IsGood fields
  all_good n before e = λ k d lt. before k (get_or fields k d) (omega arith) (slice_get-get_or fields k d lt)

  pub none_refused : All IsGood fields → (place : ℕ) → IsFirstRefused IsGood fields place → ⊥
  none_refused good place p =
      let within : place < length fields = slice_get_within fields place p.at.0 p.at.1 in
      let here : slice_get fields place ≡ Some (get_or fields place p.at.0) = slice_get-get_or fields place p.at.0 within in
      p.at.2 (subst IsGood (same_Some _ _ (sym here ∙ p.at.1)) (good place p.at.0 within))

  -- a field that is refused behind good ones is the first
  pub first_refused : (n : ℕ) (d : Field) → AreGood IsGood fields n → n < length fields → (IsGood (get_or fields n d) → ⊥) → IsFirstRefused IsGood fields n
  first_refused n d before within refused = record {
    before = before;
    at = (get_or fields n d, slice_get-get_or fields n d within, refused);
  }

  -- there is one first place at most
  pub one_first_refused : (a b : ℕ) → IsFirstRefused IsGood fields a → IsFirstRefused IsGood fields b → a ≡ b
  one_first_refused a b p q = elim (two_ways a b) [
    | inl e ↦ e
    | inr s ↦ elim s [ inl h ↦ absurd (p.at.2 (q.before a p.at.0 h p.at.1)) | inr h ↦ absurd (q.at.2 (p.before b q.at.0 h q.at.1)) ]
  ]

module _ (n : ℕ) (fields : List Field) where
  -- a field that is no image behind images is the first
  pub first_bad : (m : ℕ) (d : Field) → ((k : ℕ) → k < m → IsImageAt n (slice_get fields k)) → m < length fields → (IsImage n (get_or fields m d) → ⊥) → IsFirstBad n fields m
  first_bad m d before within bad = record {
    before = before;
    at = (get_or fields m d, slice_get-get_or fields m d within, bad);
  }

  -- there is one first place at most
  pub one_first_bad : (a b : ℕ) → IsFirstBad n fields a → IsFirstBad n fields b → a ≡ b
  one_first_bad a b p q = elim (two_ways a b) [
    | inl e ↦ e
    | inr s ↦ elim s [
      | inl h ↦ absurd (p.at.2 (subst (IsImageAt n) p.at.1 (q.before a h)))
      | inr h ↦ absurd (q.at.2 (subst (IsImageAt n) q.at.1 (p.before b h)))
    ]
  ]
