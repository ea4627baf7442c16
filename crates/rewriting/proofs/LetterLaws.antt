-- The letters of words and of rules.
use Rattle.std.proofs.Common.{◌≡◌, ℕ, ◌+◌, ◌<◌, ◌≤◌, ◌⊎◌, List, [], ◌∷◌, length, take, get_or, slice_get, Some, refl, sym, ap, subst, arith, inl, inr, cond, nat_cmp, Ordering, Less, Equal, Greater}
use Rattle.std.specs.Ordering.{is_lt, ord_max}
use Rattle.std.proofs.lemmas.Map.Keys.{ge_from_not_lt}
use Rattle.std.proofs.lemmas.List.{take_more}
use Rattle.std.proofs.lemmas.Option.{get_or_from_slice_get}
use Rattle.std.proofs.lemmas.List.Elements.{All-nil, All-cons, All-push}
use Rattle.theory.specs.Word.{Word, IsOver}
use Rattle.theory.proofs.Words.{nat_from_Less, over_append}
use Rattle.rewriting.specs.Rules.{AreOver}
use Rattle.rewriting.specs.Tries.{IsLeftLengthTo, left_at}
pub use Rattle.rewriting.specs.Reductions.{letters_in, letters_in_rules, letters_for}

pub over_more : (k m : ℕ) (u : Word) → k ≤ m → IsOver k u → IsOver m u
over_more k m [] h over = tt
over_more k m (a ∷ u) h over = let less = over.0 in (omega (arith, less), over_more k m u h over.1)

pub over_itself : (k : ℕ) (u : Word) → letters_in u ≤ k → IsOver k u
over_itself k [] h = tt
over_itself k (a ∷ u) h = (omega arith, over_itself k u (omega arith))

-- one letter more
pub letter_over : (k new : ℕ) (u : Word) (place a : ℕ) → IsOver k (take place u) → place < length u → slice_get u place ≡ Some a → k ≤ new → a + 1 ≤ new
    → IsOver new (take (place + 1) u)
letter_over k new u place a over within at more above =
    subst (λ w. IsOver new w) (sym (take_more u place 0 within))
    (over_append new (take place u) (get_or u place 0 ∷ []) (over_more k new (take place u) more over) (omega (arith, above, get_or_from_slice_get u place a 0 at), tt))

-- one rule more
pub rule_over : (k m new : ℕ) (rules : List (Word × Word)) (place : ℕ) (rule : Word × Word) → AreOver k (take place rules) → place < length rules → rule ≡ get_or rules place rule
    → k ≤ m → IsOver m rule.0 → m ≤ new → IsOver new rule.1 → AreOver new (take (place + 1) rules)
rule_over k m new rules place rule over within read first left second right =
    subst (λ rs. AreOver new rs) (sym (take_more rules place rule within))
    (All-push (λ (r : Word × Word). IsOver new r.0 × IsOver new r.1) (take place rules) (get_or rules place rule)
    (λ i d h. let old = over i d h in (over_more k new _ (omega (arith, first, second)) old.0, over_more k new _ (omega (arith, first, second)) old.1))
    (subst (λ (r : Word × Word). IsOver new r.0 × IsOver new r.1) read (over_more m new rule.0 second left, right)))

rules_over : (k : ℕ) (rules : List (Word × Word)) → letters_in_rules rules ≤ k → AreOver k rules
rules_over k [] h = All-nil (λ (r : Word × Word). IsOver k r.0 × IsOver k r.1)
rules_over k (r ∷ rs) h =
    All-cons (λ (r : Word × Word). IsOver k r.0 × IsOver k r.1) r rs (over_itself k r.0 (omega arith), over_itself k r.1 (omega arith)) (rules_over k rs (omega arith))

pub over_for : (rules : List (Word × Word)) (word : Word) → AreOver (letters_for rules word) rules
over_for rules word = rules_over (letters_for rules word) rules (omega arith)

-- the greater of two numbers
greater : (a b : ℕ) → (a ≤ ord_max nat_cmp a b) × (b ≤ ord_max nat_cmp a b) × ((ord_max nat_cmp a b ≡ a) ⊎ (ord_max nat_cmp a b ≡ b))
greater a b = go (nat_cmp b a) refl
  where
    go : (o : Ordering) → nat_cmp b a ≡ o → (a ≤ cond (is_lt o) a b) × (b ≤ cond (is_lt o) a b) × ((cond (is_lt o) a b ≡ a) ⊎ (cond (is_lt o) a b ≡ b))
    go Less e = let less = nat_from_Less b a e in (omega arith, omega (arith, less), inl refl)
    go Equal e = let most = ge_from_not_lt b a (ap is_lt e) in (omega (arith, most), omega arith, inr refl)
    go Greater e = let most = ge_from_not_lt b a (ap is_lt e) in (omega (arith, most), omega arith, inr refl)

-- one left side more
pub reached_more : (rules : List (Word × Word)) (count old size new : ℕ) → size ≡ length (left_at rules count) → new ≡ ord_max nat_cmp old size → IsLeftLengthTo rules count old
    → (old ≤ new) × (length (left_at rules count) ≤ new) × IsLeftLengthTo rules (count + 1) new
reached_more rules count old size new is made reached =
    let g = greater old size in (
      omega (arith, made, g.0),
      omega (arith, made, is, g.1),
      elim g.2 [
        | inl keeps ↦ elim reached [
          | inl none ↦ inr (count, omega arith, omega (arith, is, made, keeps, none.1, g.1))
          | inr at ↦ inr (at.0, omega (arith, at.1), omega (arith, at.2, made, keeps))
        ]
        | inr takes ↦ inr (count, omega arith, omega (arith, is, made, takes))
      ],
    )
