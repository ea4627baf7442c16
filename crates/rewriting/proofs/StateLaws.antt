-- The states at the end of a word, and reduced words.
use Rattle.std.proofs.Common.{◌≡◌, ℕ, ◌<◌, ◌≤◌, List, [], ◌∷◌, ◌++◌, length, take, get_or, refl, sym, ◌∙◌, ap, subst, arith, inl, inr, Contains, append_assoc, append-nil, length-append}
use Rattle.std.proofs.lemmas.List.{get_or_default, take_at, same_from_push}
use Rattle.theory.specs.Word.{Word}
use Rattle.theory.specs.Completion.{IsReduced, Listed}
use Rattle.theory.proofs.Words.{cut_between}
use Rattle.theory.proofs.FactsLaws.{last_letter}
use Rattle.rewriting.specs.Rules.{AreFalling}
use Rattle.rewriting.specs.States.{EndsAt, HasEnd, IsLongest, AreStates}
use Rattle.rewriting.proofs.Standing.{filled, listed_falls, listed_at}

-- of two ends of one word the shorter stands at the end of the longer
pub end_of_end : (x s y t : Word) → x ++ s ≡ y ++ t → length t ≤ length s → (z : Word) × (s ≡ z ++ t)
end_of_end x s y t e h =
    let cut = cut_between x s y t e (omega (arith, ap length e, length-append x s, length-append y t, h)) in
    (cut.0, cut.2)

-- a front of a reduced word is reduced
pub reduced_front : (rules : List (Word × Word)) (u v : Word) → IsReduced (Listed rules) (u ++ v) → IsReduced (Listed rules) u
reduced_front rules u v reduced w s =
    reduced (s.before ++ (s.to ++ (s.after ++ v))) (record {
      before = s.before;
      from = s.from;
      to = s.to;
      after = s.after ++ v;
      base = s.base;
      place = tt;
      source = ap (λ x. x ++ v) s.source ∙ append_assoc s.before (s.from ++ s.after) v ∙ ap (λ x. s.before ++ x) (append_assoc s.from s.after v);
      target = refl;
    })

-- a word with a left side at its end is not reduced
pub end_reduces : (rules : List (Word × Word)) (u : Word) → HasEnd rules u → IsReduced (Listed rules) u → ⊥
end_reduces rules u h reduced =
    reduced (h.before ++ (h.right ++ [])) (record {
      before = h.before;
      from = h.left;
      to = h.right;
      after = [];
      base = h.listed;
      place = tt;
      source = h.is ∙ ap (λ x. h.before ++ x) (sym (append-nil h.left));
      target = refl;
    })

-- the left side of a rule
pub end_found : (rules : List (Word × Word)) (u : Word) (number : ℕ) → EndsAt rules u number → HasEnd rules u
end_found rules u number h = record {
  left = (get_or rules number ([], [])).0;
  right = (get_or rules number ([], [])).1;
  before = h.before;
  listed = (number, h.within, get_or_default rules number (get_or rules number ([], [])) ([], []) h.within);
  is = h.is;
}

-- a left side at the end of a state and a letter stands at the end of the word and the letter
pub ends_more : (rules : List (Word × Word)) (states : List Word) (u : Word) (place a number : ℕ) → IsLongest states u place → EndsAt rules (get_or states place [] ++ a ∷ []) number
    → EndsAt rules (u ++ a ∷ []) number
ends_more rules states u place a number longest h = record {
  within = h.within;
  before = longest.before ++ h.before;
  is = ap (λ x. x ++ a ∷ []) longest.is ∙ append_assoc longest.before (get_or states place []) (a ∷ []) ∙ ap (λ x. longest.before ++ x) h.is
      ∙ sym (append_assoc longest.before h.before (get_or rules number ([], [])).0);
}

module _ (rules : List (Word × Word)) (falling : AreFalling rules) where
  pub empty_reduced : IsReduced (Listed rules) []
  empty_reduced v s =
      let some = filled s.from s.to (listed_falls rules falling s.from s.to s.base) in
      omega (arith, some, ap length s.source, length-append s.before (s.from ++ s.after), length-append s.from s.after)

  -- one letter more
  pub reduced_more : (u : Word) (a : ℕ) → IsReduced (Listed rules) u → (HasEnd rules (u ++ a ∷ []) → ⊥) → IsReduced (Listed rules) (u ++ a ∷ [])
  reduced_more u a reduced none v s = elim (last_letter s.after) [
    | inl e ↦
        none (record {
          left = s.from;
          right = s.to;
          before = s.before;
          listed = s.base;
          is = s.source ∙ ap (λ x. s.before ++ (s.from ++ x)) e ∙ ap (λ x. s.before ++ x) (append-nil s.from);
        })
    | inr l ↦
        let regrouped : s.before ++ (s.from ++ (l.0 ++ l.1 ∷ [])) ≡ (s.before ++ (s.from ++ l.0)) ++ l.1 ∷ [] = simp append_assoc in
        let front = same_from_push u (s.before ++ (s.from ++ l.0)) a l.1 (s.source ∙ ap (λ x. s.before ++ (s.from ++ x)) l.2 ∙ regrouped) in
        reduced (s.before ++ (s.to ++ l.0)) (record {
          before = s.before;
          from = s.from;
          to = s.to;
          after = l.0;
          base = s.base;
          place = tt;
          source = front.0;
          target = refl;
        })
  ]

  module _ (states : List Word) (are : AreStates rules states) where
    -- a left side without its last letter is a state
    left_state : (l r p : Word) (a : ℕ) → Listed rules l r → l ≡ p ++ a ∷ [] → Contains states p
    left_state l r p a listed e =
        let at = listed_at rules l r listed in
        let has = are.lefts listed.0 listed.1 (length p) in
        let has' : length p < length l → Contains states (take (length p) l) = subst (λ (q : Word × Word). length p < length q.0 → Contains states (take (length p) q.0)) at has in
        subst (λ w. Contains states w) (ap (take (length p)) e ∙ take_at p (a ∷ []) (length p) refl)
        (has' (omega (arith, ap length e, length-append p (a ∷ []))))

    -- a left side at the end of the word and a letter stands at the end of the state and the letter
    pub end_kept : (u : Word) (place a : ℕ) → IsLongest states u place → HasEnd rules (u ++ a ∷ []) → HasEnd rules (get_or states place [] ++ a ∷ [])
    end_kept u place a is h = elim (last_letter h.left) [
      | inl e ↦ let some = filled h.left h.right (listed_falls rules falling h.left h.right h.listed) in absurd (omega (arith, some, ap length e))
      | inr l ↦
          let split = same_from_push u (h.before ++ l.0) a l.1 (h.is ∙ ap (λ x. h.before ++ x) l.2 ∙ sym (append_assoc h.before l.0 (l.1 ∷ []))) in
          let state = left_state h.left h.right l.0 l.1 h.listed l.2 in
          let cut = end_of_end is.before (get_or states place []) h.before l.0 (sym is.is ∙ split.0) (is.longest h.before l.0 split.0 state) in
          record {
            left = h.left;
            right = h.right;
            before = cut.0;
            listed = h.listed;
            is = ap (λ x. x ++ a ∷ []) cut.1 ∙ append_assoc cut.0 l.0 (a ∷ []) ∙ ap (λ b. cut.0 ++ (l.0 ++ b ∷ [])) split.1 ∙ ap (λ x. cut.0 ++ x) (sym l.2);
          }
    ]

    -- the longest state at the end of the state and a letter is that of the word and the letter
    pub longest_more : (u : Word) (place next a : ℕ) → IsLongest states u place → IsLongest states (get_or states place [] ++ a ∷ []) next → IsLongest states (u ++ a ∷ []) next
    longest_more u place next a is more =
        record {
          within = more.within;
          before = is.before ++ more.before;
          is =
              ap (λ x. x ++ a ∷ []) is.is ∙ append_assoc is.before (get_or states place []) (a ∷ []) ∙ ap (λ x. is.before ++ x) more.is
              ∙ sym (append_assoc is.before more.before (get_or states next []));
          longest = longest;
        }
      where
        longest : (x s : Word) → u ++ a ∷ [] ≡ x ++ s → Contains states s → length s ≤ length (get_or states next [])
        longest x s e has = elim (last_letter s) [
          | inl d ↦ omega (arith, ap length d)
          | inr l ↦
              let split = same_from_push u (x ++ l.0) a l.1 (e ∙ ap (λ y. x ++ y) l.2 ∙ sym (append_assoc x l.0 (l.1 ∷ []))) in
              let front : Contains states l.0 = are.prefixes.closed l.0 l.1 (subst (λ w. Contains states w) l.2 has) in
              let cut = end_of_end is.before (get_or states place []) x l.0 (sym is.is ∙ split.0) (is.longest x l.0 split.0 front) in
              more.longest cut.0 s
              (ap (λ y. y ++ a ∷ []) cut.1 ∙ append_assoc cut.0 l.0 (a ∷ []) ∙ ap (λ b. cut.0 ++ (l.0 ++ b ∷ [])) split.1 ∙ ap (λ y. cut.0 ++ y) (sym l.2))
              has
        ]

    pub empty_longest : IsLongest states [] 0
    empty_longest = record {
      within = are.prefixes.some;
      before = [];
      is = sym are.prefixes.root;
      longest = λ x s e has. omega (arith, ap length e, length-append x s);
    }
