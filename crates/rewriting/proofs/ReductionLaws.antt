-- Reduction of a word, a letter after another.
use Rattle.std.proofs.Common.{◌≡◌, ℕ, suc, ◌+◌, ◌-◌, ◌*◌, ◌<◌, ◌≤◌, List, [], ◌∷◌, ◌++◌, length, take, drop, reverse, get_or, refl, sym, ◌∙◌, ap, ap₂, subst, subst₂, arith, inl, inr, Option, Some, None, length-append, take-append-drop}
use Rattle.std.proofs.Math.Nat.{suc-mul, mul-le-mul_right}
use Rattle.std.proofs.lemmas.Bool.{cases_eq}
use Rattle.std.proofs.lemmas.List.{append_assoc, append-nil, reverse-append, reverse-reverse, take-append-le, take_all, take_at, take-take, get_or_append_left, get_or_push, get_or-take, get_or_default, length-reverse, length-take-le, get_or_read, nil_from_length}
use Rattle.theory.specs.Word.{Word, IsOver}
use Rattle.theory.specs.Chain.{Step}
use Rattle.theory.specs.declared.Kind.TheVariants.{TwoSided}
use Rattle.theory.specs.Completion.{IsReduced, Listed, Reduces}
use Rattle.theory.proofs.Words.{over_append, over_left, over_right, before_no_longer}
use Rattle.theory.proofs.Chains.{joined_refl, joined_trans, joined_one}
use Rattle.theory.proofs.Completeness.{step_falls}
use Rattle.rewriting.specs.Rules.{AreFalling}
use Rattle.rewriting.specs.States.{AreStates, EndsAt, HasEnd, IsLongest, IsStep}
use Rattle.rewriting.specs.Tries.{left_at, longer, Reads}
use Rattle.rewriting.specs.Reductions.{rank, letters_for, kept, IsAtStep, IsReducing, IsReductionBy, weight, weight_at}
use Rattle.rewriting.specs.declared.reductions.Reduction.{Reduction}
use Rattle.rewriting.proofs.Ranks.{rank_below}
use Rattle.rewriting.proofs.LetterLaws.{over_for, over_itself}
use Rattle.rewriting.proofs.Standing.{filled, listed_falls, rule_read}
use Rattle.rewriting.proofs.StateLaws.{end_kept, ends_more, longest_more, empty_reduced, reduced_front, reduced_more}

-- a lesser place, and few letters left
pub lighter : (r s b m n : ℕ) → r < s → m < b → r * b + m < s * b + n
lighter r s b m n h l =
    let up : suc r * b ≤ s * b = mul-le-mul_right b (omega (arith, h)) in
    omega (arith, up, suc-mul r b, l)

-- a step, whatever tells of the ends
module _ (rules : List (Word × Word)) (falling : AreFalling rules) (states : List Word) (word done rest : Word) (path : List ℕ) where
  module _ (a t : ℕ) (is : IsReducing rules states word done (rest ++ a ∷ []) path) where
    -- the word with its next letter
    next : done ++ reverse (rest ++ a ∷ []) ≡ (done ++ a ∷ []) ++ reverse rest
    next = ap (λ v. done ++ v) (reverse-append rest (a ∷ [])) ∙ sym (append_assoc done (a ∷ []) (reverse rest))

    here : IsLongest states done (get_or path (length done) 0)
    here = subst (λ u. IsLongest states u (get_or path (length done) 0)) (take_all (length done) done (omega arith)) (is.longest (length done) (omega arith))

    more : length (rest ++ a ∷ []) ≡ length rest + 1
    more = length-append rest (a ∷ [])

    -- a letter at which no left side ends
    pub push_by : (HasEnd rules (done ++ a ∷ []) → ⊥) → IsLongest states (done ++ a ∷ []) t → IsReducing rules states word (done ++ a ∷ []) rest (path ++ t ∷ [])
    push_by none last = record {
      over = subst (λ u. IsOver (letters_for rules word) u) next is.over;
      reaches = subst (λ u. Reduces (Listed rules) word u) next is.reaches;
      short = omega (arith, is.short, more, length-append done (a ∷ []));
      reduced = reduced_more rules falling done a is.reduced none;
      count = omega (arith, is.count, length-append path (t ∷ []), length-append done (a ∷ []));
      longest = longest;
    }
      where
        longest : (i : ℕ) → i ≤ length (done ++ a ∷ []) → IsLongest states (take i (done ++ a ∷ [])) (get_or (path ++ t ∷ []) i 0)
        longest i h = elim (cases_eq i (length done + 1)) [
          | inl e ↦
              let at : get_or (path ++ t ∷ []) i 0 ≡ t = get_or_push path t 0 i (omega (arith, is.count, e)) in
              let all : take i (done ++ a ∷ []) ≡ done ++ a ∷ [] = take_all i (done ++ a ∷ []) (omega (arith, e, length-append done (a ∷ []))) in
              subst₂ (λ (u : Word) (s : ℕ). IsLongest states u s) (sym all) (sym at)
              last
          | inr d ↦
              let low : i ≤ length done = omega (arith, h, d, length-append done (a ∷ [])) in
              subst₂ (λ (u : Word) (s : ℕ). IsLongest states u s) (sym (take-append-le i done (a ∷ []) low)) (sym (get_or_append_left path (t ∷ []) 0 i (omega (arith, low, is.count))))
              (is.longest i low)
        ]

    pub push_less : weight rules word (done ++ a ∷ []) rest < weight rules word done (rest ++ a ∷ [])
    push_less =
        let same : rank (letters_for rules word) (done ++ reverse (rest ++ a ∷ [])) ≡ rank (letters_for rules word) ((done ++ a ∷ []) ++ reverse rest) = ap (rank (letters_for rules word)) next in
        omega (arith, more, ap (λ z. z * suc (length word)) same)

    -- a letter at which a left side ends
    module _ (number : ℕ) (ends : EndsAt rules (done ++ a ∷ []) number) where
      split : done ++ a ∷ [] ≡ ends.before ++ left_at rules number
      split = ends.is

      listed : Listed rules (left_at rules number) (get_or rules number ([], [])).1
      listed = (number, ends.within, get_or_default rules number (get_or rules number ([], [])) ([], []) ends.within)

      pub left_some : 0 < length (left_at rules number)
      left_some = filled (left_at rules number) (get_or rules number ([], [])).1 (listed_falls rules falling (left_at rules number) (get_or rules number ([], [])).1 listed)

      pub left_within : length (left_at rules number) ≤ length done + 1
      left_within = omega (arith, ap length split, length-append done (a ∷ []), length-append ends.before (left_at rules number))

      keep_is : length done - (length (left_at rules number) - 1) ≡ length ends.before
      keep_is = omega (arith, left_some, ap length split, length-append done (a ∷ []), length-append ends.before (left_at rules number))

      front_is : take (length done - (length (left_at rules number) - 1)) done ≡ ends.before
      front_is =
          sym (take-append-le (length done - (length (left_at rules number) - 1)) done (a ∷ []) (omega arith))
          ∙ ap (take (length done - (length (left_at rules number) - 1))) split
          ∙ take_at ends.before (left_at rules number) (length done - (length (left_at rules number) - 1)) (sym keep_is)

      old : done ++ reverse (rest ++ a ∷ []) ≡ ends.before ++ (left_at rules number ++ reverse rest)
      old = next ∙ ap (λ x. x ++ reverse rest) split ∙ append_assoc ends.before (left_at rules number) (reverse rest)

      new : take (length done - (length (left_at rules number) - 1)) done ++ reverse (rest ++ reverse (get_or rules number ([], [])).1)
          ≡ ends.before ++ ((get_or rules number ([], [])).1 ++ reverse rest)
      new = ap₂ (λ (u v : Word). u ++ v) front_is (reverse-append rest (reverse (get_or rules number ([], [])).1) ∙ ap (λ x. x ++ reverse rest) (reverse-reverse (get_or rules number ([], [])).1))

      step : Step (Listed rules) TwoSided (done ++ reverse (rest ++ a ∷ [])) (take (length done - (length (left_at rules number) - 1)) done ++ reverse (rest ++ reverse (get_or rules number ([], [])).1))
      step = record {
        before = ends.before;
        from = left_at rules number;
        to = (get_or rules number ([], [])).1;
        after = reverse rest;
        base = listed;
        place = tt;
        source = old;
        target = new;
      }

      over_new : IsOver (letters_for rules word) (take (length done - (length (left_at rules number) - 1)) done ++ reverse (rest ++ reverse (get_or rules number ([], [])).1))
      over_new =
          let k = letters_for rules word in
          let whole : IsOver k (ends.before ++ (left_at rules number ++ reverse rest)) = subst (λ u. IsOver k u) old is.over in
          let front = over_left k ends.before (left_at rules number ++ reverse rest) whole in
          let back = over_right k (left_at rules number) (reverse rest) (over_right k ends.before (left_at rules number ++ reverse rest) whole) in
          let right = (over_for rules word number ([], []) ends.within).1 in
          subst (λ u. IsOver k u) (sym new) (over_append k ends.before ((get_or rules number ([], [])).1 ++ reverse rest) front (over_append k (get_or rules number ([], [])).1 (reverse rest) right back))

      shorter : length (get_or rules number ([], [])).1 ≤ length (left_at rules number)
      shorter = before_no_longer (get_or rules number ([], [])).1 (left_at rules number) (listed_falls rules falling (left_at rules number) (get_or rules number ([], [])).1 listed)

      size : length (take (length done - (length (left_at rules number) - 1)) done) ≡ length done - (length (left_at rules number) - 1)
      size = length-take-le (length done - (length (left_at rules number) - 1)) done (omega arith)

      short : length (take (length done - (length (left_at rules number) - 1)) done) + length (rest ++ reverse (get_or rules number ([], [])).1) ≤ length word
      short =
          omega (arith, size, left_some, left_within, shorter, more, is.short, length-append rest (reverse (get_or rules number ([], [])).1), length-reverse (get_or rules number ([], [])).1)

      pub back_by : IsReducing rules states word (take (length done - (length (left_at rules number) - 1)) done) (rest ++ reverse (get_or rules number ([], [])).1)
          (take (length done - (length (left_at rules number) - 1) + 1) path)
      back_by = record {
        over = over_new;
        reaches = joined_trans (Step (Listed rules) TwoSided) word (done ++ reverse (rest ++ a ∷ [])) (take (length done - (length (left_at rules number) - 1)) done ++ reverse (rest ++ reverse (get_or rules number ([], [])).1)) is.reaches
            (joined_one (Step (Listed rules) TwoSided) (done ++ reverse (rest ++ a ∷ [])) (take (length done - (length (left_at rules number) - 1)) done ++ reverse (rest ++ reverse (get_or rules number ([], [])).1)) step);
        short = short;
        reduced = reduced_front rules (take (length done - (length (left_at rules number) - 1)) done) (drop (length done - (length (left_at rules number) - 1)) done)
            (subst (λ u. IsReduced (Listed rules) u) (sym (take-append-drop (length done - (length (left_at rules number) - 1)) done)) is.reduced);
        count = omega (arith, size, is.count, length-take-le (length done - (length (left_at rules number) - 1) + 1) path (omega (arith, is.count)));
        longest = λ i h.
            let low : i ≤ length done - (length (left_at rules number) - 1) = omega (arith, h, size) in
            subst₂ (λ (u : Word) (s : ℕ). IsLongest states u s) (sym (take-take i (length done - (length (left_at rules number) - 1)) done low))
            (sym (get_or-take (length done - (length (left_at rules number) - 1) + 1) path i 0 (omega (arith, low)))) (is.longest i (omega (arith, low)));
      }

      pub back_less_by : weight rules word (take (length done - (length (left_at rules number) - 1)) done) (rest ++ reverse (get_or rules number ([], [])).1) < weight rules word done (rest ++ a ∷ [])
      back_less_by =
          lighter (rank (letters_for rules word) (take (length done - (length (left_at rules number) - 1)) done ++ reverse (rest ++ reverse (get_or rules number ([], [])).1)))
          (rank (letters_for rules word) (done ++ reverse (rest ++ a ∷ []))) (suc (length word)) (length (rest ++ reverse (get_or rules number ([], [])).1)) (length (rest ++ a ∷ []))
          (rank_below (letters_for rules word) (take (length done - (length (left_at rules number) - 1)) done ++ reverse (rest ++ reverse (get_or rules number ([], [])).1)) (done ++ reverse (rest ++ a ∷ [])) over_new is.over
          (step_falls (Listed rules) (listed_falls rules falling) (done ++ reverse (rest ++ a ∷ [])) (take (length done - (length (left_at rules number) - 1)) done ++ reverse (rest ++ reverse (get_or rules number ([], [])).1)) step))
          (omega (arith, short))

      -- both, as the code makes them
      pub back_to : (rule : Word × Word) (new_done new_rest : Word) (new_path : List ℕ) → rule ≡ get_or rules number rule → new_done ≡ take (length done - (length rule.0 - 1)) done
          → new_rest ≡ rest ++ reverse rule.1 → new_path ≡ take (length done - (length rule.0 - 1) + 1) path
          → IsReducing rules states word new_done new_rest new_path × (weight rules word new_done new_rest < weight rules word done (rest ++ a ∷ []))
      back_to rule new_done new_rest new_path read d r p =
          let same : get_or rules number ([], []) ≡ rule = sym (read ∙ get_or_default rules number rule ([], []) ends.within) in
          subst (λ (u : Word). To u new_rest new_path) (sym d)
          (subst₂ (λ (v : Word) (q : List ℕ). To (take (length done - (length rule.0 - 1)) done) v q) (sym r) (sym p) (subst Back same (back_by, back_less_by)))
        where
          To : Word → Word → List ℕ → Type 0
          To d r p = IsReducing rules states word d r p × (weight rules word d r < weight rules word done (rest ++ a ∷ []))

          Back : Word × Word → Type 0
          Back q = To (take (length done - (length q.0 - 1)) done) (rest ++ reverse q.1) (take (length done - (length q.0 - 1) + 1) path)

-- nothing is read of the word
module _ (rules : List (Word × Word)) (falling : AreFalling rules) (states : List Word) (root : IsLongest states [] 0) (word done rest : Word) (path : List ℕ) where
  pub reducing_start : done ≡ [] → rest ≡ reverse word → path ≡ 0 ∷ [] → IsReducing rules states word done rest path
  reducing_start d r p = record {
    over = subst (λ u. IsOver (letters_for rules word) u) (sym whole) (over_itself (letters_for rules word) word (omega arith));
    reaches = subst (λ u. Reduces (Listed rules) word u) (sym whole) (joined_refl (Step (Listed rules) TwoSided) word);
    short = omega (arith, ap length d, ap length r, length-reverse word);
    reduced = subst (λ u. IsReduced (Listed rules) u) (sym d) (empty_reduced rules falling);
    count = omega (arith, ap length d, ap length p);
    longest = λ i h.
        let z : i ≡ 0 = omega (arith, h, ap length d) in
        let at : get_or path i 0 ≡ 0 = ap₂ (λ (xs : List ℕ) (i : ℕ). get_or xs i 0) p z in
        let front : take i done ≡ [] = ap (λ (i : ℕ). take i done) z in
        subst₂ (λ (u : Word) (t : ℕ). IsLongest states u t) (sym front) (sym at) root;
  }
    where
      whole : done ++ reverse rest ≡ word
      whole = ap₂ (λ (u v : Word). u ++ reverse v) d r ∙ reverse-reverse word

-- with nothing left the word is what is done
module _ {rules items : List (Word × Word)} (same : items ≡ rules) {states : List Word} {word : Word} (r : Reduction) (is : IsReductionBy items states word r)
    (none : length r.rest.items ≡ 0) {w : Word} (made : w ≡ r.done.items) where
  pub read_end : Reduces (Listed rules) word w × IsReduced (Listed rules) w
  read_end =
      subst₂ (λ (rs : List (Word × Word)) (u : Word). Reduces (Listed rs) word u × IsReduced (Listed rs) u) same (sym made)
      (subst (λ u. Reduces (Listed items) word u) (ap (λ v. r.done.items ++ reverse v) (nil_from_length r.rest.items none) ∙ append-nil r.done.items) is.reaches, is.reduced)

-- what a table tells of a state and a letter, of a word at whose end the state is the longest one
pub step_read : (rules : List (Word × Word)) → AreFalling rules → (states : List Word) → AreStates rules states → (done : Word) (state a t : ℕ) (end : Option ℕ) → IsLongest states done state
    → Reads rules states (longer states state a) t end → IsStep rules states (done ++ a ∷ []) t end
step_read rules falling states are done state a t None last reads = (
  λ ends. reads.ends (end_kept rules falling states are done state a last ends),
  longest_more rules falling states are done state t a last reads.longest,
)
step_read rules falling states are done state a t (Some number) last reads = ends_more rules states done state a number last reads.ends

-- a step of a reduction, by what stands at the end
module _ {rules : List (Word × Word)} (falling : AreFalling rules) {states : List Word} {word : Word} {r : Reduction} {a : ℕ} {step : ℕ × Option ℕ}
    (at : IsAtStep rules states word r a step) where
  abbrev Follows : Word → Word → List ℕ → Type 0
  Follows d q p = IsReducing rules states word d q p × (weight rules word d q < weight_at rules word a r)

  -- a letter is read
  pub letter_follows : (done rest : Word) (path : List ℕ) → step.1 ≡ None → done ≡ r.done.items ++ a ∷ [] → path ≡ r.states.items ++ step.0 ∷ [] → rest ≡ r.rest.items
      → IsReducing rules states word done rest path × (weight rules word done rest < weight_at rules word a r)
  letter_follows done rest path none d p q =
      let n : IsStep rules states (r.done.items ++ a ∷ []) step.0 None = subst (λ e. IsStep rules states (r.done.items ++ a ∷ []) step.0 e) none at.step in
      subst (λ (u : Word). Follows u rest path) (sym d)
      (subst₂ (λ (v : Word) (s : List ℕ). Follows (r.done.items ++ a ∷ []) v s) (sym q) (sym p) (
        push_by rules falling states word r.done.items r.rest.items r.states.items a step.0 at.reducing n.0 n.1,
        push_less rules falling states word r.done.items r.rest.items r.states.items a step.0 at.reducing,
      ))

  -- a rule is applied
  module _ (number : ℕ) (some : step.1 ≡ Some number) where
    pub rule_ends : EndsAt rules (r.done.items ++ a ∷ []) number
    rule_ends = subst (λ e. IsStep rules states (r.done.items ++ a ∷ []) step.0 e) some at.step

    module _ (rule : Word × Word) (read : rule ≡ get_or rules number rule) where
      left_is : left_at rules number ≡ rule.0
      left_is = sym (ap (λ (p : Word × Word). p.0) (rule_read rules rules number rule refl rule_ends.within read))

      pub rule_some : 0 < length rule.0
      rule_some =
          subst (λ w. 0 < length w) left_is (left_some rules falling states word r.done.items r.rest.items r.states.items a step.0 at.reducing number rule_ends)

      pub rule_within : length rule.0 ≤ length r.done.items + 1
      rule_within =
          subst (λ w. length w ≤ length r.done.items + 1) left_is (left_within rules falling states word r.done.items r.rest.items r.states.items a step.0 at.reducing number rule_ends)

      pub rule_follows : (done rest : Word) (path : List ℕ) → done ≡ take (kept r rule.0) r.done.items → path ≡ take (kept r rule.0 + 1) r.states.items
          → rest ≡ r.rest.items ++ reverse rule.1 → IsReducing rules states word done rest path × (weight rules word done rest < weight_at rules word a r)
      rule_follows done rest path d p q =
          back_to rules falling states word r.done.items r.rest.items r.states.items a step.0 at.reducing number rule_ends rule done rest path read d q p

-- the last state, as the code reads it
pub last_read : (rules : List (Word × Word)) (states : List Word) (word done rest : Word) (path : List ℕ) (size state : ℕ) → IsReducing rules states word done rest path
    → size ≡ length done → state ≡ get_or path size state → IsLongest states done state
last_read rules states word done rest path size state is size_is state_is =
    subst₂ (λ (u : Word) (n : ℕ). IsLongest states u n) (take_all (length done) done (omega arith))
    (sym (get_or_read path size state (omega (arith, is.count, size_is)) state_is 0 ∙ ap (λ i. get_or path i 0) size_is))
    (is.longest (length done) (omega arith))

-- the step that a table tells
pub read_steps : (rules : List (Word × Word)) → AreFalling rules → (states : List Word) → AreStates rules states → (word : Word) (r : Reduction) (a size state : ℕ) (step : ℕ × Option ℕ)
    → IsReducing rules states word r.done.items (r.rest.items ++ a ∷ []) r.states.items → size ≡ length r.done.items → state ≡ get_or r.states.items size state
    → Reads rules states (longer states state a) step.0 step.1 → IsAtStep rules states word r a step
read_steps rules falling states are word r a size state step is size_is state_is reads = record {
  reducing = is;
  step = step_read rules falling states are r.done.items state a step.0 step.1
      (last_read rules states word r.done.items (r.rest.items ++ a ∷ []) r.states.items size state is size_is state_is) reads;
}
