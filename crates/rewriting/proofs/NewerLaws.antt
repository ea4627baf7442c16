-- Newer rules by the last letters of their left sides.
use Rattle.std.proofs.Common.{◌≡◌, ◌≢◌, ℕ, ◌+◌, ◌-◌, ◌*◌, ◌%◌, ◌<◌, ◌≤◌, List, [], ◌∷◌, ◌++◌, ◌⊎◌, length, take, drop, set, get_or, lit<, refl, sym, ◌∙◌, ap, subst, subst₂, arith, inl, inr, Option, Some, None, length-append}
use Rattle.std.proofs.Math.Seq.{drop-append-add}
use Rattle.std.proofs.lemmas.Bool.{cases_eq, cases_lt}
use Rattle.std.proofs.lemmas.List.{drop-append-le, take_rest, get_or_read, get_or_append_left, get_or_push, get_or-set_same, get_or-set_other}
use Rattle.theory.specs.Word.{Word}
use Rattle.rewriting.specs.States.{EndsAt}
use Rattle.rewriting.specs.Tries.{left_at}
use Rattle.rewriting.specs.Newer.{AreNewer, AreNewerTo, IsLatest, end_key, key_from, newer_key}
use Rattle.rewriting.specs.declared.newer.Newer.{Newer}

-- a number more
module _ (keys : ℕ → ℕ) (count : ℕ) where
  latest_more : (key : ℕ) (o : Option ℕ) → (keys count ≡ key → ⊥) → IsLatest keys count key o → IsLatest keys (count + 1) key o
  latest_more key None differ l = λ n within e. elim (cases_eq n count) [
    | inl here ↦ differ (ap keys (sym here) ∙ e)
    | inr d ↦ l n (omega (arith, within, d)) e
  ]
  latest_more key (Some m) differ l = (
    omega (arith, l.0),
    l.1,
    λ n above within e. elim (cases_eq n count) [
      | inl here ↦ differ (ap keys (sym here) ∙ e)
      | inr d ↦ l.2 n above (omega (arith, within, d)) e
    ],
  )

  latest_here : IsLatest keys (count + 1) (keys count) (Some count)
  latest_here = (omega arith, refl, λ n above within e. omega (arith, above, within))

-- the same keys below the count
latest_below : (f g : ℕ → ℕ) (count : ℕ) → ((n : ℕ) → n < count → f n ≡ g n) → (key : ℕ) (o : Option ℕ) → IsLatest f count key o → IsLatest g count key o
latest_below f g count same key None l = λ n within e. l n within (same n within ∙ e)
latest_below f g count same key (Some m) l = (l.0, sym (same m l.0) ∙ l.1, λ n above within e. l.2 n above within (same n within ∙ e))

-- other rules with the same keys
newer_as : (rules new : List (Word × Word)) (first count : ℕ) (newer : Newer)
    → ((n : ℕ) → n < count → newer_key rules first newer.depth n ≡ newer_key new first newer.depth n) → AreNewerTo rules first count newer → AreNewerTo new first count newer
newer_as rules new first count newer alike to = record {
  all = to.all;
  latest = λ key h. latest_below (newer_key rules first newer.depth) (newer_key new first newer.depth) count alike key (get_or newer.latest.items key None) (to.latest key h);
  before = λ number h.
      subst (λ k. IsLatest (newer_key new first newer.depth) number k (get_or newer.before.items number None)) (alike number h)
      (latest_below (newer_key rules first newer.depth) (newer_key new first newer.depth) number (λ n below. alike n (omega (arith, below, h)))
      (newer_key rules first newer.depth number) (get_or newer.before.items number None) (to.before number h));
}

-- no rule yet
pub newer_start : (rules : List (Word × Word)) (first : ℕ) (newer : Newer) → newer.before.items ≡ [] → ((key : ℕ) → key < 256 → get_or newer.latest.items key None ≡ None)
    → AreNewerTo rules first 0 newer
newer_start rules first newer empty none = record {
  all = ap length empty;
  latest = λ key h. subst (λ o. IsLatest (newer_key rules first newer.depth) 0 key o) (sym (none key h)) (λ n within e. omega (arith, within));
  before = λ number within. absurd (omega (arith, within));
}

-- no rule at all
pub no_newer : (rules : List (Word × Word)) (first : ℕ) (newer : Newer) → first ≡ length rules → 0 < newer.depth → newer.before.items ≡ [] → newer.latest.items ≡ []
    → AreNewer rules first newer
no_newer rules first newer all some empty none = record {
  count = omega (arith, all, ap length empty);
  some = some;
  long = λ place from within. absurd (omega (arith, all, from, within));
  to = subst (λ n. AreNewerTo rules first n newer) (sym (ap length empty))
      (newer_start rules first newer empty (λ key h. ap (λ (os : List (Option ℕ)). get_or os key None) none));
}

-- the same left sides
pub same_newer : (rules new : List (Word × Word)) (first : ℕ) (newer : Newer) → length new ≡ length rules → ((place : ℕ) → left_at new place ≡ left_at rules place)
    → AreNewer rules first newer → AreNewer new first newer
same_newer rules new first newer size same are = record {
  count = are.count ∙ sym size;
  some = are.some;
  long = λ place from within. subst (λ (l : Word). newer.depth ≤ length l) (sym (same place)) (are.long place from (omega (arith, within, size)));
  to = newer_as rules new first (length newer.before.items) newer (λ n h. ap (end_key newer.depth) (sym (same (first + n)))) are.to;
}

-- one rule more
module _ (rules : List (Word × Word)) (first count : ℕ) (old new : Newer) (to : AreNewerTo rules first count old) (depth : new.depth ≡ old.depth) (room : length old.latest.items ≡ 256)
    (key : ℕ) (few : key < 256) (key_is : newer_key rules first old.depth count ≡ key)
    (before : new.before.items ≡ old.before.items ++ get_or old.latest.items key None ∷ [])
    (latest : new.latest.items ≡ set old.latest.items key (Some (length old.before.items))) where
  latest_by : (k : ℕ) → k < 256 → (k ≡ key) ⊎ (k ≢ key)
      → IsLatest (newer_key rules first old.depth) (count + 1) k (get_or (set old.latest.items key (Some (length old.before.items))) k None)
  latest_by k h (inl e) =
      let at : get_or (set old.latest.items key (Some (length old.before.items))) k None ≡ Some count =
      ap (λ i. get_or (set old.latest.items key (Some (length old.before.items))) i None) e
      ∙ get_or-set_same old.latest.items key (Some (length old.before.items)) None (omega (arith, few, room)) ∙ ap (λ n. Some n) to.all in
      subst₂ (λ (i : ℕ) (o : Option ℕ). IsLatest (newer_key rules first old.depth) (count + 1) i o) (key_is ∙ sym e) (sym at) (latest_here (newer_key rules first old.depth) count)
  latest_by k h (inr d) =
      subst (λ (o : Option ℕ). IsLatest (newer_key rules first old.depth) (count + 1) k o) (sym (get_or-set_other old.latest.items key k (Some (length old.before.items)) None d))
      (latest_more (newer_key rules first old.depth) count k (get_or old.latest.items k None) (λ e. d (sym e ∙ key_is)) (to.latest k h))

  before_by : (number : ℕ) → number < count + 1
      → IsLatest (newer_key rules first old.depth) number (newer_key rules first old.depth number) (get_or (old.before.items ++ get_or old.latest.items key None ∷ []) number None)
  before_by number h = elim (cases_lt number count) [
    | inl less ↦
        subst (λ (o : Option ℕ). IsLatest (newer_key rules first old.depth) number (newer_key rules first old.depth number) o)
        (sym (get_or_append_left old.before.items (get_or old.latest.items key None ∷ []) None number (omega (arith, less, to.all)))) (to.before number less)
    | inr past ↦
        let here : number ≡ count = omega (arith, h, past) in
        subst (λ (o : Option ℕ). IsLatest (newer_key rules first old.depth) number (newer_key rules first old.depth number) o)
        (sym (get_or_push old.before.items (get_or old.latest.items key None) None number (omega (arith, here, to.all))))
        (subst₂ (λ (n k : ℕ). IsLatest (newer_key rules first old.depth) n k (get_or old.latest.items key None)) (sym here) (sym key_is ∙ ap (newer_key rules first old.depth) (sym here)) (to.latest key few))
  ]

  pub newer_pushed : AreNewerTo rules first (count + 1) new
  newer_pushed = record {
    all = omega (arith, to.all, ap length before, length-append old.before.items (get_or old.latest.items key None ∷ []));
    latest = λ k h.
        subst₂ (λ (d : ℕ) (os : List (Option ℕ)). IsLatest (newer_key rules first d) (count + 1) k (get_or os k None)) (sym depth) (sym latest) (latest_by k h (cases_eq k key));
    before = λ number h.
        subst₂ (λ (d : ℕ) (os : List (Option ℕ)). IsLatest (newer_key rules first d) number (newer_key rules first d number) (get_or os number None)) (sym depth) (sym before) (before_by number h);
  }

-- a key is one of 256
pub key_few : (k : ℕ) (u : Word) → k < 256 → key_from k u < 256
key_few k [] h = h
key_few k (a ∷ u) h = key_few ((k * 7 + a) % 256) u (omega arith)

-- one rule more at the end of all
module _ (rules : List (Word × Word)) (first : ℕ) (old new : Newer) (last : Word × Word) (are : AreNewer rules first old) (room : length old.latest.items ≡ 256)
    (long : old.depth ≤ length last.0) (depth : new.depth ≡ old.depth)
    (before : new.before.items ≡ old.before.items ++ get_or old.latest.items (end_key old.depth last.0) None ∷ [])
    (latest : new.latest.items ≡ set old.latest.items (end_key old.depth last.0) (Some (length old.before.items))) where
  abbrev with_last : List (Word × Word)
  with_last = rules ++ last ∷ []

  abbrev count : ℕ
  count = length old.before.items

  more : length with_last ≡ length rules + 1
  more = length-append rules (last ∷ [])

  grown : length new.before.items ≡ count + 1
  grown = ap length before ∙ length-append old.before.items (get_or old.latest.items (end_key old.depth last.0) None ∷ [])

  same_left : (place : ℕ) → place < length rules → left_at rules place ≡ left_at with_last place
  same_left place h = ap (λ (r : Word × Word). r.0) (sym (get_or_append_left rules (last ∷ []) ([], []) place h))

  last_left : left_at with_last (length rules) ≡ last.0
  last_left = ap (λ (r : Word × Word). r.0) (get_or_push rules last ([], []) (length rules) refl)

  others : AreNewerTo with_last first count old
  others = newer_as rules with_last first count old (λ n h. ap (end_key old.depth) (same_left (first + n) (omega (arith, h, are.count)))) are.to

  pub newer_with_last : AreNewer with_last first new
  newer_with_last = record {
    count = omega (arith, are.count, more, grown);
    some = subst (λ d. 0 < d) (sym depth) are.some;
    long = λ place from within. subst (λ d. d ≤ length (left_at with_last place)) (sym depth) (elim (cases_lt place (length rules)) [
      | inl h ↦ subst (λ (w : Word). old.depth ≤ length w) (same_left place h) (are.long place from h)
      | inr h ↦
          let here : length rules ≡ place = omega (arith, h, within, more) in
          subst (λ i. old.depth ≤ length (left_at with_last i)) here (subst (λ (w : Word). old.depth ≤ length w) (sym last_left) long)
    ]);
    to = subst (λ n. AreNewerTo with_last first n new) (sym grown)
        (newer_pushed with_last first count old new others depth room (end_key old.depth last.0) (key_few 0 (drop (length last.0 - old.depth) last.0) (let z : 0 < 256 = lit< tt in z))
        (ap (λ i. end_key old.depth (left_at with_last i)) are.count ∙ ap (end_key old.depth) last_left) before latest);
  }

-- the key of letters and a letter
key_push : (k : ℕ) (u : Word) (a : ℕ) → key_from k (u ++ a ∷ []) ≡ (key_from k u * 7 + a) % 256
key_push k [] a = refl
key_push k (b ∷ u) a = key_push ((k * 7 + b) % 256) u a

-- where a left side ends at the letter, its key is that of the letters there
pub ends_keyed : (rules : List (Word × Word)) (depth : ℕ) (done : Word) (a place : ℕ) → 0 < depth → depth ≤ length (left_at rules place) → EndsAt rules (done ++ a ∷ []) place
    → end_key depth (left_at rules place) ≡ (key_from 0 (drop (length done - (depth - 1)) done) * 7 + a) % 256
ends_keyed rules depth done a place some long ends =
    ap (key_from 0) same ∙ key_push 0 (drop (length done - (depth - 1)) done) a
  where
    size : length done + 1 ≡ length ends.before + length (left_at rules place)
    size = omega (arith, ap length ends.is, length-append done (a ∷ []), length-append ends.before (left_at rules place))

    index : length ends.before + (length (left_at rules place) - depth) ≡ length done - (depth - 1)
    index = omega (arith, some, long, size)

    same : drop (length (left_at rules place) - depth) (left_at rules place) ≡ drop (length done - (depth - 1)) done ++ a ∷ []
    same =
        sym (drop-append-add ends.before (left_at rules place) (length (left_at rules place) - depth))
        ∙ ap (drop (length ends.before + (length (left_at rules place) - depth))) (sym ends.is)
        ∙ ap (λ n. drop n (done ++ a ∷ [])) index
        ∙ drop-append-le (length done - (depth - 1)) done (a ∷ []) (omega (arith, some, long, size))

-- a search from the last rule of a key: none behind a bound ends there
pub record IsSought (rules : List (Word × Word)) (first : ℕ) (newer : Newer) (key : ℕ) (u : Word) (at : Option ℕ) : Type 0 where
  pub bound : ℕ
  pub few : bound ≤ length newer.before.items
  pub latest : IsLatest (newer_key rules first newer.depth) bound key at
  pub behind : (n : ℕ) → bound ≤ n → n < length newer.before.items → EndsAt rules u (first + n) → ⊥

-- how many numbers are left
abbrev pub height : Option ℕ → ℕ
height None = 0
height (Some n) = n + 1

module _ {rules : List (Word × Word)} {first : ℕ} {newer : Newer} (are : AreNewer rules first newer) (done : Word) (a rest key : ℕ) (few : key < 256)
    (rest_is : rest ≡ key_from 0 (take (length done - (length done - (newer.depth - 1))) (drop (length done - (newer.depth - 1)) done))) (made : key ≡ (rest * 7 + a) % 256) where
  key_is : key ≡ (key_from 0 (drop (length done - (newer.depth - 1)) done) * 7 + a) % 256
  key_is = made ∙ ap (λ r. (r * 7 + a) % 256) (rest_is ∙ ap (key_from 0) (take_rest done (length done - (newer.depth - 1))))

  keyed : (n : ℕ) → n < length newer.before.items → EndsAt rules (done ++ a ∷ []) (first + n) → newer_key rules first newer.depth n ≡ key
  keyed n within ends =
      ends_keyed rules newer.depth done a (first + n) are.some (are.long (first + n) (omega arith) (omega (arith, within, are.count))) ends ∙ sym key_is

  pub sought_start : (at : Option ℕ) → at ≡ get_or newer.latest.items key None → IsSought rules first newer key (done ++ a ∷ []) at
  sought_start at read = record {
    bound = length newer.before.items;
    few = omega arith;
    latest = subst (λ (o : Option ℕ). IsLatest (newer_key rules first newer.depth) (length newer.before.items) key o) (sym read) (are.to.latest key few);
    behind = λ n past within ends. omega (arith, past, within);
  }

  module _ (at : Option ℕ) (sought : IsSought rules first newer key (done ++ a ∷ []) at) where
    pub sought_end : at ≡ None → (place : ℕ) → first ≤ place → EndsAt rules (done ++ a ∷ []) place → ⊥
    sought_end none place from ends =
        let n : ℕ = place - first in
        let is : place ≡ first + n = omega (arith, from) in
        let here = subst (λ p. EndsAt rules (done ++ a ∷ []) p) is ends in
        let within : n < length newer.before.items = omega (arith, from, ends.within, are.count) in
        elim (cases_lt n sought.bound) [
          | inl below ↦ gone n below (keyed n within here)
          | inr past ↦ sought.behind n past within here
        ]
      where
        gone : (n : ℕ) → n < sought.bound → newer_key rules first newer.depth n ≡ key → ⊥
        gone = subst (λ (o : Option ℕ). IsLatest (newer_key rules first newer.depth) sought.bound key o) none sought.latest

    module _ (number : ℕ) (some : at ≡ Some number) where
      here_is : (number < sought.bound) × (newer_key rules first newer.depth number ≡ key)
          × ((n : ℕ) → number < n → n < sought.bound → newer_key rules first newer.depth n ≡ key → ⊥)
      here_is = subst (λ (o : Option ℕ). IsLatest (newer_key rules first newer.depth) sought.bound key o) some sought.latest

      pub sought_within : number < length newer.before.items
      sought_within = omega (arith, here_is.0, sought.few)

      pub sought_on : (next : Option ℕ) → next ≡ get_or newer.before.items number next → (EndsAt rules (done ++ a ∷ []) (first + number) → ⊥)
          → IsSought rules first newer key (done ++ a ∷ []) next × (height next < height at)
      sought_on next read none = (
        record {
          bound = number;
          few = omega (arith, sought_within);
          latest = latest;
          behind = λ n past within ends. elim (cases_eq n number) [
            | inl e ↦ none (subst (λ i. EndsAt rules (done ++ a ∷ []) (first + i)) e ends)
            | inr d ↦ elim (cases_lt n sought.bound) [
              | inl below ↦ here_is.2 n (omega (arith, past, d)) below (keyed n within ends)
              | inr far ↦ sought.behind n far within ends
            ]
          ];
        },
        subst (λ (o : Option ℕ). height next < height o) (sym some) (lower next latest),
      )
        where
          latest : IsLatest (newer_key rules first newer.depth) number key next
          latest = subst₂ (λ (k : ℕ) (o : Option ℕ). IsLatest (newer_key rules first newer.depth) number k o) here_is.1 (sym (get_or_read newer.before.items number next sought_within read None)) (are.to.before number sought_within)

          lower : (o : Option ℕ) → IsLatest (newer_key rules first newer.depth) number key o → height o < number + 1
          lower None l = omega arith
          lower (Some m) l = omega (arith, l.0)

pub no_number : (o : Option ℕ) → ((n : ℕ) → o ≡ Some n → ⊥) → o ≡ None
no_number None none = refl
no_number (Some n) none = absurd (none n refl)
