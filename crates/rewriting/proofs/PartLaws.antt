-- What stays true when rules are taken out, and one is put at the end.
use Rattle.std.proofs.Common.{◌≡◌, ℕ, zero, suc, ◌+◌, ◌<◌, ◌≤◌, Bool, true, false, not, cond, List, [], ◌∷◌, ◌++◌, map, length, take, drop, get_or, refl, sym, ◌∙◌, ap, ap₂, subst, subst₂, arith, inl, inr, Option, Some, None, IsTrue, ◌↔◌, append-nil, length-append, take-append-drop}
use Rattle.std.specs.List.{filter}
use Rattle.std.proofs.lemmas.Bool.{cases_Bool, cases_lt}
use Rattle.std.proofs.lemmas.List.{get_or-map, get_or_append_left, get_or_push, length-map, take_all, take-append-le}
use Rattle.std.proofs.lemmas.Option.{same_Some}
use Rattle.std.proofs.lemmas.List.Elements.{filter-append}
use Rattle.theory.specs.Word.{Word, IsFactor}
use Rattle.rewriting.specs.Rules.{stands_in}
use Rattle.rewriting.specs.Tables.{IsTableOf}
use Rattle.rewriting.specs.Tries.{left_at}
use Rattle.rewriting.specs.Newer.{AreNewer}
use Rattle.rewriting.specs.Lookups.{IsLookup, IsPlaced, moves_of}
use Rattle.rewriting.specs.Parts.{AreParts, kept_of, places_of, through}
use Rattle.rewriting.specs.declared.lookups.Lookup.{Lookup}
use Rattle.rewriting.specs.declared.parts.Parts.{Parts}
use Rattle.rewriting.proofs.Standing.{factor_tested, factor_trans, stands_at}

-- where one rule goes
pub goes_out : (left : Word) (rule : Word × Word) (r : Bool) → IsTrue r ↔ IsFactor left rule.0 → r ≡ true → (kept old : List (Word × Word)) (moved : List (Option ℕ)) (n : ℕ)
    → (kept ≡ kept ++ filter (λ q. not (stands_in left q.0)) (rule ∷ [])) × (old ++ rule ∷ [] ≡ old ++ filter (λ q. stands_in left q.0) (rule ∷ []))
    × (moved ++ None ∷ [] ≡ moved ++ cond (stands_in left rule.0) None (Some n) ∷ [])
goes_out left rule r h t kept old moved n =
    let e : stands_in left rule.0 ≡ true = sym (factor_tested left rule.0 r h) ∙ t in rw e (sym (append-nil kept), refl, refl)

pub stays_in : (left : Word) (rule : Word × Word) (r : Bool) → IsTrue r ↔ IsFactor left rule.0 → r ≡ false → (kept old : List (Word × Word)) (moved : List (Option ℕ)) (n : ℕ)
    → (kept ++ rule ∷ [] ≡ kept ++ filter (λ q. not (stands_in left q.0)) (rule ∷ [])) × (old ≡ old ++ filter (λ q. stands_in left q.0) (rule ∷ []))
    × (moved ++ Some n ∷ [] ≡ moved ++ cond (stands_in left rule.0) None (Some n) ∷ [])
stays_in left rule r h t kept old moved n =
    let e : stands_in left rule.0 ≡ false = sym (factor_tested left rule.0 r h) ∙ t in rw e (refl, sym (append-nil old), refl)

-- the left sides of rules with one more
old_left : (rules : List (Word × Word)) (rule : Word × Word) (place : ℕ) → place < length rules → left_at (rules ++ rule ∷ []) place ≡ left_at rules place
old_left rules rule place h = ap (λ (p : Word × Word). p.0) (get_or_append_left rules (rule ∷ []) ([], []) place h)

last_left : (rules : List (Word × Word)) (rule : Word × Word) (place : ℕ) → place ≡ length rules → left_at (rules ++ rule ∷ []) place ≡ rule.0
last_left rules rule place e = ap (λ (p : Word × Word). p.0) (get_or_push rules rule ([], []) place (sym e))

-- where rules go
module _ (left : Word) where
  places_count : (n : ℕ) (rules : List (Word × Word)) → length (places_of left n rules) ≡ length rules
  places_count n [] = refl
  places_count n (r ∷ rs) = ap suc (places_count (cond (stands_in left r.0) n (n + 1)) rs)

  places_more : (n : ℕ) (rules : List (Word × Word)) (rule : Word × Word)
      → places_of left n (rules ++ rule ∷ []) ≡ places_of left n rules ++ cond (stands_in left rule.0) None (Some (n + length (kept_of left rules))) ∷ []
  places_more n [] rule = ap (λ m. cond (stands_in left rule.0) None (Some m) ∷ []) (omega arith)
  places_more n (r ∷ rs) rule = elim (cases_Bool (stands_in left r.0)) [
    | inl t ↦ rw t (ap (λ ps. None ∷ ps) (places_more n rs rule))
    | inr f ↦
        let size : n + 1 + length (kept_of left rs) ≡ n + suc (length (kept_of left rs)) = omega arith in
        rw f (ap (λ ps. Some n ∷ ps) (places_more (n + 1) rs rule ∙ ap (λ m. places_of left (n + 1) rs ++ cond (stands_in left rule.0) None (Some m) ∷ []) size))
  ]

  -- the rule that has gone to a place
  there : (n : ℕ) (rules : List (Word × Word)) (place to : ℕ) → get_or (places_of left n rules) place None ≡ Some to
      → (k : ℕ) × (to ≡ n + k) × (k < length (kept_of left rules)) × (left_at (kept_of left rules) k ≡ left_at rules place)
  there n [] place to e = let bad : ⊥ = cc in absurd bad
  there n (r ∷ rs) zero to e = elim (cases_Bool (stands_in left r.0)) [
    | inl t ↦ let bad : None ≡ Some to = sym (ap (λ b. cond b None (Some n)) t) ∙ e in absurd (let no : ⊥ = cc in no)
    | inr f ↦ let same = same_Some n to (sym (ap (λ b. cond b None (Some n)) f) ∙ e) in rw f (0, omega (arith, same), omega arith, refl)
  ]
  there n (r ∷ rs) (suc place) to e = elim (cases_Bool (stands_in left r.0)) [
    | inl t ↦ rw t (there n rs place to (subst (λ b. get_or (places_of left (cond b n (n + 1)) rs) place None ≡ Some to) t e))
    | inr f ↦
        let h = there (n + 1) rs place to (subst (λ b. get_or (places_of left (cond b n (n + 1)) rs) place None ≡ Some to) f e) in
        rw f (suc h.0, omega (arith, h.1), omega (arith, h.2), h.3)
  ]

  gone : (n : ℕ) (rules : List (Word × Word)) (place : ℕ) → place < length rules → get_or (places_of left n rules) place None ≡ None → stands_in left (left_at rules place) ≡ true
  gone n [] place h e = absurd (omega (arith, h))
  gone n (r ∷ rs) zero h e = elim (cases_Bool (stands_in left r.0)) [
    | inl t ↦ t
    | inr f ↦ let bad : Some n ≡ None = sym (ap (λ b. cond b None (Some n)) f) ∙ e in absurd (let no : ⊥ = cc in no)
  ]
  gone n (r ∷ rs) (suc place) h e = gone (cond (stands_in left r.0) n (n + 1)) rs place (omega (arith, h)) e

  -- each rule that is kept was there
  all_from : (n : ℕ) (rules : List (Word × Word)) (k : ℕ) → k < length (kept_of left rules) → (place : ℕ) × (place < length rules) × (get_or (places_of left n rules) place None ≡ Some (n + k))
  all_from n [] k h = absurd (omega (arith, h))
  all_from n (r ∷ rs) k h = elim (cases_Bool (stands_in left r.0)) [
    | inl t ↦
        let at = all_from n rs k (subst (λ b. k < length (cond (not b) (r ∷ kept_of left rs) (kept_of left rs))) t h) in
        (suc at.0, omega (arith, at.1), rw t at.2)
    | inr f ↦ go (λ k h. all_from (n + 1) rs k h) k (subst (λ b. k < length (cond (not b) (r ∷ kept_of left rs) (kept_of left rs))) f h) f
  ]
    where
      go : ((k : ℕ) → k < length (kept_of left rs) → (place : ℕ) × (place < length rs) × (get_or (places_of left (n + 1) rs) place None ≡ Some (n + 1 + k)))
          → (k : ℕ) → k < suc (length (kept_of left rs)) → stands_in left r.0 ≡ false → (place : ℕ) × (place < suc (length rs)) × (get_or (places_of left n (r ∷ rs)) place None ≡ Some (n + k))
      go rest zero h f = (0, omega arith, rw f (ap Some (let e : n ≡ n + 0 = omega arith in e)))
      go rest (suc k) h f =
          let at = rest k (omega (arith, h)) in
          let size : n + 1 + k ≡ n + suc k = omega arith in
          (suc at.0, omega (arith, at.1), rw f (at.2 ∙ ap Some size))

  -- a rule behind the first ones stays behind those that are kept of them
  behind : (n : ℕ) (rules : List (Word × Word)) (first place to : ℕ) → get_or (places_of left n rules) place None ≡ Some to → first ≤ place → n + length (kept_of left (take first rules)) ≤ to
  behind n [] first place to e h = let bad : ⊥ = cc in absurd bad
  behind n (r ∷ rs) zero place to e h = let at = there n (r ∷ rs) place to e in omega (arith, at.1)
  behind n (r ∷ rs) (suc first) zero to e h = absurd (omega (arith, h))
  behind n (r ∷ rs) (suc first) (suc place) to e h = elim (cases_Bool (stands_in left r.0)) [
    | inl t ↦ rw t (behind n rs first place to (subst (λ b. get_or (places_of left (cond b n (n + 1)) rs) place None ≡ Some to) t e) (omega (arith, h)))
    | inr f ↦
        let low = behind (n + 1) rs first place to (subst (λ b. get_or (places_of left (cond b n (n + 1)) rs) place None ≡ Some to) f e) (omega (arith, h)) in
        rw f (omega (arith, low))
  ]

  pub first_few_kept : (count : ℕ) (rules : List (Word × Word)) → length (kept_of left (take count rules)) ≤ length (kept_of left rules)
  first_few_kept count rules =
      let parts : kept_of left rules ≡ kept_of left (take count rules) ++ kept_of left (drop count rules) =
      ap (kept_of left) (sym (take-append-drop count rules)) ∙ filter-append (λ (r : Word × Word). not (stands_in left r.0)) (take count rules) (drop count rules) in
      omega (arith, ap length parts, length-append (kept_of left (take count rules)) (kept_of left (drop count rules)))

-- a new rule behind those in whose left sides its own does not stand
module _ (rules : List (Word × Word)) (lookup new : Lookup) (rule : Word × Word) (is : IsLookup rules lookup)
    (first : new.first ≡ length (kept_of rule.0 (take lookup.first rules))) (table : moves_of new ≡ moves_of lookup)
    (places : new.places.items ≡ map (through (places_of rule.0 0 rules)) lookup.places.items) (newer : AreNewer (kept_of rule.0 rules ++ rule ∷ []) new.first new.newer) where
  abbrev kept : List (Word × Word)
  kept = kept_of rule.0 rules

  abbrev pub added : List (Word × Word)
  added = kept ++ rule ∷ []

  more : length added ≡ length kept + 1
  more = length-append kept (rule ∷ [])

  few : new.first ≤ length kept
  few = let h = first_few_kept rule.0 lookup.first rules in omega (arith, first, h)

  -- the new rule takes out what had this left side
  by_newest : (l : Word) → IsFactor rule.0 l → (place : ℕ) × (new.first ≤ place) × (place < length added) × IsFactor (left_at added place) l
  by_newest l factor = (length kept, few, omega (arith, more), subst (λ w. IsFactor w l) (sym (last_left kept rule (length kept) refl)) factor)

  -- where an old rule stands now
  stands : (place to : ℕ) → get_or (places_of rule.0 0 rules) place None ≡ Some to → (to < length kept) × (left_at added to ≡ left_at rules place)
  stands place to e =
      let at = there rule.0 0 rules place to e in
      let same : to ≡ at.0 = omega (arith, at.1) in
      (omega (arith, same, at.2), ap (left_at added) same ∙ old_left kept rule at.0 at.2 ∙ at.3)

  takes_out : (place : ℕ) → place < length rules → get_or (places_of rule.0 0 rules) place None ≡ None → IsFactor rule.0 (left_at rules place)
  takes_out place h e = let at = stands_at rule.0 (left_at rules place) (gone rule.0 0 rules place h e) in record { before = at.0; after = at.1; is = at.2 }

  placed : (l : Word) (p : Option ℕ) → IsPlaced rules lookup.first l p → IsPlaced added new.first l (through (places_of rule.0 0 rules) p)
  placed l (Some place) by = go (get_or (places_of rule.0 0 rules) place None) refl
    where
      go : (to : Option ℕ) → get_or (places_of rule.0 0 rules) place None ≡ to → IsPlaced added new.first l to
      go (Some to) e = let at = stands place to e in (omega (arith, at.0, more), at.1 ∙ by.1)
      go None e = by_newest l (subst (λ w. IsFactor rule.0 w) by.1 (takes_out place by.0 e))
  placed l None by = go (get_or (places_of rule.0 0 rules) by.0 None) refl
    where
      go : (to : Option ℕ) → get_or (places_of rule.0 0 rules) by.0 None ≡ to → (place : ℕ) × (new.first ≤ place) × (place < length added) × IsFactor (left_at added place) l
      go (Some to) e =
          let at = stands by.0 to e in
          let far = behind rule.0 0 rules lookup.first by.0 to e by.1 in
          (to, omega (arith, far, first), omega (arith, at.0, more), subst (λ w. IsFactor w l) (sym at.1) by.3)
      go None e = by_newest l (factor_trans rule.0 (left_at rules by.0) l (takes_out by.0 by.2 e) by.3)

  pub added_lookup : IsLookup added new
  added_lookup = record {
    letters = is.letters;
    tabled = is.tabled;
    falling = is.falling;
    table = subst (λ m. IsTableOf is.letters is.tabled m) (sym table) is.table;
    few = omega (arith, few, more);
    known = known;
    count = ap length places ∙ length-map lookup.places.items (through (places_of rule.0 0 rules)) ∙ is.count;
    placed = λ number h.
        subst (λ p. IsPlaced added new.first (left_at is.tabled number) p)
        (sym (ap (λ (ps : List (Option ℕ)). get_or ps number None) places
        ∙ get_or-map (through (places_of rule.0 0 rules)) lookup.places.items number None None (omega (arith, h, is.count))))
        (placed (left_at is.tabled number) (get_or lookup.places.items number None) (is.placed number h));
    newer = newer;
  }
    where
      known : (place : ℕ) → place < new.first → (number : ℕ) × (number < length is.tabled) × (left_at is.tabled number ≡ left_at added place)
      known place h =
          let old = all_from rule.0 0 rules place (omega (arith, h, few)) in
          let to : get_or (places_of rule.0 0 rules) old.0 None ≡ Some place = old.2 ∙ ap Some (let e : 0 + place ≡ place = omega arith in e) in
          elim (cases_lt old.0 lookup.first) [
            | inl l ↦ let by = is.known old.0 l in (by.0, by.1, by.2 ∙ sym (stands old.0 place to).1)
            | inr l ↦ let far = behind rule.0 0 rules lookup.first old.0 place to l in absurd (omega (arith, far, first, h))
          ]

-- where a left side stands in no other, no rule goes
pub none_goes : (left : Word) (rules : List (Word × Word)) → ((place : ℕ) → place < length rules → stands_in left (left_at rules place) ≡ false)
    → (filter (λ q. not (stands_in left q.0)) rules ≡ rules) × (filter (λ q. stands_in left q.0) rules ≡ [])
none_goes left [] none = (refl, refl)
none_goes left (r ∷ rs) none =
    let first : stands_in left r.0 ≡ false = none 0 (omega arith) in
    let rest = none_goes left rs (λ place h. none (suc place) (omega (arith, h))) in
    (rw first (ap (λ (qs : List (Word × Word)). r ∷ qs) rest.0), rw first rest.1)

-- a new rule behind all others
module _ (rules : List (Word × Word)) (lookup new : Lookup) (rule : Word × Word) (is : IsLookup rules lookup) (first : new.first ≡ lookup.first) (table : moves_of new ≡ moves_of lookup)
    (places : new.places.items ≡ lookup.places.items) (newer : AreNewer (rules ++ rule ∷ []) new.first new.newer) where
  longer_by : length (rules ++ rule ∷ []) ≡ length rules + 1
  longer_by = length-append rules (rule ∷ [])

  stays_placed : (l : Word) (p : Option ℕ) → IsPlaced rules lookup.first l p → IsPlaced (rules ++ rule ∷ []) lookup.first l p
  stays_placed l (Some place) by = (omega (arith, by.0, longer_by), old_left rules rule place by.0 ∙ by.1)
  stays_placed l None by =
      (by.0, by.1, omega (arith, by.2, longer_by), subst (λ w. IsFactor w l) (sym (old_left rules rule by.0 by.2)) by.3)

  pub behind_lookup : IsLookup (rules ++ rule ∷ []) new
  behind_lookup = record {
    letters = is.letters;
    tabled = is.tabled;
    falling = is.falling;
    table = subst (λ m. IsTableOf is.letters is.tabled m) (sym table) is.table;
    few = omega (arith, first, is.few, longer_by);
    known = λ place h.
        let by = is.known place (omega (arith, h, first)) in
        (by.0, by.1, by.2 ∙ sym (old_left rules rule place (omega (arith, h, first, is.few))));
    count = ap length places ∙ is.count;
    placed = λ number h.
        subst₂ (λ (n : ℕ) (p : Option ℕ). IsPlaced (rules ++ rule ∷ []) n (left_at is.tabled number) p) (sym first)
        (sym (ap (λ (ps : List (Option ℕ)). get_or ps number None) places))
        (stays_placed (left_at is.tabled number) (get_or lookup.places.items number None) (is.placed number h));
    newer = newer;
  }

-- one rule more
pub parts_step : (left : Word) (rules : List (Word × Word)) (rule : Word × Word) (count : ℕ) (old new : Parts) → AreParts left rules count old
    → new.kept.items ≡ old.kept.items ++ filter (λ r. not (stands_in left r.0)) (rule ∷ []) → new.gone.items ≡ old.gone.items ++ filter (λ r. stands_in left r.0) (rule ∷ [])
    → new.moved.items ≡ old.moved.items ++ cond (stands_in left rule.0) None (Some (length old.kept.items)) ∷ [] → (length new.moved.items ≤ count → new.first ≡ length new.kept.items)
    → (count < length new.moved.items → new.first ≡ old.first) → AreParts left (rules ++ rule ∷ []) count new
parts_step left rules rule count old new is kept gone moved early late = record {
  kept = kept_is;
  gone = gone ∙ ap (λ rs. rs ++ filter (λ r. stands_in left r.0) (rule ∷ [])) is.gone ∙ sym (filter-append (λ (r : Word × Word). stands_in left r.0) rules (rule ∷ []));
  moved = moved ∙ ap₂ (λ (ps : List (Option ℕ)) (n : ℕ). ps ++ cond (stands_in left rule.0) None (Some n) ∷ []) is.moved (ap length is.kept ∙ from_nought)
      ∙ sym (places_more left 0 rules rule);
  first = elim (cases_lt (length rules) count) [
    | inl l ↦ early (omega (arith, l, size)) ∙ ap length kept_is ∙ ap (λ rs. length (kept_of left rs)) (sym (take_all count (rules ++ rule ∷ []) (omega (arith, l, length-append rules (rule ∷ [])))))
    | inr m ↦ late (omega (arith, m, size)) ∙ is.first ∙ ap (λ rs. length (kept_of left rs)) (sym (take-append-le count rules (rule ∷ []) m))
  ];
}
  where
    kept_is : new.kept.items ≡ kept_of left (rules ++ rule ∷ [])
    kept_is = kept ∙ ap (λ rs. rs ++ filter (λ r. not (stands_in left r.0)) (rule ∷ [])) is.kept ∙ sym (filter-append (λ (r : Word × Word). not (stands_in left r.0)) rules (rule ∷ []))

    from_nought : length (kept_of left rules) ≡ 0 + length (kept_of left rules)
    from_nought = omega arith

    size : length new.moved.items ≡ length rules + 1
    size = omega (arith, ap length moved, length-append old.moved.items (cond (stands_in left rule.0) None (Some (length old.kept.items)) ∷ []), ap length is.moved, places_count left 0 rules)

pub parts_start : (left : Word) (count : ℕ) (parts : Parts) → parts.kept.items ≡ [] → parts.gone.items ≡ [] → parts.moved.items ≡ [] → parts.first ≡ 0 → AreParts left [] count parts
parts_start left count parts kept gone moved first = record { kept = kept; gone = gone; moved = moved; first = first ∙ none count }
  where
    none : (count : ℕ) → 0 ≡ length (kept_of left (take count []))
    none zero = refl
    none (suc count) = refl
