-- Idempotents are marked class by class, and listed in order.
use Rattle.std.proofs.Common.{◌≡◌, ◌≢◌, ℕ, ◌+◌, ◌<◌, ◌++◌, Bool, true, false, true≢false, List, [], ◌∷◌, length, replicate, set, slice_index, sym, ◌∙◌, ap, subst, arith, inl, inr, Option, Some, None, MatchOption}
use Rattle.std.proofs.lemmas.Bool.{cases_eq, cases_lt}
use Rattle.std.proofs.lemmas.List.{get_or-set_same, get_or-set_other, get_or-replicate, get_or_past, length-set, length-replicate}
use Rattle.theory.specs.Listing.{IsListOf}
use Rattle.theory.proofs.Listings.{list_same}
use Rattle.froidure_pin.specs.declared.tables.CayleyTables.{CayleyTables}
use Rattle.green.specs.Idempotents.{AreMarked, IsIdempotentIn, IsMarked}
use Rattle.green.specs.Naming.{AreNames}
use Rattle.green.specs.Related.{AreRelated, IsIdempotentAt}
use Rattle.theory.specs.declared.Relation.TheVariants.{H}
use Rattle.green.proofs.GroupLaws.{listed_more}

below_length : (marks : List Bool) (i : ℕ) → IsMarked marks i → i < length marks
below_length marks i h = elim (cases_lt i (length marks)) [
  | inl l ↦ l
  | inr past ↦ absurd (true≢false (sym h ∙ get_or_past marks i false past))
]

marked_set : (marks : List Bool) (place i : ℕ) → IsMarked marks i → IsMarked (set marks place true) i
marked_set marks place i h = elim (cases_eq i place) [
  | inl e ↦ subst (IsMarked (set marks place true)) (sym e) (get_or-set_same marks place true false (subst (λ j. j < length marks) e (below_length marks i h)))
  | inr d ↦ get_or-set_other marks place i true false d ∙ h
]

set_marked : (marks : List Bool) (place i : ℕ) → i ≢ place → IsMarked (set marks place true) i → IsMarked marks i
set_marked marks place i d h = sym (get_or-set_other marks place i true false d) ∙ h

never_marked : (count i : ℕ) → IsMarked (replicate count false) i → ⊥
never_marked count i h =
    let l : i < count = subst (λ m. i < m) (length-replicate count false) (below_length (replicate count false) i h) in
    true≢false (sym h ∙ get_or-replicate count i false false l)

pub marked_none : (t : CayleyTables) (names : List ℕ) → AreMarked t names 0 (replicate (length names) false) (replicate (length t.words) false)
marked_none t names = record {
  seen_count = length-replicate (length names) false;
  count = length-replicate (length t.words) false;
  sound = λ i h. absurd (never_marked (length t.words) i h);
  complete = λ i e l idempotent related. absurd (omega (arith, l));
  known = λ name h. absurd (never_marked (length names) name h);
}

module _ (t : CayleyTables) (names : List ℕ) (are : AreNames (length t.words) (AreRelated H t) names) (m : ℕ) (l : m < length t.words) (seen marks : List Bool)
    (h : AreMarked t names m seen marks) where
  -- a class that was seen before
  pub marked_seen : IsMarked seen (slice_index names m) → AreMarked t names (m + 1) seen marks
  marked_seen known = record {
    seen_count = h.seen_count;
    count = h.count;
    sound = h.sound;
    complete = λ i e below idempotent related. elim (cases_eq i m) [
      | inl this ↦
          let other = h.known (slice_index names m) known in
          let small : other.0 < length t.words = omega (arith, other.1, l) in
          let same = (are.same m e l idempotent.below).1 (subst (λ j. AreRelated H t j e) this related) in
          h.complete other.0 e other.1 idempotent ((are.same other.0 e small idempotent.below).0 (other.2 ∙ same))
      | inr d ↦ h.complete i e (omega (arith, below, d)) idempotent related
    ];
    known = λ name marked. let other = h.known name marked in (other.0, omega (arith, other.1), other.2);
  }

  seen_after : (now : List Bool) → now ≡ set seen (slice_index names m) true → (name : ℕ) → IsMarked now name → (i : ℕ) × (i < m + 1) × (slice_index names i ≡ name)
  seen_after now is name marked = elim (cases_eq name (slice_index names m)) [
    | inl e ↦ (m, omega arith, sym e)
    | inr d ↦
        let other = h.known name (set_marked seen (slice_index names m) name d (subst (λ (all : List Bool). IsMarked all name) is marked)) in
        (other.0, omega (arith, other.1), other.2)
  ]

  -- a class that is new
  pub marked_new : (now after : List Bool) (found : Option ℕ) → now ≡ set seen (slice_index names m) true → IsIdempotentIn t m found
      → MatchOption found (after ≡ marks) (λ i. after ≡ set marks i true) → AreMarked t names (m + 1) now after
  marked_new now after None is none same = record {
    seen_count = ap length is ∙ length-set seen (slice_index names m) true ∙ h.seen_count;
    count = ap length same ∙ h.count;
    sound = λ i marked. h.sound i (subst (λ (all : List Bool). IsMarked all i) same marked);
    complete = λ i e below idempotent related. subst (λ (all : List Bool). IsMarked all e) (sym same) (elim (cases_eq i m) [
      | inl this ↦ absurd (none e idempotent (subst (λ j. AreRelated H t j e) this related))
      | inr d ↦ h.complete i e (omega (arith, below, d)) idempotent related
    ]);
    known = seen_after now is;
  }
  marked_new now after (Some p) is only more = record {
    seen_count = ap length is ∙ length-set seen (slice_index names m) true ∙ h.seen_count;
    count = ap length more ∙ length-set marks p true ∙ h.count;
    sound = λ i marked. elim (cases_eq i p) [
      | inl e ↦ subst (IsIdempotentAt t) (sym e) only.0
      | inr d ↦ h.sound i (set_marked marks p i d (subst (λ (all : List Bool). IsMarked all i) more marked))
    ];
    complete = λ i e below idempotent related. subst (λ (all : List Bool). IsMarked all e) (sym more) (elim (cases_eq i m) [
      | inl this ↦
          let same = only.1 e idempotent (subst (λ j. AreRelated H t j e) this related) in
          subst (IsMarked (set marks p true)) (sym same) (get_or-set_same marks p true false (omega (arith, only.0.below, h.count)))
      | inr d ↦ marked_set marks p e (h.complete i e (omega (arith, below, d)) idempotent related)
    ]);
    known = seen_after now is;
  }

-- all numbers were looked at
pub marked_all : (t : CayleyTables) (names : List ℕ) (seen marks : List Bool) → ((e : ℕ) → AreRelated H t e e) → AreMarked t names (length t.words) seen marks
    → (found : List ℕ) → IsListOf (IsMarked marks) ◌<◌ None found → IsListOf (IsIdempotentAt t) ◌<◌ None found
marked_all t names seen marks same h found listed = list_same (IsMarked marks) (IsIdempotentAt t) ◌<◌ (λ y. (
  h.sound y,
  λ idempotent. h.complete y y idempotent.below idempotent (same y),
)) None found listed

-- what is marked before a number
pub record IsMarkedBefore (marks : List Bool) (m i : ℕ) : Type 0 where
  pub before : i < m
  pub marked : IsMarked marks i

pub listed_none : (marks : List Bool) → IsListOf (IsMarkedBefore marks 0) ◌<◌ None []
listed_none marks y f a = let low = f.before in omega (arith, low)

module _ (marks : List Bool) (m : ℕ) (found : List ℕ) (h : IsListOf (IsMarkedBefore marks m) ◌<◌ None found) where
  pub listed_marked : IsMarked marks m → IsListOf (IsMarkedBefore marks (m + 1)) ◌<◌ None (found ++ m ∷ [])
  listed_marked this = listed_more (IsMarkedBefore marks m) (IsMarkedBefore marks (m + 1)) m None found h (λ y f. f.before)
      (λ y f. record { before = omega (arith, f.before); marked = f.marked })
      (λ y f. elim (cases_eq y m) [
        | inl e ↦ inr e
        | inr d ↦ inl (record { before = omega (arith, f.before, d); marked = f.marked })
      ]) (record { before = omega arith; marked = this }) tt

  pub listed_same : (IsMarked marks m → ⊥) → IsListOf (IsMarkedBefore marks (m + 1)) ◌<◌ None found
  listed_same none = list_same (IsMarkedBefore marks m) (IsMarkedBefore marks (m + 1)) ◌<◌ (λ y. (
    λ f. record { before = omega (arith, f.before); marked = f.marked },
    λ f. record {
      before = elim (cases_eq y m) [
        | inl e ↦ absurd (none (subst (IsMarked marks) e f.marked))
        | inr d ↦ omega (arith, f.before, d)
      ];
      marked = f.marked;
    },
  )) None found h

  pub listed_all : length marks ≡ m → IsListOf (IsMarked marks) ◌<◌ None found
  listed_all e = list_same (IsMarkedBefore marks m) (IsMarked marks) ◌<◌ (λ y. (
    λ f. f.marked,
    λ marked. record { before = omega (arith, below_length marks y marked, e); marked = marked },
  )) None found h
