-- Joining overlaps, step by step.
use Rattle.std.proofs.Common.{◌≡◌, ℕ, zero, suc, slice_get, Some, add-one, ◌+◌, ◌-◌, ◌*◌, ◌<◌, ◌≤◌, Bool, true, false, not, List, [], ◌∷◌, ◌++◌, length, take, drop, refl, sym, ◌∙◌, ap, ap₂, subst, subst₂, arith, inl, inr, eqb, length-append, IsTrue, MatchBool, ◌↔◌}
use Rattle.std.specs.Cmp.Lexicographic.{pointwise}
use Rattle.std.specs.List.Sorted.{IsPermutation}
use Rattle.std.proofs.lemmas.Bool.Decides.{Decides-eqb}
use Rattle.std.proofs.Math.Nat.{suc-mul}
use Rattle.std.proofs.lemmas.Bool.{cases_lt}
use Rattle.std.proofs.lemmas.List.{take_rest}
use Rattle.std.proofs.lemmas.List.Elements.{All-get_or, Contains-append_left, Contains-push, Contains-push_cases}
use Rattle.std.proofs.lemmas.List.Sorted.{Contains-permutation, IsPermutation-sym, length_permutation}
use Rattle.std.proofs.lemmas.Slice.Eq.{slice_eq-Decides}
use Rattle.theory.specs.Word.{Word}
use Rattle.theory.specs.Completion.{Listed}
use Rattle.theory.proofs.Counting.{contains_from_in, in_from_contains}
use Rattle.theory.proofs.WithinDecides.{word_decides}
use Rattle.knuth_bendix.specs.declared.lengths.Lengths.{Lengths}
use Rattle.knuth_bendix.specs.declared.indexed_rules.Sharing.{Sharing}
use Rattle.knuth_bendix.specs.Overlaps.{AreJoined, AreShort, Gains, HasLength, IsJoinedBy, IsOverlap, IsSplit, ReducesTo, critical_at, critical_pair, overlaps_by, rule_at}

-- a test whether the last letters of a word are the first of another
pub overlap_tested : (f g f' g' : Word) (shared n : ℕ) (r : Bool) → f' ≡ f → g' ≡ g → n ≡ length f
    → r ≡ pointwise eqb (take (length f' - (n - shared)) (drop (n - shared) f')) (take shared g') → IsTrue r ↔ overlaps_by f g shared
overlap_tested f g f' g' shared n r ef eg en e =
    slice_eq-Decides Decides-eqb (drop (length f - shared) f) (take shared g) r
    (e ∙ ap (λ w. pointwise eqb w (take shared g')) (take_rest f' (n - shared))
    ∙ ap (λ w. pointwise eqb w (take shared g')) (ap₂ (λ (m : ℕ) (w : Word). drop (m - shared) w) en ef)
    ∙ ap (λ w. pointwise eqb (drop (length f - shared) f) (take shared w)) eg)

-- the letters at which an overlap begins in both words are one
pub overlap_begins : (place : ℕ) (f g : Word) (shared x y : ℕ) → 0 < shared → drop place f ≡ take shared g → slice_get f place ≡ Some x → slice_get g 0 ≡ Some y → x ≡ y
overlap_begins zero [] g shared x y some e at_first at_second = let bad : ⊥ = cc in absurd bad
overlap_begins zero (a ∷ f) [] shared x y some e at_first at_second = let bad : ⊥ = cc in absurd bad
overlap_begins zero (a ∷ f) (b ∷ g) zero x y some e at_first at_second = absurd (omega (arith, some))
overlap_begins zero (a ∷ f) (b ∷ g) (suc shared) x y some e at_first at_second = cc
overlap_begins (suc place) [] g shared x y some e at_first at_second = let bad : ⊥ = cc in absurd bad
overlap_begins (suc place) (a ∷ f) g shared x y some e at_first at_second = overlap_begins place f g shared x y some e at_first at_second

-- the old equations alone
pub gains_none : (lengths : Lengths) (rules equations : List (Word × Word)) (most : ℕ) → Gains lengths rules equations equations most
gains_none lengths rules equations most = record { older = λ u v m. m; newer = λ u v m. inl m; few = omega arith }

-- one more
pub gains_one : (lengths : Lengths) (rules equations new : List (Word × Word)) (l r : Word) → IsSplit lengths rules l r
    → IsPermutation (equations ++ (l, r) ∷ []) new → Gains lengths rules equations new 1
gains_one lengths rules equations new l r split moved =
    record {
      older = λ u v m.
          Contains-permutation (equations ++ (l, r) ∷ []) new (u, v) moved (Contains-append_left equations ((l, r) ∷ []) (u, v) m);
      newer = λ u v m.
          let before = Contains-permutation new (equations ++ (l, r) ∷ []) (u, v) (IsPermutation-sym (equations ++ (l, r) ∷ []) new moved) m in
          elim (Contains-push_cases equations (l, r) (u, v) before) [ inl n ↦ inl n | inr e ↦ inr (is u v e) ];
      few = omega (arith, length_permutation (equations ++ (l, r) ∷ []) new moved, length-append equations ((l, r) ∷ []));
    }
  where
    is : (u v : Word) → ◌≡◌ {A = Word × Word} (l, r) (u, v) → IsSplit lengths rules u v
    is u v e = subst (λ (q : Word × Word). IsSplit lengths rules q.0 q.1) e split

pub gains_trans : (lengths : Lengths) (rules a b c : List (Word × Word)) (m n : ℕ) → Gains lengths rules a b m → Gains lengths rules b c n
    → Gains lengths rules a c (m + n)
gains_trans lengths rules a b c m n g h =
    record {
      older = λ u v k. h.older u v (g.older u v k);
      newer = λ u v k. elim (h.newer u v k) [ inl j ↦ g.newer u v j | inr s ↦ inr s ];
      few = omega (arith, g.few, h.few);
    }

pub gains_more : (lengths : Lengths) (rules a b : List (Word × Word)) (m n : ℕ) → m ≤ n → Gains lengths rules a b m → Gains lengths rules a b n
gains_more lengths rules a b m n h g = record { older = g.older; newer = g.newer; few = omega (arith, g.few, h) }

-- what is joined stays so
pub joined_more : (rules a b : List (Word × Word)) (u v : Word) → ((l r : Word) → Listed a l r → Listed b l r) → IsJoinedBy rules a u v
    → IsJoinedBy rules b u v
joined_more rules a b u v older j =
    record {
      left = j.left;
      right = j.right;
      down_left = j.down_left;
      down_right = j.down_right;
      met = elim j.met [ inl e ↦ inl e | inr m ↦ inr (older j.left j.right m) ];
    }

pub all_joined_more : (lengths : Lengths) (rules a b : List (Word × Word)) (p q : Word × Word) → ((l r : Word) → Listed a l r → Listed b l r)
    → AreJoined lengths rules a p q → AreJoined lengths rules b p q
all_joined_more lengths rules a b p q older j shared o =
    joined_more rules a b (critical_pair p q shared).0 (critical_pair p q shared).1 older (j shared o)

-- they come of the overlap where they differ
pub split_at : (lengths : Lengths) (rules : List (Word × Word)) (at : Sharing) (left right : Word)
    → at.first < length rules → at.second < length rules → IsOverlap lengths (rule_at rules at.first) (rule_at rules at.second) at.shared
    → ReducesTo rules at left right → (left ≡ right → ⊥) → IsSplit lengths rules left right
split_at lengths rules at left right f s o to differ =
    record {
      first = at.first;
      second = at.second;
      first_within = f;
      second_within = s;
      apart = record {
        shared = at.shared;
        overlap = o;
        down_left = to.down_left;
        down_right = to.down_right;
        end_left = to.end_left;
        end_right = to.end_right;
        differ = differ;
      };
    }

pub joined_by_one : (rules equations new : List (Word × Word)) (at : Sharing) (left right : Word)
    → ReducesTo rules at left right → IsPermutation (equations ++ (left, right) ∷ []) new
    → IsJoinedBy rules new (critical_at rules at).0 (critical_at rules at).1
joined_by_one rules equations new at left right to moved =
    record {
      left = left;
      right = right;
      down_left = to.down_left;
      down_right = to.down_right;
      met = inr (Contains-permutation (equations ++ (left, right) ∷ []) new (left, right) moved (Contains-push equations (left, right)));
    }

pub joined_at_once : (rules equations : List (Word × Word)) (at : Sharing) (left right : Word)
    → ReducesTo rules at left right → left ≡ right
    → IsJoinedBy rules equations (critical_at rules at).0 (critical_at rules at).1
joined_at_once rules equations at left right to e =
    record { left = left; right = right; down_left = to.down_left; down_right = to.down_right; met = inl e }

-- a test whether two words differ
pub different_tested : (u v u' v' : Word) (r : Bool) → u' ≡ u → v' ≡ v → r ≡ not (pointwise eqb u' v')
    → (r ≡ true → u ≡ v → ⊥) × (r ≡ false → u ≡ v)
different_tested u v u' v' r eu ev e =
    let decides = slice_eq-Decides Decides-eqb u v (pointwise eqb u v) refl in
    let is : r ≡ not (pointwise eqb u v) = e ∙ ap₂ (λ (a b : Word). not (pointwise eqb a b)) eu ev in (
      λ t same. let bad : pointwise eqb u v ≡ true = decides.1 same in differ (pointwise eqb u v) r is t bad,
      λ f. decides.0 (equal (pointwise eqb u v) r is f),
    )
  where
    differ : (b r : Bool) → r ≡ not b → r ≡ true → b ≡ true → ⊥
    differ true r e t b = cc
    differ false r e t b = cc

    equal : (b r : Bool) → r ≡ not b → r ≡ false → b ≡ true
    equal true r e f = refl
    equal false r e f = cc

-- what pushing the words of an overlap does to the equations
pub record Pushes (old new : List (Word × Word)) (left right : Word) : Type 0 where
  pub same : left ≡ right → new ≡ old
  pub different : (left ≡ right → ⊥) → IsPermutation (old ++ (left, right) ∷ []) new

pub overlap_gains : (rules old new : List (Word × Word)) (at : Sharing) (left right : Word)
    → at.first < length rules → at.second < length rules → ReducesTo rules at left right → Pushes old new left right
    → (lengths : Lengths) → IsOverlap lengths (rule_at rules at.first) (rule_at rules at.second) at.shared → Gains lengths rules old new 1
overlap_gains rules old new at left right f s to h lengths o = elim (word_decides left right) [
  | inl e ↦ subst (λ (es : List (Word × Word)). Gains lengths rules old es 1) (sym (h.same e)) (gains_none lengths rules old 1)
  | inr n ↦
      gains_one lengths rules old new left right (split_at lengths rules at left right f s o to n) (h.different n)
]

pub overlap_joined : (rules old new : List (Word × Word)) (at : Sharing) (left right : Word)
    → ReducesTo rules at left right → Pushes old new left right
    → IsJoinedBy rules new (critical_at rules at).0 (critical_at rules at).1
overlap_joined rules old new at left right to h = elim (word_decides left right) [
  | inl e ↦ joined_at_once rules new at left right to e
  | inr n ↦ joined_by_one rules old new at left right to (h.different n)
]

-- the overlaps of two rules that share fewer letters are joined
pub record IsJoinedTo (lengths : Lengths) (rules old new : List (Word × Word)) (end : Sharing) : Type 0 where
  pub gains : Gains lengths rules old new (end.shared - 1)
  pub joined : (shared : ℕ) → shared < end.shared → IsOverlap lengths (rule_at rules end.first) (rule_at rules end.second) shared
      → IsJoinedBy rules new (critical_at rules (record end { shared = shared })).0 (critical_at rules (record end { shared = shared })).1

pub joined_step : (lengths : Lengths) (rules old new newer : List (Word × Word)) (at : Sharing) → 0 < at.shared → IsJoinedTo lengths rules old new at → Gains lengths rules new newer 1
    → (IsOverlap lengths (rule_at rules at.first) (rule_at rules at.second) at.shared → IsJoinedBy rules newer (critical_at rules at).0 (critical_at rules at).1)
    → IsJoinedTo lengths rules old newer (record at { shared = at.shared + 1 })
joined_step lengths rules old new newer at some to gains joins =
    record {
      gains =
          gains_more lengths rules old newer (at.shared - 1 + 1) (at.shared + 1 - 1) (omega arith)
          (gains_trans lengths rules old new newer (at.shared - 1) 1 to.gains gains);
      joined = λ k less o. elim (cases_lt k at.shared) [
        | inl before ↦
            joined_more rules new newer (critical_at rules (record at { shared = k })).0 (critical_at rules (record at { shared = k })).1 gains.older (to.joined k before o)
        | inr here ↦
            let same : at.shared ≡ k = omega arith in
            subst (λ (n : ℕ). IsJoinedBy rules newer (critical_at rules (record at { shared = n })).0 (critical_at rules (record at { shared = n })).1)
            same (joins (subst (λ (n : ℕ). IsOverlap lengths (rule_at rules at.first) (rule_at rules at.second) n) (sym same) o))
      ];
    }

-- how many letters the left sides of two rules may share: from the one number up to the other
abbrev pub IsShared : Lengths → List (Word × Word) → ℕ → ℕ → ℕ → ℕ → Type 0
IsShared lengths rules first second from end = (shared : ℕ) → 0 < shared → shared < length (rule_at rules first).0 → shared < length (rule_at rules second).0
    → HasLength lengths (length (rule_at rules first).0 + (length (rule_at rules second).0 - shared)) ↔ ((from ≤ shared) × (shared < end))

-- the same of what the code reads
pub shared_read : (lengths : Lengths) (rules : List (Word × Word)) (first second from end m n : ℕ) → m ≡ length (rule_at rules first).0 → n ≡ length (rule_at rules second).0
    → ((shared : ℕ) → 0 < shared → shared < m → shared < n → HasLength lengths (m + (n - shared)) ↔ ((from ≤ shared) × (shared < end)))
    → IsShared lengths rules first second from end
shared_read lengths rules first second from end m n em en within =
    subst₂ (λ (m n : ℕ). (shared : ℕ) → 0 < shared → shared < m → shared < n → HasLength lengths (m + (n - shared)) ↔ ((from ≤ shared) × (shared < end))) em en within

-- fewer letters are not shared in words of these lengths
pub joined_start : (lengths : Lengths) (rules old : List (Word × Word)) (first second from end : ℕ) → IsShared lengths rules first second from end
    → IsJoinedTo lengths rules old old (record { first = first; second = second; shared = from })
joined_start lengths rules old first second from end within = record {
  gains = gains_none lengths rules old (from - 1);
  joined = λ shared less o.
      let there = (within shared o.some o.first o.second).0 o.within in
      absurd (omega (arith, less, there.0));
}

-- nor are more
pub joined_end : (lengths : Lengths) (rules old new : List (Word × Word)) (first second from end shared : ℕ) → IsShared lengths rules first second from end → end ≤ shared
    → IsJoinedTo lengths rules old new (record { first = first; second = second; shared = shared }) → AreJoined lengths rules new (rule_at rules first) (rule_at rules second)
joined_end lengths rules old new first second from end shared within past to = λ n o.
    to.joined n (let there = (within n o.some o.first o.second).0 o.within in omega (arith, there.1, past)) o

-- a loop's step at so many shared letters, whether they are an overlap or not
module _ (lengths : Lengths) (rules old new : List (Word × Word)) (at : Sharing) (p q : Word × Word) (tested : Bool) (ep : p ≡ rule_at rules at.first)
    (eq : q ≡ rule_at rules at.second) (is : IsTrue tested ↔ overlaps_by p.0 q.0 at.shared) (some : 0 < at.shared) (to : IsJoinedTo lengths rules old new at) where
  pub joined_there : (newer : List (Word × Word)) (from end : ℕ) → IsShared lengths rules at.first at.second from end → from ≤ at.shared → at.shared < end
      → at.shared < length (rule_at rules at.first).0 → at.shared < length (rule_at rules at.second).0 → tested ≡ true
      → ((lengths : Lengths) → IsOverlap lengths (rule_at rules at.first) (rule_at rules at.second) at.shared → Gains lengths rules new newer 1)
      → IsJoinedBy rules newer (critical_at rules at).0 (critical_at rules at).1 → IsJoinedTo lengths rules old newer (record at { shared = at.shared + 1 })
  joined_there newer from end within low high f s met gains joined =
      let o : IsOverlap lengths (rule_at rules at.first) (rule_at rules at.second) at.shared = record {
        some = some;
        first = f;
        second = s;
        overlaps = subst₂ (λ (p q : Word × Word). overlaps_by p.0 q.0 at.shared) ep eq (is.0 met);
        within = (within at.shared some f s).1 (low, high);
      } in
      joined_step lengths rules old new newer at some to (gains lengths o) (λ _. joined)

  pub joined_elsewhere : tested ≡ false → IsJoinedTo lengths rules old new (record at { shared = at.shared + 1 })
  joined_elsewhere unmet =
      joined_step lengths rules old new new at some to (gains_none lengths rules new 1)
      (λ o. let met : tested ≡ true = is.1 (subst₂ (λ (p q : Word × Word). overlaps_by p.0 q.0 at.shared) (sym ep) (sym eq) o.overlaps) in let bad : ⊥ = cc in absurd bad)

-- the overlaps of a rule with the first ones, on both sides, are joined
pub record IsJoinedWith (lengths : Lengths) (rules old new : List (Word × Word)) (newest count : ℕ) : Type 0 where
  pub gains : (most : ℕ) → AreShort most rules → Gains lengths rules old new (count * (most + most))
  pub joined : (other : ℕ) → other < count
      → AreJoined lengths rules new (rule_at rules newest) (rule_at rules other) × AreJoined lengths rules new (rule_at rules other) (rule_at rules newest)

pub with_step : (lengths : Lengths) (rules old new middle newer : List (Word × Word)) (newest count : ℕ) → newest < length rules → count < length rules
    → IsJoinedWith lengths rules old new newest count
    → Gains lengths rules new middle (length (rule_at rules newest).0) → AreJoined lengths rules middle (rule_at rules newest) (rule_at rules count)
    → Gains lengths rules middle newer (length (rule_at rules count).0) → AreJoined lengths rules newer (rule_at rules count) (rule_at rules newest)
    → IsJoinedWith lengths rules old newer newest (count + 1)
with_step lengths rules old new middle newer newest count newest_in count_in to first first_joined second second_joined =
    record {
      gains = λ most short.
          let near : length (rule_at rules newest).0 ≤ most = (All-get_or (λ r. (length r.0 ≤ most) × (length r.1 ≤ most)) rules newest ([], []) newest_in short).0 in
          let there : length (rule_at rules count).0 ≤ most = (All-get_or (λ r. (length r.0 ≤ most) × (length r.1 ≤ most)) rules count ([], []) count_in short).0 in
          let grown : (count + 1) * (most + most) ≡ count * (most + most) + (most + most) = rw add-one (suc-mul count (most + most)) in
          gains_more lengths rules old newer (count * (most + most) + length (rule_at rules newest).0 + length (rule_at rules count).0) ((count + 1) * (most + most))
          (omega (arith, near, there, grown))
          (gains_trans lengths rules old middle newer (count * (most + most) + length (rule_at rules newest).0) (length (rule_at rules count).0)
          (gains_trans lengths rules old new middle (count * (most + most)) (length (rule_at rules newest).0) (to.gains most short) first) second);
      joined = λ other less. elim (cases_lt other count) [
        | inl before ↦
            let both = to.joined other before in (
              later (rule_at rules newest) (rule_at rules other) both.0,
              later (rule_at rules other) (rule_at rules newest) both.1,
            )
        | inr here ↦
            let same : count ≡ other = omega arith in
            subst (λ (k : ℕ). AreJoined lengths rules newer (rule_at rules newest) (rule_at rules k) × AreJoined lengths rules newer (rule_at rules k) (rule_at rules newest)) same
            (all_joined_more lengths rules middle newer (rule_at rules newest) (rule_at rules count) second.older first_joined, second_joined)
      ];
    }
  where
    later : (p q : Word × Word) → AreJoined lengths rules new p q → AreJoined lengths rules newer p q
    later p q j = all_joined_more lengths rules middle newer p q second.older (all_joined_more lengths rules new middle p q first.older j)

pub with_end : (lengths : Lengths) (rules old new : List (Word × Word)) (newest count : ℕ) → count ≡ length rules
    → IsJoinedWith lengths rules old new newest count → IsJoinedWith lengths rules old new newest (length rules)
with_end lengths rules old new newest count e to = subst (λ (n : ℕ). IsJoinedWith lengths rules old new newest n) e to

-- the last test of two rules: no equation is left, or one that the rules do not join
pub tested_pair : (lengths : Lengths) (rules new : List (Word × Word)) (p q : Word × Word) (most : ℕ) (none : Bool)
    → IsTrue none ↔ (new ≡ []) → Gains lengths rules [] new most → AreJoined lengths rules new p q
    → MatchBool none (AreJoined lengths rules [] p q) ((u : Word) × (v : Word) × IsSplit lengths rules u v)
tested_pair lengths rules new p q most true is gains joined = subst (λ (es : List (Word × Word)). AreJoined lengths rules es p q) (is.0 refl) joined
tested_pair lengths rules [] p q most false is gains joined = let bad : false ≡ true = is.1 refl in absurd cc
tested_pair lengths rules (e ∷ new) p q most false is gains joined =
    elim (gains.newer e.0 e.1 (contains_from_in e (e ∷ new) (inl refl))) [
      | inl none ↦ absurd (in_from_contains (e.0, e.1) [] none)
      | inr split ↦ (e.0, e.1, split)
    ]
