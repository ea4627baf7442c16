-- Overlaps of left sides, by the letters that they share and by the parts of their words.
use Rattle.std.proofs.Common.{◌≡◌, ◌≢◌, ℕ, ◌+◌, ◌-◌, ◌<◌, ◌≤◌, List, [], ◌∷◌, ◌++◌, length, take, drop, refl, sym, ◌∙◌, ap, subst, subst₂, arith, ◌⊎◌, inl, inr, append_assoc, append-nil, length-append, length-take, take-append-drop}
use Rattle.std.proofs.lemmas.Bool.{cases_lt}
use Rattle.std.proofs.lemmas.List.{take_at, drop_at, nil_from_length}
use Rattle.std.proofs.lemmas.List.Elements.{Contains-get_or}
use Rattle.theory.specs.Word.{Word}
use Rattle.theory.specs.ShortLex.{◌≺◌}
use Rattle.theory.specs.Congruence.{Presentation}
use Rattle.theory.specs.Chain.{Step}
use Rattle.theory.specs.Completion.{Fits, Within, symmetric, transitive, Joinable, Listed, Reduces, OverlapsJoin, CompletionEnds, AreRules}
use Rattle.theory.specs.declared.Kind.TheVariants.{TwoSided}
use Rattle.theory.proofs.Counting.{in_from_contains}
use Rattle.theory.proofs.Words.{over_append, over_left}
use Rattle.theory.proofs.Chains.{step_at}
use Rattle.theory.proofs.Completeness.{joinable_refl}
use Rattle.theory.proofs.CompletionLaws.{within_left}
use Rattle.knuth_bendix.specs.Links.{Linked, IsBelow, NoLater}
use Rattle.knuth_bendix.specs.Held.{Known, AreAllClear, lefts}
use Rattle.knuth_bendix.specs.declared.lengths.Lengths.{Lengths}
use Rattle.knuth_bendix.specs.declared.lengths.Lengths.TheVariants.{UpTo, Beyond}
use Rattle.knuth_bendix.specs.Overlaps.{HasLength, rule_at, critical_pair, IsOverlap, IsJoinedBy, AreJoined, IsSplit}
use Rattle.knuth_bendix.proofs.LinkLaws.{linked_refl, linked_trans, linked_symm, linked_pair, linked_weaker, linked_more, reduces_linked, no_later_before, reduces_no_later}
use Rattle.knuth_bendix.proofs.ClearLists.{same_rule}
use Rattle.knuth_bendix.proofs.Endings.{spent_by_overlap}
use Rattle.knuth_bendix.proofs.FallingRules.{falling_step, falling_reduces}
use Rattle.rewriting.proofs.Standing.{listed_at}

-- a word abc, within the lengths, whose parts ab and bc are the left sides of two rules, which lead from it to x and y
pub record HasParts (lengths : Lengths) (p q : Word × Word) (x y : Word) : Type 0 where
  pub a : Word
  pub b : Word
  pub c : Word
  pub full : b ≢ []
  pub first : p.0 ≡ a ++ b
  pub second : q.0 ≡ b ++ c
  pub left : x ≡ p.1 ++ c
  pub right : y ≡ a ++ q.1
  pub within : HasLength lengths (length (a ++ (b ++ c)))

-- the parts where letters are shared
pub parts_from_overlap : (lengths : Lengths) (p q : Word × Word) (shared : ℕ) → IsOverlap lengths p q shared
    → HasParts lengths p q (critical_pair p q shared).0 (critical_pair p q shared).1
parts_from_overlap lengths p q shared h = record {
  a = take (length p.0 - shared) p.0;
  b = take shared q.0;
  c = drop shared q.0;
  full = λ e. omega (arith, h.some, h.second, ap length e, length-take shared q.0);
  first = sym (take-append-drop (length p.0 - shared) p.0) ∙ ap (λ w. take (length p.0 - shared) p.0 ++ w) h.overlaps;
  second = sym (take-append-drop shared q.0);
  left = refl;
  right = refl;
  within = subst (λ n. HasLength lengths n) (sym long) h.within;
}
  where
    long : length (take (length p.0 - shared) p.0 ++ (take shared q.0 ++ drop shared q.0)) ≡ length p.0 + (length q.0 - shared)
    long =
        omega (arith, h.first, h.second, length-append (take (length p.0 - shared) p.0) (take shared q.0 ++ drop shared q.0), ap length (take-append-drop shared q.0), length-take (length p.0 - shared) p.0)

-- the letters that are shared where there are parts
pub overlap_from_parts : (lengths : Lengths) (a b c v w : Word) → b ≢ [] → 0 < length a → 0 < length c
    → HasLength lengths (length (a ++ (b ++ c))) → IsOverlap lengths (a ++ b, v) (b ++ c, w) (length b)
overlap_from_parts lengths a b c v w full before behind within = record {
  some = some b full;
  first = omega (arith, before, length-append a b);
  second = omega (arith, behind, length-append b c);
  overlaps = drop_at a b (length (a ++ b) - length b) (omega (arith, length-append a b)) ∙ sym (take_at b c (length b) refl);
  within = subst (λ n. HasLength lengths n) long within;
}
  where
    some : (b : Word) → b ≢ [] → 0 < length b
    some [] h = absurd (h refl)
    some (x ∷ b) h = omega arith

    long : length (a ++ (b ++ c)) ≡ length (a ++ b) + (length (b ++ c) - length b)
    long = omega (arith, length-append a (b ++ c), length-append a b, length-append b c)

pub left_from_parts : (a b c v w : Word) → (critical_pair (a ++ b, v) (b ++ c, w) (length b)).0 ≡ v ++ c
left_from_parts a b c v w = ap (λ x. v ++ x) (drop_at b c (length b) refl)

pub right_from_parts : (a b c v w : Word) → (critical_pair (a ++ b, v) (b ++ c, w) (length b)).1 ≡ a ++ w
right_from_parts a b c v w = ap (λ x. x ++ w) (take_at a b (length (a ++ b) - length b) (omega (arith, length-append a b)))

-- rules that are joined are so at each word that has parts
pub joined_parts : (lengths : Lengths) (rules equations : List (Word × Word)) (p q : Word × Word) → AreJoined lengths rules equations p q
    → (a b c v w : Word) → b ≢ [] → 0 < length a → 0 < length c → HasLength lengths (length (a ++ (b ++ c))) → p ≡ (a ++ b, v) → q ≡ (b ++ c, w)
    → IsJoinedBy rules equations (v ++ c) (a ++ w)
joined_parts lengths rules equations p q joined a b c v w full before behind within first second =
    subst₂ (λ x y. IsJoinedBy rules equations x y) (left_from_parts a b c v w) (right_from_parts a b c v w)
    (subst₂ (λ (p q : Word × Word). AreJoined lengths rules equations p q) first second joined (length b)
    (overlap_from_parts lengths a b c v w full before behind within))

-- a left side that overlaps one that begins or ends it is that one
pub overlap_cases : (rules : List (Word × Word)) → AreAllClear (lefts rules) → (a b c v w : Word) → Listed rules (a ++ b) v
    → Listed rules (b ++ c) w → (v ++ c ≡ a ++ w) ⊎ ((0 < length a) × (0 < length c))
overlap_cases rules clear a b c v w m n = go a c m n
  where
    one : (a c : Word) → ◌≡◌ {A = Word × Word} (a ++ b, v) (b ++ c, w) → (length a ≡ 0) ⊎ (length c ≡ 0) → v ++ c ≡ a ++ w
    one a c e h =
        let long : length a ≡ length c =
        omega (arith, ap (λ (p : Word × Word). length p.0) e, length-append a b, length-append b c) in
        let none : length a ≡ 0 = elim h [ inl d ↦ d | inr d ↦ omega (arith, d) ] in
        let left : a ≡ [] = nil_from_length a none in
        let right : c ≡ [] = nil_from_length c (omega arith) in
        ap (λ x. v ++ x) right ∙ append-nil v ∙ ap (λ (p : Word × Word). p.1) e ∙ ap (λ x. x ++ w) (sym left)

    go : (a c : Word) → Listed rules (a ++ b) v → Listed rules (b ++ c) w → (v ++ c ≡ a ++ w) ⊎ ((0 < length a) × (0 < length c))
    go [] c m n =
        inl (one [] c (sym (same_rule rules clear (b ++ c, w) (b, v) (in_from_contains (b ++ c, w) rules n) (in_from_contains (b, v) rules m) (record {
          before = [];
          after = c;
          is = refl;
        }))) (inl refl))
    go (x ∷ a) [] m n =
        inl (one (x ∷ a) [] (same_rule rules clear ((x ∷ a) ++ b, v) (b ++ [], w) (in_from_contains ((x ∷ a) ++ b, v) rules m) (in_from_contains (b ++ [], w) rules n) (record {
          before = x ∷ a;
          after = [];
          is = ap (λ y. (x ∷ a) ++ y) (sym (append-nil b) ∙ sym (append-nil (b ++ [])));
        })) (inr refl))
    go (x ∷ a) (y ∷ c) m n = inr (omega arith, omega arith)

-- the overlaps lead to one word where the short ones do, and the longer ones of each two of the rules are joined with no equation
pub joined_overlaps : (L : ℕ) (rules : List (Word × Word)) → AreAllClear (lefts rules)
    → ((a b c v w : Word) → Listed rules (a ++ b) v → Listed rules (b ++ c) w → length (a ++ (b ++ c)) ≤ L → Joinable (Listed rules) (v ++ c) (a ++ w))
    → ((i j : ℕ) → i < length rules → j < length rules → AreJoined (Beyond L) rules [] (rule_at rules i) (rule_at rules j)) → OverlapsJoin (Listed rules)
joined_overlaps L rules clear short joined a b c v w full m n = elim (overlap_cases rules clear a b c v w m n) [
  | inl e ↦ subst (λ x. Joinable (Listed rules) (v ++ c) x) e (joinable_refl (Listed rules) (v ++ c))
  | inr some ↦ elim (cases_lt L (length (a ++ (b ++ c)))) [
    | inl long ↦
        met (joined_parts (Beyond L) rules [] (rule_at rules m.0) (rule_at rules n.0) (joined m.0 n.0 m.1 n.1) a b c v w full some.0 some.1 long
        (listed_at rules (a ++ b) v m) (listed_at rules (b ++ c) w n))
    | inr within ↦ short a b c v w m n within
  ]
]
  where
    met : IsJoinedBy rules [] (v ++ c) (a ++ w) → Joinable (Listed rules) (v ++ c) (a ++ w)
    met h = elim (h.met) [
      | inl e ↦ record { word = h.left; left = h.down_left; right = subst (λ x. Reduces (Listed rules) (a ++ w) x) (sym e) h.down_right }
      | inr none ↦ absurd (in_from_contains (h.left, h.right) [] none)
    ]

-- an overlap that leads to two reduced words shows that completion does not end
pub split_spent : (p : Presentation) (L : ℕ) (rules : List (Word × Word)) → AreRules p L rules → (a b : Word) → IsSplit (Beyond L) rules a b
    → CompletionEnds p L → ⊥
split_spent p L rules are x y h =
    let s = h.apart in
    let parts = parts_from_overlap (Beyond L) (rule_at rules h.first) (rule_at rules h.second) s.shared s.overlap in
    spent_by_overlap p L rules are parts.a parts.b parts.c (rule_at rules h.first).1 (rule_at rules h.second).1 x y parts.full
    (subst (λ w. Listed rules w (rule_at rules h.first).1) parts.first (Contains-get_or rules h.first ([], []) h.first_within))
    (subst (λ w. Listed rules w (rule_at rules h.second).1) parts.second (Contains-get_or rules h.second ([], []) h.second_within))
    (subst (λ w. Reduces (Listed rules) w x) parts.left s.down_left) (subst (λ w. Reduces (Listed rules) w y) parts.right s.down_right)
    s.end_left s.end_right s.differ

-- rules that hold within the length relate the words to which an overlap leads
module _ (p : Presentation) (L : ℕ) (rules : List (Word × Word)) (falls : (l r : Word) → Listed rules l r → r ≺ l) (within : (l r : Word) → Listed rules l r → Within p L l r) where
  pub split_within : (x y : Word) → IsSplit (UpTo L) rules x y → Within p L x y
  split_within x y h =
      let s = h.apart in
      let first = rule_at rules h.first in
      let second = rule_at rules h.second in
      let parts = parts_from_overlap (UpTo L) first second s.shared s.overlap in
      meet parts.a parts.b parts.c first.1 second.1
      (subst (λ w. Listed rules w first.1) parts.first (Contains-get_or rules h.first ([], []) h.first_within))
      (subst (λ w. Listed rules w second.1) parts.second (Contains-get_or rules h.second ([], []) h.second_within)) parts.within
      (subst (λ w. Reduces (Listed rules) w x) parts.left s.down_left) (subst (λ w. Reduces (Listed rules) w y) parts.right s.down_right)
    where
      meet : (a b c v w : Word) → Listed rules (a ++ b) v → Listed rules (b ++ c) w → length (a ++ (b ++ c)) ≤ L
          → Reduces (Listed rules) (v ++ c) x → Reduces (Listed rules) (a ++ w) y → Within p L x y
      meet a b c v w m n short left right =
          let fits : Fits p L (a ++ (b ++ c)) = record {
            over =
                over_append p.letters a (b ++ c) (over_left p.letters a b (within_left p L (within (a ++ b) v m)).0.over)
                (within_left p L (within (b ++ c) w n)).0.over;
            short = short;
          } in
          let one : Step (Listed rules) TwoSided (a ++ (b ++ c)) (v ++ c) =
          subst (λ t. Step (Listed rules) TwoSided t (v ++ c)) (append_assoc a b c) (step_at (Listed rules) [] (a ++ b) v c m) in
          let two : Step (Listed rules) TwoSided (a ++ (b ++ c)) (a ++ w) =
          subst₂ (λ s t. Step (Listed rules) TwoSided (a ++ s) (a ++ t)) (append-nil (b ++ c)) (append-nil w) (step_at (Listed rules) a (b ++ c) w [] n) in
          let up = falling_step p L (Listed rules) falls within (a ++ (b ++ c)) (v ++ c) fits one in
          let down = falling_step p L (Listed rules) falls within (a ++ (b ++ c)) (a ++ w) fits two in
          transitive (symmetric (transitive up (falling_reduces p L (Listed rules) falls within (v ++ c) x (within_left p L up).1 left)))
          (transitive down (falling_reduces p L (Listed rules) falls within (a ++ w) y (within_left p L down).1 right))

-- what rules and equations know
abbrev pub KnownBy : List (Word × Word) → List (Word × Word) → Word → Word → Type 0
KnownBy rules equations = Known (record { rules = rules; equations = equations })

-- words that the rules join are linked below each word that comes behind both
pub joined_linked : (rules equations : List (Word × Word)) → ((l r : Word) → Listed rules l r → r ≺ l) → (w x y : Word) → x ≺ w → y ≺ w
    → IsJoinedBy rules equations x y → Linked (KnownBy rules equations) (IsBelow w) x y
joined_linked rules equations falls w x y left right h =
    linked_trans (KnownBy rules equations) (IsBelow w) x h.left y (down x h.left left h.down_left)
    (linked_trans (KnownBy rules equations) (IsBelow w) h.left h.right y (across h.met)
    (linked_symm (KnownBy rules equations) (IsBelow w) y h.right (down y h.right right h.down_right)))
  where
    down : (x z : Word) → x ≺ w → Reduces (Listed rules) x z → Linked (KnownBy rules equations) (IsBelow w) x z
    down x z less r =
        linked_weaker (KnownBy rules equations) (λ t. NoLater t x) (IsBelow w) (λ t h. no_later_before t x w h less) x z
        (linked_more (Listed rules) (KnownBy rules equations) (λ t. NoLater t x) (λ f g m. inl m) x z (reduces_linked (Listed rules) falls x z r))

    under : (x z : Word) → x ≺ w → Reduces (Listed rules) x z → z ≺ w
    under x z less r = no_later_before z x w (reduces_no_later (Listed rules) falls x z r) less

    across : (h.left ≡ h.right) ⊎ Listed equations h.left h.right → Linked (KnownBy rules equations) (IsBelow w) h.left h.right
    across (inl e) = subst (λ z. Linked (KnownBy rules equations) (IsBelow w) h.left z) e (linked_refl (KnownBy rules equations) (IsBelow w) h.left)
    across (inr m) =
        linked_pair (KnownBy rules equations) (IsBelow w) h.left h.right (under x h.left left h.down_left) (under y h.right right h.down_right) (inr m)
