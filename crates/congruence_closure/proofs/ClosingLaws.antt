-- Merging pairs that wait, and letting wait what follows, makes the classes of the least
-- equivalence that has the pairs.
use Rattle.std.proofs.Common.{◌≡◌, ℕ, zero, suc, ◌<◌, List, [], ◌∷◌, ◌++◌, refl, sym, ◌∙◌, ap, arith, inl, inr, length, subst, subst₂, slice_index, Contains, All}
use Rattle.std.proofs.lemmas.List.Elements.{All-contains, Contains-append_left, Contains-append_right, Contains-append_cases}
use Rattle.std.proofs.lemmas.Bool.{cases_eq}
use Rattle.theory.specs.Generated.{given, symmetric, transitive, on_right}
use Rattle.theory.specs.declared.Kind.TheVariants.{Right}
use Rattle.theory.proofs.GeneratedLaws.{generated_least}
use Rattle.congruence_closure.specs.Labels.{AreLabels, HasMerged}
use Rattle.congruence_closure.specs.Maps.{MapList, AreInto, AreIn, GivenPair, KeptBy, AreLeastClasses}
use Rattle.congruence_closure.specs.Closing.{images, Linking, alike, waits, back, on, IsClosing}

only_one : {X : Type 0} (x y : X) → Contains (x ∷ []) y → x ≡ y
only_one x y (zero, h, d) = d
only_one x y (suc i, h, d) = absurd (omega (arith, h))

pub itself : {X : Type 0} (x : X) → Contains (x ∷ []) x
itself x = (0, omega arith, refl)

-- what holds of all holds of the first ones
pub all_front : {X : Type 0} (P : X → Type 0) (xs ys : List X) → All P (xs ++ ys) → All P xs
all_front P [] ys h k d m = absurd (omega (arith, m))
all_front P (x ∷ xs) ys h zero d m = h 0 d (omega arith)
all_front P (x ∷ xs) ys h (suc k) d m = all_front P xs ys (λ i e l. h (suc i) e (omega (arith, l))) k d (omega (arith, m))

same_pair : (x y i j : ℕ) → ◌≡◌ {A = ℕ × ℕ} (x, y) (i, j) → (x ≡ i) × (y ≡ j)
same_pair x y i j e = (ap (λ (p : ℕ × ℕ). p.0) e, ap (λ (p : ℕ × ℕ). p.1) e)

-- the images are those under each map
image_waits : (m : MapList) (i j k a : ℕ) → a < k → Contains (images m i j k) (m.image i a, m.image j a)
image_waits m i j zero a h = absurd (omega (arith, h))
image_waits m i j (suc k) a h = elim (cases_eq a k) [
  | inl e ↦
      subst (λ b. Contains (images m i j (suc k)) (m.image i b, m.image j b)) (sym e)
      (Contains-append_right (images m i j k) ((m.image i k, m.image j k) ∷ []) (m.image i k, m.image j k) (itself (m.image i k, m.image j k)))
  | inr d ↦
      Contains-append_left (images m i j k) ((m.image i k, m.image j k) ∷ []) (m.image i a, m.image j a) (image_waits m i j k a (omega (arith, h, d)))
]

image_by_map : (m : MapList) (i j k x y : ℕ) → Contains (images m i j k) (x, y) → (a : ℕ) × (a < k) × (m.image i a ≡ x) × (m.image j a ≡ y)
image_by_map m i j zero x y (n, h, d) = absurd (omega (arith, h))
image_by_map m i j (suc k) x y c = elim (Contains-append_cases (images m i j k) ((m.image i k, m.image j k) ∷ []) (x, y) c) [
  | inl o ↦ let e = image_by_map m i j k x y o in (e.0, omega (arith, e.1), e.2, e.3)
  | inr o ↦ let e = same_pair (m.image i k) (m.image j k) x y (only_one (m.image i k, m.image j k) (x, y) o) in (k, omega arith, e.0, e.1)
]

-- what related numbers lead to is related
images_related : (m : MapList) (pairs : List (ℕ × ℕ)) (i j : ℕ) → KeptBy m pairs i j → (x y : ℕ) → Contains (images m i j m.count) (x, y) → KeptBy m pairs x y
images_related m pairs i j h x y c =
    let e = image_by_map m i j m.count x y c in
    subst₂ (λ p q. KeptBy m pairs p q) e.2 e.3 (on_right i j e.0 tt e.1 h)

-- what is linked stays so where labels are kept and what waited is linked
linking_kept : (before after : ℕ → ℕ) (old new : List (ℕ × ℕ)) → ((x y : ℕ) → before x ≡ before y → after x ≡ after y)
    → ((x y : ℕ) → Contains old (x, y) → Linking after new x y) → {i j : ℕ} → Linking before old i j → Linking after new i j
linking_kept before after old new kept there (alike {i} {j} e) = alike (kept i j e)
linking_kept before after old new kept there (waits {i} {j} c) = there i j c
linking_kept before after old new kept there (back h) = back (linking_kept before after old new kept there h)
linking_kept before after old new kept there (on h g) = on (linking_kept before after old new kept there h) (linking_kept before after old new kept there g)

-- where nothing waits, linked numbers have one label
linking_ends : (label : ℕ → ℕ) {i j : ℕ} → Linking label [] i j → label i ≡ label j
linking_ends label (alike e) = e
linking_ends label (waits (n, h, d)) = absurd (omega (arith, h))
linking_ends label (back h) = sym (linking_ends label h)
linking_ends label (on h g) = linking_ends label h ∙ linking_ends label g

module _ (m : MapList) (pairs : List (ℕ × ℕ)) (parents next : List ℕ) (rest : List (ℕ × ℕ)) (l r : ℕ) (c : IsClosing m pairs parents (rest ++ (l, r) ∷ [])) where
  taken : KeptBy m pairs l r
  taken = c.due l r (Contains-append_right rest ((l, r) ∷ []) (l, r) (itself (l, r)))

  rest_due : (i j : ℕ) → Contains rest (i, j) → KeptBy m pairs i j
  rest_due i j o = c.due i j (Contains-append_left rest ((l, r) ∷ []) (i, j) o)

  -- what waited is linked, where l and r are
  left_over : (after : ℕ → ℕ) (new : List (ℕ × ℕ)) → after l ≡ after r → ((x y : ℕ) → Contains rest (x, y) → Contains new (x, y))
      → (x y : ℕ) → Contains (rest ++ (l, r) ∷ []) (x, y) → Linking after new x y
  left_over after new one kept x y o = elim (Contains-append_cases rest ((l, r) ∷ []) (x, y) o) [
    | inl p ↦ waits (kept x y p)
    | inr p ↦ let e = same_pair l r x y (only_one (l, r) (x, y) p) in alike (ap after (sym e.0) ∙ one ∙ ap after e.1)
  ]

  -- the pair's classes were one
  module _ (labels : AreLabels c.label next) (one : c.label l ≡ c.label r) where
    shrink : {i j : ℕ} → Linking c.label (rest ++ (l, r) ∷ []) i j → Linking c.label rest i j
    shrink = linking_kept c.label c.label (rest ++ (l, r) ∷ []) rest (λ x y e. e) (left_over c.label rest one (λ x y o. o))

    pub same_step : IsClosing m pairs next rest
    same_step = record {
      label = c.label;
      labels = labels;
      merged = c.merged;
      due = rest_due;
      given = λ i j h. shrink (c.given i j h);
      kept = λ i j a h p q e. shrink (c.kept i j a h p q e);
    }

  -- the pair's classes become one
  module _ (has : HasMerged c.label next l r) (in_left : l < m.bound) (in_right : r < m.bound) where
    grow : {i j : ℕ} → Linking c.label (rest ++ (l, r) ∷ []) i j → Linking has.after (rest ++ images m l r m.count) i j
    grow =
        linking_kept c.label has.after (rest ++ (l, r) ∷ []) (rest ++ images m l r m.count) has.merged.kept
        (left_over has.after (rest ++ images m l r m.count) has.merged.one (λ x y o. Contains-append_left rest (images m l r m.count) (x, y) o))

    merged : (i j : ℕ) → i < m.bound → j < m.bound → has.after i ≡ has.after j → KeptBy m pairs i j
    merged i j p q e = elim (has.merged.only i j e) [
      | inl s ↦ c.merged i j p q s
      | inr b ↦ elim b [
        | inl s ↦ transitive (c.merged i l p in_left s.0) (transitive taken (c.merged r j in_right q (sym s.1)))
        | inr s ↦ transitive (c.merged i r p in_right s.0) (transitive (symmetric taken) (c.merged l j in_left q (sym s.1)))
      ]
    ]

    due : (i j : ℕ) → Contains (rest ++ images m l r m.count) (i, j) → KeptBy m pairs i j
    due i j o = elim (Contains-append_cases rest (images m l r m.count) (i, j) o) [ inl s ↦ rest_due i j s | inr s ↦ images_related m pairs l r taken i j s ]

    -- images of one class are linked
    kept : (i j a : ℕ) → a < m.count → i < m.bound → j < m.bound → has.after i ≡ has.after j
        → Linking has.after (rest ++ images m l r m.count) (m.image i a) (m.image j a)
    kept i j a h p q e =
        let between : Linking has.after (rest ++ images m l r m.count) (m.image l a) (m.image r a) =
        waits (Contains-append_right rest (images m l r m.count) (m.image l a, m.image r a) (image_waits m l r m.count a h)) in
        elim (has.merged.only i j e) [
          | inl s ↦ grow (c.kept i j a h p q s)
          | inr b ↦ elim b [
            | inl s ↦ on (grow (c.kept i l a h p in_left s.0)) (on between (grow (c.kept r j a h in_right q (sym s.1))))
            | inr s ↦ on (grow (c.kept i r a h p in_right s.0)) (on (back between) (grow (c.kept l j a h in_left q (sym s.1))))
          ]
        ]

    pub merged_step : IsClosing m pairs next (rest ++ images m l r m.count)
    merged_step = record { label = has.after; labels = has.labels; merged = merged; due = due; given = λ i j h. grow (c.given i j h); kept = kept }

-- at the start each number has its own class, and the pairs wait
pub start_closing : (m : MapList) (pairs : List (ℕ × ℕ)) (parents : List ℕ) → ((i : ℕ) → i < length parents → slice_index parents i ≡ i)
    → IsClosing m pairs parents pairs
start_closing m pairs parents own = record {
  label = λ i. i;
  labels = record { own = λ i. refl; below = λ i. omega arith; parent = own; root = λ i h e. refl };
  merged = λ i j p q e. given (inl (p, e));
  due = λ i j o. given (inr o);
  given = λ i j o. waits o;
  kept = λ i j a h p q e. alike (ap (λ x. m.image x a) e);
}

-- where nothing waits, the labels are the classes
module _ (m : MapList) (pairs : List (ℕ × ℕ)) (into : AreInto m) (within : All (AreIn m.bound) pairs) (parents classes : List ℕ) (c : IsClosing m pairs parents [])
    (count : length classes ≡ m.bound) (roots : (label : ℕ → ℕ) → AreLabels label parents → (i : ℕ) → i < length classes → slice_index classes i ≡ label i) where
  is_label : (i : ℕ) → i < m.bound → slice_index classes i ≡ c.label i
  is_label i h = roots c.label c.labels i (omega (arith, h, count))

  abbrev OneLabel : ℕ → ℕ → Type 0
  OneLabel i j = (i < m.bound) × (j < m.bound) × (c.label i ≡ c.label j)

  one_label : (i j : ℕ) → KeptBy m pairs i j → OneLabel i j
  one_label i j =
      generated_least Right m.count m.image m.image (GivenPair m.bound pairs) OneLabel at (λ i j h. (h.1, h.0, sym h.2))
      (λ i j l h g. (h.0, g.1, h.2 ∙ g.2))
      (λ i j a t h o. (into i a o.0 h, into j a o.1 h, linking_ends c.label (c.kept i j a h o.0 o.1 o.2)))
      (λ i j a t h o. absurd t)
    where
      at : (i j : ℕ) → GivenPair m.bound pairs i j → OneLabel i j
      at i j (inl h) = (h.0, subst (λ x. x < m.bound) h.1 h.0, ap c.label h.1)
      at i j (inr o) = let both = All-contains (AreIn m.bound) pairs (i, j) within o in (both.0, both.1, linking_ends c.label (c.given i j o))

  label_in : (i : ℕ) → i < m.bound → c.label i < m.bound
  label_in i h = omega (arith, h, c.labels.below i)

  pub closed_classes : AreLeastClasses m pairs classes
  closed_classes = record {
    count = count;
    related = λ i j p q. (
      λ h. is_label i p ∙ (one_label i j h).2 ∙ sym (is_label j q),
      λ e. c.merged i j p q (sym (is_label i p) ∙ e ∙ is_label j q),
    );
    own = λ i p. subst (λ x. KeptBy m pairs i x) (sym (is_label i p)) (c.merged i (c.label i) p (label_in i p) (sym (c.labels.own i)));
    least = λ i j p h. let o = one_label i j h in omega (arith, is_label i p, o.2, c.labels.below j);
  }
