-- Labels of numbers stay while ways to them become shorter, and two classes become one.
use Rattle.std.proofs.Common.{◌≡◌, ◌≢◌, ℕ, ◌+◌, ◌<◌, ◌≤◌, List, sym, ◌∙◌, ap, arith, ◌⊎◌, inl, inr, length, set, length-set, slice_index, if◌then◌else◌, ◌==◌}
use Rattle.std.specs.List.{sum}
use Rattle.std.proofs.lemmas.List.Sums.{sum_by-set}
use Rattle.std.proofs.lemmas.Bool.{cases_eq}
use Rattle.std.proofs.lemmas.List.{get_or-set_same, get_or-set_other}
use Rattle.congruence_closure.specs.Labels.{AreBelow, AreLabels, HasMerged}

pub sum_set : (xs : List ℕ) (n v : ℕ) → n < length xs → sum (set xs n v) + slice_index xs n ≡ sum xs + v
sum_set xs n v h = sum_by-set (λ x. x) xs n v 0 h

-- what stands at a place where one number was put
pub at_set : (xs : List ℕ) (n v : ℕ) → n < length xs → (i : ℕ)
    → ((i ≡ n) × (slice_index (set xs n v) i ≡ v)) ⊎ ((i ≢ n) × (slice_index (set xs n v) i ≡ slice_index xs i))
at_set xs n v h i = elim (cases_eq i n) [
  | inl e ↦ inl (e, ap (λ j. slice_index (set xs n v) j) e ∙ get_or-set_same xs n v 0 h)
  | inr d ↦ inr (d, get_or-set_other xs n i v 0 d)
]

pub set_below : (xs : List ℕ) (n v : ℕ) → n < length xs → v ≤ n → AreBelow xs → AreBelow (set xs n v)
set_below xs n v h low below i m =
    let old : i < length xs = omega (arith, m, length-set xs n v) in
    elim (at_set xs n v h i) [ inl e ↦ omega (arith, e.0, e.1, low) | inr e ↦ omega (arith, e.1, below i old) ]

-- a parent is replaced by its own parent
module _ (parents : List ℕ) (n above : ℕ) (h : n < length parents) (below : AreBelow parents) (is : above ≡ slice_index parents (slice_index parents n)) where
  near : slice_index parents n < length parents
  near = omega (arith, h, below n h)

  pub lower : above ≤ slice_index parents n
  lower = omega (arith, is, below (slice_index parents n) near)

  pub skip_below : AreBelow (set parents n above)
  skip_below = set_below parents n above h (omega (arith, lower, below n h)) below

  pub skip_sum : sum (set parents n above) ≤ sum parents
  skip_sum = omega (arith, sum_set parents n above h, lower)

  pub skip_tops : (i : ℕ) → i < length parents → slice_index parents i ≡ i → slice_index (set parents n above) i ≡ i
  skip_tops i m top = elim (at_set parents n above h i) [
    | inl e ↦
        let same : slice_index parents n ≡ n = sym (ap (slice_index parents) e.0) ∙ top ∙ e.0 in
        e.1 ∙ is ∙ ap (slice_index parents) same ∙ same ∙ sym e.0
    | inr e ↦ e.1 ∙ top
  ]

  pub skip_labels : (label : ℕ → ℕ) → AreLabels label parents → AreLabels label (set parents n above)
  skip_labels label l = record { own = l.own; below = l.below; parent = parent; root = root }
    where
      parent : (i : ℕ) → i < length (set parents n above) → label (slice_index (set parents n above) i) ≡ label i
      parent i m =
          let old : i < length parents = omega (arith, m, length-set parents n above) in
          elim (at_set parents n above h i) [
            | inl e ↦ ap label e.1 ∙ ap label is ∙ l.parent (slice_index parents n) near ∙ l.parent n h ∙ ap label (sym e.0)
            | inr e ↦ ap label e.1 ∙ l.parent i old
          ]

      root : (i : ℕ) → i < length (set parents n above) → slice_index (set parents n above) i ≡ i → label i ≡ i
      root i m top =
          let old : i < length parents = omega (arith, m, length-set parents n above) in
          elim (at_set parents n above h i) [
            | inl e ↦
                let same : slice_index parents n ≡ n = omega (arith, e.0, e.1, top, lower, below n h) in
                ap label e.0 ∙ l.root n h same ∙ sym e.0
            | inr e ↦ l.root i old (sym e.1 ∙ top)
          ]

-- the label `high` becomes `low`
abbrev relabelled : (ℕ → ℕ) → ℕ → ℕ → ℕ → ℕ
relabelled label low high i = if label i == high then low else label i

module _ (label : ℕ → ℕ) (low high : ℕ) where
  at_high : (i : ℕ) → label i ≡ high → relabelled label low high i ≡ low
  at_high i e = grind (arith, e)

  at_other : (i : ℕ) → label i ≢ high → relabelled label low high i ≡ label i
  at_other i d = grind (arith, d)

  relabel_cases : (i : ℕ) → ((label i ≡ high) × (relabelled label low high i ≡ low)) ⊎ ((label i ≢ high) × (relabelled label low high i ≡ label i))
  relabel_cases i = elim (cases_eq (label i) high) [ inl e ↦ inl (e, at_high i e) | inr d ↦ inr (d, at_other i d) ]

  relabel_same : (i j : ℕ) → label i ≡ label j → relabelled label low high i ≡ relabelled label low high j
  relabel_same i j e = elim (cases_eq (label i) high) [
    | inl h ↦ at_high i h ∙ sym (at_high j (sym e ∙ h))
    | inr d ↦ at_other i d ∙ e ∙ sym (at_other j (λ h. d (e ∙ h)))
  ]

-- the greater of two roots gets the other one for its parent
module _ (parents : List ℕ) (low high : ℕ) (order : low < high) (h : high < length parents) where
  pub hang_below : AreBelow parents → AreBelow (set parents high low)
  hang_below below = set_below parents high low h (omega (arith, order)) below

  pub hang_sum : slice_index parents high ≡ high → sum (set parents high low) < sum parents
  hang_sum top = omega (arith, sum_set parents high low h, order, top)

  module _ (label : ℕ → ℕ) (l : AreLabels label parents) (is_low : label low ≡ low) (is_high : label high ≡ high) where
    low_stays : relabelled label low high low ≡ low
    low_stays = at_other label low high low (λ e. absurd (omega (arith, e, is_low, order))) ∙ is_low

    own : (i : ℕ) → relabelled label low high (relabelled label low high i) ≡ relabelled label low high i
    own i = elim (relabel_cases label low high i) [
      | inl e ↦ ap (relabelled label low high) e.1 ∙ low_stays ∙ sym e.1
      | inr e ↦ relabel_same label low high (relabelled label low high i) i (ap label e.1 ∙ l.own i)
    ]

    under : (i : ℕ) → relabelled label low high i ≤ i
    under i = elim (relabel_cases label low high i) [
      | inl e ↦ omega (arith, e.0, e.1, order, l.below i)
      | inr e ↦ omega (arith, e.1, l.below i)
    ]

    parent : (i : ℕ) → i < length (set parents high low) → relabelled label low high (slice_index (set parents high low) i) ≡ relabelled label low high i
    parent i m =
        let old : i < length parents = omega (arith, m, length-set parents high low) in
        elim (at_set parents high low h i) [
          | inl e ↦ ap (relabelled label low high) e.1 ∙ low_stays ∙ sym (at_high label low high i (ap label e.0 ∙ is_high))
          | inr e ↦ relabel_same label low high (slice_index (set parents high low) i) i (ap label e.1 ∙ l.parent i old)
        ]

    root : (i : ℕ) → i < length (set parents high low) → slice_index (set parents high low) i ≡ i → relabelled label low high i ≡ i
    root i m top =
        let old : i < length parents = omega (arith, m, length-set parents high low) in
        elim (at_set parents high low h i) [
          | inl e ↦ absurd (omega (arith, e.0, e.1, top, order))
          | inr e ↦
              let is : label i ≡ i = l.root i old (sym e.1 ∙ top) in
              at_other label low high i (λ x. e.0 (sym is ∙ x)) ∙ is
        ]

    only : (x y : ℕ) → relabelled label low high x ≡ relabelled label low high y
        → (label x ≡ label y) ⊎ (((label x ≡ label low) × (label y ≡ label high)) ⊎ ((label x ≡ label high) × (label y ≡ label low)))
    only x y e = elim (relabel_cases label low high x) [
      | inl p ↦ elim (relabel_cases label low high y) [
        | inl q ↦ inl (p.0 ∙ sym q.0)
        | inr q ↦ inr (inr (p.0 ∙ sym is_high, sym q.1 ∙ sym e ∙ p.1 ∙ sym is_low))
      ]
      | inr p ↦ elim (relabel_cases label low high y) [
        | inl q ↦ inr (inl (sym p.1 ∙ e ∙ q.1 ∙ sym is_low, q.0 ∙ sym is_high))
        | inr q ↦ inl (sym p.1 ∙ e ∙ q.1)
      ]
    ]

    pub hang_merged : HasMerged label (set parents high low) low high
    hang_merged = record {
      after = relabelled label low high;
      labels = record { own = own; below = under; parent = parent; root = root };
      merged = record {
        kept = relabel_same label low high;
        one = low_stays ∙ sym (at_high label low high high is_high);
        only = only;
      };
    }

-- the two numbers change places
pub merged_back : (before : ℕ → ℕ) (parents : List ℕ) (i j : ℕ) → HasMerged before parents i j → HasMerged before parents j i
merged_back before parents i j m = record {
  after = m.after;
  labels = m.labels;
  merged = record {
    kept = m.merged.kept;
    one = sym m.merged.one;
    only = λ x y e. elim (m.merged.only x y e) [ inl a ↦ inl a | inr b ↦ elim b [ inl p ↦ inr (inr p) | inr p ↦ inr (inl p) ] ];
  };
}

-- the numbers are others of the same classes
pub merged_alike : (before : ℕ → ℕ) (parents : List ℕ) (i j p q : ℕ) → before p ≡ before i → before q ≡ before j → HasMerged before parents p q → HasMerged before parents i j
merged_alike before parents i j p q e d m = record {
  after = m.after;
  labels = m.labels;
  merged = record {
    kept = m.merged.kept;
    one = sym (m.merged.kept p i e) ∙ m.merged.one ∙ m.merged.kept q j d;
    only = λ x y f. elim (m.merged.only x y f) [
      | inl a ↦ inl a
      | inr b ↦ elim b [
        | inl s ↦ inr (inl (s.0 ∙ e, s.1 ∙ d))
        | inr s ↦ inr (inr (s.0 ∙ d, s.1 ∙ e))
      ]
    ];
  };
}
