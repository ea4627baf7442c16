-- The right congruence that stands for each kind.
use Rattle.std.proofs.Common.{◌≡◌, ℕ, Bool, true, false, List, [], ◌∷◌, ◌++◌, refl, sym, ◌∙◌, ap, ap₂, subst, subst₂, arith, ◌⊎◌, inl, inr, ◌↔◌, reverse, Contains, append_assoc}
use Rattle.std.proofs.lemmas.List.{reverse-append, reverse-reverse, length-map, get_or-map}
use Rattle.std.proofs.lemmas.List.Elements.{Contains-append_left, Contains-append_right, Contains-append_cases, All-map, All-weaker, All-append, All-nil}
use Rattle.theory.specs.Word.{Word, IsOver, IsElement, reversed_pair, reversed_pairs}
use Rattle.theory.specs.Congruence.{Presentation, Congruence, EitherWay, AreElements, IsWellFormed, IsTwoSided, IsRightSided, of_presentation, with_relations, read_backwards, as_right, as_right_word}
use Rattle.theory.specs.Chain.{MayStand, Step, StepBy, Related}
use Rattle.theory.specs.declared.Kind.{Kind}
use Rattle.theory.specs.declared.Kind.TheVariants.{TwoSided, Right, Left}
use Rattle.theory.proofs.Words.{over_append}
use Rattle.theory.proofs.Chains.{joined_map, step_more}

pub either_append : (xs ys : List (Word × Word)) (r s : Word) → EitherWay xs r s ⊎ EitherWay ys r s → EitherWay (xs ++ ys) r s
either_append xs ys r s h = elim h [
  | inl a ↦ elim a [ inl m ↦ inl (Contains-append_left xs ys (r, s) m) | inr m ↦ inr (Contains-append_left xs ys (s, r) m) ]
  | inr b ↦ elim b [ inl m ↦ inl (Contains-append_right xs ys (r, s) m) | inr m ↦ inr (Contains-append_right xs ys (s, r) m) ]
]

pub either_cases : (xs ys : List (Word × Word)) (r s : Word) → EitherWay (xs ++ ys) r s → EitherWay xs r s ⊎ EitherWay ys r s
either_cases xs ys r s h = elim h [
  | inl m ↦ elim (Contains-append_cases xs ys (r, s) m) [ inl a ↦ inl (inl a) | inr b ↦ inr (inl b) ]
  | inr m ↦ elim (Contains-append_cases xs ys (s, r) m) [ inl a ↦ inl (inr a) | inr b ↦ inr (inr b) ]
]

-- two-sided pairs are relations
two_sided_to : (p : Presentation) (pairs : List (Word × Word)) (u v : Word) → StepBy (EitherWay p.relations) TwoSided pairs u v
    → StepBy (EitherWay (p.relations ++ pairs)) Right [] u v
two_sided_to p pairs u v h = elim h [
  | inl a ↦
      inl (step_more (EitherWay p.relations) (EitherWay (p.relations ++ pairs)) TwoSided (λ r s e. either_append p.relations pairs r s (inl e)) u v a)
  | inr b ↦ inl (step_more (EitherWay pairs) (EitherWay (p.relations ++ pairs)) TwoSided (λ r s e. either_append p.relations pairs r s (inr e)) u v b)
]

pub none_pair : {A : Type 0} (r s : Word) → EitherWay [] r s → A
none_pair r s h = elim h [ inl m ↦ absurd (omega (arith, m.1)) | inr m ↦ absurd (omega (arith, m.1)) ]

two_sided_from : (p : Presentation) (pairs : List (Word × Word)) (u v : Word) → StepBy (EitherWay (p.relations ++ pairs)) Right [] u v
    → StepBy (EitherWay p.relations) TwoSided pairs u v
two_sided_from p pairs u v h = elim h [
  | inl a ↦ split a (either_cases p.relations pairs a.from a.to a.base)
  | inr b ↦ none_pair b.from b.to b.base
]
  where
    split : (a : Step (EitherWay (p.relations ++ pairs)) TwoSided u v) → EitherWay p.relations a.from a.to ⊎ EitherWay pairs a.from a.to
        → StepBy (EitherWay p.relations) TwoSided pairs u v
    split a (inl e) = inl (record {
      before = a.before;
      from = a.from;
      to = a.to;
      after = a.after;
      base = e;
      place = tt;
      source = a.source;
      target = a.target;
    })
    split a (inr e) = inr (record {
      before = a.before;
      from = a.from;
      to = a.to;
      after = a.after;
      base = e;
      place = tt;
      source = a.source;
      target = a.target;
    })

-- a factor and what stands round it, backwards
pub reverse_parts : (x r y u : Word) → u ≡ x ++ (r ++ y) → reverse u ≡ reverse y ++ (reverse r ++ reverse x)
reverse_parts x r y u e =
    ap reverse e ∙ reverse-append x (r ++ y) ∙ ap (λ w. w ++ reverse x) (reverse-append r y) ∙ append_assoc (reverse y) (reverse r) (reverse x)

-- kinds backwards
turned : Kind → Kind
turned TwoSided = TwoSided
turned Right = Left
turned Left = Right

turned_place : (kind : Kind) (x y : Word) → MayStand kind x y → MayStand (turned kind) (reverse y) (reverse x)
unfolding turned
turned_place TwoSided x y h = tt
turned_place Right x y h = ap reverse h
turned_place Left x y h = ap reverse h

-- a step backwards
step_turned : (B C : Word → Word → Type 0) (kind : Kind) → ((r s : Word) → B r s → C (reverse r) (reverse s)) → (u v : Word)
    → Step B kind u v → Step C (turned kind) (reverse u) (reverse v)
step_turned B C kind back u v s =
    record {
      before = reverse s.after;
      from = reverse s.from;
      to = reverse s.to;
      after = reverse s.before;
      base = back s.from s.to s.base;
      place = turned_place kind s.before s.after s.place;
      source = reverse_parts s.before s.from s.after u s.source;
      target = reverse_parts s.before s.to s.after v s.target;
    }

contains_turned : (pairs : List (Word × Word)) (r s : Word) → Contains pairs (r, s) → Contains (reversed_pairs pairs) (reverse r, reverse s)
contains_turned pairs r s h =
    (h.0, rw (length-map) h.1, get_or-map reversed_pair pairs h.0 (r, s) (reverse r, reverse s) h.1 ∙ ap reversed_pair h.2)

either_turned : (pairs : List (Word × Word)) (r s : Word) → EitherWay pairs r s → EitherWay (reversed_pairs pairs) (reverse r) (reverse s)
either_turned pairs r s h = elim h [ inl m ↦ inl (contains_turned pairs r s m) | inr m ↦ inr (contains_turned pairs s r m) ]

pub twice_turned : (pairs : List (Word × Word)) → reversed_pairs (reversed_pairs pairs) ≡ pairs
twice_turned [] = refl
twice_turned (p ∷ pairs) =
    ap₂ (λ (q : Word × Word) (qs : List (Word × Word)). q ∷ qs) (λ i. (reverse-reverse p.0 i, reverse-reverse p.1 i)) (twice_turned pairs)

-- left pairs are right pairs of the reversed presentation
pub left_to : (p : Presentation) (pairs : List (Word × Word)) (u v : Word) → StepBy (EitherWay p.relations) Left pairs u v
    → StepBy (EitherWay (reversed_pairs p.relations)) Right (reversed_pairs pairs) (reverse u) (reverse v)
unfolding turned
left_to p pairs u v h = elim h [
  | inl a ↦ inl (step_turned (EitherWay p.relations) (EitherWay (reversed_pairs p.relations)) TwoSided (either_turned p.relations) u v a)
  | inr b ↦ inr (step_turned (EitherWay pairs) (EitherWay (reversed_pairs pairs)) Left (either_turned pairs) u v b)
]

pub left_from : (p : Presentation) (pairs : List (Word × Word)) (u v : Word)
    → StepBy (EitherWay (reversed_pairs p.relations)) Right (reversed_pairs pairs) u v
    → StepBy (EitherWay p.relations) Left pairs (reverse u) (reverse v)
unfolding turned
left_from p pairs u v h = elim h [
  | inl a ↦
      inl
      (step_turned (EitherWay (reversed_pairs p.relations)) (EitherWay p.relations) TwoSided
      (λ r s e. subst (λ qs. EitherWay qs (reverse r) (reverse s)) (twice_turned p.relations) (either_turned (reversed_pairs p.relations) r s e))
      u v a)
  | inr b ↦
      inr
      (step_turned (EitherWay (reversed_pairs pairs)) (EitherWay pairs) Right
      (λ r s e. subst (λ qs. EitherWay qs (reverse r) (reverse s)) (twice_turned pairs) (either_turned (reversed_pairs pairs) r s e)) u v b)
]

-- a left congruence relates two words exactly where, read backwards, it relates the words backwards
pub left_backwards : (p : Presentation) (pairs : List (Word × Word)) (u v : Word) →
    let c : Congruence = record { presentation = p; kind = Left; pairs = pairs } in
    Related c u v ↔ Related (read_backwards c) (reverse u) (reverse v)
left_backwards p pairs u v = (
  joined_map (StepBy (EitherWay p.relations) Left pairs) (StepBy (EitherWay (reversed_pairs p.relations)) Right (reversed_pairs pairs)) reverse
      (left_to p pairs) u v,
  λ h. subst₂ (λ x y. Related (record { presentation = p; kind = Left; pairs = pairs }) x y) (reverse-reverse u) (reverse-reverse v)
      (joined_map (StepBy (EitherWay (reversed_pairs p.relations)) Right (reversed_pairs pairs)) (StepBy (EitherWay p.relations) Left pairs)
      reverse (left_from p pairs) (reverse u) (reverse v) h),
)

-- without pairs their kind does not matter
no_pairs : (p : Presentation) (kind other : Kind) (u v : Word) → StepBy (EitherWay p.relations) kind [] u v
    → StepBy (EitherWay p.relations) other [] u v
no_pairs p kind other u v h = elim h [ inl a ↦ inl a | inr b ↦ none_pair b.from b.to b.base ]

by_kind : (p : Presentation) (kind : Kind) (pairs : List (Word × Word)) (u v : Word) →
    let c : Congruence = record { presentation = p; kind = kind; pairs = pairs } in
    Related c u v ↔ Related (as_right c) (as_right_word c u) (as_right_word c v)
by_kind p TwoSided pairs u v = (
  joined_map (StepBy (EitherWay p.relations) TwoSided pairs) (StepBy (EitherWay (p.relations ++ pairs)) Right []) (λ w. w) (two_sided_to p pairs) u v,
  joined_map (StepBy (EitherWay (p.relations ++ pairs)) Right []) (StepBy (EitherWay p.relations) TwoSided pairs) (λ w. w) (two_sided_from p pairs) u
      v,
)
by_kind p Right pairs u v = (λ h. h, λ h. h)
by_kind p Left [] u v = (
  joined_map (StepBy (EitherWay p.relations) Left []) (StepBy (EitherWay p.relations) Right []) (λ w. w) (no_pairs p Left Right) u v,
  joined_map (StepBy (EitherWay p.relations) Right []) (StepBy (EitherWay p.relations) Left []) (λ w. w) (no_pairs p Right Left) u v,
)
by_kind p Left (q ∷ pairs) u v = left_backwards p (q ∷ pairs) u v

-- c relates two words exactly where the right congruence that stands for it does
pub as_right_related : (c : Congruence) (u v : Word) → Related c u v ↔ Related (as_right c) (as_right_word c u) (as_right_word c v)
as_right_related c = by_kind c.presentation c.kind c.pairs

pub as_right_sided : (c : Congruence) → IsRightSided (as_right c)
as_right_sided c = go c.presentation c.kind c.pairs
  where
    go : (p : Presentation) (kind : Kind) (pairs : List (Word × Word))
        → IsRightSided (as_right (record { presentation = p; kind = kind; pairs = pairs }))
    go p TwoSided pairs = inl refl
    go p Right pairs = inl refl
    go p Left [] = inl refl
    go p Left (q ∷ pairs) = inl refl

pub over_turned : (k : ℕ) (u : Word) → IsOver k u → IsOver k (reverse u)
over_turned k [] h = tt
over_turned k (a ∷ u) h =
    subst (λ w. IsOver k w) (sym (reverse-append (a ∷ []) u)) (over_append k (reverse u) (a ∷ []) (over_turned k u h.1) (h.0, tt))

pub element_turned : (b : Bool) (k : ℕ) (u : Word) → IsElement b k u → IsElement b k (reverse u)
element_turned true k u h = over_turned k u h
element_turned false k u h = (λ e. h.0 (sym (reverse-reverse u) ∙ ap reverse e), over_turned k u h.1)

elements_turned : (b : Bool) (k : ℕ) (pairs : List (Word × Word)) → AreElements b k pairs → AreElements b k (reversed_pairs pairs)
elements_turned b k pairs h =
    All-map (λ (q : Word × Word). IsElement b k q.0 × IsElement b k q.1) reversed_pair pairs
    (All-weaker (λ (q : Word × Word). IsElement b k q.0 × IsElement b k q.1)
    (λ (q : Word × Word). IsElement b k (reverse q.0) × IsElement b k (reverse q.1))
    (λ q e. (element_turned b k q.0 e.0, element_turned b k q.1 e.1)) pairs h)

pub backwards_well_formed : (c : Congruence) → IsWellFormed c → IsWellFormed (read_backwards c)
backwards_well_formed c h = record {
  relations = elements_turned c.presentation.is_monoid c.presentation.letters c.presentation.relations h.relations;
  pairs = elements_turned c.presentation.is_monoid c.presentation.letters c.pairs h.pairs;
}

pub as_right_well_formed : (c : Congruence) → IsWellFormed c → IsWellFormed (as_right c)
as_right_well_formed c = go c.presentation c.kind c.pairs
  where
    go : (p : Presentation) (kind : Kind) (pairs : List (Word × Word))
        → IsWellFormed (record { presentation = p; kind = kind; pairs = pairs })
        → IsWellFormed (as_right (record { presentation = p; kind = kind; pairs = pairs }))
    go p TwoSided pairs h = record {
      relations =
          All-append (λ (q : Word × Word). IsElement p.is_monoid p.letters q.0 × IsElement p.is_monoid p.letters q.1) p.relations pairs h.relations
          h.pairs;
      pairs = All-nil (λ (q : Word × Word). IsElement p.is_monoid p.letters q.0 × IsElement p.is_monoid p.letters q.1);
    }
    go p Right pairs h = h
    go p Left [] h = record { relations = h.relations; pairs = h.pairs }
    go p Left (q ∷ pairs) h = backwards_well_formed (record { presentation = p; kind = Left; pairs = q ∷ pairs }) h

-- the pairs of a two-sided congruence are relations
pub pairs_as_relations : (c : Congruence) → IsTwoSided c → (u v : Word)
    → Related c u v ↔ Related (of_presentation (with_relations c.presentation c.pairs)) u v
pairs_as_relations c two u v = (
  joined_map (StepBy (EitherWay c.presentation.relations) c.kind c.pairs) (StepBy (EitherWay (c.presentation.relations ++ c.pairs)) TwoSided [])
      (λ w. w) to u v,
  joined_map (StepBy (EitherWay (c.presentation.relations ++ c.pairs)) TwoSided []) (StepBy (EitherWay c.presentation.relations) c.kind c.pairs)
      (λ w. w) from u v,
)
  where
    anywhere : (x y : Word) → EitherWay c.pairs x y → (before after : Word) → MayStand c.kind before after
    anywhere x y e before after = elim two [
      | inl same ↦ subst (λ kind. MayStand kind before after) (sym same) tt
      | inr none ↦ none_pair x y (subst (λ pairs. EitherWay pairs x y) none e)
    ]

    to : (u v : Word) → StepBy (EitherWay c.presentation.relations) c.kind c.pairs u v
        → StepBy (EitherWay (c.presentation.relations ++ c.pairs)) TwoSided [] u v
    to u v s = elim s [
      | inl a ↦ inl (record {
        before = a.before;
        from = a.from;
        to = a.to;
        after = a.after;
        base = either_append c.presentation.relations c.pairs a.from a.to (inl a.base);
        place = tt;
        source = a.source;
        target = a.target;
      })
      | inr b ↦ inl (record {
        before = b.before;
        from = b.from;
        to = b.to;
        after = b.after;
        base = either_append c.presentation.relations c.pairs b.from b.to (inr b.base);
        place = tt;
        source = b.source;
        target = b.target;
      })
    ]

    from : (u v : Word) → StepBy (EitherWay (c.presentation.relations ++ c.pairs)) TwoSided [] u v
        → StepBy (EitherWay c.presentation.relations) c.kind c.pairs u v
    from u v s = elim s [
      | inl a ↦ elim (either_cases c.presentation.relations c.pairs a.from a.to a.base) [
        | inl e ↦ inl (record {
          before = a.before;
          from = a.from;
          to = a.to;
          after = a.after;
          base = e;
          place = tt;
          source = a.source;
          target = a.target;
        })
        | inr e ↦ inr (record {
          before = a.before;
          from = a.from;
          to = a.to;
          after = a.after;
          base = e;
          place = anywhere a.from a.to e a.before a.after;
          source = a.source;
          target = a.target;
        })
      ]
      | inr b ↦ none_pair b.from b.to b.base
    ]

pub relations_well_formed : (c : Congruence) → IsWellFormed c → IsWellFormed (of_presentation (with_relations c.presentation c.pairs))
relations_well_formed c h =
    let Sides : Word × Word → Type 0 =
    λ q. IsElement c.presentation.is_monoid c.presentation.letters q.0 × IsElement c.presentation.is_monoid c.presentation.letters q.1 in
    record { relations = All-append Sides c.presentation.relations c.pairs h.relations h.pairs; pairs = All-nil Sides }
