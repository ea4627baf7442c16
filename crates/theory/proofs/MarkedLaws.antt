-- Marked words stand for the words of a one-sided congruence.
use Rattle.std.proofs.Common.{◌≡◌, ℕ, suc, ◌<◌, Bool, true, false, List, [], ◌∷◌, ◌++◌, length, refl, sym, ◌∙◌, ap, ap₂, subst, subst₂, arith, ◌⊎◌, inl, inr, ◌↔◌, reverse, Contains, append_assoc, append-nil, length-append, Option, None}
use Rattle.std.proofs.lemmas.Bool.{cases_lt}
use Rattle.std.proofs.lemmas.List.{reverse-append, reverse-reverse, length-reverse}
use Rattle.std.proofs.lemmas.List.Elements.{All-map, All-weaker, All-append, All-nil}
use Rattle.theory.specs.Word.{Word, IsOver, IsElement, reversed_pair, reversed_pairs}
use Rattle.theory.specs.ShortLex.{◌≺◌}
use Rattle.theory.specs.Congruence.{Presentation, Congruence, EitherWay, AreElements, IsWellFormed, of_presentation, reversed, read_backwards}
use Rattle.theory.specs.Chain.{Step, StepBy, Related, IsCongruenceOf}
use Rattle.theory.specs.Marked.{marked_word, marker_before, marker_behind, marked_pairs, marked, as_marked_word, IsMarkedReduced}
use Rattle.theory.specs.declared.Kind.{Kind}
use Rattle.theory.specs.declared.Kind.TheVariants.{TwoSided, Right, Left}
use Rattle.theory.specs.Class.{SameClass, IsLeast, IsNormal}
use Rattle.theory.specs.Listing.{IsNext, IsLast, IsListOf, AreInfinite}
use Rattle.theory.proofs.Listings.{next_same, last_same, list_same, infinite_same}
use Rattle.theory.specs.Completion.{Rule, Reduces, IsReduced, CompletionEnds}
use Rattle.theory.proofs.Words.{cut_between, over_append, over_left, over_right, before_cons, before_append_right, before_irrefl, before_trans, shorter_first, order_cases}
use Rattle.theory.proofs.CompletionLaws.{reduces_related}
use Rattle.theory.proofs.Completed.{completed_least, completed_reduced}
use Rattle.theory.proofs.Chains.{joined_least, joined_map, joined_one, step_at, step_kept, step_more, related_congruence, either_symm}
use Rattle.theory.proofs.Counting.{IsIn, in_from_contains, contains_from_in}
use Rattle.theory.proofs.Related.{element_over, side_element, none_either, related_element}
use Rattle.theory.proofs.KindLaws.{either_append, either_cases, pairs_as_relations, relations_well_formed, left_to, left_backwards, backwards_well_formed, over_turned, twice_turned}

-- the marker is no letter
no_marker : (k : ℕ) (u : Word) → IsOver k (k ∷ u) → ⊥
no_marker k u h = omega (arith, h.0)

-- a factor without the marker stands before it or behind it
pub record IsBefore (z before r after : Word) : Type 0 where
  pub rest : Word
  pub left : z ≡ before ++ (r ++ rest)

pub beside : (k : ℕ) (z w before r after : Word) → IsOver k r → z ++ k ∷ w ≡ before ++ (r ++ after)
    → ((rest : Word) × (z ≡ before ++ (r ++ rest)) × (after ≡ rest ++ k ∷ w)) ⊎ ((rest : Word) × (before ≡ z ++ k ∷ rest) × (w ≡ rest ++ (r ++ after)))
beside k z w before r after over e = elim (cases_lt (length z) (length before)) [
  | inl less ↦
      let cut = cut_between z (k ∷ w) before (r ++ after) e (omega arith) in
      inr (behind cut.0 cut.1 cut.2 less)
  | inr more ↦
      let cut = cut_between before (r ++ after) z (k ∷ w) (sym e) (omega arith) in
      inl (in_front cut.0 cut.1 cut.2)
]
  where
    behind : (t : Word) → before ≡ z ++ t → k ∷ w ≡ t ++ (r ++ after) → length z < length before
        → (rest : Word) × (before ≡ z ++ k ∷ rest) × (w ≡ rest ++ (r ++ after))
    behind [] p q less = absurd (omega (arith, ap length p, ap length (append-nil z)))
    behind (a ∷ t) p q less =
        let head : a ≡ k = cc in
        let tail : w ≡ t ++ (r ++ after) = cc in
        (t, p ∙ ap (λ b. z ++ b ∷ t) head, tail)

    in_front : (t : Word) → z ≡ before ++ t → r ++ after ≡ t ++ k ∷ w → (rest : Word) × (z ≡ before ++ (r ++ rest)) × (after ≡ rest ++ k ∷ w)
    in_front t p q = elim (cases_lt (length t) (length r)) [
      | inl less ↦
          let cut = cut_between t (k ∷ w) r after (sym q) (omega arith) in
          absurd (none cut.0 cut.1 cut.2 less)
      | inr more ↦
          let cut = cut_between r after t (k ∷ w) q (omega arith) in
          (cut.0, p ∙ ap (λ x. before ++ x) cut.1, cut.2)
    ]
      where
        none : (s : Word) → r ≡ t ++ s → k ∷ w ≡ s ++ after → length t < length r → ⊥
        none [] p q less = omega (arith, ap length p, ap length (append-nil t))
        none (a ∷ s) p q less =
            let head : a ≡ k = cc in
            no_marker k s (subst (λ b. IsOver k (b ∷ s)) head (over_right k t (a ∷ s) (subst (λ x. IsOver k x) p over)))

-- the marker stands once
pub marker_once : (k : ℕ) (z w before rest : Word) → IsOver k z → IsOver k w → z ++ k ∷ w ≡ before ++ k ∷ rest → (z ≡ before) × (w ≡ rest)
marker_once k z w before rest hz hw e = elim (beside k z w before [] (k ∷ rest) tt e) [
  | inl f ↦ front f.0 f.1 f.2
  | inr b ↦ absurd (no_marker k rest (over_right k b.0 (k ∷ rest) (subst (λ x. IsOver k x) b.2 hw)))
]
  where
    front : (t : Word) → z ≡ before ++ t → k ∷ rest ≡ t ++ k ∷ w → (z ≡ before) × (w ≡ rest)
    front [] p q = (p ∙ append-nil before, let tail : w ≡ rest = cc in tail)
    front (a ∷ t) p q =
        let head : a ≡ k = cc in
        absurd (no_marker k t (subst (λ b. IsOver k (b ∷ t)) head (over_right k before (a ∷ t) (subst (λ x. IsOver k x) p hz))))

-- a relation among the marked pairs is a pair with markers
pub marked_pair : (kind : Kind) (m : ℕ) (pairs : List (Word × Word)) (r s : Word) → Contains (marked_pairs kind m pairs) (r, s)
    → (p : Word) × (q : Word) × Contains pairs (p, q) × (r ≡ marked_word kind m p) × (s ≡ marked_word kind m q)
marked_pair kind m pairs r s h = go pairs (in_from_contains (r, s) (marked_pairs kind m pairs) h)
  where
    go : (pairs : List (Word × Word)) → IsIn (r, s) (marked_pairs kind m pairs)
        → (p : Word) × (q : Word) × Contains pairs (p, q) × (r ≡ marked_word kind m p) × (s ≡ marked_word kind m q)
    go [] h = absurd h
    go (x ∷ pairs) (inl e) = (x.0, x.1, contains_from_in x (x ∷ pairs) (inl refl), ap (λ (y : Word × Word). y.0) e, ap (λ (y : Word × Word). y.1) e)
    go (x ∷ pairs) (inr n) =
        let rest = go pairs n in
        (rest.0, rest.1, contains_from_in (rest.0, rest.1) (x ∷ pairs) (inr (in_from_contains (rest.0, rest.1) pairs rest.2)), rest.3, rest.4)

pub pair_marked : (kind : Kind) (m : ℕ) (pairs : List (Word × Word)) (p q : Word) → Contains pairs (p, q)
    → Contains (marked_pairs kind m pairs) (marked_word kind m p, marked_word kind m q)
pair_marked kind m pairs p q h =
    contains_from_in (marked_word kind m p, marked_word kind m q) (marked_pairs kind m pairs) (go pairs (in_from_contains (p, q) pairs h))
  where
    go : (pairs : List (Word × Word)) → IsIn (p, q) pairs → IsIn (marked_word kind m p, marked_word kind m q) (marked_pairs kind m pairs)
    go [] h = absurd h
    go (x ∷ pairs) (inl e) = inl (ap (λ (y : Word × Word). (marked_word kind m y.0, marked_word kind m y.1)) e)
    go (x ∷ pairs) (inr n) = inr (go pairs n)

either_marked : (kind : Kind) (m : ℕ) (pairs : List (Word × Word)) (r s : Word) → EitherWay (marked_pairs kind m pairs) r s
    → (p : Word) × (q : Word) × EitherWay pairs p q × (r ≡ marked_word kind m p) × (s ≡ marked_word kind m q)
either_marked kind m pairs r s h = elim h [
  | inl a ↦ let at = marked_pair kind m pairs r s a in (at.0, at.1, inl at.2, at.3, at.4)
  | inr b ↦ let at = marked_pair kind m pairs s r b in (at.1, at.0, inr at.2, at.4, at.3)
]

marked_either : (kind : Kind) (m : ℕ) (pairs : List (Word × Word)) (p q : Word) → EitherWay pairs p q
    → EitherWay (marked_pairs kind m pairs) (marked_word kind m p) (marked_word kind m q)
marked_either kind m pairs p q h = elim h [ inl a ↦ inl (pair_marked kind m pairs p q a) | inr b ↦ inr (pair_marked kind m pairs q p b) ]

-- Right pairs: what is joined to a marked word has the marker once, behind a word that is related to 1, and before one that is related by the congruence.
module _ (p : Presentation) (pairs : List (Word × Word)) (is : AreElements p.is_monoid p.letters p.relations)
    (sides : AreElements p.is_monoid p.letters pairs) where
  abbrev by_right : Congruence
  by_right = record { presentation = p; kind = Right; pairs = pairs }

  pub record IsMarked (u x : Word) : Type 0 where
    pub front : Word
    pub word : Word
    pub parts : x ≡ front ++ p.letters ∷ word
    pub front_over : IsOver p.letters front
    pub word_over : IsOver p.letters word
    pub empty : Related (of_presentation p) front []
    pub related : Related by_right u word

  relation_over : (r s : Word) → EitherWay p.relations r s → IsOver p.letters r × IsOver p.letters s
  relation_over r s e =
      let both = side_element p.is_monoid p.letters p.relations r s is e in
      (element_over p.is_monoid p.letters r both.0, element_over p.is_monoid p.letters s both.1)

  pair_over : (r s : Word) → EitherWay pairs r s → IsOver p.letters s
  pair_over r s e = element_over p.is_monoid p.letters s (side_element p.is_monoid p.letters pairs r s sides e).1

  -- a factor is exchanged for a word over the same letters
  exchanged : (before r after s : Word) → IsOver p.letters (before ++ (r ++ after)) → IsOver p.letters s → IsOver p.letters (before ++ (s ++ after))
  exchanged before r after s h hs =
      over_append p.letters before (s ++ after) (over_left p.letters before (r ++ after) h)
      (over_append p.letters s after hs (over_right p.letters r after (over_right p.letters before (r ++ after) h)))

  marked_relation : (u x y : Word) (before r s after : Word) → EitherWay p.relations r s → x ≡ before ++ (r ++ after)
      → y ≡ before ++ (s ++ after) → IsMarked u x → IsMarked u y
  marked_relation u x y before r s after e ex ey h =
      elim (beside p.letters h.front h.word before r after (relation_over r s e).0 (sym h.parts ∙ ex)) [
        | inl f ↦
            record {
              front = before ++ (s ++ f.0);
              word = h.word;
              parts = ey ∙ ap (λ z. before ++ (s ++ z)) f.2 ∙ (simp append_assoc);
              front_over = exchanged before r f.0 s (subst (λ z. IsOver p.letters z) f.1 h.front_over) (relation_over r s e).1;
              word_over = h.word_over;
              empty =
                  known.transitive (before ++ (s ++ f.0)) (before ++ (r ++ f.0)) []
                  (joined_one (StepBy (EitherWay p.relations) TwoSided []) (before ++ (s ++ f.0)) (before ++ (r ++ f.0))
                  (inl (step_at (EitherWay p.relations) before s r f.0 (either_symm p.relations r s e))))
                  (subst (λ z. Related (of_presentation p) z []) f.1 h.empty);
              related = h.related;
            }
        | inr b ↦
            record {
              front = h.front;
              word = b.0 ++ (s ++ after);
              parts = ey ∙ ap (λ z. z ++ (s ++ after)) b.1 ∙ append_assoc h.front (p.letters ∷ b.0) (s ++ after);
              front_over = h.front_over;
              word_over = exchanged b.0 r after s (subst (λ z. IsOver p.letters z) b.2 h.word_over) (relation_over r s e).1;
              empty = h.empty;
              related =
                  (related_congruence by_right).transitive u h.word (b.0 ++ (s ++ after)) h.related
                  (subst (λ z. Related by_right z (b.0 ++ (s ++ after))) (sym b.2)
                  (joined_one (StepBy (EitherWay p.relations) Right pairs) (b.0 ++ (r ++ after)) (b.0 ++ (s ++ after))
                  (inl (step_at (EitherWay p.relations) b.0 r s after e))));
            }
      ]
    where
      known : IsCongruenceOf TwoSided (Related (of_presentation p))
      known = related_congruence (of_presentation p)

  marked_by_pair : (u x y : Word) (before r s after : Word) → EitherWay pairs r s → x ≡ before ++ (p.letters ∷ (r ++ after))
      → y ≡ before ++ (p.letters ∷ (s ++ after)) → IsMarked u x → IsMarked u y
  marked_by_pair u x y before r s after e ex ey h =
      let once = marker_once p.letters h.front h.word before (r ++ after) h.front_over h.word_over (sym h.parts ∙ ex) in
      record {
        front = h.front;
        word = s ++ after;
        parts = ey ∙ ap (λ z. z ++ (p.letters ∷ (s ++ after))) (sym once.0);
        front_over = h.front_over;
        word_over = exchanged [] r after s (subst (λ z. IsOver p.letters z) once.1 h.word_over) (pair_over r s e);
        empty = h.empty;
        related =
            (related_congruence by_right).transitive u h.word (s ++ after) h.related
            (subst (λ z. Related by_right z (s ++ after)) (sym once.1)
            (joined_one (StepBy (EitherWay p.relations) Right pairs) (r ++ after) (s ++ after)
            (inr (record { before = []; from = r; to = s; after = after; base = e; place = refl; source = refl; target = refl }))));
      }

  marked_step : (u x y : Word) → StepBy (EitherWay (marked by_right).relations) TwoSided [] x y → IsMarked u x → IsMarked u y
  marked_step u x y st h = elim st [
    | inl a ↦ elim (either_cases p.relations (marked_pairs Right p.letters pairs) a.from a.to a.base) [
      | inl e ↦ marked_relation u x y a.before a.from a.to a.after e a.source a.target h
      | inr e ↦
          let at = either_marked Right p.letters pairs a.from a.to e in
          marked_by_pair u x y a.before at.0 at.1 a.after at.2 (a.source ∙ ap (λ z. a.before ++ (z ++ a.after)) at.3)
          (a.target ∙ ap (λ z. a.before ++ (z ++ a.after)) at.4) h
    ]
    | inr b ↦ absurd (none_either b.from b.to b.base)
  ]

  -- whatever is joined to a marked word
  pub marked_joined : (u : Word) → IsOver p.letters u → (x : Word) → Related (of_presentation (marked by_right)) (p.letters ∷ u) x → IsMarked u x
  marked_joined u over x r =
      joined_least (StepBy (EitherWay (marked by_right).relations) TwoSided []) (λ x y. IsMarked u x → IsMarked u y) (λ x h. h)
      (λ x y z f g h. g (f h)) (marked_step u) (p.letters ∷ u) x r
      (record {
        front = [];
        word = u;
        parts = refl;
        front_over = tt;
        word_over = over;
        empty = (related_congruence (of_presentation p)).reflexive [];
        related = (related_congruence by_right).reflexive u;
      })

  to_marked : (u v : Word) → StepBy (EitherWay p.relations) Right pairs u v
      → StepBy (EitherWay (marked by_right).relations) TwoSided [] (p.letters ∷ u) (p.letters ∷ v)
  to_marked u v st = elim st [
    | inl a ↦
        inl
        (subst₂ (λ x y. Step (EitherWay (marked by_right).relations) TwoSided (p.letters ∷ x) (p.letters ∷ y)) (append-nil u) (append-nil v)
        (step_kept (EitherWay (marked by_right).relations) TwoSided u v (p.letters ∷ []) []
        (step_more (EitherWay p.relations) (EitherWay (marked by_right).relations) TwoSided
        (λ r s e. either_append p.relations (marked_pairs Right p.letters pairs) r s (inl e)) u v a) tt))
    | inr b ↦ inl (record {
      before = [];
      from = p.letters ∷ b.from;
      to = p.letters ∷ b.to;
      after = b.after;
      base = either_append p.relations (marked_pairs Right p.letters pairs) (p.letters ∷ b.from) (p.letters ∷ b.to)
          (inr (marked_either Right p.letters pairs b.from b.to b.base));
      place = tt;
      source = ap (λ z. p.letters ∷ z) (b.source ∙ ap (λ z. z ++ (b.from ++ b.after)) b.place);
      target = ap (λ z. p.letters ∷ z) (b.target ∙ ap (λ z. z ++ (b.to ++ b.after)) b.place);
    })
  ]

  pub right_marked : (u v : Word) → IsOver p.letters u
      → Related by_right u v ↔ Related (of_presentation (marked by_right)) (p.letters ∷ u) (p.letters ∷ v)
  right_marked u v over = (
    joined_map (StepBy (EitherWay p.relations) Right pairs) (StepBy (EitherWay (marked by_right).relations) TwoSided []) (λ w. p.letters ∷ w) to_marked u v,
    λ r. from (marked_joined u over (p.letters ∷ v) r),
  )
    where
      from : IsMarked u (p.letters ∷ v) → Related by_right u v
      from h = go h.front h.parts h.front_over
        where
          go : (z : Word) → p.letters ∷ v ≡ z ++ p.letters ∷ h.word → IsOver p.letters z → Related by_right u v
          go [] e o = let tail : v ≡ h.word = cc in subst (λ w. Related by_right u w) (sym tail) h.related
          go (a ∷ z) e o = let head : p.letters ≡ a = cc in absurd (omega (arith, o.0))

-- Left pairs: all of it backwards.
-- words that relations relate are related backwards by the relations backwards
pub turned_related : (rels : List (Word × Word)) (b : Bool) (k : ℕ) (x y : Word)
    → Related (of_presentation (record { letters = k; is_monoid = b; relations = rels })) x y
    → Related (of_presentation (record { letters = k; is_monoid = b; relations = reversed_pairs rels })) (reverse x) (reverse y)
turned_related rels b k =
    joined_map (StepBy (EitherWay rels) TwoSided []) (StepBy (EitherWay (reversed_pairs rels)) TwoSided []) reverse one
  where
    there : (u v : Word) → StepBy (EitherWay (reversed_pairs rels)) Right [] u v → StepBy (EitherWay (reversed_pairs rels)) TwoSided [] u v
    there u v st = elim st [ inl a ↦ inl a | inr n ↦ absurd (none_either n.from n.to n.base) ]

    one : (u v : Word) → StepBy (EitherWay rels) TwoSided [] u v → StepBy (EitherWay (reversed_pairs rels)) TwoSided [] (reverse u) (reverse v)
    one u v st = elim st [
      | inl a ↦ there (reverse u) (reverse v) (left_to (record { letters = k; is_monoid = b; relations = rels }) [] u v (inl a))
      | inr n ↦ absurd (none_either n.from n.to n.base)
    ]

marker_turned : (k : ℕ) (u : Word) → reverse (u ++ k ∷ []) ≡ k ∷ reverse u
marker_turned k u = reverse-append u (k ∷ [])

turned_marker : (k : ℕ) (u : Word) → reverse (k ∷ reverse u) ≡ u ++ k ∷ []
turned_marker k u = reverse-append (k ∷ []) (reverse u) ∙ ap (λ w. w ++ k ∷ []) (reverse-reverse u)

reversed_marked_pairs : (k : ℕ) (ys : List (Word × Word))
    → reversed_pairs (marked_pairs Left k ys) ≡ marked_pairs Right k (reversed_pairs ys)
reversed_marked_pairs k [] = refl
reversed_marked_pairs k (q ∷ ys) =
    ap₂ (λ (x : Word × Word) (xs : List (Word × Word)). x ∷ xs) (λ i. (marker_turned k q.0 i, marker_turned k q.1 i)) (reversed_marked_pairs k ys)

reversed_marked : (k : ℕ) (xs ys : List (Word × Word))
    → reversed_pairs (xs ++ marked_pairs Left k ys) ≡ reversed_pairs xs ++ marked_pairs Right k (reversed_pairs ys)
reversed_marked k [] ys = reversed_marked_pairs k ys
reversed_marked k (q ∷ xs) ys = ap (λ (zs : List (Word × Word)). reversed_pair q ∷ zs) (reversed_marked k xs ys)

module _ (p : Presentation) (pairs : List (Word × Word)) (is : IsWellFormed (record { presentation = p; kind = Left; pairs = pairs })) where
  abbrev by_left : Congruence
  by_left = record { presentation = p; kind = Left; pairs = pairs }

  abbrev backwards : Congruence
  backwards = read_backwards by_left

  abbrev ByRelations : List (Word × Word) → Word → Word → Type 0
  ByRelations rels = Related (of_presentation (record { letters = suc p.letters; is_monoid = p.is_monoid; relations = rels }))

  pub left_marked : (u v : Word) → IsOver p.letters u
      → Related by_left u v ↔ Related (of_presentation (marked by_left)) (u ++ p.letters ∷ []) (v ++ p.letters ∷ [])
  left_marked u v over = (to, from)
    where
      turned : IsWellFormed backwards
      turned = backwards_well_formed by_left is

      both : Related backwards (reverse u) (reverse v) ↔ Related (of_presentation (marked backwards)) (p.letters ∷ reverse u) (p.letters ∷ reverse v)
      both = right_marked (reversed p) (reversed_pairs pairs) turned.relations turned.pairs (reverse u) (reverse v) (over_turned p.letters u over)

      same : reversed_pairs (marked by_left).relations ≡ (marked backwards).relations
      same = reversed_marked p.letters p.relations pairs

      again : reversed_pairs (marked backwards).relations ≡ (marked by_left).relations
      again = ap reversed_pairs (sym same) ∙ twice_turned (marked by_left).relations

      to : Related by_left u v → Related (of_presentation (marked by_left)) (u ++ p.letters ∷ []) (v ++ p.letters ∷ [])
      to r =
          subst₂ (λ x y. ByRelations (marked by_left).relations x y) (turned_marker p.letters u) (turned_marker p.letters v)
          (subst (λ (rels : List (Word × Word)). ByRelations rels (reverse (p.letters ∷ reverse u)) (reverse (p.letters ∷ reverse v))) again
          (turned_related (marked backwards).relations p.is_monoid (suc p.letters) (p.letters ∷ reverse u) (p.letters ∷ reverse v)
          (both.0 ((left_backwards p pairs u v).0 r))))

      from : Related (of_presentation (marked by_left)) (u ++ p.letters ∷ []) (v ++ p.letters ∷ []) → Related by_left u v
      from r =
          (left_backwards p pairs u v).1
          (both.1
          (subst₂ (λ x y. ByRelations (marked backwards).relations x y) (marker_turned p.letters u) (marker_turned p.letters v)
          (subst (λ (rels : List (Word × Word)). ByRelations rels (reverse (u ++ p.letters ∷ [])) (reverse (v ++ p.letters ∷ []))) same
          (turned_related (marked by_left).relations p.is_monoid (suc p.letters) (u ++ p.letters ∷ []) (v ++ p.letters ∷ []) r))))

-- each kind
pub marked_related : (c : Congruence) → IsWellFormed c → (u v : Word) → IsOver c.presentation.letters u
    → Related c u v ↔ Related (of_presentation (marked c)) (as_marked_word c u) (as_marked_word c v)
marked_related c = go c.presentation c.kind c.pairs
  where
    go : (p : Presentation) (kind : Kind) (pairs : List (Word × Word)) → let c : Congruence = record { presentation = p; kind = kind; pairs = pairs } in
        IsWellFormed c → (u v : Word) → IsOver p.letters u
        → Related c u v ↔ Related (of_presentation (marked c)) (as_marked_word c u) (as_marked_word c v)
    go p TwoSided pairs is u v over = pairs_as_relations (record { presentation = p; kind = TwoSided; pairs = pairs }) (inl refl) u v
    go p Right pairs is u v over = right_marked p pairs is.relations is.pairs u v over
    go p Left pairs is u v over = left_marked p pairs is u v over

-- the marked presentation is well formed
over_more : (k : ℕ) (u : Word) → IsOver k u → IsOver (suc k) u
over_more k [] h = tt
over_more k (a ∷ u) h = (omega (arith, h.0), over_more k u h.1)

element_more : (b : Bool) (k : ℕ) (u : Word) → IsElement b k u → IsElement b (suc k) u
element_more true k u h = over_more k u h
element_more false k u h = (h.0, over_more k u h.1)

element_full : (b : Bool) (k : ℕ) (u : Word) → (u ≡ [] → ⊥) → IsOver k u → IsElement b k u
element_full true k u full over = over
element_full false k u full over = (full, over)

in_front_element : (b : Bool) (k : ℕ) (u : Word) → IsElement b k u → IsElement b (suc k) (k ∷ u)
in_front_element b k u h = element_full b (suc k) (k ∷ u) (λ e. cc) (omega arith, over_more k u (element_over b k u h))

behind_element : (b : Bool) (k : ℕ) (u : Word) → IsElement b k u → IsElement b (suc k) (u ++ k ∷ [])
behind_element b k u h =
    element_full b (suc k) (u ++ k ∷ []) (λ e. omega (arith, ap length e, length-append u (k ∷ [])))
    (over_append (suc k) u (k ∷ []) (over_more k u (element_over b k u h)) (omega arith, tt))

module _ (p : Presentation) (pairs : List (Word × Word)) (relations : AreElements p.is_monoid p.letters p.relations)
    (sides : AreElements p.is_monoid p.letters pairs) (kind : Kind)
    (elements : (u : Word) → IsElement p.is_monoid p.letters u → IsElement p.is_monoid (suc p.letters) (marked_word kind p.letters u))
  where
    marked_elements : AreElements p.is_monoid (suc p.letters) (p.relations ++ marked_pairs kind p.letters pairs)
    marked_elements =
        All-append Sides p.relations (marked_pairs kind p.letters pairs) more
        (All-map Sides (λ (q : Word × Word). (marked_word kind p.letters q.0, marked_word kind p.letters q.1)) pairs
        (All-weaker Few (λ (q : Word × Word). Sides (marked_word kind p.letters q.0, marked_word kind p.letters q.1))
        (λ q h. (elements q.0 h.0, elements q.1 h.1)) pairs sides))
      where
        Few : Word × Word → Type 0
        Few q = IsElement p.is_monoid p.letters q.0 × IsElement p.is_monoid p.letters q.1

        Sides : Word × Word → Type 0
        Sides q = IsElement p.is_monoid (suc p.letters) q.0 × IsElement p.is_monoid (suc p.letters) q.1

        more : AreElements p.is_monoid (suc p.letters) p.relations
        more =
            All-weaker Few Sides (λ q h. (element_more p.is_monoid p.letters q.0 h.0, element_more p.is_monoid p.letters q.1 h.1)) p.relations relations

pub marked_well_formed : (c : Congruence) → IsWellFormed c → IsWellFormed (of_presentation (marked c))
marked_well_formed c = go c.presentation c.kind c.pairs
  where
    go : (p : Presentation) (kind : Kind) (pairs : List (Word × Word))
        → IsWellFormed (record { presentation = p; kind = kind; pairs = pairs })
        → IsWellFormed (of_presentation (marked (record { presentation = p; kind = kind; pairs = pairs })))
    go p TwoSided pairs is = relations_well_formed (record { presentation = p; kind = TwoSided; pairs = pairs }) is
    go p Right pairs is = record {
      relations = marked_elements p pairs is.relations is.pairs Right (in_front_element p.is_monoid p.letters);
      pairs = All-nil (λ (q : Word × Word). IsElement p.is_monoid (suc p.letters) q.0 × IsElement p.is_monoid (suc p.letters) q.1);
    }
    go p Left pairs is = record {
      relations = marked_elements p pairs is.relations is.pairs Left (behind_element p.is_monoid p.letters);
      pairs = All-nil (λ (q : Word × Word). IsElement p.is_monoid (suc p.letters) q.0 × IsElement p.is_monoid (suc p.letters) q.1);
    }

-- a marked element is an element of the marked presentation
pub marked_element : (c : Congruence) (u : Word) → IsElement c.presentation.is_monoid c.presentation.letters u
    → IsElement (marked c).is_monoid (marked c).letters (as_marked_word c u)
marked_element c = go c.presentation c.kind c.pairs
  where
    go : (p : Presentation) (kind : Kind) (pairs : List (Word × Word)) → let c : Congruence = record { presentation = p; kind = kind; pairs = pairs } in
        (u : Word) → IsElement p.is_monoid p.letters u → IsElement (marked c).is_monoid (marked c).letters (as_marked_word c u)
    go p TwoSided pairs u h = h
    go p Right pairs u h = in_front_element p.is_monoid p.letters u h
    go p Left pairs u h = behind_element p.is_monoid p.letters u h

-- What is joined to a marked word is the marked word of a related word, or longer than that.
pub record HasShape (c : Congruence) (u x : Word) : Type 0 where
  pub word : Word
  pub related : Related c u word
  pub shape : (x ≡ as_marked_word c word) ⊎ (length (as_marked_word c word) < length x)

right_shape : (p : Presentation) (pairs : List (Word × Word)) → IsWellFormed (record { presentation = p; kind = Right; pairs = pairs })
    → (u x : Word) → IsOver p.letters u
    → Related (of_presentation (marked (record { presentation = p; kind = Right; pairs = pairs }))) (p.letters ∷ u) x
    → HasShape (record { presentation = p; kind = Right; pairs = pairs }) u x
right_shape p pairs is u x over r = go (marked_joined p pairs is.relations is.pairs u over x r)
  where
    go : IsMarked p pairs is.relations is.pairs u x → HasShape (record { presentation = p; kind = Right; pairs = pairs }) u x
    go h = record { word = h.word; related = h.related; shape = at h.front h.parts }
      where
        at : (z : Word) → x ≡ z ++ p.letters ∷ h.word → (x ≡ p.letters ∷ h.word) ⊎ (length (p.letters ∷ h.word) < length x)
        at [] e = inl e
        at (a ∷ z) e = inr (omega (arith, ap length e, length-append z (p.letters ∷ h.word)))

left_shape : (p : Presentation) (pairs : List (Word × Word)) → IsWellFormed (record { presentation = p; kind = Left; pairs = pairs })
    → (u x : Word) → IsOver p.letters u
    → Related (of_presentation (marked (record { presentation = p; kind = Left; pairs = pairs }))) (u ++ p.letters ∷ []) x
    → HasShape (record { presentation = p; kind = Left; pairs = pairs }) u x
left_shape p pairs is u x over r =
    go (right_shape (reversed p) (reversed_pairs pairs) (backwards_well_formed (by_left p pairs is) is) (reverse u) (reverse x) (over_turned p.letters u over) turned)
  where
    turned : Related (of_presentation (marked (backwards p pairs is))) (p.letters ∷ reverse u) (reverse x)
    turned =
        subst (λ y. Related (of_presentation (marked (backwards p pairs is))) y (reverse x)) (marker_turned p.letters u)
        (subst (λ (rels : List (Word × Word)). ByRelations p pairs is rels (reverse (u ++ p.letters ∷ [])) (reverse x))
        (reversed_marked p.letters p.relations pairs)
        (turned_related (marked (by_left p pairs is)).relations p.is_monoid (suc p.letters) (u ++ p.letters ∷ []) x r))

    go : HasShape (backwards p pairs is) (reverse u) (reverse x) → HasShape (by_left p pairs is) u x
    go h = record {
      word = reverse h.word;
      related =
          (left_backwards p pairs u (reverse h.word)).1
          (subst (λ w. Related (backwards p pairs is) (reverse u) w) (sym (reverse-reverse h.word)) h.related);
      shape = elim h.shape [
        | inl e ↦ inl (sym (reverse-reverse x) ∙ ap reverse e ∙ reverse-append (p.letters ∷ []) h.word)
        | inr l ↦ inr (omega (arith, l, length-reverse x, length-append (reverse h.word) (p.letters ∷ []), length-reverse h.word))
      ];
    }

pub marked_shape : (c : Congruence) → IsWellFormed c → (u x : Word) → IsOver c.presentation.letters u
    → Related (of_presentation (marked c)) (as_marked_word c u) x → HasShape c u x
marked_shape c = go c.presentation c.kind c.pairs
  where
    go : (p : Presentation) (kind : Kind) (pairs : List (Word × Word)) → let c : Congruence = record { presentation = p; kind = kind; pairs = pairs } in
        IsWellFormed c → (u x : Word) → IsOver p.letters u → Related (of_presentation (marked c)) (as_marked_word c u) x → HasShape c u x
    go p TwoSided pairs is u x over r = record {
      word = x;
      related = (pairs_as_relations (record { presentation = p; kind = TwoSided; pairs = pairs }) (inl refl) u x).1 r;
      shape = inl refl;
    }
    go p Right pairs is u x over r = right_shape p pairs is u x over r
    go p Left pairs is u x over r = left_shape p pairs is u x over r

-- the word in its frame
pub marked_framed : (kind : Kind) (m : ℕ) (u : Word) → marked_word kind m u ≡ marker_before kind m ++ (u ++ marker_behind kind m)
marked_framed TwoSided m u = sym (append-nil u)
marked_framed Right m u = ap (λ w. m ∷ w) (sym (append-nil u))
marked_framed Left m u = refl

-- the marker keeps the order
marked_before : (kind : Kind) (m : ℕ) (u v : Word) → u ≺ v → marked_word kind m u ≺ marked_word kind m v
marked_before TwoSided m u v h = h
marked_before Right m u v h = before_cons m u v h
marked_before Left m u v h = before_append_right u v (m ∷ []) h

before_marked : (kind : Kind) (m : ℕ) (u v : Word) → marked_word kind m u ≺ marked_word kind m v → u ≺ v
before_marked kind m u v h = elim (order_cases u v) [
  | inl l ↦ l
  | inr (inl e) ↦ absurd (before_irrefl (marked_word kind m v) (subst (λ w. marked_word kind m w ≺ marked_word kind m v) e h))
  | inr (inr g) ↦
      absurd (before_irrefl (marked_word kind m u) (before_trans (marked_word kind m u) (marked_word kind m v) (marked_word kind m u) h (marked_before kind m v u g)))
]

module _ (c : Congruence) (is : IsWellFormed c) where
  abbrev Element : Word → Type 0
  Element = IsElement c.presentation.is_monoid c.presentation.letters

  same_marked : (u v : Word) → SameClass c u v → SameClass (of_presentation (marked c)) (as_marked_word c u) (as_marked_word c v)
  same_marked u v h = record {
    left = marked_element c u h.left;
    right = marked_element c v h.right;
    related = (marked_related c is u v (element_over c.presentation.is_monoid c.presentation.letters u h.left)).0 h.related;
  }

  same_itself : (u : Word) → Element u → SameClass c u u
  same_itself u h = record { left = h; right = h; related = (related_congruence c).reflexive u }

  same_shape : (u x : Word) → Element u → HasShape c u x → (w : Word) × SameClass c u w × ((x ≡ as_marked_word c w) ⊎ (as_marked_word c w ≺ x))
  same_shape u x element h = (
    h.word,
    record { left = element; right = related_element c is u h.word h.related element; related = h.related },
    elim h.shape [ inl e ↦ inl e | inr l ↦ inr (shorter_first (as_marked_word c h.word) x l) ],
  )

  -- an element is least exactly where its marked word is
  pub marked_least : (u : Word) → Element u → IsLeast (SameClass c) u ↔ IsLeast (SameClass (of_presentation (marked c))) (as_marked_word c u)
  marked_least u element = (to, from)
    where
      to : IsLeast (SameClass c) u → IsLeast (SameClass (of_presentation (marked c))) (as_marked_word c u)
      to h = record {
        element = same_marked u u (same_itself u element);
        none_less = λ x r less.
            let at = same_shape u x element (marked_shape c is u x (element_over c.presentation.is_monoid c.presentation.letters u element) r.related) in
            h.none_less at.0 at.1
            (before_marked c.kind c.presentation.letters at.0 u
            (elim at.2 [
              | inl e ↦ subst (λ y. y ≺ as_marked_word c u) e less
              | inr l ↦ before_trans (as_marked_word c at.0) x (as_marked_word c u) l less
            ]));
      }

      from : IsLeast (SameClass (of_presentation (marked c))) (as_marked_word c u) → IsLeast (SameClass c) u
      from h = record {
        element = same_itself u element;
        none_less = λ v r less. h.none_less (as_marked_word c v) (same_marked u v r) (marked_before c.kind c.presentation.letters v u less);
      }

  module _ (L : ℕ) (ends : CompletionEnds (marked c) L) where
    -- an element is least exactly where no rule applies to its marked word
    pub marked_reduced : (u : Word) → Element u → IsLeast (SameClass c) u ↔ IsReduced (Rule (marked c) L) (as_marked_word c u)
    marked_reduced u element =
        let there = completed_least (marked c) L (marked_well_formed c is) ends (as_marked_word c u) (marked_element c u element) in
        let here = marked_least u element in
        (λ h. there.0 (here.0 h), λ h. here.1 (there.1 h))

    pub marked_reduced_least : (u : Word) → IsLeast (SameClass c) u ↔ IsMarkedReduced c L u
    marked_reduced_least u = (
      λ h. record { element = h.element.left; reduced = (marked_reduced u h.element.left).0 h },
      λ h. (marked_reduced u h.element).1 h.reduced,
    )

    -- two words are related exactly where their marked words have one normal form
    pub marked_decides : (u v x y : Word) → IsOver c.presentation.letters u → Reduces (Rule (marked c) L) (as_marked_word c u) x
        → IsReduced (Rule (marked c) L) x → Reduces (Rule (marked c) L) (as_marked_word c v) y → IsReduced (Rule (marked c) L) y
        → Related c u v ↔ (x ≡ y)
    marked_decides u v x y over ru nx rv ny =
        let there = completed_reduced (marked c) L (marked_well_formed c is) ends (as_marked_word c u) (as_marked_word c v) x y ru nx rv ny in
        let here = marked_related c is u v over in
        (λ h. there.0 (here.0 h), λ e. here.1 (there.1 e))

    -- the normal form of a marked word is the marked word of the normal form
    pub marked_normal : (u x : Word) → Element u → Reduces (Rule (marked c) L) (as_marked_word c u) x → IsReduced (Rule (marked c) L) x
        → (w : Word) × (x ≡ as_marked_word c w) × IsNormal (SameClass c) u w
    marked_normal u x element ru nx =
        let over = element_over c.presentation.is_monoid c.presentation.letters u element in
        let related = reduces_related (marked c) L (as_marked_word c u) x ru in
        let at = same_shape u x element (marked_shape c is u x over related) in
        let there = marked_element c u element in
        let x_element = related_element (of_presentation (marked c)) (marked_well_formed c is) (as_marked_word c u) x related there in
        let least = (completed_least (marked c) L (marked_well_formed c is) ends x x_element).1 nx in
        elim at.2 [
          | inl e ↦ (
            at.0,
            e,
            record {
              related = at.1;
              least = (marked_reduced at.0 at.1.right).1 (subst (λ y. IsReduced (Rule (marked c) L) y) e nx);
            },
          )
          | inr l ↦ absurd (least.none_less (as_marked_word c at.0) (record {
            left = x_element;
            right = marked_element c at.0 at.1.right;
            related =
                (related_congruence (of_presentation (marked c))).transitive x (as_marked_word c u) (as_marked_word c at.0)
                ((related_congruence (of_presentation (marked c))).symmetric (as_marked_word c u) x related)
                (same_marked u at.0 at.1).related;
          }) l)
        ]

    backwards_same : (u : Word) → IsMarkedReduced c L u ↔ IsLeast (SameClass c) u
    backwards_same u = ((marked_reduced_least u).1, (marked_reduced_least u).0)

    -- so they are listed alike
    pub marked_next : (cursor : Option Word) (u : Word) → IsNext (IsLeast (SameClass c)) ◌≺◌ cursor u ↔ IsNext (IsMarkedReduced c L) ◌≺◌ cursor u
    marked_next cursor u = (
      next_same (IsLeast (SameClass c)) (IsMarkedReduced c L) ◌≺◌ marked_reduced_least cursor u,
      next_same (IsMarkedReduced c L) (IsLeast (SameClass c)) ◌≺◌ backwards_same cursor u,
    )

    pub marked_last : (cursor : Option Word) → IsLast (IsLeast (SameClass c)) ◌≺◌ cursor ↔ IsLast (IsMarkedReduced c L) ◌≺◌ cursor
    marked_last cursor = (
      last_same (IsLeast (SameClass c)) (IsMarkedReduced c L) ◌≺◌ marked_reduced_least cursor,
      last_same (IsMarkedReduced c L) (IsLeast (SameClass c)) ◌≺◌ backwards_same cursor,
    )

    pub marked_list : (us : List Word) → IsListOf (IsLeast (SameClass c)) ◌≺◌ None us ↔ IsListOf (IsMarkedReduced c L) ◌≺◌ None us
    marked_list us = (
      list_same (IsLeast (SameClass c)) (IsMarkedReduced c L) ◌≺◌ marked_reduced_least None us,
      list_same (IsMarkedReduced c L) (IsLeast (SameClass c)) ◌≺◌ backwards_same None us,
    )

    pub marked_infinite : AreInfinite (IsLeast (SameClass c)) ◌≺◌ ↔ AreInfinite (IsMarkedReduced c L) ◌≺◌
    marked_infinite = (
      infinite_same (IsLeast (SameClass c)) (IsMarkedReduced c L) ◌≺◌ marked_reduced_least,
      infinite_same (IsMarkedReduced c L) (IsLeast (SameClass c)) ◌≺◌ backwards_same,
    )
