-- The rules within a bound are finitely many, and completion ends or its failure is shown.
use Rattle.std.proofs.Common.{◌≡◌, ◌≢◌, ℕ, ◌≤◌, List, [], ◌∷◌, ◌++◌, length, sym, subst, subst₂, ◌⊎◌, inl, inr, ◌↔◌, All, append-nil}
use Rattle.std.proofs.lemmas.Bool.{cases_lt}
use Rattle.std.proofs.lemmas.List.Elements.{All-cons, All-nil}
use Rattle.theory.specs.Word.{Word, IsProperFactor}
use Rattle.theory.specs.ShortLex.{◌≺◌}
use Rattle.theory.specs.Congruence.{Presentation}
use Rattle.theory.specs.Chain.{Step}
use Rattle.theory.specs.Class.{IsLeast, IsNormal}
use Rattle.theory.specs.Completion.{Fits, Within, same, symmetric, transitive, Rule, Reduces, IsReduced, Joinable, OverlapsJoin, CompletionEnds, HasLongSide, HasBadOverlap, Listed}
use Rattle.theory.specs.declared.Kind.TheVariants.{TwoSided}
use Rattle.theory.proofs.Words.{shortlex_induction}
use Rattle.theory.proofs.Counting.{IsIn, in_from_contains, contains_from_in}
use Rattle.theory.proofs.Chains.{joined_refl, joined_one, joined_trans, step_more}
use Rattle.theory.proofs.CompletionLaws.{within_left, fits_factor, least_or, rule_falls}
use Rattle.theory.proofs.Completeness.{normal_unique, step_falls}
use Rattle.theory.proofs.Completed.{rule_is_one}
use Rattle.theory.proofs.WithinDecides.{find_in, less_decides, word_decides, all_words, all_pairs, in_all_pairs, fits_decides, in_fitting, within_decides, within_normal}
use Rattle.theory.proofs.RuleLists.{factor_decides, step_or_reduced}

-- those of a list that have a property
keep : {X : Type 0} (P : X → Type 0) → ((x : X) → P x ⊎ (P x → ⊥)) → (xs : List X)
    → (ys : List X) × ((x : X) → IsIn x ys ↔ (IsIn x xs × P x))
keep P dec [] = ([], λ x. (λ h. absurd h, λ h. absurd h.0))
keep {X} P dec (x ∷ xs) = go (dec x) (keep P dec xs)
  where
    go : P x ⊎ (P x → ⊥) → (ys : List X) × ((z : X) → IsIn z ys ↔ (IsIn z xs × P z))
        → (ys : List X) × ((z : X) → IsIn z ys ↔ (IsIn z (x ∷ xs) × P z))
    go (inl h) r = (
      x ∷ r.0,
      λ z. (
        λ m. elim m [ inl e ↦ (inl e, subst P (sym e) h) | inr n ↦ let both = (r.1 z).0 n in (inr both.0, both.1) ],
        λ b. elim (b.0) [ inl e ↦ inl e | inr n ↦ inr ((r.1 z).1 (n, b.1)) ],
      ),
    )
    go (inr none) r = (
      r.0,
      λ z. (
        λ m. let both = (r.1 z).0 m in (inr both.0, both.1),
        λ b. elim (b.0) [ inl e ↦ absurd (none (subst P e b.1)) | inr n ↦ (r.1 z).1 (n, b.1) ],
      ),
    )

-- one of a list has the first property, or each has the second
one_or_all : {X : Type 0} (P Q : X → Type 0) → ((x : X) → P x ⊎ Q x) → (xs : List X)
    → ((x : X) × IsIn x xs × P x) ⊎ ((x : X) → IsIn x xs → Q x)
one_or_all P Q dec [] = inr (λ x m. absurd m)
one_or_all P Q dec (x ∷ xs) = elim (dec x) [
  | inl h ↦ inl (x, inl (λ i. x), h)
  | inr here ↦ elim (one_or_all P Q dec xs) [
    | inl r ↦ inl (r.0, inr r.1, r.2)
    | inr there ↦ inr (λ y m. elim m [ inl e ↦ subst Q (sym e) here | inr n ↦ there y n ])
  ]
]

all_from : {X : Type 0} (P : X → Type 0) (xs : List X) → ((x : X) → IsIn x xs → P x) → All P xs
all_from P [] h = All-nil P
all_from P (x ∷ xs) h = All-cons P x xs (h x (inl (λ i. x))) (all_from P xs (λ y m. h y (inr m)))

proper_decides : (f u : Word) → IsProperFactor f u ⊎ (IsProperFactor f u → ⊥)
proper_decides f u = elim (factor_decides f u) [
  | inl r ↦ elim (word_decides f u) [
    | inl e ↦ inr (λ h. h.proper e)
    | inr n ↦ inl (record { factor = record { before = r.0; after = r.1; is = r.2 }; proper = n })
  ]
  | inr n ↦ inr (λ h. n h.factor.before h.factor.after h.factor.is)
]

module _ (p : Presentation) (L : ℕ) where
  least_decides : (u : Word) → Fits p L u → IsLeast (Within p L) u ⊎ (IsLeast (Within p L) u → ⊥)
  least_decides u fits = elim (least_or p L (within_normal p L) u fits) [
    | inl least ↦ inl least
    | inr n ↦ inr (λ h. h.none_less n.0 n.1.related n.2)
  ]

  -- a proper factor of u that fits and is not least
  abbrev IsBad : Word → Word → Type 0
  IsBad u f = Fits p L f × IsProperFactor f u × (IsLeast (Within p L) f → ⊥)

  bad_decides : (u f : Word) → IsBad u f ⊎ (IsBad u f → ⊥)
  bad_decides u f = elim (fits_decides p L f) [
    | inr n ↦ inr (λ h. n h.0)
    | inl fits ↦ elim (proper_decides f u) [
      | inr n ↦ inr (λ h. n h.1)
      | inl proper ↦ elim (least_decides f fits) [ inl least ↦ inr (λ h. h.2 least) | inr n ↦ inl (fits, proper, n) ]
    ]
  ]

  rule_decides : (u v : Word) → Rule p L u v ⊎ (Rule p L u v → ⊥)
  rule_decides u v = elim (within_decides p L u v) [
    | inr n ↦ inr (λ h. n h.normal.related)
    | inl w ↦ elim (least_decides v (within_left p L w).1) [
      | inr n ↦ inr (λ h. n h.normal.least)
      | inl least ↦ elim (less_decides v u) [
        | inr n ↦ inr (λ h. n h.falls)
        | inl less ↦ elim (find_in (IsBad u) (bad_decides u) (all_words p.letters L)) [
          | inl r ↦ inr (λ h. r.2.2 (h.factors r.0 r.2.1 (same r.2.0)))
          | inr none ↦ inl (record { normal = record { related = w; least = least }; falls = less; factors = good none })
        ]
      ]
    ]
  ]
    where
      good : ((f : Word) → IsIn f (all_words p.letters L) → IsBad u f → ⊥) → (f : Word) → IsProperFactor f u → Within p L f f
          → IsLeast (Within p L) f
      good none f h e =
          let fits = (within_left p L e).0 in
          elim (least_decides f fits) [ inl least ↦ least | inr n ↦ absurd (none f (in_fitting p L f fits) (fits, h, n)) ]

  -- the rules are finitely many
  pub rules_are_listed : (rules : List (Word × Word)) × ((l r : Word) → Listed rules l r ↔ Rule p L l r)
  rules_are_listed =
      let kept =
      keep (λ (q : Word × Word). Rule p L q.0 q.1) (λ q. rule_decides q.0 q.1) (all_pairs (all_words p.letters L) (all_words p.letters L)) in (
        kept.0,
        λ l r. (
          λ m. ((kept.1 (l, r)).0 (in_from_contains (l, r) kept.0 m)).1,
          λ h. contains_from_in (l, r) kept.0 ((kept.1 (l, r)).1 (
            in_all_pairs (all_words p.letters L) (all_words p.letters L) l r (in_fitting p L l (within_left p L h.normal.related).0)
                (in_fitting p L r (within_left p L h.normal.related).1),
            h,
          )),
        ),
      )

  -- each word leads to a reduced one
  pub reduces_to_reduced : (u : Word) → (v : Word) × Reduces (Rule p L) u v × IsReduced (Rule p L) v
  reduces_to_reduced = shortlex_induction (λ u. (v : Word) × Reduces (Rule p L) u v × IsReduced (Rule p L) v) at
    where
      at : (u : Word) → ((t : Word) → t ≺ u → (v : Word) × Reduces (Rule p L) t v × IsReduced (Rule p L) v)
          → (v : Word) × Reduces (Rule p L) u v × IsReduced (Rule p L) v
      at u later = elim (step_or_reduced rules_are_listed.0 u) [
        | inl s ↦
            let step = step_more (Listed rules_are_listed.0) (Rule p L) TwoSided (λ l r m. (rules_are_listed.1 l r).0 m) u s.0 s.1 in
            let rest = later s.0 (step_falls (Rule p L) (rule_falls p L) u s.0 step) in
            (rest.0, joined_trans (Step (Rule p L) TwoSided) u s.0 rest.0 (joined_one (Step (Rule p L) TwoSided) u s.0 step) rest.1, rest.2)
        | inr reduced ↦ (
          u,
          joined_refl (Step (Rule p L) TwoSided) u,
          λ v s. reduced v (step_more (Rule p L) (Listed rules_are_listed.0) TwoSided (λ l r m. (rules_are_listed.1 l r).1 m) u v s),
        )
      ]

  -- a word is a left side, or it is none
  left_decides : (u : Word) → ((v : Word) × Rule p L u v) ⊎ ((v : Word) → Rule p L u v → ⊥)
  left_decides u = elim (fits_decides p L u) [
    | inr n ↦ inr (λ v h. n (within_left p L h.normal.related).0)
    | inl fits ↦
        let n = within_normal p L u fits in
        elim (rule_decides u n.0) [
          | inl rule ↦ inl (n.0, rule)
          | inr none ↦ inr (λ v h. none (subst (λ x. Rule p L u x) (one u v n.0 h n.1) h))
        ]
  ]
    where
      one : (u v w : Word) → Rule p L u v → IsNormal (Within p L) u w → v ≡ w
      one u v w h n = normal_unique (Within p L) (λ x y r. symmetric r) (λ x y z r q. transitive r q) u v w h.normal n

  -- the overlap abc leads to one word
  abbrev IsGood : Word → Word → Word → Type 0
  IsGood a b c = b ≢ [] → (v w : Word) → Rule p L (a ++ b) v → Rule p L (b ++ c) w → Joinable (Rule p L) (v ++ c) (a ++ w)

  good_or_bad : (a b c : Word) → HasBadOverlap p L ⊎ IsGood a b c
  good_or_bad a [] c = inr (λ full v w r s. absurd (full (λ i. [])))
  good_or_bad a (d ∷ b) c = elim (left_decides (a ++ (d ∷ b))) [
    | inr none ↦ inr (λ full v w r s. absurd (none v r))
    | inl first ↦ elim (left_decides ((d ∷ b) ++ c)) [
      | inr none ↦ inr (λ full v w r s. absurd (none w s))
      | inl second ↦ both first.0 second.0 first.1 second.1 (reduces_to_reduced (first.0 ++ c)) (reduces_to_reduced (a ++ second.0))
    ]
  ]
    where
      both : (v w : Word) → Rule p L (a ++ (d ∷ b)) v → Rule p L ((d ∷ b) ++ c) w
          → (x : Word) × Reduces (Rule p L) (v ++ c) x × IsReduced (Rule p L) x
          → (y : Word) × Reduces (Rule p L) (a ++ w) y × IsReduced (Rule p L) y
          → HasBadOverlap p L ⊎ IsGood a (d ∷ b) c
      both v w r s x y = elim (word_decides x.0 y.0) [
        | inr differ ↦ inl (record {
          a = a;
          b = d ∷ b;
          c = c;
          v = v;
          w = w;
          x = x.0;
          y = y.0;
          overlaps = λ e. cc;
          left = r;
          right = s;
          down_left = x.1;
          down_right = y.1;
          end_left = x.2;
          end_right = y.2;
          differ = differ;
        })
        | inl e ↦ inr (λ full v' w' r' s'.
            let joins : Joinable (Rule p L) (v ++ c) (a ++ w) = record {
              word = x.0;
              left = x.1;
              right = subst (λ z. Reduces (Rule p L) (a ++ w) z) (sym e) y.1;
            } in
            subst₂ (λ g h. Joinable (Rule p L) (g ++ c) (a ++ h)) (rule_is_one p L (a ++ (d ∷ b)) v v' r r')
            (rule_is_one p L ((d ∷ b) ++ c) w w' s s') joins)
      ]

  abbrev fitting : List Word
  fitting = all_words p.letters L

  overlaps_or_bad : HasBadOverlap p L ⊎ OverlapsJoin (Rule p L)
  overlaps_or_bad =
      elim (one_or_all (λ (a : Word). HasBadOverlap p L) (λ (a : Word). (b : Word) → IsIn b fitting → (c : Word) → IsIn c fitting → IsGood a b c) at_a fitting) [
        | inl r ↦ inl r.2
        | inr all ↦
            inr
            (λ a b c v w full r s. all a (in_fitting p L a (left a b v r)) b (in_fitting p L b (middle a b v r)) c (in_fitting p L c (right b c w s)) full v w r s)
      ]
    where
      at_b : (a b : Word) → HasBadOverlap p L ⊎ ((c : Word) → IsIn c fitting → IsGood a b c)
      at_b a b = elim (one_or_all (λ (c : Word). HasBadOverlap p L) (IsGood a b) (good_or_bad a b) fitting) [ inl r ↦ inl r.2 | inr all ↦ inr all ]

      at_a : (a : Word) → HasBadOverlap p L ⊎ ((b : Word) → IsIn b fitting → (c : Word) → IsIn c fitting → IsGood a b c)
      at_a a = elim (one_or_all (λ (b : Word). HasBadOverlap p L) (λ (b : Word). (c : Word) → IsIn c fitting → IsGood a b c) (at_b a) fitting) [
        | inl r ↦ inl r.2
        | inr all ↦ inr all
      ]

      left : (a b v : Word) → Rule p L (a ++ b) v → Fits p L a
      left a b v r = fits_factor p L [] a b (within_left p L r.normal.related).0

      middle : (a b v : Word) → Rule p L (a ++ b) v → Fits p L b
      middle a b v r = fits_factor p L a b [] (subst (λ z. Fits p L (a ++ z)) (sym (append-nil b)) (within_left p L r.normal.related).0)

      right : (b c w : Word) → Rule p L (b ++ c) w → Fits p L c
      right b c w s = fits_factor p L b c [] (subst (λ z. Fits p L (b ++ z)) (sym (append-nil c)) (within_left p L s.normal.related).0)

  sides_or_long : HasLongSide p L ⊎ All (λ r. (length r.0 ≤ L) × (length r.1 ≤ L)) p.relations
  sides_or_long = elim (one_or_all_sides p.relations (λ r m. m)) [
    | inl h ↦ inl h
    | inr all ↦ inr (all_from (λ (r : Word × Word). (length r.0 ≤ L) × (length r.1 ≤ L)) p.relations all)
  ]
    where
      one_or_all_sides : (xs : List (Word × Word)) → ((r : Word × Word) → IsIn r xs → IsIn r p.relations)
          → HasLongSide p L ⊎ ((r : Word × Word) → IsIn r xs → (length r.0 ≤ L) × (length r.1 ≤ L))
      one_or_all_sides [] known = inr (λ r m. absurd m)
      one_or_all_sides (q ∷ xs) known = elim (cases_lt L (length q.0)) [
        | inl long ↦ inl (record {
          side = q.0;
          other = q.1;
          known = inl (contains_from_in (q.0, q.1) p.relations (known q (inl (λ i. q))));
          long = long;
        })
        | inr short ↦ elim (cases_lt L (length q.1)) [
          | inl long ↦ inl (record {
            side = q.1;
            other = q.0;
            known = inr (contains_from_in (q.0, q.1) p.relations (known q (inl (λ i. q))));
            long = long;
          })
          | inr short' ↦ elim (one_or_all_sides xs (λ r m. known r (inr m))) [
            | inl h ↦ inl h
            | inr rest ↦
                inr
                (λ r m. elim m [ inl e ↦ subst (λ (t : Word × Word). (length t.0 ≤ L) × (length t.1 ≤ L)) (sym e) (short, short') | inr n ↦ rest r n ])
          ]
        ]
      ]

  -- completion ends, or a side is too long, or an overlap is bad
  pub ends_or_fails : CompletionEnds p L ⊎ (HasLongSide p L ⊎ HasBadOverlap p L)
  ends_or_fails = elim (sides_or_long) [
    | inl long ↦ inr (inl long)
    | inr fits ↦ elim (overlaps_or_bad) [ inl bad ↦ inr (inr bad) | inr joins ↦ inl (record { fits = fits; join = joins }) ]
  ]
