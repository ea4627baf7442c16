-- Numbers are put into classes, one after another.
use Rattle.std.proofs.Common.{◌≡◌, ◌≢◌, ℕ, ◌+◌, ◌<◌, ◌≤◌, ◌↔◌, List, [], ◌∷◌, ◌++◌, length, replicate, slice_index, slice_index_or, set, map, refl, sym, ◌∙◌, ap, subst, arith, inl, inr, ◌⊎◌, Option, Some, None, length-set, All, Contains}
use Rattle.std.proofs.Math.Seq.{map-set_same}
use Rattle.std.proofs.lemmas.Bool.{cases_eq, cases_lt}
use Rattle.std.proofs.lemmas.List.{get_or_append_left, get_or_push, get_or-set_same, get_or-set_other, get_or-replicate, get_or_past, length_push, length-replicate, map-append, map-set, get_or-map}
use Rattle.std.proofs.lemmas.List.Elements.{All-nil, All-cons, All-push, All-set, All-weaker, Contains-append_left, Contains-push, Contains-push_cases}
use Rattle.theory.specs.Listing.{IsListOf, IsAfter, IsAscending}
use Rattle.theory.specs.Green.{AreClasses, class_at}
use Rattle.theory.proofs.ClassListLaws.{first_in, from_map, member_below, place_inside}
use Rattle.theory.proofs.Counting.{IsIn, in_from_contains, contains_from_in}
use Rattle.green.specs.Grouping.{HaveOneName, place_at, AreGrouped, AreCollected}

-- a number above all that have a property gets it too
pub listed_more : (P Q : ℕ → Type 0) (m : ℕ) (cursor : Option ℕ) (xs : List ℕ) → IsListOf P ◌<◌ cursor xs → ((y : ℕ) → P y → y < m) → ((y : ℕ) → P y → Q y)
    → ((y : ℕ) → Q y → P y ⊎ (y ≡ m)) → Q m → IsAfter ◌<◌ cursor m → IsListOf Q ◌<◌ cursor (xs ++ m ∷ [])
listed_more P Q m cursor [] h small up back this after = (
  record {
    has = this;
    after = after;
    least = λ y q a l. elim (back y q) [ inl p ↦ h y p a | inr e ↦ omega (arith, e, l) ];
  },
  λ y q a. elim (back y q) [
    | inl p ↦ let low = small y p in omega (arith, low, a)
    | inr e ↦ omega (arith, e, a)
  ],
)
listed_more P Q m cursor (x ∷ xs) h small up back this after =
    let low = small x h.0.has in (
      record {
        has = up x h.0.has;
        after = h.0.after;
        least = λ y q a l. elim (back y q) [ inl p ↦ h.0.least y p a l | inr e ↦ omega (arith, e, l, low) ];
      },
      listed_more P Q m (Some x) xs h.1 small up back this low,
    )

-- a greater number is put at the end of ascending ones
ascending_push : (cursor : Option ℕ) (xs : List ℕ) (m : ℕ) → IsAscending ◌<◌ cursor xs → IsAfter ◌<◌ cursor m → ((x : ℕ) → IsIn x xs → x < m)
    → IsAscending ◌<◌ cursor (xs ++ m ∷ [])
ascending_push cursor [] m up after small = (after, tt)
ascending_push cursor (x ∷ xs) m up after small = (up.0, ascending_push (Some x) xs m up.1 (small x (inl refl)) (λ y k. small y (inr k)))

pushed_some : (c : List ℕ) (m : ℕ) → c ++ m ∷ [] ≢ []
pushed_some [] m e = cc
pushed_some (x ∷ c) m e = cc

some_long : (c : List ℕ) → c ≢ [] → 0 < length c
some_long [] d = absurd (d refl)
some_long (x ∷ c) d = omega arith

-- the number m is put into the class at p, and nothing else
abbrev IsPutAt : List (List ℕ) → List (List ℕ) → ℕ → ℕ → Type 0
IsPutAt old new m p = (q i : ℕ) → Contains (class_at new q) i ↔ (Contains (class_at old q) i ⊎ ((q ≡ p) × (i ≡ m)))

module _ (m : ℕ) (R : ℕ → ℕ → Type 0) (symm : (i j : ℕ) → R i j → R j i) (cs : List (List ℕ)) (h : AreClasses m R cs) where
  members_small : (p : ℕ) → p < length cs → (i : ℕ) → IsIn i (class_at cs p) → i < m
  members_small p l i k = member_below m R cs h p i (contains_from_in i (class_at cs p) k)

  more_below : All (All (λ i. i < m + 1)) cs
  more_below = All-weaker (All (λ i. i < m)) (All (λ i. i < m + 1)) (λ c. All-weaker (λ i. i < m) (λ i. i < m + 1) (λ i l. omega (arith, l)) c) cs h.below

  -- the number is related to what stands in its class, and to nothing else
  module _ (new : List (List ℕ)) (p : ℕ) (put : IsPutAt cs new m p) (own : (q i : ℕ) → Contains (class_at cs q) i → R i m ↔ (q ≡ p)) (same : R m m) where
    every_more : (i : ℕ) → i < m + 1 → (q : ℕ) × Contains (class_at new q) i
    every_more i l = elim (cases_eq i m) [
      | inl e ↦ (p, (put p i).1 (inr (refl, e)))
      | inr d ↦ let at = h.every i (omega (arith, l, d)) in (at.0, (put at.0 i).1 (inl at.1))
    ]

    related_more : (q r i j : ℕ) → Contains (class_at new q) i → Contains (class_at new r) j → R i j ↔ (q ≡ r)
    related_more q r i j a b = elim ((put q i).0 a) [
      | inl k ↦ elim ((put r j).0 b) [
        | inl l ↦ h.related q r i j k l
        | inr e ↦ (
          λ s. (own q i k).0 (subst (R i) e.1 s) ∙ sym e.0,
          λ s. subst (R i) (sym e.1) ((own q i k).1 (s ∙ e.0)),
        )
      ]
      | inr d ↦ elim ((put r j).0 b) [
        | inl l ↦ (
          λ s. d.0 ∙ sym ((own r j l).0 (symm m j (subst (λ x. R x j) d.1 s))),
          λ s. subst (λ x. R x j) (sym d.1) (symm j m ((own r j l).1 (sym s ∙ d.0))),
        )
        | inr e ↦ (
          λ s. d.0 ∙ sym e.0,
          λ s. subst (λ x. R x j) (sym d.1) (subst (R m) (sym e.1) same),
        )
      ]
    ]

  -- the number begins a class
  module _ (alone : (i : ℕ) → i < m → R i m → ⊥) (same : R m m) where
    put_new : IsPutAt cs (cs ++ (m ∷ []) ∷ []) m (length cs)
    put_new q i = elim (cases_lt q (length cs)) [
      | inl l ↦
          let at : class_at (cs ++ (m ∷ []) ∷ []) q ≡ class_at cs q = get_or_append_left cs ((m ∷ []) ∷ []) [] q l in (
            λ k. inl (subst (λ (c : List ℕ). Contains c i) at k),
            λ k. elim k [
              | inl k ↦ subst (λ (c : List ℕ). Contains c i) (sym at) k
              | inr e ↦ absurd (omega (arith, l, e.0))
            ],
          )
      | inr past ↦ (
        λ k.
            let long = length_push cs (m ∷ []) in
            let inside = place_inside (cs ++ (m ∷ []) ∷ []) q i k in
            let e : q ≡ length cs = omega (arith, past, long, inside) in
            let at : class_at (cs ++ (m ∷ []) ∷ []) q ≡ m ∷ [] = get_or_push cs (m ∷ []) [] q (sym e) in
            inr (e, elim (in_from_contains i (m ∷ []) (subst (λ (c : List ℕ). Contains c i) at k)) [ inl e ↦ e | inr k ↦ absurd k ]),
        λ k. elim k [
          | inl k ↦ let inside = place_inside cs q i k in absurd (omega (arith, past, inside))
          | inr e ↦
              let at : class_at (cs ++ (m ∷ []) ∷ []) q ≡ m ∷ [] = get_or_push cs (m ∷ []) [] q (sym e.0) in
              subst (λ (c : List ℕ). Contains c i) (sym at) (contains_from_in i (m ∷ []) (inl e.1))
        ],
      )
    ]

    own_new : (q i : ℕ) → Contains (class_at cs q) i → R i m ↔ (q ≡ length cs)
    own_new q i k = (
      λ r. absurd (alone i (member_below m R cs h q i k) r),
      λ e. let inside = place_inside cs q i k in absurd (omega (arith, inside, e)),
    )

    firsts_small : (x : ℕ) → IsIn x (map (λ c. slice_index c 0) cs) → x < m
    firsts_small x k =
        let at = from_map (λ c. slice_index c 0) cs x k in
        let low = member_below m R cs h at.0 (slice_index (class_at cs at.0) 0) (first_in m R cs h at.0 at.1) in
        omega (arith, low, at.2)

    classes_new : AreClasses (m + 1) R (cs ++ (m ∷ []) ∷ [])
    classes_new = record {
      not_empty = All-push (λ c. c ≢ []) cs (m ∷ []) h.not_empty (pushed_some [] m);
      below = All-push (All (λ i. i < m + 1)) cs (m ∷ []) more_below (All-cons (λ i. i < m + 1) m [] (omega arith) (All-nil (λ i. i < m + 1)));
      ascend = All-push (IsAscending ◌<◌ None) cs (m ∷ []) h.ascend (tt, tt);
      in_order = subst (IsAscending ◌<◌ None) (sym (map-append (λ c. slice_index c 0) cs ((m ∷ []) ∷ [])))
          (ascending_push None (map (λ c. slice_index c 0) cs) m h.in_order tt firsts_small);
      every = every_more (cs ++ (m ∷ []) ∷ []) (length cs) put_new own_new same;
      related = related_more (cs ++ (m ∷ []) ∷ []) (length cs) put_new own_new same;
    }

  -- the number comes to the end of a class, to whose first it is related
  module _ (trans : (i j l : ℕ) → R i j → R j l → R i l) (p : ℕ) (l : p < length cs) (r : R (slice_index (class_at cs p) 0) m) where
    at_same : class_at (set cs p (class_at cs p ++ m ∷ [])) p ≡ class_at cs p ++ m ∷ []
    at_same = get_or-set_same cs p (class_at cs p ++ m ∷ []) [] l

    put_old : IsPutAt cs (set cs p (class_at cs p ++ m ∷ [])) m p
    put_old q i = elim (cases_eq q p) [
      | inl e ↦
          let at : class_at (set cs p (class_at cs p ++ m ∷ [])) q ≡ class_at cs q ++ m ∷ [] =
          ap (class_at (set cs p (class_at cs p ++ m ∷ []))) e ∙ at_same ∙ ap (λ k. class_at cs k ++ m ∷ []) (sym e) in (
            λ k. elim (Contains-push_cases (class_at cs q) m i (subst (λ (c : List ℕ). Contains c i) at k)) [ inl k ↦ inl k | inr d ↦ inr (e, sym d) ],
            λ k. subst (λ (c : List ℕ). Contains c i) (sym at) (elim k [
              | inl k ↦ Contains-append_left (class_at cs q) (m ∷ []) i k
              | inr d ↦ subst (Contains (class_at cs q ++ m ∷ [])) (sym d.1) (Contains-push (class_at cs q) m)
            ]),
          )
      | inr d ↦
          let at : class_at (set cs p (class_at cs p ++ m ∷ [])) q ≡ class_at cs q = get_or-set_other cs p q (class_at cs p ++ m ∷ []) [] d in (
            λ k. inl (subst (λ (c : List ℕ). Contains c i) at k),
            λ k. elim k [
              | inl k ↦ subst (λ (c : List ℕ). Contains c i) (sym at) k
              | inr e ↦ absurd (d e.0)
            ],
          )
    ]

    own_old : (q i : ℕ) → Contains (class_at cs q) i → R i m ↔ (q ≡ p)
    own_old q i k =
        let by = h.related q p i (slice_index (class_at cs p) 0) k (first_in m R cs h p l) in (
          λ s. by.0 (trans i m (slice_index (class_at cs p) 0) s (symm (slice_index (class_at cs p) 0) m r)),
          λ e. trans i (slice_index (class_at cs p) 0) m (by.1 e) r,
        )

    firsts_stay : map (λ c. slice_index c 0) (set cs p (class_at cs p ++ m ∷ [])) ≡ map (λ c. slice_index c 0) cs
    firsts_stay = map-set_same (λ c. slice_index c 0) cs p (class_at cs p ++ m ∷ []) []
        (get_or_append_left (class_at cs p) (m ∷ []) 0 0 (some_long (class_at cs p) (h.not_empty p [] l)))

    classes_more : AreClasses (m + 1) R (set cs p (class_at cs p ++ m ∷ []))
    classes_more = record {
      not_empty = All-set (λ c. c ≢ []) cs p (class_at cs p ++ m ∷ []) (pushed_some (class_at cs p) m) h.not_empty;
      below = All-set (All (λ i. i < m + 1)) cs p (class_at cs p ++ m ∷ []) (All-push (λ i. i < m + 1) (class_at cs p) m (more_below p [] l) (omega arith)) more_below;
      ascend = All-set (IsAscending ◌<◌ None) cs p (class_at cs p ++ m ∷ [])
          (ascending_push None (class_at cs p) m (h.ascend p [] l) tt (members_small p l)) h.ascend;
      in_order = subst (IsAscending ◌<◌ None) (sym firsts_stay) h.in_order;
      every = every_more (set cs p (class_at cs p ++ m ∷ [])) p put_old own_old (trans m (slice_index (class_at cs p) 0) m (symm (slice_index (class_at cs p) 0) m r) r);
      related = related_more (set cs p (class_at cs p ++ m ∷ [])) p put_old own_old (trans m (slice_index (class_at cs p) 0) m (symm (slice_index (class_at cs p) 0) m r) r);
    }

-- none is grouped
pub grouped_none : (names : List ℕ) (places : List (Option ℕ)) → length places ≡ length names → ((name : ℕ) → place_at places name ≡ None)
    → AreGrouped names 0 places []
grouped_none names places count none = record {
  count = count;
  classes_are = record {
    not_empty = All-nil (λ c. c ≢ []);
    below = All-nil (All (λ i. i < 0));
    ascend = All-nil (IsAscending ◌<◌ None);
    in_order = tt;
    every = λ i l. absurd (omega arith);
    related = λ p q i j a b. let inside = place_inside [] p i a in absurd (omega (arith, inside));
  };
  placed = λ name p e. absurd (neither (place_at places name) (none name) p e);
  seen = λ i l. absurd (omega arith);
}
  where
    neither : (o : Option ℕ) → o ≡ None → (p : ℕ) → o ≡ Some p → ⊥
    neither o a p b = cc

module _ (names : List ℕ) (m : ℕ) (places : List (Option ℕ)) (cs : List (List ℕ)) (h : AreGrouped names m places cs) where
  -- The number is the first of its name.
  module _ (new : place_at places (slice_index names m) ≡ None) (small : slice_index names m < length names) where
    neither : (o : Option ℕ) → o ≡ None → (p : ℕ) → o ≡ Some p → ⊥
    neither o a p b = cc

    none_before : (j : ℕ) → j < m → HaveOneName names j m → ⊥
    none_before j l e =
        let at = h.seen j l in
        neither (place_at places (slice_index names m)) new at.0 (ap (place_at places) (sym e) ∙ at.1)

    pub grouped_new : (now : List (Option ℕ)) → now ≡ set places (slice_index names m) (Some (length cs)) → (more : List (List ℕ))
        → more ≡ cs ++ (m ∷ []) ∷ [] → AreGrouped names (m + 1) now more
    grouped_new now is more are =
        subst (λ (p : List (Option ℕ)). AreGrouped names (m + 1) p more) (sym is)
        (subst (λ (c : List (List ℕ)). AreGrouped names (m + 1) (set places (slice_index names m) (Some (length cs))) c) (sym are) whole)
      where
        inside : slice_index names m < length places
        inside = omega (arith, small, h.count)

        at_new : place_at (set places (slice_index names m) (Some (length cs))) (slice_index names m) ≡ Some (length cs)
        at_new = get_or-set_same places (slice_index names m) (Some (length cs)) None inside

        at_other : (name : ℕ) → name ≢ slice_index names m → place_at (set places (slice_index names m) (Some (length cs))) name ≡ place_at places name
        at_other name d = get_or-set_other places (slice_index names m) name (Some (length cs)) None d

        same : (p q : ℕ) (o : Option ℕ) → o ≡ Some p → o ≡ Some q → p ≡ q
        same p q o a b = cc

        whole : AreGrouped names (m + 1) (set places (slice_index names m) (Some (length cs))) (cs ++ (m ∷ []) ∷ [])
        whole = record {
          count = length-set places (slice_index names m) (Some (length cs)) ∙ h.count;
          classes_are = classes_new m (HaveOneName names) (λ i j e. sym e) cs h.classes_are none_before refl;
          placed = λ name p e. elim (cases_eq name (slice_index names m)) [
            | inl s ↦
                let last : length cs ≡ p = same (length cs) p (place_at (set places (slice_index names m) (Some (length cs))) (slice_index names m)) at_new
                (ap (place_at (set places (slice_index names m) (Some (length cs)))) (sym s) ∙ e) in
                let long = length_push cs (m ∷ []) in (
                  omega (arith, last, long),
                  ap (λ (c : List ℕ). slice_index names (slice_index c 0)) (get_or_push cs (m ∷ []) [] p last) ∙ sym s,
                )
            | inr d ↦
                let old = h.placed name p (sym (at_other name d) ∙ e) in
                let long = length_push cs (m ∷ []) in (
                  omega (arith, old.0, long),
                  ap (λ (c : List ℕ). slice_index names (slice_index c 0)) (get_or_append_left cs ((m ∷ []) ∷ []) [] p old.0) ∙ old.1,
                )
          ];
          seen = λ i l. elim (cases_eq (slice_index names i) (slice_index names m)) [
            | inl s ↦ (length cs, ap (place_at (set places (slice_index names m) (Some (length cs)))) s ∙ at_new)
            | inr d ↦
                let less : i < m = elim (cases_eq i m) [ inl e ↦ absurd (d (ap (slice_index names) e)) | inr o ↦ omega (arith, l, o) ] in
                let old = h.seen i less in
                (old.0, at_other (slice_index names i) d ∙ old.1)
          ];
        }

  -- Its name has a place.
  module _ (p : ℕ) (at : place_at places (slice_index names m) ≡ Some p) where
    related : HaveOneName names (slice_index (class_at cs p) 0) m
    related = (h.placed (slice_index names m) p at).1

    inside : p < length cs
    inside = (h.placed (slice_index names m) p at).0

    first_stays : (q : ℕ) → q < length cs → slice_index (class_at (set cs p (class_at cs p ++ m ∷ [])) q) 0 ≡ slice_index (class_at cs q) 0
    first_stays q l =
        let more : q < length (set cs p (class_at cs p ++ m ∷ [])) = omega (arith, l, length-set cs p (class_at cs p ++ m ∷ [])) in
        let stay = firsts_stay m (HaveOneName names) (λ i j e. sym e) cs h.classes_are (λ i j l e d. e ∙ d) p inside related in
        sym (get_or-map (λ c. slice_index c 0) (set cs p (class_at cs p ++ m ∷ [])) q [] 0 more) ∙ ap (λ (xs : List ℕ). slice_index xs q) stay
        ∙ get_or-map (λ c. slice_index c 0) cs q [] 0 l

    pub grouped_old : (more : List (List ℕ)) → more ≡ set cs p (class_at cs p ++ m ∷ []) → AreGrouped names (m + 1) places more
    grouped_old more are = subst (λ (c : List (List ℕ)). AreGrouped names (m + 1) places c) (sym are) (record {
      count = h.count;
      classes_are = classes_more m (HaveOneName names) (λ i j e. sym e) cs h.classes_are (λ i j l e d. e ∙ d) p inside related;
      placed = λ name q e.
          let old = h.placed name q e in
          (omega (arith, old.0, length-set cs p (class_at cs p ++ m ∷ [])), ap (slice_index names) (first_stays q old.0) ∙ old.1);
      seen = λ i l. elim (cases_eq i m) [
        | inl e ↦ (p, ap (λ j. place_at places (slice_index names j)) e ∙ at)
        | inr d ↦ h.seen i (omega (arith, l, d))
      ];
    })

-- the classes of one relation under two names
pub classes_same : (n : ℕ) (R S : ℕ → ℕ → Type 0) → ((i j : ℕ) → i < n → j < n → R i j ↔ S i j) → (cs : List (List ℕ)) → AreClasses n R cs
    → AreClasses n S cs
classes_same n R S same cs h = record {
  not_empty = h.not_empty;
  below = h.below;
  ascend = h.ascend;
  in_order = h.in_order;
  every = h.every;
  related = λ p q i j a b.
      let by = same i j (member_below n R cs h p i a) (member_below n R cs h q j b) in
      (λ s. (h.related p q i j a b).0 (by.1 s), λ e. by.0 ((h.related p q i j a b).1 e));
}

-- what is held stays held with a number more
module _ (names : List ℕ) (m : ℕ) (places : List (Option ℕ)) (count : ℕ) (Held Holds : List (List ℕ) → Type 0) (h : AreCollected names m places count Held) where
  pub collected_old : (p : ℕ) → place_at places (slice_index names m) ≡ Some p
      → ((cs : List (List ℕ)) → Held cs → Holds (set cs p (class_at cs p ++ m ∷ []))) → AreCollected names (m + 1) places count Holds
  collected_old p at step = record {
    classes = set h.classes p (class_at h.classes p ++ m ∷ []);
    grouped = grouped_old names m places h.classes h.grouped p at (set h.classes p (class_at h.classes p ++ m ∷ [])) refl;
    counted = length-set h.classes p (class_at h.classes p ++ m ∷ []) ∙ h.counted;
    held = step h.classes h.held;
  }

  pub collected_new : place_at places (slice_index names m) ≡ None → slice_index names m < length names → (now : List (Option ℕ)) → now ≡ set places (slice_index names m) (Some count)
      → (more : ℕ) → more ≡ count + 1 → ((cs : List (List ℕ)) → Held cs → Holds (cs ++ (m ∷ []) ∷ [])) → AreCollected names (m + 1) now more Holds
  collected_new at small now is more next step = record {
    classes = h.classes ++ (m ∷ []) ∷ [];
    grouped = grouped_new names m places h.classes h.grouped at small now (is ∙ ap (λ (n : ℕ). set places (slice_index names m) (Some n)) (sym h.counted)) (h.classes ++ (m ∷ []) ∷ []) refl;
    counted = length_push h.classes (m ∷ []) ∙ omega (arith, h.counted, next);
    held = step h.classes h.held;
  }

pub collected_none : (names : List ℕ) (places : List (Option ℕ)) (Holds : List (List ℕ) → Type 0) → places ≡ replicate (length names) None → Holds [] → AreCollected names 0 places 0 Holds
collected_none names places Holds are empty = record {
  classes = [];
  grouped = subst (λ (ps : List (Option ℕ)). AreGrouped names 0 ps []) (sym are)
      (grouped_none names (replicate (length names) None) (length-replicate (length names) None) (λ name. none_at (length names) name));
  counted = refl;
  held = empty;
}
  where
    none_at : (n name : ℕ) → place_at (replicate n None) name ≡ None
    none_at n name = elim (cases_lt name n) [
      | inl l ↦ get_or-replicate n name None None l
      | inr past ↦ get_or_past (replicate n None) name None (subst (λ k. k ≤ name) (sym (length-replicate n None)) past)
    ]

-- a number is put at the end of a class
pub put_is : {X : Type 0} (f : X → List ℕ) (xs : List X) (p n : ℕ) (old new : X) → p < length xs → old ≡ slice_index_or xs p old → f new ≡ f old ++ n ∷ []
    → map f (set xs p new) ≡ set (map f xs) p (class_at (map f xs) p ++ n ∷ [])
put_is f xs p n old new l is e =
    map-set f xs p new ∙ ap (set (map f xs) p) (e ∙ ap (λ (c : List ℕ). c ++ n ∷ []) (ap f is ∙ sym (get_or-map f xs p old [] l)))
