-- What one turn of completion keeps: the rules and equations stay sound, and it comes nearer its end.
use Rattle.std.proofs.Common.{◌≡◌, ◌≢◌, ℕ, suc, ◌+◌, ◌*◌, ◌<◌, ◌≤◌, true, not, List, [], ◌∷◌, ◌++◌, length, get_or, Contains, refl, sym, ◌∙◌, ap, subst, subst₂, arith, ◌⊎◌, inl, inr, append_assoc, append-nil, length-append}
use Rattle.std.specs.List.{filter}
use Rattle.std.specs.List.Sorted.{IsPermutation}
use Rattle.std.proofs.Math.Seq.{get_or-append_seam}
use Rattle.std.proofs.Math.Nat.{mul-le-mul_right, suc-mul}
use Rattle.std.proofs.lemmas.Bool.{cases_Bool}
use Rattle.std.proofs.lemmas.List.{map-append}
use Rattle.std.proofs.lemmas.List.Elements.{All-contains, Contains-get_or, Contains-append_left, Contains-append_right, Contains-append_cases, Contains-push, Contains-push_cases}
use Rattle.std.proofs.lemmas.List.Filters.{length-filter_both}
use Rattle.std.proofs.lemmas.List.Sorted.{Contains-permutation, IsPermutation-sym, length_permutation}
use Rattle.theory.specs.Word.{Word, IsFactor, IsElement}
use Rattle.theory.specs.ShortLex.{◌≺◌}
use Rattle.theory.specs.Congruence.{Presentation, EitherWay, AreElements}
use Rattle.theory.specs.Completion.{Within, symmetric, transitive, relation, Reduces, IsReduced, Listed, AreRules}
use Rattle.theory.proofs.Words.{before_append_left, before_append_right}
use Rattle.theory.proofs.Counting.{in_from_contains, contains_from_in, IsIn}
use Rattle.theory.proofs.Related.{element_over}
use Rattle.theory.proofs.CompletionLaws.{within_left}
use Rattle.rewriting.proofs.Standing.{listed_falls, listed_at}
use Rattle.knuth_bendix.specs.Links.{Linked, IsBelow, IsShort, NoLater, IsNoMore, IsCovered, IsLinkedUp}
use Rattle.knuth_bendix.specs.Held.{Held, lefts, AreClear, AreAllClear, IsSound, held_of}
use Rattle.knuth_bendix.specs.declared.lengths.Lengths.TheVariants.{UpTo}
use Rattle.knuth_bendix.specs.Overlaps.{rule_at, AreShort, IsJoinedBy, Gains}
use Rattle.knuth_bendix.specs.Changes.{SetsAside, Rewrites, AddsRule, Joins}
use Rattle.knuth_bendix.specs.Remaining.{words_up_to, still_reduced}
use Rattle.knuth_bendix.specs.Runs.{growth, left_of, AreShortRelations}
use Rattle.knuth_bendix.proofs.LinkLaws.{linked_refl, linked_trans, linked_symm, linked_pair, linked_weaker, linked_more, linked_context, linked_covered, no_later_down, below_down, short_down, covered_more, covered_trans, reduces_linked, no_later_before, no_later_trans, reduces_no_later}
use Rattle.knuth_bendix.proofs.BoundedConfluence.{rules_from_links}
use Rattle.knuth_bendix.proofs.RemainingLaws.{still_falls, still_start}
use Rattle.rewriting.specs.Rules.{stands_in}
use Rattle.rewriting.proofs.Standing.{factor_trans, stands_at, stands_when}
use Rattle.knuth_bendix.proofs.ClearLists.{stands_in_itself, same_rule, clear_apart, clear_push, clear_filter, filter_in, in_filter}
use Rattle.knuth_bendix.proofs.JoinedOverlaps.{KnownBy, joined_linked, joined_parts, overlap_cases, split_within}
use Rattle.knuth_bendix.proofs.ListedRules.{rule_of_left, lefts_length, lefts_at, factor_applies}
use Rattle.knuth_bendix.proofs.FallingRules.{falling_reduces}
use Rattle.knuth_bendix.proofs.RuleChanges.{rewrites_cover}

-- rules whose right sides have been rewritten
module _ (old new : List (Word × Word)) (h : Rewrites old new) where
  falls_still : (f g : Word) → Listed new f g → g ≺ f
  falls_still = listed_falls new h.falling

  -- the rule from which one comes
  ancestor : (f g : Word) → Listed new f g → (g₀ : Word) × Listed old f g₀ × Linked (Listed new) (λ x. NoLater x g₀) g₀ g
  ancestor f g m =
      let inside : m.0 < length old = omega (arith, m.1, lefts_length old new h.lefts) in
      let at = listed_at new f g m in (
        (rule_at old m.0).1,
        subst (λ w. Listed old w (rule_at old m.0).1) (sym (lefts_at old new h.lefts m.0 m.1) ∙ ap (λ (r : Word × Word). r.0) at) (Contains-get_or old m.0 ([], []) inside),
        subst (λ w. Linked (Listed new) (λ x. NoLater x (rule_at old m.0).1) (rule_at old m.0).1 w) (ap (λ (r : Word × Word). r.1) at) (h.linked m.0 inside),
      )

  -- the rule that one became
  heir : (f g₀ : Word) → Listed old f g₀ → (g : Word) × Listed new f g × Linked (Listed new) (λ x. NoLater x g₀) g₀ g
  heir f g₀ m =
      let inside : m.0 < length new = omega (arith, m.1, lefts_length old new h.lefts) in
      let at = listed_at old f g₀ m in (
        (rule_at new m.0).1,
        subst (λ w. Listed new w (rule_at new m.0).1) (lefts_at old new h.lefts m.0 inside ∙ ap (λ (r : Word × Word). r.0) at) (Contains-get_or new m.0 ([], []) inside),
        subst (λ w. Linked (Listed new) (λ x. NoLater x w) w (rule_at new m.0).1) (ap (λ (r : Word × Word). r.1) at) (h.linked m.0 m.1),
      )

-- rules in whose left sides a word stands have come to the equations
module _ (left : Word) (rules kept old new : List (Word × Word)) (h : SetsAside left rules kept old new) where
  -- the rules that are equations now
  abbrev aside : List (Word × Word)
  aside = filter (λ r. stands_in left r.0) rules

  kept_rule : (f g : Word) → Listed kept f g → Listed rules f g × (IsFactor left f → ⊥)
  kept_rule f g m =
      let among = filter_in (λ (r : Word × Word). not (stands_in left r.0)) rules (f, g)
      (subst (λ xs. IsIn (f, g) xs) h.kept_is (in_from_contains (f, g) kept m)) in (
        contains_from_in (f, g) rules among.0,
        λ stands. let t : stands_in left f ≡ true = stands_when left f stands.before stands.after stands.is in let n = among.1 in cc,
      )

  -- each rule is kept, or it is an equation
  aside_cases : (f g : Word) → Listed rules f g → Listed kept f g ⊎ (Listed new f g × IsFactor left f)
  aside_cases f g m =
      let among = in_from_contains (f, g) rules m in
      elim (cases_Bool (stands_in left f)) [
        | inl e ↦
            let at = stands_at left f e in
            let there = contains_from_in (f, g) aside (in_filter (λ r. stands_in left r.0) rules (f, g) among e) in inr (
              Contains-permutation (old ++ aside) new (f, g) h.moved (Contains-append_right old aside (f, g) there),
              record { before = at.0; after = at.1; is = at.2 },
            )
        | inr e ↦
            let stays = filter (λ (r : Word × Word). not (stands_in left r.0)) rules in
            inl (subst (λ xs. Contains xs (f, g)) (sym h.kept_is)
            (contains_from_in (f, g) stays (in_filter (λ r. not (stands_in left r.0)) rules (f, g) among (ap not e))))
      ]

  older : (f g : Word) → Listed old f g → Listed new f g
  older f g m = Contains-permutation (old ++ aside) new (f, g) h.moved (Contains-append_left old aside (f, g) m)

  newer : (f g : Word) → Listed new f g → Listed old f g ⊎ Listed rules f g
  newer f g m = elim (Contains-append_cases old aside (f, g) (Contains-permutation new (old ++ aside) (f, g) (IsPermutation-sym (old ++ aside) new h.moved) m)) [
    | inl n ↦ inl n
    | inr n ↦ inr (contains_from_in (f, g) rules (filter_in (λ (r : Word × Word). stands_in left r.0) rules (f, g) (in_from_contains (f, g) aside n)).0)
  ]

  -- and none is both
  counted : length kept + length new ≡ length old + length rules
  counted =
      let both = length-filter_both (λ (r : Word × Word). stands_in left r.0) (λ r. not (stands_in left r.0)) (λ r. refl) rules in
      omega (arith, both, ap length h.kept_is, length_permutation (old ++ aside) new h.moved, length-append old aside)

-- both sides of rules that hold within a length fit
within_short : (p : Presentation) (L : ℕ) (rules : List (Word × Word)) → ((f g : Word) → Listed rules f g → Within p L f g) → AreShort L rules
within_short p L rules related k d inside =
    let fits = within_left p L (related (get_or rules k d).0 (get_or rules k d).1 (Contains-get_or rules k d inside)) in
    (fits.0.short, fits.1.short)

pub sound_short : (p : Presentation) (L : ℕ) (h : Held) → IsSound p L h → AreShort L h.rules
sound_short p L h sound = within_short p L h.rules (λ f g m. sound.within f g (inl m))

-- A rule is added to sound rules, in place of an equation whose sides they lead to its sides.
module _ (p : Presentation) (L : ℕ) (rules equations new_rules new_equations : List (Word × Word)) (u v l r : Word)
    (sound : IsSound p L (record { rules = rules; equations = (u, v) ∷ equations })) (down_left : Reduces (Listed rules) u l)
    (down_right : Reduces (Listed rules) v r) (end_left : IsReduced (Listed rules) l) (end_right : IsReduced (Listed rules) r) (less : r ≺ l)
    (adds : AddsRule L l r (held_of rules equations) (held_of new_rules new_equations)) where
  -- the rules before right sides are rewritten
  abbrev pushed : List (Word × Word)
  pushed = adds.kept ++ (l, r) ∷ []

  rules_within : (f g : Word) → Listed rules f g → Within p L f g
  rules_within f g m = sound.within f g (inl m)

  sides_within : Within p L l r
  sides_within =
      let given : Within p L u v = sound.within u v (inr (contains_from_in (u, v) ((u, v) ∷ equations) (inl refl))) in
      let fits = within_left p L given in
      transitive (symmetric (falling_reduces p L (Listed rules) sound.falls rules_within u l fits.0 down_left))
      (transitive given (falling_reduces p L (Listed rules) sound.falls rules_within v r fits.1 down_right))

  newest_listed : Listed pushed l r
  newest_listed = Contains-push adds.kept (l, r)

  -- a rule before right sides are rewritten
  pushed_cases : (f g : Word) → Listed pushed f g → (Listed rules f g × Listed adds.kept f g × (IsFactor l f → ⊥)) ⊎ ((l ≡ f) × (r ≡ g))
  pushed_cases f g m = elim (Contains-push_cases adds.kept (l, r) (f, g) m) [
    | inl k ↦ let both = kept_rule l rules adds.kept equations adds.between adds.aside f g k in inl (both.0, k, both.1)
    | inr e ↦ inr (ap (λ (q : Word × Word). q.0) e, ap (λ (q : Word × Word). q.1) e)
  ]

  pushed_within : (f g : Word) → Listed pushed f g → Within p L f g
  pushed_within f g m = elim (pushed_cases f g m) [
    | inl k ↦ rules_within f g k.0
    | inr e ↦ subst₂ (λ a b. Within p L a b) e.0 e.1 sides_within
  ]

  new_falls : (f g : Word) → Listed new_rules f g → g ≺ f
  new_falls = falls_still pushed new_rules adds.rewrites

  new_within : (f g : Word) → Listed new_rules f g → Within p L f g
  new_within = adds.rewrites.within p L pushed_within

  new_short : AreShort L new_rules
  new_short = within_short p L new_rules new_within

  gains : Gains (UpTo L) new_rules adds.between new_equations (length new_rules * (L + L))
  gains = adds.gains L new_short

  known_within : (f g : Word) → KnownBy new_rules new_equations f g → Within p L f g
  known_within f g (inl m) = new_within f g m
  known_within f g (inr m) = elim (gains.newer f g m) [
    | inr split ↦ split_within p L new_rules new_falls new_within f g split
    | inl old ↦ elim (newer l rules adds.kept equations adds.between adds.aside f g old) [
      | inr n ↦ rules_within f g n
      | inl n ↦ sound.within f g (inr (contains_from_in (f, g) ((u, v) ∷ equations) (inr (in_from_contains (f, g) equations n))))
    ]
  ]

  new_clear : AreAllClear (lefts new_rules)
  new_clear =
      subst AreAllClear (sym (adds.rewrites.lefts ∙ map-append (λ (q : Word × Word). q.0) adds.kept ((l, r) ∷ [])))
      (clear_push (lefts adds.kept) l kept_clear each)
    where
      kept_clear : AreAllClear (lefts adds.kept)
      kept_clear = subst (λ (xs : List (Word × Word)). AreAllClear (lefts xs)) (sym adds.aside.kept_is) (clear_filter (λ q. not (stands_in l q.0)) rules sound.clear)

      each : (f : Word) → IsIn f (lefts adds.kept) → AreClear f l
      each f m =
          let rule = rule_of_left f adds.kept m in
          let known = kept_rule l rules adds.kept equations adds.between adds.aside f rule.0 (contains_from_in (f, rule.0) adds.kept rule.1) in
          record { there = λ stands. factor_applies rules l f rule.0 known.0 stands end_left; back = known.1 }

  -- a reduced word in which the new left side does not stand stays reduced
  stays_reduced : (x : Word) → IsReduced (Listed rules) x → (IsFactor l x → ⊥) → IsReduced (Listed new_rules) x
  stays_reduced x reduced none w s =
      let was = ancestor pushed new_rules adds.rewrites s.from s.to s.base in
      let at : IsFactor s.from x = record { before = s.before; after = s.after; is = s.source } in
      elim (pushed_cases s.from was.0 was.1) [
        | inl k ↦ factor_applies rules x s.from was.0 k.0 at reduced
        | inr e ↦ none (subst (λ f. IsFactor f x) (sym e.0) at)
      ]

  was_reduced : (x : Word) → IsReduced (Listed new_rules) x → IsReduced (Listed rules) x
  was_reduced x reduced w s =
      let at : IsFactor s.from x = record { before = s.before; after = s.after; is = s.source } in
      elim (aside_cases l rules adds.kept equations adds.between adds.aside s.from s.to s.base) [
        | inl k ↦
            let next = heir pushed new_rules adds.rewrites s.from s.to (Contains-append_left adds.kept ((l, r) ∷ []) (s.from, s.to) k) in
            factor_applies new_rules x s.from next.0 next.1 at reduced
        | inr n ↦
            let next = heir pushed new_rules adds.rewrites l r newest_listed in
            factor_applies new_rules x l next.0 next.1 (factor_trans l s.from x n.1 at) reduced
      ]

  not_reduced : ¬ (IsReduced (Listed new_rules) l)
  not_reduced reduced =
      let next = heir pushed new_rules adds.rewrites l r newest_listed in
      factor_applies new_rules l l next.0 next.1 (stands_in_itself l) reduced

  new_reduced : (f g : Word) → Listed new_rules f g → IsReduced (Listed new_rules) g
  new_reduced f g m = elim (adds.done m.0 m.1) [
    | inl here ↦ subst (λ w. IsReduced (Listed new_rules) w) (ap (λ (q : Word × Word). q.1) (listed_at new_rules f g m)) here
    | inr kept ↦ unchanged (sym kept.0 ∙ listed_at new_rules f g m) kept.1
  ]
    where
      inside : m.0 < length pushed
      inside = omega (arith, m.1, lefts_length pushed new_rules adds.rewrites.lefts)

      unchanged : rule_at pushed m.0 ≡ (f, g) → (IsFactor l (rule_at pushed m.0).1 → ⊥) → IsReduced (Listed new_rules) g
      unchanged e none =
          let listed : Listed pushed f g = subst (λ (q : Word × Word). Contains pushed q) e (Contains-get_or pushed m.0 ([], []) inside) in
          let free : IsFactor l g → ⊥ = subst (λ (q : Word × Word). IsFactor l q.1 → ⊥) e none in
          stays_reduced g (elim (pushed_cases f g listed) [
            | inl k ↦ sound.reduced f g k.0
            | inr d ↦ subst (λ w. IsReduced (Listed rules) w) d.1 end_right
          ]) free

  fewer : still_reduced p.letters L new_rules < still_reduced p.letters L rules
  fewer =
      let fits = (within_left p L sides_within).0 in
      still_falls p.letters L rules new_rules was_reduced l fits.over fits.short end_left not_reduced

  new_count : length new_rules + still_reduced p.letters L new_rules ≤ length (words_up_to p.letters L)
  new_count =
      omega (arith, fewer, sound.count, lefts_length pushed new_rules adds.rewrites.lefts, length-append adds.kept ((l, r) ∷ []), counted l rules adds.kept equations adds.between adds.aside, more)
    where
      more : length equations ≤ length adds.between
      more =
          let gone = filter (λ (q : Word × Word). stands_in l q.0) rules in
          omega (arith, length_permutation (equations ++ gone) adds.between adds.aside.moved, length-append equations gone)

  abbrev before : Word → Word → Type 0
  before = KnownBy rules ((u, v) ∷ equations)

  abbrev after : Word → Word → Type 0
  after = KnownBy new_rules new_equations

  pushed_covered : IsCovered (Listed pushed) after
  pushed_covered =
      covered_trans (Listed pushed) (Listed new_rules) after (rewrites_cover pushed new_rules adds.rewrites)
      (covered_more (Listed new_rules) after (λ f g m. inl m))

  rules_covered : IsCovered (Listed rules) after
  rules_covered f g m = elim (aside_cases l rules adds.kept equations adds.between adds.aside f g m) [
    | inl k ↦ pushed_covered f g (Contains-append_left adds.kept ((l, r) ∷ []) (f, g) k)
    | inr n ↦ linked_pair after (IsNoMore f g) f g (inl (inr refl)) (inr (inr refl)) (inr (gains.older f g n.0))
  ]

  pair_covered : Linked after (IsNoMore u v) u v
  pair_covered =
      linked_trans after (IsNoMore u v) u l v (linked_weaker after (λ x. NoLater x u) (IsNoMore u v) (λ x h. inl h) u l (down u l down_left))
      (linked_trans after (IsNoMore u v) l r v (linked_weaker after (IsNoMore l r) (IsNoMore u v) across l r (pushed_covered l r newest_listed))
      (linked_symm after (IsNoMore u v) v r (linked_weaker after (λ x. NoLater x v) (IsNoMore u v) (λ x h. inr h) v r (down v r down_right))))
    where
      down : (x z : Word) → Reduces (Listed rules) x z → Linked after (λ t. NoLater t x) x z
      down x z d =
          linked_covered (Listed rules) after rules_covered (λ t. NoLater t x) (no_later_down x) x z
          (reduces_linked (Listed rules) sound.falls x z d)

      -- a word no later than one to which the rules lead
      later : (x z t : Word) → Reduces (Listed rules) x z → NoLater t z → NoLater t x
      later x z t d h = no_later_trans t z x h (reduces_no_later (Listed rules) sound.falls x z d)

      across : (t : Word) → IsNoMore l r t → IsNoMore u v t
      across t (inl h) = inl (later u l t down_left h)
      across t (inr h) = inr (later v r t down_right h)

  all_covered : IsCovered before after
  all_covered f g (inl m) = rules_covered f g m
  all_covered f g (inr m) = elim (in_from_contains (f, g) ((u, v) ∷ equations) m) [
    | inl e ↦ subst (λ (q : Word × Word). Linked after (IsNoMore q.0 q.1) q.0 q.1) (sym e) pair_covered
    | inr n ↦
        linked_pair after (IsNoMore f g) f g (inl (inr refl)) (inr (inr refl))
        (inr (gains.older f g (older l rules adds.kept equations adds.between adds.aside f g (contains_from_in (f, g) equations n))))
  ]

  -- a new rule comes of one that was kept, or it is the newest
  new_cases : (f g : Word) → Listed new_rules f g
      → ((g₀ : Word) × Listed rules f g₀ × Linked (Listed new_rules) (λ x. NoLater x g₀) g₀ g) ⊎ (rule_at new_rules (length adds.kept) ≡ (f, g))
  new_cases f g m =
      let was = ancestor pushed new_rules adds.rewrites f g m in
      elim (pushed_cases f was.0 was.1) [
        | inl k ↦ inl (was.0, k.0, was.2)
        | inr e ↦ inr (newest e.0)
      ]
    where
      newest : l ≡ f → rule_at new_rules (length adds.kept) ≡ (f, g)
      newest e =
          let at = rule_at new_rules (length adds.kept) in
          let inside : length adds.kept < length new_rules =
          omega (arith, lefts_length pushed new_rules adds.rewrites.lefts, length-append adds.kept ((l, r) ∷ [])) in
          let left : at.0 ≡ f =
          lefts_at pushed new_rules adds.rewrites.lefts (length adds.kept) inside
          ∙ ap (λ (q : Word × Word). q.0) (get_or-append_seam adds.kept (l, r) [] ([], [])) ∙ e in
          same_rule new_rules new_clear at (f, g) (in_from_contains at new_rules (Contains-get_or new_rules (length adds.kept) ([], []) inside))
          (in_from_contains (f, g) new_rules m) (subst (λ w. IsFactor f w) (sym left) (stands_in_itself f))

  -- overlaps of two rules that were kept
  kept_overlap : (a b c v₁ w₁ v₂ w₂ : Word) → b ≢ [] → length (a ++ (b ++ c)) ≤ L → Listed rules (a ++ b) v₁ → Listed rules (b ++ c) w₁
      → Linked (Listed new_rules) (λ x. NoLater x v₁) v₁ v₂ → Linked (Listed new_rules) (λ x. NoLater x w₁) w₁ w₂
      → Linked after (IsBelow (a ++ (b ++ c))) (v₂ ++ c) (a ++ w₂)
  kept_overlap a b c v₁ w₁ v₂ w₂ full short m n left right =
      linked_trans after below (v₂ ++ c) (v₁ ++ c) (a ++ w₂)
      (linked_symm after below (v₁ ++ c) (v₂ ++ c)
      (linked_more (Listed new_rules) after below (λ f g k. inl k) (v₁ ++ c) (v₂ ++ c)
      (linked_context (Listed new_rules) (λ x. NoLater x v₁) below [] c front v₁ v₂ left)))
      (linked_trans after below (v₁ ++ c) (a ++ w₁) (a ++ w₂)
      (linked_covered before after all_covered below (below_down (a ++ (b ++ c))) (v₁ ++ c) (a ++ w₁)
      (sound.overlaps a b c v₁ w₁ full m n short))
      (linked_more (Listed new_rules) after below (λ f g k. inl k) (a ++ w₁) (a ++ w₂)
      (subst₂ (λ s t. Linked (Listed new_rules) below (a ++ s) (a ++ t)) (append-nil w₁) (append-nil w₂)
      (linked_context (Listed new_rules) (λ x. NoLater x w₁) below a [] back w₁ w₂ right))))
    where
      below : Word → Type 0
      below = IsBelow (a ++ (b ++ c))

      front : (t : Word) → NoLater t v₁ → below ([] ++ (t ++ c))
      front t h =
          subst (λ w. (t ++ c) ≺ w) (append_assoc a b c) (before_append_right t (a ++ b) c (no_later_before t v₁ (a ++ b) h (sound.falls (a ++ b) v₁ m)))

      back : (t : Word) → NoLater t w₁ → below (a ++ (t ++ []))
      back t h =
          subst (λ w. (a ++ w) ≺ (a ++ (b ++ c))) (sym (append-nil t))
          (before_append_left a t (b ++ c) (no_later_before t w₁ (b ++ c) h (sound.falls (b ++ c) w₁ n)))

  new_overlaps : (a b c x y : Word) → b ≢ [] → Listed new_rules (a ++ b) x → Listed new_rules (b ++ c) y → length (a ++ (b ++ c)) ≤ L
      → Linked after (IsBelow (a ++ (b ++ c))) (x ++ c) (a ++ y)
  new_overlaps a b c x y full m n short = elim (overlap_cases new_rules new_clear a b c x y m n) [
    | inl e ↦ subst (λ t. Linked after (IsBelow (a ++ (b ++ c))) (x ++ c) t) e (linked_refl after (IsBelow (a ++ (b ++ c))) (x ++ c))
    | inr some ↦ elim (new_cases (a ++ b) x m) [
      | inr e ↦ met (joined_parts (UpTo L) new_rules new_equations newest (rule_at new_rules n.0) (adds.joined n.0 n.1).0 a b c x y full some.0 some.1 short e (listed_at new_rules (b ++ c) y n))
      | inl k ↦ elim (new_cases (b ++ c) y n) [
        | inr e ↦ met (joined_parts (UpTo L) new_rules new_equations (rule_at new_rules m.0) newest (adds.joined m.0 m.1).1 a b c x y full some.0 some.1 short (listed_at new_rules (a ++ b) x m) e)
        | inl j ↦ kept_overlap a b c k.0 j.0 x y full short k.1 j.1 k.2 j.2
      ]
    ]
  ]
    where
      newest : Word × Word
      newest = rule_at new_rules (length adds.kept)

      met : IsJoinedBy new_rules new_equations (x ++ c) (a ++ y) → Linked after (IsBelow (a ++ (b ++ c))) (x ++ c) (a ++ y)
      met =
          joined_linked new_rules new_equations new_falls (a ++ (b ++ c)) (x ++ c) (a ++ y)
          (subst (λ w. (x ++ c) ≺ w) (append_assoc a b c) (before_append_right x (a ++ b) c (new_falls (a ++ b) x m)))
          (before_append_left a y (b ++ c) (new_falls (b ++ c) y n))

  added_sound : IsSound p L (record { rules = new_rules; equations = new_equations })
  added_sound = record {
    falls = new_falls;
    within = known_within;
    clear = new_clear;
    reduced = new_reduced;
    overlaps = new_overlaps;
    relations = λ s t e left right. linked_covered before after all_covered (IsShort L) (short_down L) s t (sound.relations s t e left right);
    count = new_count;
  }

  few_equations : length new_equations ≤ length adds.between + length new_rules * (L + L)
  few_equations = gains.few

  added_nearer : left_of p L new_rules new_equations < left_of p L rules ((u, v) ∷ equations)
  added_nearer =
      numbers (still_reduced p.letters L new_rules) (still_reduced p.letters L rules) (length (words_up_to p.letters L)) (L + L) (length new_rules) (length rules) (length adds.between) (length equations) (length new_equations)
      fewer (omega (arith, new_count)) (omega (arith, sound.count)) (omega (arith, counted l rules adds.kept equations adds.between adds.aside)) few_equations
    where
      numbers : (s t w k n m b e f : ℕ) → s < t → n ≤ w → m ≤ w → b ≤ e + m → f ≤ b + n * k → s * (w + w * k + 1) + f < t * (w + w * k + 1) + suc e
      numbers s t w k n m b e f less few none between most =
          let one : suc s * (w + w * k + 1) ≤ t * (w + w * k + 1) = mul-le-mul_right (w + w * k + 1) (omega (arith, less)) in
          let two : n * k ≤ w * k = mul-le-mul_right k few in
          omega (arith, one, two, most, between, none, suc-mul s (w + w * k + 1))

-- sound rules stay so with other equations that cover those that were there
sound_equations : (p : Presentation) (L : ℕ) (rules old new : List (Word × Word)) → IsSound p L (record { rules = rules; equations = old })
    → ((f g : Word) → Listed new f g → Within p L f g) → IsCovered (KnownBy rules old) (KnownBy rules new)
    → IsSound p L (record { rules = rules; equations = new })
sound_equations p L rules old new sound within covered = record {
  falls = sound.falls;
  within = λ f g m. elim m [ inl n ↦ sound.within f g (inl n) | inr n ↦ within f g n ];
  clear = sound.clear;
  reduced = sound.reduced;
  overlaps = λ a b c v w full m n short. linked_covered (KnownBy rules old) (KnownBy rules new) covered (IsBelow (a ++ (b ++ c))) (below_down (a ++ (b ++ c))) (v ++ c) (a ++ w)
      (sound.overlaps a b c v w full m n short);
  relations = λ r s e left right. linked_covered (KnownBy rules old) (KnownBy rules new) covered (IsShort L) (short_down L) r s
      (sound.relations r s e left right);
  count = sound.count;
}

-- sound equations stay so in another order
pub moved_sound : (p : Presentation) (L : ℕ) (rules old new : List (Word × Word)) → IsPermutation old new
    → IsSound p L (record { rules = rules; equations = old }) → IsSound p L (record { rules = rules; equations = new })
moved_sound p L rules old new moved sound =
    sound_equations p L rules old new sound
    (λ f g m. sound.within f g (inr (Contains-permutation new old (f, g) (IsPermutation-sym old new moved) m)))
    (λ f g m. linked_pair (KnownBy rules new) (IsNoMore f g) f g (inl (inr refl)) (inr (inr refl)) (there f g m))
  where
    there : (f g : Word) → KnownBy rules old f g → KnownBy rules new f g
    there f g (inl m) = inl m
    there f g (inr m) = inr (Contains-permutation old new (f, g) moved m)

module _ (p : Presentation) (L : ℕ) (rules equations : List (Word × Word)) (u v : Word) (sound : IsSound p L (record { rules = rules; equations = (u, v) ∷ equations })) where
  rest_within : (f g : Word) → Listed equations f g → Within p L f g
  rest_within f g m = sound.within f g (inr (contains_from_in (f, g) ((u, v) ∷ equations) (inr (in_from_contains (f, g) equations m))))

  -- what covers the first equation and has the others covers all
  first_covered : (new : List (Word × Word)) → ((f g : Word) → Listed equations f g → Listed new f g)
      → Linked (KnownBy rules new) (IsNoMore u v) u v → IsCovered (KnownBy rules ((u, v) ∷ equations)) (KnownBy rules new)
  first_covered new more linked f g (inl m) =
      linked_pair (KnownBy rules new) (IsNoMore f g) f g (inl (inr refl)) (inr (inr refl)) (inl m)
  first_covered new more linked f g (inr m) = elim (in_from_contains (f, g) ((u, v) ∷ equations) m) [
    | inl e ↦ subst (λ (q : Word × Word). Linked (KnownBy rules new) (IsNoMore q.0 q.1) q.0 q.1) (sym e) linked
    | inr n ↦
        linked_pair (KnownBy rules new) (IsNoMore f g) f g (inl (inr refl)) (inr (inr refl))
        (inr (more f g (contains_from_in (f, g) equations n)))
  ]

  -- an equation whose sides the rules lead to one word is not needed
  dropped_sound : (w : Word) → Reduces (Listed rules) u w → Reduces (Listed rules) v w → IsSound p L (record { rules = rules; equations = equations })
  dropped_sound w left right =
      sound_equations p L rules ((u, v) ∷ equations) equations sound rest_within
      (first_covered equations (λ f g m. m)
      (linked_trans (KnownBy rules equations) (IsNoMore u v) u w v (down u (λ t h. inl h) left)
      (linked_symm (KnownBy rules equations) (IsNoMore u v) v w (down v (λ t h. inr h) right))))
    where
      down : (x : Word) → ((t : Word) → NoLater t x → IsNoMore u v t) → Reduces (Listed rules) x w
          → Linked (KnownBy rules equations) (IsNoMore u v) x w
      down x more r =
          linked_weaker (KnownBy rules equations) (λ t. NoLater t x) (IsNoMore u v) more x w
          (linked_more (Listed rules) (KnownBy rules equations) (λ t. NoLater t x) (λ f g m. inl m) x w (reduces_linked (Listed rules) sound.falls x w r))

  -- an equation may be turned round
  turned_sound : IsSound p L (record { rules = rules; equations = (v, u) ∷ equations })
  turned_sound =
      sound_equations p L rules ((u, v) ∷ equations) ((v, u) ∷ equations) sound within
      (first_covered ((v, u) ∷ equations)
      (λ f g m. contains_from_in (f, g) ((v, u) ∷ equations) (inr (in_from_contains (f, g) equations m)))
      (linked_symm (KnownBy rules ((v, u) ∷ equations)) (IsNoMore u v) v u
      (linked_pair (KnownBy rules ((v, u) ∷ equations)) (IsNoMore u v) v u (inr (inr refl)) (inl (inr refl))
      (inr (contains_from_in (v, u) ((v, u) ∷ equations) (inl refl))))))
    where
      within : (f g : Word) → Listed ((v, u) ∷ equations) f g → Within p L f g
      within f g m = elim (in_from_contains (f, g) ((v, u) ∷ equations) m) [
        | inl e ↦
            subst (λ (q : Word × Word). Within p L q.0 q.1) (sym e)
            (symmetric (sound.within u v (inr (contains_from_in (u, v) ((u, v) ∷ equations) (inl refl)))))
        | inr n ↦ rest_within f g (contains_from_in (f, g) equations n)
      ]

-- a turn leaves sound rules and equations
pub joins_sound : (p : Presentation) (L : ℕ) (rules equations new_rules new_equations : List (Word × Word)) (u v : Word)
    → IsSound p L (record { rules = rules; equations = (u, v) ∷ equations })
    → Joins L u v (held_of rules equations) (held_of new_rules new_equations)
    → IsSound p L (record { rules = new_rules; equations = new_equations })
joins_sound p L rules equations new_rules new_equations u v sound h = elim (h.then) [
  | inl e ↦
      subst₂ (λ (rs es : List (Word × Word)). IsSound p L (record { rules = rs; equations = es })) (sym e.1) (sym e.2)
      (dropped_sound p L rules equations u v sound h.right (subst (λ w. Reduces (Listed rules) u w) e.0 h.down_left) h.down_right)
  | inr (inl a) ↦
      added_sound p L rules equations new_rules new_equations u v h.left h.right sound h.down_left h.down_right h.end_left h.end_right a.0 a.1
  | inr (inr a) ↦
      added_sound p L rules equations new_rules new_equations v u h.right h.left (turned_sound p L rules equations u v sound) h.down_right h.down_left h.end_right h.end_left a.0 a.1
]

-- and comes nearer the end
pub joins_nearer : (p : Presentation) (L : ℕ) (rules equations new_rules new_equations : List (Word × Word)) (u v : Word)
    → IsSound p L (record { rules = rules; equations = (u, v) ∷ equations })
    → Joins L u v (held_of rules equations) (held_of new_rules new_equations)
    → left_of p L new_rules new_equations < left_of p L rules ((u, v) ∷ equations)
joins_nearer p L rules equations new_rules new_equations u v sound h = elim (h.then) [
  | inl e ↦
      subst₂ (λ (rs es : List (Word × Word)). left_of p L rs es < left_of p L rules ((u, v) ∷ equations)) (sym e.1) (sym e.2)
      (one_less (still_reduced p.letters L rules * growth p.letters L) (length equations))
  | inr (inl a) ↦
      added_nearer p L rules equations new_rules new_equations u v h.left h.right sound h.down_left h.down_right h.end_left h.end_right a.0 a.1
  | inr (inr a) ↦
      added_nearer p L rules equations new_rules new_equations v u h.right h.left (turned_sound p L rules equations u v sound) h.down_right h.down_left h.end_right h.end_left a.0 a.1
]
  where
    one_less : (n e : ℕ) → n + e < n + suc e
    one_less n e = omega arith

-- at the start there are no rules, and the relations that fit are the equations
pub start_sound : (p : Presentation) (L : ℕ) (equations : List (Word × Word)) → AreElements p.is_monoid p.letters p.relations
    → AreShortRelations L p.relations equations → IsSound p L (record { rules = []; equations = equations })
start_sound p L equations over short = record {
  falls = λ f g m. absurd (in_from_contains (f, g) [] m);
  within = λ f g m. elim m [ inl n ↦ absurd (in_from_contains (f, g) [] n) | inr n ↦ related f g n ];
  clear = tt;
  reduced = λ f g m. absurd (in_from_contains (f, g) [] m);
  overlaps = λ a b c v w full m n fits. absurd (in_from_contains (a ++ b, v) [] m);
  relations = linked;
  count = omega (arith, still_start p.letters L);
}
  where
    related : (f g : Word) → Listed equations f g → Within p L f g
    related f g m =
        let known = short.are f g m in
        let sides = All-contains (λ (q : Word × Word). IsElement p.is_monoid p.letters q.0 × IsElement p.is_monoid p.letters q.1) p.relations (f, g) over known.0 in
        relation (inl known.0) (record { over = element_over p.is_monoid p.letters f sides.0; short = known.1 })
        (record { over = element_over p.is_monoid p.letters g sides.1; short = known.2 })

    linked : (r s : Word) → EitherWay p.relations r s → length r ≤ L → length s ≤ L → Linked (KnownBy [] equations) (IsShort L) r s
    linked r s (inl m) left right = linked_pair (KnownBy [] equations) (IsShort L) r s left right (inr (short.all r s m left right))
    linked r s (inr m) left right =
        linked_symm (KnownBy [] equations) (IsShort L) s r
        (linked_pair (KnownBy [] equations) (IsShort L) s r right left (inr (short.all s r m right left)))

-- sound rules with no equations are linked up
pub sound_linked_up : (p : Presentation) (L : ℕ) (rules : List (Word × Word)) → IsSound p L (record { rules = rules; equations = [] })
    → IsLinkedUp p L (Listed rules) rules
sound_linked_up p L rules sound = record {
  falls = sound.falls;
  apart = clear_apart rules sound.clear;
  overlaps = λ a b c v w full m n short. linked_more (KnownBy rules []) (Listed rules) (IsBelow (a ++ (b ++ c))) listed (v ++ c) (a ++ w)
      (sound.overlaps a b c v w full m n short);
  relations = λ r s e left right. linked_more (KnownBy rules []) (Listed rules) (IsShort L) listed r s (sound.relations r s e left right);
}
  where
    listed : (f g : Word) → KnownBy rules [] f g → Listed rules f g
    listed f g (inl m) = m
    listed f g (inr m) = absurd (in_from_contains (f, g) [] m)

-- and are the rules within the bound
pub sound_rules : (p : Presentation) (L : ℕ) (rules : List (Word × Word)) → IsSound p L (record { rules = rules; equations = [] })
    → AreRules p L rules
sound_rules p L rules sound =
    rules_from_links p L rules (sound_linked_up p L rules sound) (λ f g m. sound.within f g (inl m)) sound.reduced
