-- The rules of the places of a list are the reduced rules, where the classes are kept in every
-- context.
use Rattle.std.proofs.Common.{◌≡◌, ◌≢◌, ◌↔◌, ℕ, zero, suc, ◌<◌, ◌==◌, Bool, true, false, not, eqb, IsTrue, List, [], ◌∷◌, ◌++◌, length, drop, refl, sym, ◌∙◌, ap, subst, arith, ◌⊎◌, inl, inr, None, append_assoc, append-nil, length-append}
use Rattle.std.specs.Cmp.Lexicographic.{pointwise}
use Rattle.std.proofs.lemmas.Bool.{eqb-true}
use Rattle.std.proofs.lemmas.Bool.Decides.{Decides-eqb}
use Rattle.std.proofs.lemmas.List.{nil_from_length}
use Rattle.std.proofs.lemmas.Slice.Eq.{slice_eq-Decides}
use Rattle.theory.specs.Word.{Word, IsOver, IsElement}
use Rattle.theory.specs.ShortLex.{◌≺◌}
use Rattle.theory.specs.Congruence.{EitherWay, is_two_sided}
use Rattle.theory.specs.Chain.{Joined, Step, StepBy}
use Rattle.theory.specs.Class.{Among, IsLeast, IsNormal, IsReducedRule, RuleBefore, IsRuleList}
use Rattle.theory.specs.declared.Kind.{Kind}
use Rattle.theory.specs.declared.Kind.TheVariants.{TwoSided, Right, Left}
use Rattle.theory.proofs.Words.{before_irrefl, order_cases, over_append, over_left, over_right}
use Rattle.theory.proofs.Chains.{joined_map, step_kept}
use Rattle.theory.proofs.Related.{element_over, nonempty_element, none_either}
use Rattle.theory.proofs.Completeness.{normal_unique}
use Rattle.theory.proofs.FactsLaws.{last_letter}
use Rattle.theory.proofs.ReducedRules.{greater_full}
use Rattle.theory.proofs.ClassLaws.{IsPartialEquivalence, least_part, rule_order}
use Rattle.theory.proofs.Counting.{in_from_contains, contains_from_in}
use Rattle.theory.proofs.Listings.{list_from_ascending}
use Rattle.problem.specs.declared.kinds.Problem.{Problem}
use Rattle.problem.specs.declared.kinds.Problem.TheVariants.{Presented, Transf, PPerm, BMat, MaxPlus}
use Rattle.problem.specs.Problem.{SameClassOf, SameValueOf, allows_rules, are_two_sided, count_of, kind_of, pairs_of}
use Rattle.congruence_classes.specs.ClassLists.{ClassList, IsListing, IsSolution}
use Rattle.congruence_classes.specs.ListedRules.{normal_of, Falls, GoesOn, IsReducedList, IsRuleAt, IsRuleOf, AreRulesTo, rest_place, step}
use Rattle.congruence_classes.proofs.ClassListLaws.{first_small}
use Rattle.congruence_classes.proofs.AnswerLaws.{known, normal_word, least_place, some}

-- where pairs are two-sided, or there are none, chains are kept in every context
joined_within : (B : Word → Word → Type 0) (kind : Kind) (pairs : List (Word × Word)) → are_two_sided kind pairs ≡ true → (x y u v : Word)
    → Joined (StepBy B kind pairs) u v → Joined (StepBy B kind pairs) (x ++ (u ++ y)) (x ++ (v ++ y))
joined_within B kind pairs two x y = joined_map (StepBy B kind pairs) (StepBy B kind pairs) (λ w. x ++ (w ++ y)) one
  where
    none : (pairs : List (Word × Word)) → (length pairs == 0) ≡ true → (r s : Word) → EitherWay pairs r s → ⊥
    none [] e r s h = none_either r s h
    none (p ∷ pairs) e r s h = omega (arith, eqb-true (length (p ∷ pairs)) 0 e)

    by_pair : (kind : Kind) → are_two_sided kind pairs ≡ true → (u v : Word) → Step (EitherWay pairs) kind u v
        → Step (EitherWay pairs) kind (x ++ (u ++ y)) (x ++ (v ++ y))
    by_pair TwoSided two u v b = step_kept (EitherWay pairs) TwoSided u v x y b tt
    by_pair Right two u v b = absurd (none pairs two b.from b.to b.base)
    by_pair Left two u v b = absurd (none pairs two b.from b.to b.base)

    one : (u v : Word) → StepBy B kind pairs u v → StepBy B kind pairs (x ++ (u ++ y)) (x ++ (v ++ y))
    one u v s = elim s [ inl a ↦ inl (step_kept B TwoSided u v x y a tt) | inr b ↦ inr (by_pair kind two u v b) ]

-- where part of a word is an element, the word is
element_within : (b : Bool) (k : ℕ) (x f y : Word) → IsOver k x → IsElement b k f → IsOver k y → IsElement b k (x ++ (f ++ y))
element_within true k x f y before part after = over_append k x (f ++ y) before (over_append k f y part after)
element_within false k x f y before part after = (
  λ e. part.0 (nil_from_length f (omega (arith, ap length e, length-append x (f ++ y), length-append f y))),
  over_append k x (f ++ y) before (over_append k f y part.1 after),
)

-- and so is what they join
joined_elements : (b : Bool) (k : ℕ) (B : Word → Word → Type 0) (kind : Kind) (pairs : List (Word × Word)) → are_two_sided kind pairs ≡ true
    → (x y u v : Word) → IsOver k x → IsOver k y → Among (IsElement b k) (Joined (StepBy B kind pairs)) u v
    → Among (IsElement b k) (Joined (StepBy B kind pairs)) (x ++ (u ++ y)) (x ++ (v ++ y))
joined_elements b k B kind pairs two x y u v before after h = record {
  left = element_within b k x u y before h.left after;
  right = element_within b k x v y before h.right after;
  related = joined_within B kind pairs two x y u v h.related;
}

-- rules are allowed where the pairs are two-sided, or there are none
two_sided_pairs : (p : Problem) → allows_rules p ≡ true → are_two_sided (kind_of p) (pairs_of p) ≡ true
two_sided_pairs (Presented p) e = go p.congruence.kind e
  where
    go : (kind : Kind) → is_two_sided (record p.congruence { kind = kind }) ≡ true → are_two_sided kind p.congruence.pairs ≡ true
    go TwoSided e = e
    go Right e = e
    go Left e = e
two_sided_pairs (Transf p) e = e
two_sided_pairs (PPerm p) e = e
two_sided_pairs (BMat p) e = e
two_sided_pairs (MaxPlus p) e = e

-- and the classes are kept in every context
abbrev IsKept : ℕ → (Word → Word → Type 0) → Type 0
IsKept k R = (x y u v : Word) → IsOver k x → IsOver k y → R u v → R (x ++ (u ++ y)) (x ++ (v ++ y))

pub kept_in_contexts : (p : Problem) → allows_rules p ≡ true → IsKept (count_of p) (SameClassOf p)
kept_in_contexts (Presented p) allowed =
    joined_elements p.congruence.presentation.is_monoid p.congruence.presentation.letters (EitherWay p.congruence.presentation.relations)
    p.congruence.kind p.congruence.pairs (two_sided_pairs (Presented p) allowed)
kept_in_contexts (Transf p) allowed =
    joined_elements false (length p.generators) (SameValueOf (Transf p)) p.kind p.pairs allowed
kept_in_contexts (PPerm p) allowed =
    joined_elements false (length p.generators) (SameValueOf (PPerm p)) p.kind p.pairs allowed
kept_in_contexts (BMat p) allowed =
    joined_elements false (length p.generators) (SameValueOf (BMat p)) p.kind p.pairs allowed
kept_in_contexts (MaxPlus p) allowed =
    joined_elements false (length p.generators) (SameValueOf (MaxPlus p)) p.kind p.pairs allowed

empty_or_not : (u : Word) → (u ≡ []) ⊎ (u ≡ [] → ⊥)
empty_or_not [] = inl refl
empty_or_not (a ∷ u) = inr (λ e. cc)

pub over_rest : (k : ℕ) (u : Word) → IsOver k u → IsOver k (drop 1 u)
over_rest k [] h = tt
over_rest k (a ∷ u) h = h.1

-- words that are one with their last letters are one without them
same_front : (u v : Word) (a b : ℕ) → u ++ a ∷ [] ≡ v ++ b ∷ [] → u ≡ v
same_front [] [] a b e = refl
same_front [] (d ∷ v) a b e = absurd (omega (arith, ap length e, length-append v (b ∷ [])))
same_front (d ∷ u) [] a b e = absurd (omega (arith, ap length e, length-append u (a ∷ [])))
same_front (d ∷ u) (f ∷ v) a b e =
    let heads : d ≡ f = cc in
    let tails : u ++ a ∷ [] ≡ v ++ b ∷ [] = cc in
    let fronts : u ≡ v = same_front u v a b tails in
    λ i. heads i ∷ fronts i

-- a word is another with a letter where its last letter is this one, and the rest the other
pub word_with : (w front rest other : Word) (last letter : ℕ) (r : Bool) → w ≡ rest ++ last ∷ [] → last ≡ letter → other ≡ front → r ≡ pointwise eqb rest other
    → IsTrue r ↔ (w ≡ front ++ letter ∷ [])
word_with w front rest other last letter r at same there is = (
  λ h. at ∙ ap (λ a. rest ++ a ∷ []) same ∙ ap (λ v. v ++ letter ∷ []) ((slice_eq-Decides Decides-eqb rest other r is).0 h ∙ there),
  λ e. (slice_eq-Decides Decides-eqb rest other r is).1 (same_front rest front last letter (sym at ∙ e) ∙ sym there),
)

-- empty, or the least word of its class
abbrev IsFit : (Word → Word → Type 0) → Word → Type 0
IsFit R u = (u ≡ []) ⊎ IsLeast R u

module _ (R : Word → Word → Type 0) (empty : Bool) (k : ℕ)
    (every : (u : Word) → IsElement empty k u → R u u) (among : (u v : Word) → R u v → IsElement empty k u × IsElement empty k v) where
  -- a proper factor of the left side of a reduced rule is empty, or least
  fit_factor : (u v : Word) → IsReducedRule R u v → (f x y : Word) → u ≡ x ++ (f ++ y) → f ≢ u → IsFit R f
  fit_factor u v h [] x y at proper = inl refl
  fit_factor u v h (d ∷ f) x y at proper =
      let over : IsOver k (x ++ ((d ∷ f) ++ y)) = subst (λ w. IsOver k w) at (element_over empty k u (among u v h.normal.related).0) in
      let part = over_left k (d ∷ f) y (over_right k x ((d ∷ f) ++ y) over) in
      inr
      (h.factors (d ∷ f) (record { factor = record { before = x; after = y; is = at }; proper = proper })
      (every (d ∷ f) (nonempty_element empty k (d ∷ f) part (λ e. cc))))

  -- and so is what is left of it without its first letter
  fit_rest : (u v : Word) → IsReducedRule R u v → IsFit R (drop 1 u)
  fit_rest [] v h = inl refl
  fit_rest (d ∷ u) v h = fit_factor (d ∷ u) v h u (d ∷ []) [] (ap (λ w. d ∷ w) (sym (append-nil u))) (λ e. omega (arith, ap length e))

module _ (R : Word → Word → Type 0) (k : ℕ) (over : (u : Word) → R u u → IsOver k u) (kept : IsKept k R) where
  -- a part of a least word is least, if it is an element
  part_least : (x f y : Word) → R f f → IsLeast R (x ++ (f ++ y)) → IsLeast R f
  part_least x f y same h =
      let whole = over (x ++ (f ++ y)) h.element in
      let behind = over_right k f y (over_right k x (f ++ y) whole) in
      least_part R x f y (λ v r. kept x y f v (over_left k x (f ++ y) whole) behind r) same h

  -- where a word is fit without its last letter and without its first, its proper factors are least
  factor_least : (u w : Word) (a : ℕ) → u ≡ w ++ a ∷ [] → IsFit R w → IsFit R (drop 1 u) → (f x y : Word)
      → R f f → u ≡ x ++ (f ++ y) → f ≢ u → IsLeast R f
  factor_least u w a is front rest [] x y same at proper = record { element = same; none_less = λ v r less. greater_full [] v less refl }
  factor_least u w a is front rest (d ∷ f) x y same at proper = elim (last_letter y) [
    | inl e ↦ behind x (at ∙ ap (λ z. x ++ ((d ∷ f) ++ z)) e ∙ ap (λ z. x ++ z) (append-nil (d ∷ f)))
    | inr l ↦ before l.0 l.1 (at ∙ ap (λ z. x ++ ((d ∷ f) ++ z)) l.2)
  ]
    where
      some : (x z : Word) → x ++ ((d ∷ f) ++ z) ≡ [] → ⊥
      some x z e = omega (arith, ap length e, length-append x ((d ∷ f) ++ z))

      behind : (x : Word) → u ≡ x ++ (d ∷ f) → IsLeast R (d ∷ f)
      behind [] e = absurd (proper (sym e))
      behind (b ∷ x) e =
          let here : drop 1 u ≡ x ++ ((d ∷ f) ++ []) = ap (drop 1) e ∙ ap (λ z. x ++ z) (sym (append-nil (d ∷ f))) in
          elim rest [
            | inl none ↦ absurd (some x [] (sym here ∙ none))
            | inr least ↦ part_least x (d ∷ f) [] same (subst (IsLeast R) here least)
          ]

      before : (z : Word) (b : ℕ) → u ≡ x ++ ((d ∷ f) ++ (z ++ b ∷ [])) → IsLeast R (d ∷ f)
      before z b e =
          let regrouped : (x ++ ((d ∷ f) ++ z)) ++ b ∷ [] ≡ x ++ ((d ∷ f) ++ (z ++ b ∷ [])) = append_assoc x ((d ∷ f) ++ z) (b ∷ []) ∙ ap (λ t. x ++ t) (append_assoc (d ∷ f) z (b ∷ [])) in
          let here : w ≡ x ++ ((d ∷ f) ++ z) = same_front w (x ++ ((d ∷ f) ++ z)) a b (sym is ∙ e ∙ sym regrouped) in
          elim front [
            | inl none ↦ absurd (some x z (sym here ∙ none))
            | inr least ↦ part_least x (d ∷ f) z same (subst (IsLeast R) here least)
          ]

-- the word of a place with a letter behind it is over the letters
pub over_on : (list : ClassList) → IsListing list → (place letter : ℕ) → place < list.count → letter < list.letters → IsOver list.letters (list.word place ++ letter ∷ [])
over_on list is place letter within small = over_append list.letters (list.word place) (letter ∷ []) (is.over place within) (small, tt)

pub place_over : (list : ClassList) → IsListing list → (place : ℕ) → place < list.count → rest_place list place < list.count
place_over list is place within = is.listed (drop 1 (list.word place)) (over_rest list.letters (list.word place) (is.over place within))

pub step_within : (list : ClassList) → IsListing list → (place letter : ℕ) → place < list.count → letter < list.letters → step list place letter < list.count
step_within list is place letter within small = is.listed (list.word place ++ letter ∷ []) (over_on list is place letter within small)

snoc_some : (u : Word) (a : ℕ) → u ++ a ∷ [] ≡ [] → ⊥
snoc_some u a e = omega (arith, ap length e, length-append u (a ∷ []))

snoc_rest : (u : Word) (a : ℕ) → (u ≡ [] → ⊥) → drop 1 (u ++ a ∷ []) ≡ drop 1 u ++ a ∷ []
snoc_rest [] a full = absurd (full refl)
snoc_rest (d ∷ u) a full = refl

-- the rules of the places of a list by the places to which letters lead
module _ (list : ClassList) (is : IsListing list) (reduced : IsReducedList list) (place letter : ℕ) (within : place < list.count) (small : letter < list.letters) where
  abbrev left : Word
  left = list.word place ++ letter ∷ []

  over : IsOver list.letters left
  over = over_on list is place letter within small

  -- what is the word of its place does not fall
  stays : (u : Word) → normal_of list u ≡ u → Falls list u → ⊥
  stays u same falls = before_irrefl u (subst (λ w. w ≺ u) same falls)

  pub goes : (target : ℕ) → target ≡ step list place letter → GoesOn list place letter target → IsRuleOf list place letter None
  goes target at same rule h =
      stays left (ap list.word (sym at) ∙ same) (subst (λ w. normal_of list w ≺ w) h.left (subst (λ w. w ≺ rule.0) h.right h.falls))

  pub falls_on : (target : ℕ) → target ≡ step list place letter → (GoesOn list place letter target → ⊥) → Falls list left
  falls_on target at not = elim (reduced.falls left over (snoc_some (list.word place) letter)) [
    | inl same ↦ absurd (not (ap list.word at ∙ same))
    | inr falls ↦ falls
  ]

  -- the empty word does not fall
  pub none_falls : place ≡ 0 → Falls list (drop 1 left) → ⊥
  none_falls first falls = greater_full (drop 1 left) (normal_of list (drop 1 left)) falls (ap (λ w. drop 1 (w ++ letter ∷ [])) (ap list.word first ∙ reduced.root))

  some_at : (place ≡ 0 → ⊥) → list.word place ≡ [] → ⊥
  some_at later none = greater_full (list.word place) (list.word 0) (is.ascending 0 place (omega (arith, not_zero place later)) within) none
    where
      not_zero : (n : ℕ) → (n ≡ 0 → ⊥) → 0 < n
      not_zero zero some = absurd (some refl)
      not_zero (suc n) some = omega arith

  -- what is left of the word with the letter
  pub rest_on : (rest : ℕ) → rest ≡ rest_place list place → (place ≡ 0 → ⊥) → list.word rest ++ letter ∷ [] ≡ drop 1 left
  rest_on rest at later =
      ap (λ w. w ++ letter ∷ []) (ap list.word at ∙ reduced.rests place within) ∙ sym (snoc_rest (list.word place) letter (some_at later))

  pub rest_by : (rest target : ℕ) (goes : Bool) → rest ≡ rest_place list place → (place ≡ 0 → ⊥) → target ≡ step list rest letter → IsTrue goes ↔ GoesOn list rest letter target
      → IsTrue (not goes) ↔ Falls list (drop 1 left)
  rest_by rest target true at later to iff = (
    λ e. cc,
    λ falls. absurd (stays (drop 1 left) (ap (normal_of list) (sym (rest_on rest at later)) ∙ ap list.word (sym to) ∙ iff.0 refl ∙ rest_on rest at later) falls),
  )
  rest_by rest target false at later to iff = (
    λ e. elim (reduced.falls (drop 1 left) (over_rest list.letters left over) (λ none. snoc_some (list.word rest) letter (rest_on rest at later ∙ none))) [
      | inl same ↦ absurd (apart (iff.1 (ap list.word to ∙ ap (normal_of list) (rest_on rest at later) ∙ same ∙ sym (rest_on rest at later))))
      | inr falls ↦ falls
    ],
    λ falls. refl,
  )
    where
      apart : false ≡ true → ⊥
      apart e = cc

  pub rule_falls : Falls list (drop 1 left) → IsRuleOf list place letter None
  rule_falls falls rule h = h.rest (subst (λ w. Falls list (drop 1 w)) (sym h.left) falls)

  pub rule_is : (target : ℕ) (u v : Word) → target ≡ step list place letter → (GoesOn list place letter target → ⊥) → (Falls list (drop 1 left) → ⊥)
      → u ≡ left → v ≡ list.word target → IsRuleAt list place letter (u, v)
  rule_is target u v at not rest here there = record {
    left = here;
    right = there ∙ ap list.word at ∙ ap (normal_of list) (sym here);
    falls = subst (λ w. v ≺ w) (sym here) (subst (λ w. w ≺ left) (sym (there ∙ ap list.word at)) (falls_on target at not));
    rest = λ falls. rest (subst (λ w. Falls list (drop 1 w)) here falls);
  }

module _ (R : Word → Word → Type 0) (empty : Bool) (k : ℕ) (list : ClassList) (is : IsSolution R empty k list) (kept : IsKept k R) where
  law : IsPartialEquivalence R
  law = known R empty k list is

  every : (u : Word) → IsElement empty k u → R u u
  every u element = (is.decides u u element element).1 refl

  not_root : (i : ℕ) → (list.word i ≡ [] → ⊥) → 0 < i
  not_root zero some = absurd (some is.root)
  not_root (suc i) some = omega arith

  -- the words of places are fit, and each fit word has a place
  fit_place : (i : ℕ) → i < list.count → IsFit R (list.word i)
  fit_place i h = elim (empty_or_not (list.word i)) [
    | inl none ↦ inl none
    | inr some ↦ inr (is.classes i (first_small empty i (not_root i some)) h)
  ]

  place_fit : (u : Word) → IsFit R u → (i : ℕ) × (i < list.count) × (list.word i ≡ u)
  place_fit u (inl none) = (0, some R empty k list is, is.root ∙ sym none)
  place_fit u (inr h) = let at = least_place R empty k list is u h in (at.0, at.2, at.3)

  normal_is : (u : Word) → IsElement empty k u → IsNormal R u (normal_of list u)
  normal_is u element = normal_word R empty k list is u element

  -- the words that do not fall are fit
  fit_stays : (u : Word) → IsFit R u → Falls list u → ⊥
  fit_stays u (inl none) falls = greater_full u (normal_of list u) falls none
  fit_stays u (inr h) falls = h.none_less (normal_of list u) (normal_is u (is.among u u h.element).0).related falls

  stays_fit : (u : Word) → IsOver k u → (Falls list u → ⊥) → IsFit R u
  stays_fit u over stays = elim (empty_or_not u) [
    | inl none ↦ inl none
    | inr some ↦
        let n = normal_is u (nonempty_element empty k u over some) in
        elim (order_cases (normal_of list u) u) [
          | inl less ↦ absurd (stays less)
          | inr (inl e) ↦ inr (subst (IsLeast R) e n.least)
          | inr (inr more) ↦ absurd (n.least.none_less u (law.symmetric u (normal_of list u) n.related) more)
        ]
  ]

  fit_is_normal : (u : Word) → IsFit R u → normal_of list u ≡ u
  fit_is_normal u (inl none) = ap (normal_of list) none ∙ ap list.word is.home ∙ is.root ∙ sym none
  fit_is_normal u (inr h) =
      normal_unique R law.symmetric law.transitive u (normal_of list u) u (normal_is u (is.among u u h.element).0) (record { related = h.element; least = h })

  rest_fit : (u : Word) → IsFit R u → IsFit R (drop 1 u)
  rest_fit [] h = inl refl
  rest_fit (d ∷ u) (inl none) = absurd (some none)
    where
      some : d ∷ u ≡ [] → ⊥
      some e = cc
  rest_fit (d ∷ u) (inr h) = elim (empty_or_not u) [
    | inl none ↦ inl none
    | inr some ↦
        let over : IsOver k (d ∷ u) = element_over empty k (d ∷ u) (is.among (d ∷ u) (d ∷ u) h.element).0 in
        let whole : d ∷ u ≡ (d ∷ []) ++ (u ++ []) = ap (λ w. d ∷ w) (sym (append-nil u)) in
        inr
        (part_least R k (λ u r. element_over empty k u (is.among u u r).0) kept (d ∷ []) u [] (every u (nonempty_element empty k u over.1 some))
        (subst (IsLeast R) whole h))
  ]

  -- least words without their first letters are least, or empty
  pub reduced_list : IsReducedList list
  reduced_list = record {
    root = is.root;
    falls = λ u over some.
        let n = normal_is u (nonempty_element empty k u (subst (λ m. IsOver m u) is.letters over) some) in
        elim (order_cases (normal_of list u) u) [
          | inl less ↦ inr less
          | inr (inl e) ↦ inl e
          | inr (inr more) ↦ absurd (n.least.none_less u (law.symmetric u (normal_of list u) n.related) more)
        ];
    rests = λ i h. fit_is_normal (drop 1 (list.word i)) (rest_fit (list.word i) (fit_place i h));
  }

  rule_reduced : (j b : ℕ) (rule : Word × Word) → j < list.count → b < list.letters → IsRuleAt list j b rule
      → IsReducedRule R rule.0 rule.1
  rule_reduced j b rule within letter at =
      let over : IsOver k rule.0 =
      subst (λ n. IsOver n rule.0) is.letters
      (subst (λ w. IsOver list.letters w) (sym at.left) (over_append list.letters (list.word j) (b ∷ []) (is.listing.over j within) (letter, tt))) in
      let element = nonempty_element empty k rule.0 over (greater_full rule.0 rule.1 at.falls) in
      let rest = stays_fit (drop 1 rule.0) (over_rest k rule.0 over) at.rest in
      record {
        normal = subst (IsNormal R rule.0) (sym at.right) (normal_is rule.0 element);
        falls = at.falls;
        factors = λ f proper same.
            factor_least R k (λ u r. element_over empty k u (is.among u u r).0) kept rule.0 (list.word j) b at.left (fit_place j within) rest f proper.factor.before proper.factor.after same
            proper.factor.is proper.proper;
      }

  reduced_rule : (rule : Word × Word) → IsReducedRule R rule.0 rule.1
      → (j b : ℕ) × (j < list.count) × (b < list.letters) × IsRuleAt list j b rule
  reduced_rule rule h = elim (last_letter rule.0) [
    | inl none ↦ absurd (greater_full rule.0 rule.1 h.falls none)
    | inr l ↦
        let shorter : l.0 ≢ rule.0 = λ e. omega (arith, ap length e, ap length l.2, length-append l.0 (l.1 ∷ [])) in
        let at = place_fit l.0 (fit_factor R empty k every is.among rule.0 rule.1 h l.0 [] (l.1 ∷ []) l.2 shorter) in
        let over : IsOver k (l.0 ++ l.1 ∷ []) =
        subst (λ w. IsOver k w) l.2 (element_over empty k rule.0 (is.among rule.0 rule.1 h.normal.related).0) in (
          at.0,
          l.1,
          at.1,
          subst (λ n. l.1 < n) (sym is.letters) (over_right k l.0 (l.1 ∷ []) over).0,
          record {
            left = l.2 ∙ ap (λ w. w ++ l.1 ∷ []) (sym at.2);
            right = normal_unique R law.symmetric law.transitive rule.0 rule.1 (normal_of list rule.0) h.normal (normal_is rule.0 (is.among rule.0 rule.1 h.normal.related).0);
            falls = h.falls;
            rest = fit_stays (drop 1 rule.0) (fit_rest R empty k every is.among rule.0 rule.1 h);
          },
        )
  ]

  -- the rules of all places are the reduced rules, in order
  pub rule_list : (rules : List (Word × Word)) → AreRulesTo list list.count 0 rules
      → IsRuleList R rules
  rule_list rules are =
      list_from_ascending (λ rule. IsReducedRule R rule.0 rule.1) RuleBefore (rule_order R law) None rules
      are.ascending
      (λ rule m. let s = are.sound rule (contains_from_in rule rules m) in rule_reduced s.0 s.1 rule s.3 s.4 s.5)
      (λ rule h after. let at = reduced_rule rule h in
      in_from_contains rule rules (are.all at.0 at.1 rule (inl at.2) at.2 at.3 at.4))
