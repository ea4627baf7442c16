-- Rules in the order of their left sides.
use Rattle.std.proofs.Common.{◌≡◌, ℕ, suc, ◌+◌, Bool, true, false, List, [], ◌∷◌, get_or, refl, sym, ◌∙◌, ap, subst, subst₂, arith, inl, inr, ◌↔◌, eqb, None, Some, Contains}
use denote.Ref.{Bor}
use denote.Param.Members.{Mut}
use Rattle.std.specs.declared.cmp.Ordering.{Ordering}
use Rattle.std.specs.Fn.{Called, ComparesAs}
use Rattle.std.proofs.lemmas.Fn.{always_returns_same}
use Rattle.std.specs.List.{All, AllByRecursion, IsDistinct}
use Rattle.std.specs.List.Sorted.{IsPermutation, IsSortedBy}
use Rattle.std.specs.Ordering.{is_lt}
use Rattle.std.specs.Cmp.{IsStrictWeakOrder}
use Rattle.std.specs.Cmp.Lexicographic.{pointwise}
use Rattle.std.proofs.lemmas.Bool.{cases_Bool}
use Rattle.std.proofs.lemmas.Bool.Decides.{Decides-eqb}
use Rattle.std.proofs.lemmas.List.Elements.{All-head, All-tail}
use Rattle.std.proofs.lemmas.List.Sorted.{Contains-permutation, IsPermutation-sym, ranks_by}
use Rattle.std.proofs.lemmas.Map.Keys.{IsDistinct-IsPermutation}
use Rattle.std.proofs.lemmas.Slice.Eq.{slice_eq-Decides}
use Rattle.theory.specs.Word.{Word, IsFactor}
use Rattle.theory.specs.ShortLex.{shortlex}
use Rattle.theory.specs.Congruence.{Presentation, AreElements, of_presentation}
use Rattle.theory.specs.Class.{IsRuleList, RuleBefore, SameClass}
use Rattle.theory.specs.Completion.{AreRules, CompletionEnds, Listed, Rule}
use Rattle.theory.specs.Listing.{IsAscending}
use Rattle.theory.proofs.Words.{order_cases, shortlex_total}
use Rattle.theory.proofs.RuleLists.{listed_rules}
use Rattle.knuth_bendix.specs.Held.{AreAllClear, AreClear, lefts}
use Rattle.knuth_bendix.specs.Runs.{IsCompletion}
use Rattle.race.specs.declared.engines.Progress.{Progress}
use Rattle.race.specs.declared.engines.Progress.TheVariants.{Decided, NoMemory}
use Rattle.knuth_bendix.proofs.Endings.{rule_list_from_sorted}
use Rattle.knuth_bendix.proofs.ClearLists.{stands_in_itself}

-- the test of the order by left sides
abbrev pub left_before : Word × Word → Word × Word → Bool
left_before p q = is_lt (shortlex p.0 q.0)

pub left_order : IsStrictWeakOrder left_before
left_order = ranks_by shortlex_total (λ (p : Word × Word). p.0)

-- whether two rules have one left side
abbrev same_left : Word × Word → Word × Word → Bool
same_left p q = pointwise eqb p.0 q.0

same_left_is : (p q : Word × Word) → (same_left p q ≡ true → p.0 ≡ q.0) × (p.0 ≡ q.0 → same_left p q ≡ true)
same_left_is p q = slice_eq-Decides Decides-eqb p.0 q.0 (same_left p q) refl

same_left_flips : (p q : Word × Word) → same_left p q ≡ same_left q p
same_left_flips p q = elim (cases_Bool (same_left p q)) [
  | inl t ↦ t ∙ sym ((same_left_is q p).1 (sym ((same_left_is p q).0 t)))
  | inr f ↦ f ∙ sym (elim (cases_Bool (same_left q p)) [
    | inl t ↦ let e : same_left p q ≡ true = (same_left_is p q).1 (sym ((same_left_is q p).0 t)) in cc
    | inr g ↦ g
  ])
]

-- left sides none of which stands in another are distinct
clear_distinct : (rules : List (Word × Word)) → AreAllClear (lefts rules) → IsDistinct same_left rules
unfolding IsDistinct
clear_distinct [] clear = tt
clear_distinct (x ∷ rules) clear = (others rules clear.0, clear_distinct rules clear.1)
  where
    others : (ys : List (Word × Word)) → All (λ g. AreClear x.0 g) (lefts ys) → AllByRecursion (λ y. same_left x y ≡ false) ys
    others [] h = tt
    others (y ∷ ys) h = (
      elim (cases_Bool (same_left x y)) [
        | inl t ↦ absurd ((All-head (λ g. AreClear x.0 g) y.0 (lefts ys) h).there (subst (λ g. IsFactor x.0 g) ((same_left_is x y).0 t) (stands_in_itself x.0)))
        | inr f ↦ f
      ],
      others ys (All-tail (λ g. AreClear x.0 g) y.0 (lefts ys) h),
    )

-- of two rules with distinct left sides, the second not before the first, the first is before the second
rises : (p q : Word × Word) → same_left p q ≡ false → left_before q p ≡ false → RuleBefore p q
rises p q differ not_before = elim (order_cases p.0 q.0) [
  | inl less ↦ less
  | inr (inl e) ↦ let t : same_left p q ≡ true = (same_left_is p q).1 e in absurd cc
  | inr (inr greater) ↦ let t : left_before q p ≡ true = ap is_lt greater in absurd cc
]

sorted_tail : (x : Word × Word) (rules : List (Word × Word)) → IsSortedBy left_before (x ∷ rules) → IsSortedBy left_before rules
sorted_tail x rules up k d low high =
    let next : suc k + 1 ≡ suc (k + 1) = omega arith in
    subst (λ (n : ℕ). left_before (get_or (x ∷ rules) n d) (get_or rules k d) ≡ false) next (up (suc k) d (omega arith) (omega arith))

-- behind its first one, a sorted list of rules with distinct left sides ascends
ascends : (x : Word × Word) (rules : List (Word × Word)) → IsDistinct same_left (x ∷ rules) → IsSortedBy left_before (x ∷ rules)
    → IsAscending RuleBefore (Some x) rules
unfolding IsDistinct
ascends x [] distinct sorted = tt
ascends x (y ∷ rules) distinct sorted = (
  rises x y distinct.0.0 (sorted 0 x (omega arith) (omega arith)),
  ascends y rules distinct.1 (sorted_tail x (y ∷ rules) sorted),
)

-- rules in order, from those none of whose left sides stands in another
pub sorted_ascends : (rules sorted : List (Word × Word)) → AreAllClear (lefts rules) → IsPermutation rules sorted → IsSortedBy left_before sorted
    → IsAscending RuleBefore None sorted
sorted_ascends rules [] clear moved up = tt
sorted_ascends rules (x ∷ sorted) clear moved up =
    (tt, ascends x sorted (IsDistinct-IsPermutation same_left same_left_flips rules (x ∷ sorted) moved (clear_distinct rules clear)) up)

-- they are the same rules
pub sorted_members : (rules sorted : List (Word × Word)) → IsPermutation rules sorted → (q : Word × Word) → Contains sorted q ↔ Contains rules q
sorted_members rules sorted moved q = (
  Contains-permutation sorted rules q (IsPermutation-sym rules sorted moved),
  Contains-permutation rules sorted q moved,
)

-- rules that a closure sorted which compares left sides
pub sorted_by_lefts : {F : Type 0} {g : Mut F (Bor (Word × Word) × (Bor (Word × Word) × Unit {0})) Ordering} {f : F} (rules : List (Word × Word))
    → ((lt : Word × Word → Word × Word → Bool) → IsStrictWeakOrder lt → ComparesAs g lt f → IsSortedBy lt rules)
    → ((a : Bor (Word × Word) × (Bor (Word × Word) × Unit {0})) (r : Ordering) (f' : F) → Called g f a r f' → (r ≡ shortlex a.0.now.0 a.1.0.now.0) × (f' ≡ f))
    → IsSortedBy left_before rules
sorted_by_lefts {g = g} {f = f} rules up h =
    up left_before left_order (always_returns_same g (λ a r. is_lt r ≡ left_before a.0.now a.1.0.now) f (λ a r f' k. (ap is_lt (h a r f' k).0, (h a r f' k).1)))

module _ (p : Presentation) (L : ℕ) (rules sorted : List (Word × Word)) (are : AreRules p L rules) (moved : IsPermutation rules sorted) where
  -- the rules of a completion in order, where it has decided
  pub sorted_rule_list : AreAllClear (lefts rules) → AreElements p.is_monoid p.letters p.relations → CompletionEnds p L → IsSortedBy left_before sorted
      → IsRuleList (SameClass (of_presentation p)) sorted
  sorted_rule_list clear elements ends up =
      rule_list_from_sorted p L rules are (record { relations = elements; pairs = λ k d less. absurd (omega arith) }) ends sorted
      (sorted_members rules sorted moved) (sorted_ascends rules sorted clear moved up)

  pub sorted_rules : (u v : Word) → Listed sorted u v ↔ Rule p L u v
  sorted_rules u v =
      let both = listed_rules p L rules are u v in
      let members = sorted_members rules sorted moved (u, v) in
      (λ m. both.0 (members.0 m), λ r. members.1 (both.1 r))

-- what a completion that has decided keeps
pub record IsDecidedRun (p : Presentation) (L : ℕ) (rules : List (Word × Word)) : Type 0 where
  pub elements : AreElements p.is_monoid p.letters p.relations
  pub are : AreRules p L rules
  pub clear : AreAllClear (lefts rules)
  pub ends : CompletionEnds p L

pub decided_run : (p q : Presentation) (L M : ℕ) (rules equations : List (Word × Word)) (said told : Progress)
    → IsCompletion p L rules equations said → p ≡ q → L ≡ M → said ≡ told → told ≡ Decided → IsDecidedRun q M rules
decided_run p q L M rules equations said told completion ep el es decided =
    let run = completion.run in
    let was : said ≡ Decided = es ∙ decided in
    let here : IsDecidedRun p L rules = record {
      elements = completion.elements;
      are = run.kept (inl was);
      clear = (run.sound (λ e. let bad : Decided ≡ NoMemory = sym was ∙ e in cc)).clear;
      ends = run.decided was;
    } in
    subst₂ (λ (p : Presentation) (L : ℕ). IsDecidedRun p L rules) ep el here
