-- Spelling out steps over facts, step by step.
use Rattle.std.proofs.Common.{◌≡◌, ℕ, suc, ◌+◌, ◌-◌, ◌^◌, ◌<◌, ◌≤◌, List, [], ◌∷◌, ◌++◌, map, reverse, length, refl, sym, ◌∙◌, ap, subst, arith, Option, Some, slice_get, option_map, nat_eq, cond, Bool, true, false, inl, inr, ◌⊎◌}
use Rattle.std.proofs.Math.Nat.{one-le-pow}
use Rattle.std.proofs.lemmas.List.{map-append, reverse-append, reverse-reverse}
use Rattle.std.proofs.lemmas.List.Sums.{sum_by-append, sum_by_push}
use Rattle.std.proofs.lemmas.List.Sorted.{sum_by-IsPermutation, IsPermutation-reverse}
use Rattle.std.proofs.lemmas.Option.{slice_get-map}
use Rattle.std.specs.Global.{Vec}
use Rattle.std.specs.HashMap.{HashMap, Updates, get}
use Rattle.theory.specs.Word.{Word}
use Rattle.theory.specs.PlacedStep.{PlacedStep, Gives, AllGive, AreDifferent, LeadTo, last_word}
use Rattle.theory.proofs.PlacedChains.{leads_after}
use Rattle.chains.specs.Chains.{AllFit, Fits, IsStraight, step_of, steps_of}
use Rattle.chains.specs.Derivations.{AreDerived, AreKept, Derived, GoesOn, all_of, count_of, in_place_of, pair_of, weight_of}
use Rattle.chains.specs.Walks.{IsWalk, here}
use Rattle.chains.specs.declared.derivations.Fact.{Fact}
use Rattle.chains.specs.declared.steps.ChainStep.{ChainStep}
use Rattle.chains.specs.declared.walks.Walk.{Walk}
use Rattle.chains.proofs.ChainLaws.{leads_here, leads_on}
use Rattle.chains.proofs.DerivationLaws.{fact_within, get_behind, gives_less, leads_by, leads_instead, proves_all, weighs_less}

-- a step is taken off those that are left
module _ (d : Derived) (derived : AreDerived d.presentation d.facts) (old_left new_left : List ChainStep) (step : ChainStep) (old : Walk)
    (popped : old_left ≡ new_left ++ step ∷ []) (fits : AllFit (all_of d) (here old) (reverse old_left)) where
  left_is : reverse old_left ≡ step ∷ reverse new_left
  left_is = ap reverse popped ∙ reverse-append new_left (step ∷ [])

  -- it fits
  first : (w : Word) × Gives (all_of d) (here old) (step_of step) w
  first = go fits.0 (subst (λ (s : List ChainStep). AllGive (all_of d) (here old) (steps_of s) fits.0) left_is fits.1)
    where
      go : (vs : List Word) → AllGive (all_of d) (here old) (step_of step ∷ steps_of (reverse new_left)) vs → (w : Word) × Gives (all_of d) (here old) (step_of step) w
      go [] all = absurd all
      go (v ∷ vs) all = (v, all.0)

  -- the others lead on
  others : (w : Word) → Gives (all_of d) (here old) (step_of step) w → (to : Word) → LeadTo (all_of d) (here old) (steps_of (reverse old_left)) to
      → LeadTo (all_of d) w (steps_of (reverse new_left)) to
  others w gives to leads =
      (leads_on (all_of d) (here old) (step_of step) (steps_of (reverse new_left)) w gives to).0
      (subst (λ (s : List ChainStep). LeadTo (all_of d) (here old) (steps_of s) to) left_is leads)

  weighed : weight_of d old_left ≡ weight_of d new_left + suc (count_of d.facts) ^ step.relation
  weighed = ap (weight_of d) popped ∙ sum_by_push (λ s. suc (count_of d.facts) ^ s.relation) new_left step

  -- by a relation
  pub step_fits : step.relation < length d.presentation.relations → Fits d.presentation (here old) (step_of step)
  step_fits within = (first.0, gives_less d.presentation d.facts (here old) (step_of step) first.0 within first.1)

  pub goes_by_relation : (new : Walk) → step.relation < length d.presentation.relations → (from : Word) × IsWalk d.presentation from old
      → ((u v : Word) → IsWalk d.presentation u old → Gives d.presentation (here old) (step_of step) v → IsWalk d.presentation u new × (here new ≡ v))
      → GoesOn d old_left old new_left new
  goes_by_relation new within begun went =
      let fit : Fits d.presentation (here old) (step_of step) = (first.0, gives_less d.presentation d.facts (here old) (step_of step) first.0 within first.1) in
      let weight = weighed in
      let some : 0 < suc (count_of d.facts) ^ step.relation = one-le-pow step.relation (suc (count_of d.facts)) (omega arith) in
      record {
        walk = λ u walk. (went u fit.0 walk fit.1).0;
        leads = λ to leads.
            subst (λ w. LeadTo (all_of d) w (steps_of (reverse new_left)) to) (sym (went begun.0 fit.0 begun.1 fit.1).1) (others first.0 first.1 to leads);
        less = omega (arith, weight, some);
      }

  -- by a fact whose chain is kept
  module _ {S : Type 0} (kept : HashMap ℕ (Vec ChainStep) S) (chain : Vec ChainStep) (are : AreKept d kept) (got : get nat_eq kept step.relation ≡ Some chain) where
    leads_there : LeadTo d.presentation (here old) (steps_of (in_place_of step chain.items)) first.0
    leads_there =
        let sides = first.1.sides in
        leads_by (all_of d) d.presentation (here old) first.0 step sides.0 sides.1 chain.items first.1 first.1.known (are step.relation chain sides.0 sides.1 got first.1.known)

    pub chain_fits : AllFit d.presentation (here old) (in_place_of step chain.items)
    chain_fits = (leads_there.0, leads_there.1)

    pub goes_by_chain : (new : Walk) → (from : Word) × IsWalk d.presentation from old
        → ((u v : Word) → IsWalk d.presentation u old → LeadTo d.presentation (here old) (steps_of (in_place_of step chain.items)) v → IsWalk d.presentation u new × (here new ≡ v))
        → GoesOn d old_left old new_left new
    goes_by_chain new begun went =
        let weight = weighed in
        let some : 0 < suc (count_of d.facts) ^ step.relation = one-le-pow step.relation (suc (count_of d.facts)) (omega arith) in
        record {
          walk = λ u walk. (went u first.0 walk leads_there).0;
          leads = λ to leads.
              subst (λ w. LeadTo (all_of d) w (steps_of (reverse new_left)) to) (sym (went begun.0 first.0 begun.1 leads_there).1) (others first.0 first.1 to leads);
          less = omega (arith, weight, some);
        }

  -- by a fact
  pub fact_there : length d.presentation.relations ≤ step.relation → step.relation - length d.presentation.relations < length d.facts
  fact_there behind = let within = fact_within d derived step (here old) first.0 first.1 behind in omega (arith, within, behind)

  pub goes_by_fact : (left : List ChainStep) (fact : Fact) → length d.presentation.relations ≤ step.relation
      → slice_get d.facts (step.relation - length d.presentation.relations) ≡ Some fact
      → left ≡ new_left ++ reverse (in_place_of step fact.steps.items) → GoesOn d old_left old left old
  goes_by_fact left fact behind is put =
      let n = step.relation - length d.presentation.relations in
      let number : step.relation ≡ length d.presentation.relations + n = omega (arith, behind) in
      let at : slice_get (all_of d).relations step.relation ≡ Some (pair_of fact) =
      ap (slice_get (all_of d).relations) number ∙ get_behind d.presentation.relations (map pair_of d.facts) n ∙ slice_get-map pair_of d.facts n ∙ ap (λ (o : Option Fact). option_map pair_of o) is in
      let instead = leads_instead (all_of d) (here old) first.0 step fact first.1 at (proves_all d.presentation d.facts n fact derived is) in
      let light = weighs_less d derived step n fact is number in
      let weight = weighed in
      let f : ChainStep → ℕ = λ s. suc (count_of d.facts) ^ s.relation in
      let now : weight_of d left ≡ weight_of d new_left + weight_of d (in_place_of step fact.steps.items) =
      ap (weight_of d) put ∙ sum_by-append f new_left (reverse (in_place_of step fact.steps.items))
      ∙ ap (λ k. weight_of d new_left + k) (sum_by-IsPermutation f (in_place_of step fact.steps.items) (reverse (in_place_of step fact.steps.items)) (IsPermutation-reverse (in_place_of step fact.steps.items))) in
      let turned : reverse left ≡ in_place_of step fact.steps.items ++ reverse new_left =
      ap reverse put ∙ reverse-append new_left (reverse (in_place_of step fact.steps.items)) ∙ ap (λ (s : List ChainStep). s ++ reverse new_left) (reverse-reverse (in_place_of step fact.steps.items)) in
      record {
        walk = λ u walk. walk;
        leads = λ to leads.
            subst (λ (s : List ChainStep). LeadTo (all_of d) (here old) (steps_of s) to) (sym turned)
            (subst (λ (s : List PlacedStep). LeadTo (all_of d) (here old) s to) (sym (map-append step_of (in_place_of step fact.steps.items) (reverse new_left)))
            (leads_after (all_of d) (here old) first.0 to (steps_of (in_place_of step fact.steps.items)) (steps_of (reverse new_left)) instead (others first.0 first.1 to leads)));
        less = omega (arith, weight, now, light);
      }

-- the steps that are left lead where all of them lead
pub record IsSpelled (d : Derived) (from : Word) (steps : List ChainStep) (left : List ChainStep) (walk : Walk) : Type 0 where
  pub stands : IsWalk d.presentation from walk
  pub leads : (to : Word) → LeadTo (all_of d) from (steps_of steps) to → LeadTo (all_of d) (here walk) (steps_of (reverse left)) to

module _ (d : Derived) (from : Word) (steps left : List ChainStep) (walk : Walk) (spelled : IsSpelled d from steps left walk) where
  pub left_fit : AllFit (all_of d) from steps → AllFit (all_of d) (here walk) (reverse left)
  left_fit fits =
      let leads = spelled.leads (last_word from fits.0) (fits.0, fits.1, refl) in
      (leads.0, leads.1)

  pub spelled_on : (new_left : List ChainStep) (new : Walk) → GoesOn d left walk new_left new → IsSpelled d from steps new_left new
  spelled_on new_left new on = record {
    stands = on.walk from spelled.stands;
    leads = λ to h. on.leads to (spelled.leads to h);
  }

  pub spelled_out : left ≡ [] → (to : Word) → LeadTo (all_of d) from (steps_of steps) to → IsStraight d.presentation from walk.steps.items to
  spelled_out none to h =
      let leads = subst (λ (s : List ChainStep). LeadTo (all_of d) (here walk) (steps_of (reverse s)) to) none (spelled.leads to h) in
      let last = (leads_here (all_of d) (here walk) to).0 leads in
      let words = spelled.stands.chain in (
        words.0,
        words.2,
        sym (ap (last_word []) words.1) ∙ last,
        subst AreDifferent words.1 spelled.stands.different,
      )

-- no chains are kept
pub none_kept : {S : Type 0} (d : Derived) (kept : HashMap ℕ (Vec ChainStep) S) → kept.entries ≡ [] → AreKept d kept
none_kept d kept empty number chain left right got known = let bad : ⊥ = cc in absurd bad

-- and that of one fact more
pub kept_more : {S : Type 0} (d : Derived) → AreDerived d.presentation d.facts → (kept new : HashMap ℕ (Vec ChainStep) S) (n number : ℕ) (fact : Fact) (chain : Vec ChainStep) → AreKept d kept
    → slice_get d.facts n ≡ Some fact → number ≡ length d.presentation.relations + n
    → ((to : Word) → LeadTo (all_of d) fact.left (steps_of fact.steps.items) to → IsStraight d.presentation fact.left chain.items to)
    → Updates nat_eq kept new number (Some chain) → AreKept d new
kept_more d derived kept new n number fact chain are is number_is spelled updates q other left right got known = elim (same_or_not number q) [
  | inl same ↦
      let found : get nat_eq new q ≡ Some chain = updates.0 q ∙ ap (λ b. cond b (Some chain) (get nat_eq kept q)) same in
      let chain_is = chain_same chain other (sym found ∙ got) in
      let sides = pair_same fact.left left fact.right right (sym at ∙ ap (slice_get (all_of d).relations) (number_same number q same) ∙ known) in
      let straight = spelled fact.right (proves_all d.presentation d.facts n fact derived is) in
      let leads : LeadTo d.presentation fact.left (steps_of chain.items) fact.right = (straight.0, straight.1, straight.2) in
      subst (λ (c : Vec ChainStep). LeadTo d.presentation left (steps_of c.items) right) chain_is
      (subst (λ w. LeadTo d.presentation w (steps_of chain.items) right) sides.0 (subst (λ w. LeadTo d.presentation fact.left (steps_of chain.items) w) sides.1 leads))
  | inr apart ↦ are q other left right (sym (updates.2 q apart) ∙ got) known
]
  where
    same_or_not : (a b : ℕ) → (nat_eq a b ≡ true) ⊎ (nat_eq a b ≡ false)
    same_or_not a b = cases (nat_eq a b)
      where
        cases : (b : Bool) → (b ≡ true) ⊎ (b ≡ false)
        cases true = inl refl
        cases false = inr refl

    number_same : (a b : ℕ) → nat_eq a b ≡ true → a ≡ b
    number_same a b e = grind (arith, e)

    chain_same : (a b : Vec ChainStep) → Some a ≡ Some b → a ≡ b
    chain_same a b e = cc

    one_pair : (a b : Word × Word) → Some a ≡ Some b → a ≡ b
    one_pair a b e = cc

    pair_same : (a b c e : Word) → ◌≡◌ {A = Option (Word × Word)} (Some (a, c)) (Some (b, e)) → (a ≡ b) × (c ≡ e)
    pair_same a b c e h = let same = one_pair (a, c) (b, e) h in (ap (λ (p : Word × Word). p.0) same, ap (λ (p : Word × Word). p.1) same)

    at : slice_get (all_of d).relations number ≡ Some (fact.left, fact.right)
    at =
        ap (slice_get (all_of d).relations) number_is ∙ get_behind d.presentation.relations (map pair_of d.facts) n ∙ slice_get-map pair_of d.facts n
        ∙ ap (λ (o : Option Fact). option_map pair_of o) is
