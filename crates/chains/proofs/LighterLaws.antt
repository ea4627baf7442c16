-- Lighter steps, and logs with lighter steps.
use Rattle.std.proofs.Common.{◌≡◌, ℕ, zero, suc, ◌+◌, List, [], ◌∷◌, ◌++◌, length, map, take, slice_get, refl, sym, ◌∙◌, ap, ap₂, subst, arith, Option, Some, MatchOption}
use Rattle.std.proofs.lemmas.List.{map-append}
use Rattle.theory.specs.Word.{Word}
use Rattle.theory.specs.Congruence.{Presentation, with_relations}
use Rattle.theory.specs.PlacedStep.{LeadTo}
use Rattle.theory.proofs.PlacedChains.{leads_one}
use Rattle.chains.specs.Chains.{AllFit, steps_of}
use Rattle.chains.specs.Derivations.{AreDerived, Derived, IsFrontOf, LeadAlike, Proves, all_of, pair_of, with_facts}
use Rattle.chains.specs.declared.derivations.Fact.{Fact}
use Rattle.chains.specs.declared.steps.ChainStep.{ChainStep}

-- where the steps lead, once it is found
pub ended : {X : Type 0} (p : Presentation) (u : Word) (steps : List ChainStep) (found : Option (Word × X)) (end : Word × X)
    → MatchOption found (AllFit p u steps → ⊥) (λ e. LeadTo p u (steps_of steps) e.0) → found ≡ Some end → LeadTo p u (steps_of steps) end.0
ended {X} p u steps found end h is = subst (λ (o : Option (Word × X)). MatchOption o (AllFit p u steps → ⊥) (λ e. LeadTo p u (steps_of steps) e.0)) is h

-- other steps that lead to the one word to which the steps lead
pub leads_alike : (p : Presentation) (u v : Word) (steps others : List ChainStep) → LeadTo p u (steps_of steps) v → LeadTo p u (steps_of others) v
    → LeadAlike p u steps others
leads_alike p u v steps others leads also w to =
    subst (λ (x : Word). LeadTo p u (steps_of others) x) (leads_one p u (steps_of steps) v w leads to) also

-- a log of the first facts has the same relations
front_all : (n : ℕ) (d front : Derived) → IsFrontOf n d front → all_of front ≡ with_facts d.presentation (take n d.facts)
front_all n d front is = ap₂ (λ (p : Presentation) (pairs : List (Word × Word)). with_relations p pairs) is.presentation is.words

-- the next fact follows over them, by steps that lead alike
pub proves_over : (n : ℕ) (d front : Derived) (fact : Fact) (steps : List ChainStep) → AreDerived d.presentation d.facts → IsFrontOf n d front
    → slice_get d.facts n ≡ Some fact → LeadAlike (all_of front) fact.left fact.steps.items steps → LeadTo (all_of front) fact.left (steps_of steps) fact.right
proves_over n d front fact steps derived is at alike =
    alike fact.right (subst (λ (p : Presentation). Proves p fact) (sym (front_all n d front is)) (derived n fact at))

-- the words of one fact more
words_more : (n : ℕ) (facts : List Fact) (pair : Word × Word) → slice_get (map pair_of facts) n ≡ Some pair
    → map pair_of (take (suc n) facts) ≡ map pair_of (take n facts) ++ pair ∷ []
words_more n [] pair is = let bad : ⊥ = cc in absurd bad
words_more zero (f ∷ facts) pair is = let same : pair_of f ≡ pair = cc in ap (λ (q : Word × Word). q ∷ []) same
words_more (suc n) (f ∷ facts) pair is = ap (λ (qs : List (Word × Word)). pair_of f ∷ qs) (words_more n facts pair is)

pub front_more : (n : ℕ) (d front new : Derived) (fact : Fact) → IsFrontOf n d front → slice_get (map pair_of d.facts) n ≡ Some (pair_of fact)
    → new ≡ record { presentation = front.presentation; facts = front.facts ++ fact ∷ [] } → IsFrontOf (n + 1) d new
front_more n d front new fact is at made =
    let next : suc n ≡ n + 1 = omega arith in
    record {
      presentation = ap (λ (e : Derived). e.presentation) made ∙ is.presentation;
      words = ap (λ (e : Derived). map pair_of e.facts) made ∙ map-append pair_of front.facts (fact ∷ []) ∙ ap (λ (qs : List (Word × Word)). qs ++ pair_of fact ∷ []) is.words
          ∙ sym (words_more n d.facts (pair_of fact) at) ∙ ap (λ k. map pair_of (take k d.facts)) next;
    }

take_whole : (facts : List Fact) → take (length facts) facts ≡ facts
take_whole [] = refl
take_whole (f ∷ facts) = ap (λ (fs : List Fact). f ∷ fs) (take_whole facts)

-- and where all facts are there it has all relations
pub whole_all : (d front : Derived) → IsFrontOf (length d.facts) d front → all_of front ≡ all_of d
whole_all d front is = front_all (length d.facts) d front is ∙ ap (λ (fs : List Fact). with_facts d.presentation fs) (take_whole d.facts)

pub alike_whole : (d front : Derived) (u : Word) (steps others : List ChainStep) → IsFrontOf (length d.facts) d front → LeadAlike (all_of front) u steps others
    → LeadAlike (all_of d) u steps others
alike_whole d front u steps others is alike = subst (λ (p : Presentation). LeadAlike p u steps others) (whole_all d front is) alike

-- steps that were exchanged twice lead to the same word over the last log
pub leads_lightest : (d light lightest : Derived) (u : Word) (steps lighter read least last : List ChainStep)
    → IsFrontOf (length d.facts) d light → LeadAlike (all_of d) u steps lighter → read ≡ lighter
    → IsFrontOf (length light.facts) light lightest → LeadAlike (all_of light) u read least → last ≡ least
    → (v : Word) → LeadTo (all_of d) u (steps_of steps) v → LeadTo (all_of lightest) u (steps_of last) v
leads_lightest d light lightest u steps lighter read least last one alike first two again second v leads =
    let there = subst (λ (p : Presentation). LeadTo p u (steps_of lighter) v) (sym (whole_all d light one)) (alike v leads) in
    let on = again v (subst (λ (s : List ChainStep). LeadTo (all_of light) u (steps_of s) v) (sym first) there) in
    subst (λ (p : Presentation). LeadTo p u (steps_of last) v) (sym (whole_all light lightest two))
    (subst (λ (s : List ChainStep). LeadTo (all_of light) u (steps_of s) v) (sym second) on)
