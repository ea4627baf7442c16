-- Chains of steps with places: one after another, backwards, in a context, and without detours.
use Rattle.std.proofs.Common.{◌≡◌, ◌+◌, Bool, true, false, not, List, [], ◌∷◌, ◌++◌, length, map, reverse, refl, sym, ◌∙◌, ap, ap₂, subst, arith, ◌⊎◌, inl, inr, ◌↔◌, Some, append_assoc, append-nil, length-append}
use Rattle.std.proofs.lemmas.List.{reverse-append, nil_from_length}
use Rattle.theory.specs.Word.{Word}
use Rattle.theory.specs.ShortLex.{◌≺◌}
use Rattle.theory.specs.Congruence.{Presentation, Congruence, IsTwoSided, of_presentation, with_relations}
use Rattle.theory.specs.Chain.{Related}
use Rattle.theory.specs.PlacedStep.{PlacedStep, Gives, AllGive, read_sides, last_word, LeadTo, turned_step, shifted_step, AreDifferent}
use Rattle.theory.proofs.Words.{cut_between, order_cases, before_irrefl}
use Rattle.theory.proofs.Counting.{IsIn, in_from_contains}
use Rattle.theory.proofs.KindLaws.{pairs_as_relations}
use Rattle.theory.proofs.PlacedSteps.{all_give_related, related_all_give}

-- words cut at one place have the same parts
cut_same : (x₁ y₁ x₂ y₂ : Word) → x₁ ++ y₁ ≡ x₂ ++ y₂ → length x₁ ≡ length x₂ → (x₁ ≡ x₂) × (y₁ ≡ y₂)
cut_same x₁ y₁ x₂ y₂ e h =
    let cut = cut_between x₁ y₁ x₂ y₂ e (omega arith) in
    let none : cut.0 ≡ [] = nil_from_length cut.0 (omega (arith, ap length cut.1, length-append x₁ cut.0)) in
    (sym (cut.1 ∙ ap (λ z. x₁ ++ z) none ∙ append-nil x₁), cut.2 ∙ ap (λ z. z ++ y₂) none)

-- a step gives one word
pub gives_one : (p : Presentation) (u : Word) (step : PlacedStep) (v w : Word) → Gives p u step v → Gives p u step w → v ≡ w
gives_one p u step v w g h =
    let sides : g.sides ≡ h.sides = some_same g.sides h.sides (sym g.known ∙ h.known) in
    let first = cut_same g.before ((read_sides step.forward g.sides).0 ++ g.after) h.before ((read_sides step.forward h.sides).0 ++ h.after)
    (sym g.source ∙ h.source) (g.placed ∙ sym h.placed) in
    let second = cut_same (read_sides step.forward g.sides).0 g.after (read_sides step.forward h.sides).0 h.after first.1
    (ap (λ (s : Word × Word). length (read_sides step.forward s).0) sides) in
    g.target
    ∙ ap₂ (λ (x y : Word). x ++ ((read_sides step.forward g.sides).1 ++ y)) first.0 second.1
    ∙ ap (λ (s : Word × Word). h.before ++ ((read_sides step.forward s).1 ++ h.after)) sides
    ∙ sym h.target
  where
    some_same : (a b : Word × Word) → Some a ≡ Some b → a ≡ b
    some_same a b e = cc

-- and steps give one list of words
pub all_give_one : (p : Presentation) (u : Word) (steps : List PlacedStep) (vs ws : List Word) → AllGive p u steps vs → AllGive p u steps ws
    → vs ≡ ws
all_give_one p u [] [] [] g h = refl
all_give_one p u [] [] (w ∷ ws) g h = absurd h
all_give_one p u [] (v ∷ vs) ws g h = absurd g
all_give_one p u (step ∷ steps) [] ws g h = absurd g
all_give_one p u (step ∷ steps) (v ∷ vs) [] g h = absurd h
all_give_one p u (step ∷ steps) (v ∷ vs) (w ∷ ws) g h =
    let first = gives_one p u step v w g.0 h.0 in
    ap₂ (λ (x : Word) (xs : List Word). x ∷ xs) first
    (all_give_one p w steps vs ws (subst (λ x. AllGive p x steps vs) first g.1) h.1)

-- so they lead to one word
pub leads_one : (p : Presentation) (u : Word) (steps : List PlacedStep) (v w : Word) → LeadTo p u steps v → LeadTo p u steps w → v ≡ w
leads_one p u steps v w g h = sym g.2 ∙ ap (last_word u) (all_give_one p u steps g.0 h.0 g.1 h.1) ∙ h.2

-- no step, one step, and one step before others
leads_none : (p : Presentation) (u : Word) → LeadTo p u [] u
leads_none p u = ([], tt, refl)

leads_first : (p : Presentation) (u v w : Word) (step : PlacedStep) (steps : List PlacedStep) → Gives p u step v → LeadTo p v steps w
    → LeadTo p u (step ∷ steps) w
leads_first p u v w step steps g h = (v ∷ h.0, (g, h.1), h.2)

-- by recursion over the steps
leads_cases : (P : Presentation) (Q : Word → List PlacedStep → Word → Type 0) → ((u : Word) → Q u [] u)
    → ((u v w : Word) (step : PlacedStep) (steps : List PlacedStep) → Gives P u step v → Q v steps w → Q u (step ∷ steps) w)
    → (u : Word) (steps : List PlacedStep) (v : Word) → LeadTo P u steps v → Q u steps v
leads_cases P Q none more u steps v h = go u steps h.0 h.1 h.2
  where
    go : (u : Word) (steps : List PlacedStep) (vs : List Word) → AllGive P u steps vs → last_word u vs ≡ v → Q u steps v
    go u [] [] g e = subst (λ x. Q u [] x) e (none u)
    go u [] (w ∷ vs) g e = absurd g
    go u (step ∷ steps) [] g e = absurd g
    go u (step ∷ steps) (w ∷ vs) g e = more u w v step steps g.0 (go w steps vs g.1 e)

-- steps one after another
pub leads_after : (p : Presentation) (u v w : Word) (s t : List PlacedStep) → LeadTo p u s v → LeadTo p v t w → LeadTo p u (s ++ t) w
leads_after p u v w s t h k =
    leads_cases p (λ u s v. LeadTo p v t w → LeadTo p u (s ++ t) w) (λ u k. k)
    (λ u v w' step steps g further k. leads_first p u v w step (steps ++ t) g (further k)) u s v h k

-- steps back
gives_back : (p : Presentation) (u v : Word) (step : PlacedStep) → Gives p u step v → Gives p v (turned_step step) u
gives_back p u v step g = record {
  sides = g.sides;
  known = g.known;
  before = g.before;
  after = g.after;
  placed = g.placed;
  source = g.target ∙ ap (λ r. g.before ++ (r ++ g.after)) (sym (turned step.forward).0);
  target = g.source ∙ ap (λ r. g.before ++ (r ++ g.after)) (sym (turned step.forward).1);
}
  where
    turned : (b : Bool) → ((read_sides (not b) g.sides).0 ≡ (read_sides b g.sides).1) × ((read_sides (not b) g.sides).1 ≡ (read_sides b g.sides).0)
    turned true = (refl, refl)
    turned false = (refl, refl)

pub leads_back : (p : Presentation) (u : Word) (s : List PlacedStep) (v : Word) → LeadTo p u s v → LeadTo p v (reverse (map turned_step s)) u
leads_back p =
    leads_cases p (λ u s v. LeadTo p v (reverse (map turned_step s)) u) (leads_none p)
    (λ u v w step steps g back.
    subst (λ (ts : List PlacedStep). LeadTo p w ts u) (sym (reverse-append (turned_step step ∷ []) (map turned_step steps)))
    (leads_after p w v u (reverse (map turned_step steps)) (turned_step step ∷ []) back
    (leads_first p v u u (turned_step step) [] (gives_back p u v step g) (leads_none p u))))

-- steps in a context
gives_inside : (p : Presentation) (x y u v : Word) (step : PlacedStep) → Gives p u step v
    → Gives p (x ++ (u ++ y)) (shifted_step (length x) step) (x ++ (v ++ y))
gives_inside p x y u v step g = record {
  sides = g.sides;
  known = g.known;
  before = x ++ g.before;
  after = g.after ++ y;
  placed = length-append x g.before ∙ ap (λ n. length x + n) g.placed;
  source = regroup g.before (read_sides step.forward g.sides).0 g.after u g.source;
  target = regroup g.before (read_sides step.forward g.sides).1 g.after v g.target;
}
  where
    regroup : (before r after u : Word) → u ≡ before ++ (r ++ after) → x ++ (u ++ y) ≡ (x ++ before) ++ (r ++ (after ++ y))
    regroup before r after u e = rw e (simp append_assoc)

pub leads_inside : (p : Presentation) (x y u : Word) (s : List PlacedStep) (v : Word) → LeadTo p u s v
    → LeadTo p (x ++ (u ++ y)) (map (shifted_step (length x)) s) (x ++ (v ++ y))
leads_inside p x y =
    leads_cases p (λ u s v. LeadTo p (x ++ (u ++ y)) (map (shifted_step (length x)) s) (x ++ (v ++ y))) (λ u. leads_none p (x ++ (u ++ y)))
    (λ u v w step steps g further.
    leads_first p (x ++ (u ++ y)) (x ++ (v ++ y)) (x ++ (w ++ y)) (shifted_step (length x) step) (map (shifted_step (length x)) steps)
    (gives_inside p x y u v step g) further)

-- Steps without detours.
same_or_not : (u v : Word) → (u ≡ v) ⊎ (u ≡ v → ⊥)
same_or_not u v = elim (order_cases u v) [
  | inl l ↦ inr (λ e. before_irrefl v (subst (λ x. x ≺ v) e l))
  | inr (inl e) ↦ inl e
  | inr (inr g) ↦ inr (λ e. before_irrefl v (subst (λ x. v ≺ x) e g))
]

among : (w : Word) (ws : List Word) → IsIn w ws ⊎ (IsIn w ws → ⊥)
among w [] = inr (λ h. h)
among w (v ∷ ws) = elim (same_or_not w v) [
  | inl e ↦ inl (inl e)
  | inr n ↦ elim (among w ws) [ inl m ↦ inl (inr m) | inr k ↦ inr (λ h. elim h [ inl e ↦ n e | inr m ↦ k m ]) ]
]

-- steps whose words are different
record IsStraight (p : Presentation) (u v : Word) : Type 0 where
  steps : List PlacedStep
  words : List Word
  give : AllGive p u steps words
  last : last_word u words ≡ v
  different : AreDifferent (u ∷ words)

-- they may begin at any of their words
later_start : (p : Presentation) (u v w : Word) (steps : List PlacedStep) (words : List Word) → AllGive p v steps words
    → last_word v words ≡ w → AreDifferent (v ∷ words) → IsIn u (v ∷ words) → IsStraight p u w
later_start p u v w steps words g e d (inl same) =
    subst (λ x. IsStraight p x w) (sym same) (record { steps = steps; words = words; give = g; last = e; different = d })
later_start p u v w [] [] g e d (inr m) = absurd m
later_start p u v w [] (x ∷ words) g e d (inr m) = absurd g
later_start p u v w (step ∷ steps) [] g e d (inr m) = absurd g
later_start p u v w (step ∷ steps) (x ∷ words) g e d (inr m) = later_start p u x w steps words g.1 e d.1 m

straight : (p : Presentation) (u : Word) (steps : List PlacedStep) (v : Word) → LeadTo p u steps v → IsStraight p u v
straight p =
    leads_cases p (λ u steps v. IsStraight p u v)
    (λ u. record { steps = []; words = []; give = tt; last = refl; different = (λ m. in_from_contains u [] m, tt) })
    (λ u v w step steps g rest. elim (among u (v ∷ rest.words)) [
      | inl m ↦ later_start p u v w rest.steps rest.words rest.give rest.last rest.different m
      | inr n ↦ record {
        steps = step ∷ rest.steps;
        words = v ∷ rest.words;
        give = (g, rest.give);
        last = rest.last;
        different = (λ m. n (in_from_contains u (v ∷ rest.words) m), rest.different);
      }
    ])

pub leads_straight : (p : Presentation) (u : Word) (steps : List PlacedStep) (v : Word) → LeadTo p u steps v
    → (short : List PlacedStep) × (vs : List Word) × AllGive p u short vs × (last_word u vs ≡ v) × AreDifferent (u ∷ vs)
leads_straight p u steps v h = let at = straight p u steps v h in (at.steps, at.words, at.give, at.last, at.different)

-- a two-sided congruence relates two words exactly where steps lead from one to the other, its pairs being relations
pub leads_related : (c : Congruence) → IsTwoSided c → (u v : Word)
    → Related c u v ↔ ((steps : List PlacedStep) × LeadTo (with_relations c.presentation c.pairs) u steps v)
leads_related c two u v =
    let there = pairs_as_relations c two u v in
    let p = with_relations c.presentation c.pairs in (
      λ h. let at = related_all_give p u v (there.0 h) in (at.0, (at.1, at.2, at.3)),
      λ h. there.1 (subst (λ w. Related (of_presentation p) u w) h.1.2 (all_give_related p u h.0 h.1.0 h.1.1)),
    )
