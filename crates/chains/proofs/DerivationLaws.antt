-- Facts that follow from relations, and the steps that stand for them.
use Rattle.std.proofs.Common.{◌≡◌, ℕ, zero, suc, ◌+◌, ◌-◌, ◌*◌, ◌^◌, ◌<◌, ◌≤◌, Bool, true, false, List, [], ◌∷◌, ◌++◌, map, reverse, take, drop, length, refl, sym, ◌∙◌, ap, ap₂, subst, arith, ◌⊎◌, inl, inr, Some, slice_get, append_assoc, length-append, length-take, Option, option_map, eqb, IsTrue}
use Rattle.std.specs.List.{sum_by}
use Rattle.std.proofs.Math.Nat.{mul-le-mul_left, mul-le-mul_right, pow-le-pow_right, pow-succ', one-le-pow, mul-add, suc-mul}
use Rattle.std.proofs.lemmas.Option.{slice_get_within, slice_get-map}
use Rattle.std.specs.Cmp.Lexicographic.{pointwise}
use Rattle.std.proofs.lemmas.Bool.Decides.{Decides-eqb}
use Rattle.std.proofs.lemmas.Slice.Eq.{slice_eq-Decides}
use Rattle.std.proofs.lemmas.List.{append-nil, length-map, map-append, reverse-append, reverse-reverse, take-append-drop, take-append-le, take_at}
use Rattle.std.proofs.lemmas.List.Sums.{sum_by-cons}
use Rattle.std.proofs.lemmas.List.Sorted.{sum_by-IsPermutation, IsPermutation-reverse}
use Rattle.theory.specs.Word.{Word}
use Rattle.theory.specs.Congruence.{Presentation}
use Rattle.theory.specs.PlacedStep.{PlacedStep, Gives, AllGive, LeadTo, read_sides, shifted_step, turned_step}
use Rattle.theory.proofs.PlacedChains.{leads_after, leads_back, leads_inside}
use Rattle.chains.specs.Chains.{step_of, steps_of}
use Rattle.chains.specs.Derivations.{AreDerived, Derived, Proves, all_of, count_of, in_place_of, moved, pair_of, read_steps, turned, weight_of, with_facts}
use Rattle.chains.specs.declared.derivations.Fact.{Fact}
use Rattle.chains.specs.declared.steps.ChainStep.{ChainStep}

-- what stands in the front of a list, and what stands behind
pub get_front : {X : Type 0} (xs ys : List X) (i : ℕ) (x : X) → slice_get xs i ≡ Some x → slice_get (xs ++ ys) i ≡ Some x
get_front [] ys i x e = let bad : ⊥ = cc in absurd bad
get_front (y ∷ xs) ys zero x e = e
get_front (y ∷ xs) ys (suc i) x e = get_front xs ys i x e

pub get_behind : {X : Type 0} (xs ys : List X) (j : ℕ) → slice_get (xs ++ ys) (length xs + j) ≡ slice_get ys j
get_behind [] ys j = ap (slice_get ys) (let none : 0 + j ≡ j = omega arith in none)
get_behind (x ∷ xs) ys j =
    ap (slice_get (x ∷ (xs ++ ys))) (let more : length (x ∷ xs) + j ≡ suc (length xs + j) = omega arith in more) ∙ get_behind xs ys j

pub get_less : {X : Type 0} (xs ys : List X) (i : ℕ) (x : X) → i < length xs → slice_get (xs ++ ys) i ≡ Some x → slice_get xs i ≡ Some x
get_less [] ys i x within e = absurd (omega arith)
get_less (y ∷ xs) ys zero x within e = e
get_less (y ∷ xs) ys (suc i) x within e = get_less xs ys i x (omega arith) e

pub get_last : {X : Type 0} (xs : List X) (y : X) (i : ℕ) (x : X) → slice_get (xs ++ y ∷ []) i ≡ Some x
    → ((i < length xs) × (slice_get xs i ≡ Some x)) ⊎ ((i ≡ length xs) × (y ≡ x))
get_last [] y zero x e = inr (refl, let same : y ≡ x = cc in same)
get_last [] y (suc i) x e = let bad : ⊥ = cc in absurd bad
get_last (z ∷ xs) y zero x e = inl (omega arith, e)
get_last (z ∷ xs) y (suc i) x e = elim (get_last xs y i x e) [
  | inl h ↦ inl (omega (arith, h.0), h.1)
  | inr h ↦ inr (ap suc h.0, h.1)
]

-- steps stay steps when there are more relations
all_give_more : (p q : Presentation) → ((i : ℕ) (sides : Word × Word) → slice_get p.relations i ≡ Some sides → slice_get q.relations i ≡ Some sides)
    → (u : Word) (steps : List PlacedStep) (vs : List Word) → AllGive p u steps vs → AllGive q u steps vs
all_give_more p q more u [] [] all = tt
all_give_more p q more u [] (v ∷ vs) all = absurd all
all_give_more p q more u (s ∷ steps) [] all = absurd all
all_give_more p q more u (s ∷ steps) (v ∷ vs) all =
    let g = all.0 in (
      record {
        sides = g.sides;
        known = more s.relation g.sides g.known;
        before = g.before;
        after = g.after;
        placed = g.placed;
        source = g.source;
        target = g.target;
      },
      all_give_more p q more v steps vs all.1,
    )

pub leads_more : (p : Presentation) (facts more : List Fact) (u : Word) (steps : List PlacedStep) (v : Word) → LeadTo (with_facts p facts) u steps v
    → LeadTo (with_facts p (facts ++ more)) u steps v
leads_more p facts more u steps v h = (
  h.0,
  all_give_more (with_facts p facts) (with_facts p (facts ++ more))
      (λ i sides e.
      subst (λ (rs : List (Word × Word)). slice_get rs i ≡ Some sides)
      (append_assoc p.relations (map pair_of facts) (map pair_of more) ∙ ap (λ (rs : List (Word × Word)). p.relations ++ rs) (sym (map-append pair_of facts more)))
      (get_front (p.relations ++ map pair_of facts) (map pair_of more) i sides e))
      u steps h.0 h.1,
  h.2,
)

-- a step by a relation needs no facts
pub gives_less : (p : Presentation) (facts : List Fact) (u : Word) (s : PlacedStep) (v : Word) → s.relation < length p.relations
    → Gives (with_facts p facts) u s v → Gives p u s v
gives_less p facts u s v within g = record {
  sides = g.sides;
  known = get_less p.relations (map pair_of facts) s.relation g.sides within g.known;
  before = g.before;
  after = g.after;
  placed = g.placed;
  source = g.source;
  target = g.target;
}

-- no facts, and one more
pub none_derived : (p : Presentation) → AreDerived p []
none_derived p n fact e = let bad : ⊥ = cc in absurd bad

pub derived_more : (p : Presentation) (facts : List Fact) (fact : Fact) → AreDerived p facts → Proves (with_facts p facts) fact
    → AreDerived p (facts ++ fact ∷ [])
derived_more p facts fact derived proves n g e = elim (get_last facts fact n g e) [
  | inl h ↦ subst (λ (fs : List Fact). Proves (with_facts p fs) g) (sym (take-append-le n facts (fact ∷ []) (omega (arith, h.0)))) (derived n g h.1)
  | inr h ↦ subst (λ (fs : List Fact). Proves (with_facts p fs) g) (sym (take_at facts (fact ∷ []) n (sym h.0)))
      (subst (Proves (with_facts p facts)) h.1 proves)
]

-- each fact follows from all
pub proves_all : (p : Presentation) (facts : List Fact) (n : ℕ) (fact : Fact) → AreDerived p facts → slice_get facts n ≡ Some fact
    → Proves (with_facts p facts) fact
proves_all p facts n fact derived e =
    subst (λ (fs : List Fact). Proves (with_facts p fs) fact) (take-append-drop n facts)
    (leads_more p (take n facts) (drop n facts) fact.left (steps_of fact.steps.items) fact.right (derived n fact e))

-- steps behind letters, and back, as the definitions have them
moved_steps : (n : ℕ) (steps : List ChainStep) → steps_of (map (moved n) steps) ≡ map (shifted_step n) (steps_of steps)
moved_steps n [] = refl
moved_steps n (s ∷ steps) = ap (λ (ts : List PlacedStep). shifted_step n (step_of s) ∷ ts) (moved_steps n steps)

turned_steps : (steps : List ChainStep) → steps_of (map turned steps) ≡ map turned_step (steps_of steps)
turned_steps [] = refl
turned_steps (s ∷ steps) = ap (λ (ts : List PlacedStep). turned_step (step_of s) ∷ ts) (turned_steps steps)

pub reversed_map : {X Y : Type 0} (f : X → Y) (xs : List X) → map f (reverse xs) ≡ reverse (map f xs)
reversed_map f [] = refl
reversed_map f (x ∷ xs) =
    ap (map f) (reverse-append (x ∷ []) xs) ∙ map-append f (reverse xs) (x ∷ []) ∙ ap (λ ys. ys ++ f x ∷ []) (reversed_map f xs)
    ∙ sym (reverse-append (f x ∷ []) (map f xs))

-- where a step is made by a pair of words, steps from the one to the other lead there too
pub leads_by : (P q : Presentation) (u w : Word) (step : ChainStep) (left right : Word) (steps : List ChainStep) → Gives P u (step_of step) w
    → slice_get P.relations step.relation ≡ Some (left, right) → LeadTo q left (steps_of steps) right → LeadTo q u (steps_of (in_place_of step steps)) w
leads_by P q u w step left right steps g is proves =
    subst (λ (ts : List PlacedStep). LeadTo q u ts w)
    (sym (moved_steps step.place (read_steps step.forward steps))) (
    subst (λ n. LeadTo q u (map (shifted_step n) (steps_of (read_steps step.forward steps))) w) g.placed
    (go step.forward (subst (λ (s : Word × Word). u ≡ g.before ++ ((read_sides step.forward s).0 ++ g.after)) sides g.source)
    (subst (λ (s : Word × Word). w ≡ g.before ++ ((read_sides step.forward s).1 ++ g.after)) sides g.target)))
  where
    some_same : (a b : Word × Word) → Some a ≡ Some b → a ≡ b
    some_same a b e = cc

    sides : g.sides ≡ (left, right)
    sides = some_same g.sides (left, right) (sym g.known ∙ is)

    back : steps_of (reverse (map turned steps)) ≡ reverse (map turned_step (steps_of steps))
    back = reversed_map step_of (map turned steps) ∙ ap reverse (turned_steps steps)

    go : (forward : Bool) → u ≡ g.before ++ ((read_sides forward (left, right)).0 ++ g.after) → w ≡ g.before ++ ((read_sides forward (left, right)).1 ++ g.after)
        → LeadTo q u (map (shifted_step (length g.before)) (steps_of (read_steps forward steps))) w
    go true source target =
        subst (λ x. LeadTo q x (map (shifted_step (length g.before)) (steps_of steps)) w) (sym source)
        (subst (λ x. LeadTo q (g.before ++ (left ++ g.after)) (map (shifted_step (length g.before)) (steps_of steps)) x) (sym target)
        (leads_inside q g.before g.after left (steps_of steps) right proves))
    go false source target =
        subst (λ x. LeadTo q x (map (shifted_step (length g.before)) (steps_of (reverse (map turned steps)))) w) (sym source)
        (subst (λ x. LeadTo q (g.before ++ (right ++ g.after)) (map (shifted_step (length g.before)) (steps_of (reverse (map turned steps)))) x) (sym target)
        (subst (λ (ts : List PlacedStep). LeadTo q (g.before ++ (right ++ g.after)) (map (shifted_step (length g.before)) ts) (g.before ++ (left ++ g.after))) (sym back)
        (leads_inside q g.before g.after right (reverse (map turned_step (steps_of steps))) left
        (leads_back q left (steps_of steps) right proves))))

-- where a step is made by a fact, its own steps lead there too
pub leads_instead : (P : Presentation) (u w : Word) (step : ChainStep) (fact : Fact) → Gives P u (step_of step) w
    → slice_get P.relations step.relation ≡ Some (pair_of fact) → Proves P fact → LeadTo P u (steps_of (in_place_of step fact.steps.items)) w
leads_instead P u w step fact g is proves = leads_by P P u w step fact.left fact.right fact.steps.items g is proves

-- weights: numbers below k are lighter than k
lighter : (m : ℕ) (P : Presentation) (k : ℕ) (u : Word) (steps : List ChainStep) (vs : List Word) → length P.relations ≤ k → AllGive P u (steps_of steps) vs
    → suc m * sum_by (λ (s : ChainStep). suc m ^ s.relation) steps ≤ length steps * suc m ^ k
lighter m P k u [] [] few all = let none : suc m * 0 ≤ 0 * suc m ^ k = omega arith in none
lighter m P k u [] (v ∷ vs) few all = absurd all
lighter m P k u (s ∷ steps) [] few all = absurd all
lighter m P k u (s ∷ steps) (v ∷ vs) few all =
    let f : ChainStep → ℕ = λ s. suc m ^ s.relation in
    let number : s.relation < length P.relations = slice_get_within P.relations s.relation all.0.sides all.0.known in
    let first : suc m * f s ≤ suc m ^ k =
    subst (λ n. n ≤ suc m ^ k) (pow-succ' (suc m) s.relation) (pow-le-pow_right (omega arith) (omega (arith, number))) in
    let rest = lighter m P k v steps vs few all.1 in
    let sum_is = sum_by-cons f s steps in
    subst (λ n. suc m * n ≤ length (s ∷ steps) * suc m ^ k) (sym sum_is) (two (suc m) (f s) (sum_by f steps) (length steps) (suc m ^ k) first rest)
  where
    two : (a b c d x : ℕ) → a * b ≤ x → a * c ≤ d * x → a * (b + c) ≤ suc d * x
    two a b c d x h g =
        let left : a * (b + c) ≡ a * b + a * c = mul-add a b c in
        let right : suc d * x ≡ d * x + x = suc-mul d x in
        omega (arith, left, right, h, g)

less_than_all : (m n sum x : ℕ) → n ≤ m → 0 < x → suc m * sum ≤ n * x → sum < x
less_than_all m n sum x few some h =
    let wide : n * x ≤ m * x = mul-le-mul_right x few in
    let all : suc m * x ≡ m * x + x = suc-mul m x in
    elim (nat_cases sum x) [
      | inl l ↦ l
      | inr g ↦ let more : suc m * x ≤ suc m * sum = mul-le-mul_left (suc m) g in absurd (omega (arith, wide, all, h, more, some))
    ]
  where
    nat_cases : (a b : ℕ) → (a < b) ⊎ (b ≤ a)
    nat_cases a b = search arith

sum_moved : (f : ChainStep → ℕ) → ((n : ℕ) (s : ChainStep) → f (moved n s) ≡ f s) → (n : ℕ) (steps : List ChainStep)
    → sum_by f (map (moved n) steps) ≡ sum_by f steps
sum_moved f same n [] = refl
sum_moved f same n (s ∷ steps) =
    sum_by-cons f (moved n s) (map (moved n) steps) ∙ ap₂ (λ (a b : ℕ). a + b) (same n s) (sum_moved f same n steps) ∙ sym (sum_by-cons f s steps)

sum_turned : (f : ChainStep → ℕ) → ((s : ChainStep) → f (turned s) ≡ f s) → (steps : List ChainStep) → sum_by f (map turned steps) ≡ sum_by f steps
sum_turned f same [] = refl
sum_turned f same (s ∷ steps) =
    sum_by-cons f (turned s) (map turned steps) ∙ ap₂ (λ (a b : ℕ). a + b) (same s) (sum_turned f same steps) ∙ sym (sum_by-cons f s steps)

count_within : (facts : List Fact) (n : ℕ) (fact : Fact) → slice_get facts n ≡ Some fact → length fact.steps.items ≤ count_of facts
count_within [] n fact e = let bad : ⊥ = cc in absurd bad
count_within (f ∷ facts) zero fact e =
    let same : f ≡ fact = cc in
    let is = sum_by-cons (λ (g : Fact). length g.steps.items) f facts in
    let this : length fact.steps.items ≡ length f.steps.items = ap (λ (g : Fact). length g.steps.items) (sym same) in
    omega (arith, is, this)
count_within (f ∷ facts) (suc n) fact e =
    let is = sum_by-cons (λ (g : Fact). length g.steps.items) f facts in
    let rest = count_within facts n fact e in
    omega (arith, is, rest)

module _ (d : Derived) (derived : AreDerived d.presentation d.facts) where
  -- the place of a fact, of a number that is none of a relation
  pub fact_within : (step : ChainStep) (u w : Word) → Gives (all_of d) u (step_of step) w → length d.presentation.relations ≤ step.relation
      → step.relation < length d.presentation.relations + length d.facts
  fact_within step u w g behind =
      let within = slice_get_within (all_of d).relations step.relation g.sides g.known in
      let count = length-append d.presentation.relations (map pair_of d.facts) in
      let facts = length-map d.facts pair_of in
      omega (arith, within, count, facts)

  -- the steps of a fact weigh less than a step by it
  pub weighs_less : (step : ChainStep) (n : ℕ) (fact : Fact) → slice_get d.facts n ≡ Some fact → step.relation ≡ length d.presentation.relations + n
      → weight_of d (in_place_of step fact.steps.items) < suc (count_of d.facts) ^ step.relation
  weighs_less step n fact is number =
      let m = count_of d.facts in
      let f : ChainStep → ℕ = λ s. suc m ^ s.relation in
      let before = with_facts d.presentation (take n d.facts) in
      let proves = derived n fact is in
      let all = length-append d.presentation.relations (map pair_of (take n d.facts)) in
      let facts = length-map (take n d.facts) pair_of in
      let front = length-take n d.facts in
      let few : length before.relations ≤ step.relation = omega (arith, number, all, facts, front) in
      let light = lighter m before step.relation fact.left fact.steps.items proves.0 few proves.1 in
      let some : 0 < suc m ^ step.relation = one-le-pow step.relation (suc m) (omega arith) in
      let less = less_than_all m (length fact.steps.items) (sum_by f fact.steps.items) (suc m ^ step.relation) (count_within d.facts n fact is) some light in
      subst (λ k. k < suc m ^ step.relation) (sym (sum_moved f (λ k s. refl) step.place (read_steps step.forward fact.steps.items) ∙ same_weight f (λ s. refl) step.forward fact.steps.items)) less
    where
      same_weight : (f : ChainStep → ℕ) → ((s : ChainStep) → f (turned s) ≡ f s) → (forward : Bool) (steps : List ChainStep) → sum_by f (read_steps forward steps) ≡ sum_by f steps
      same_weight f same true steps = refl
      same_weight f same false steps =
          sum_by-IsPermutation f (map turned steps) (reverse (map turned steps)) (IsPermutation-reverse (map turned steps)) ∙ sum_turned f same steps

-- what is put in for a step back
pub back_in_place : (step : ChainStep) (steps : List ChainStep) → step.forward ≡ false
    → map (λ s. moved step.place (turned s)) steps ≡ reverse (in_place_of step steps)
back_in_place step steps is =
    subst (λ (b : Bool). map (λ s. moved step.place (turned s)) steps ≡ reverse (map (moved step.place) (read_steps b steps))) (sym is)
    (twice steps ∙ ap (map (moved step.place)) (sym (reverse-reverse (map turned steps))) ∙ reversed_map (moved step.place) (reverse (map turned steps)))
  where
    twice : (steps : List ChainStep) → map (λ s. moved step.place (turned s)) steps ≡ map (moved step.place) (map turned steps)
    twice [] = refl
    twice (s ∷ steps) = ap (λ (ts : List ChainStep). moved step.place (turned s) ∷ ts) (twice steps)

-- back from where steps lead, over others, and on
pub leads_around : (P : Presentation) (a b left right : Word) (back middle on : List ChainStep) → LeadTo P a (steps_of back) left → LeadTo P a (steps_of middle) b
    → LeadTo P b (steps_of on) right → LeadTo P left (steps_of (reverse (map turned back) ++ (middle ++ on))) right
leads_around P a b left right back middle on there across further =
    let first : steps_of (reverse (map turned back)) ≡ reverse (map turned_step (steps_of back)) =
    reversed_map step_of (map turned back) ∙ ap reverse (turned_steps back) in
    subst (λ (s : List PlacedStep). LeadTo P left s right)
    (ap (λ (s : List PlacedStep). s ++ (steps_of middle ++ steps_of on)) (sym first)
    ∙ ap (λ (s : List PlacedStep). steps_of (reverse (map turned back)) ++ s) (sym (map-append step_of middle on))
    ∙ sym (map-append step_of (reverse (map turned back)) (middle ++ on)))
    (leads_after P left a right (reverse (map turned_step (steps_of back))) (steps_of middle ++ steps_of on) (leads_back P a (steps_of back) left there)
    (leads_after P a b right (steps_of middle) (steps_of on) across further))

-- a relation leads from side to side
pub leads_once : (P : Presentation) (n : ℕ) (left right : Word) → slice_get P.relations n ≡ Some (left, right)
    → LeadTo P left (steps_of (record { place = 0; relation = n; forward = true } ∷ [])) right
leads_once P n left right is =
    let gives : Gives P left (record { place = 0; relation = n; forward = true }) right = record {
      sides = (left, right);
      known = is;
      before = [];
      after = [];
      placed = refl;
      source = sym (append-nil left);
      target = sym (append-nil right);
    } in
    (right ∷ [], (gives, tt), refl)

pub leads_once_back : (P : Presentation) (n : ℕ) (left right : Word) → slice_get P.relations n ≡ Some (left, right)
    → LeadTo P right (steps_of (record { place = 0; relation = n; forward = false } ∷ [])) left
leads_once_back P n left right is =
    let gives : Gives P right (record { place = 0; relation = n; forward = false }) left = record {
      sides = (left, right);
      known = is;
      before = [];
      after = [];
      placed = refl;
      source = sym (append-nil right);
      target = sym (append-nil left);
    } in
    (left ∷ [], (gives, tt), refl)

-- the words of a number
pub fact_sides : (d : Derived) (n : ℕ) (fact : Fact) → length d.presentation.relations ≤ n → slice_get d.facts (n - length d.presentation.relations) ≡ Some fact
    → slice_get (all_of d).relations n ≡ Some (pair_of fact)
fact_sides d n fact behind is =
    let number : n ≡ length d.presentation.relations + (n - length d.presentation.relations) = omega (arith, behind) in
    ap (slice_get (all_of d).relations) number ∙ get_behind d.presentation.relations (map pair_of d.facts) (n - length d.presentation.relations)
    ∙ slice_get-map pair_of d.facts (n - length d.presentation.relations) ∙ ap (λ (o : Option Fact). option_map pair_of o) is

pub sides_tested : (rs : List (Word × Word)) (n : ℕ) (first second left right f l s r : Word) (p q : Bool) → slice_get rs n ≡ Some (first, second)
    → f ≡ first → l ≡ left → p ≡ pointwise eqb f l → s ≡ second → r ≡ right → q ≡ pointwise eqb s r
    → ((IsTrue p × IsTrue q) → slice_get rs n ≡ Some (left, right)) × (slice_get rs n ≡ Some (left, right) → IsTrue p × IsTrue q)
sides_tested rs n first second left right f l s r p q is ef el ep es er eq =
    let one = slice_eq-Decides Decides-eqb f l p ep in
    let two = slice_eq-Decides Decides-eqb s r q eq in (
      λ t. is ∙ ap₂ (λ (x y : Word). Some (x, y)) (sym ef ∙ one.0 t.0 ∙ el) (sym es ∙ two.0 t.1 ∙ er),
      λ e. let same = some_same (first, second) (left, right) (sym is ∙ e) in
          (one.1 (ef ∙ ap (λ (x : Word × Word). x.0) same ∙ sym el), two.1 (es ∙ ap (λ (x : Word × Word). x.1) same ∙ sym er)),
    )
  where
    some_same : (a b : Word × Word) → Some a ≡ Some b → a ≡ b
    some_same a b e = cc

pub first_tested : (rs : List (Word × Word)) (n : ℕ) (first second left right f l : Word) (p : Bool) → slice_get rs n ≡ Some (first, second)
    → f ≡ first → l ≡ left → p ≡ pointwise eqb f l → slice_get rs n ≡ Some (left, right) → IsTrue p
first_tested rs n first second left right f l p is ef el ep e =
    (slice_eq-Decides Decides-eqb f l p ep).1 (ef ∙ ap (λ (x : Word × Word). x.0) (some_same (first, second) (left, right) (sym is ∙ e)) ∙ sym el)
  where
    some_same : (a b : Word × Word) → Some a ≡ Some b → a ≡ b
    some_same a b e = cc

-- there, and back from where other steps lead
pub leads_there_and_back : (P : Presentation) (u v middle : Word) (there back : List ChainStep) → LeadTo P u (steps_of there) middle → LeadTo P v (steps_of back) middle
    → LeadTo P u (steps_of (there ++ reverse (map turned back))) v
leads_there_and_back P u v middle there back first second =
    let turned_is : steps_of (reverse (map turned back)) ≡ reverse (map turned_step (steps_of back)) =
    reversed_map step_of (map turned back) ∙ ap reverse (turned_steps back) in
    subst (λ (s : List PlacedStep). LeadTo P u s v)
    (ap (λ (s : List PlacedStep). steps_of there ++ s) (sym turned_is) ∙ sym (map-append step_of there (reverse (map turned back))))
    (leads_after P u middle v (steps_of there) (reverse (map turned_step (steps_of back))) first (leads_back P v (steps_of back) middle second))
