-- A right congruence with infinitely many classes: bc is 1, and c is related to 1.
use Rattle.std.proofs.Common.{◌≡◌, ℕ, zero, suc, ◌<◌, ◌≤◌, true, Option, Some, None, List, [], ◌∷◌, ◌++◌, length, refl, sym, ◌∙◌, ap, subst, subst₂, arith, ◌⊎◌, inl, inr, ◌↔◌, length-append, append-nil}
use Rattle.std.proofs.lemmas.Bool.{cases_lt}
use Rattle.std.proofs.lemmas.List.{nil_from_length}
use Rattle.std.proofs.lemmas.List.Elements.{All-cons, All-nil}
use Rattle.std.specs.declared.cmp.Ordering.TheVariants.{Less}
use Rattle.theory.specs.Word.{Word, IsOver, IsElement}
use Rattle.theory.specs.ShortLex.{shortlex, ◌≺◌}
use Rattle.theory.specs.Congruence.{Presentation, EitherWay, IsWellFormed}
use Rattle.theory.specs.Completion.{Fits, Within, same, symmetric, transitive, relation, context, IsReduced, Joinable, OverlapsJoin, Rule, CompletionEnds, Listed, AreRules}
use Rattle.theory.specs.Marked.{marked}
use Rattle.theory.specs.Examples.{bicyclic_right, power}
use Rattle.theory.specs.declared.Kind.TheVariants.{TwoSided}
use Rattle.theory.proofs.Counting.{IsIn, in_from_contains}
use Rattle.theory.proofs.Chains.{step_whole, step_at}
use Rattle.theory.proofs.CompletionLaws.{proper_shorter}
use Rattle.theory.proofs.Completed.{side_too_long}
use Rattle.theory.proofs.Completeness.{joinable_refl}
use Rattle.theory.proofs.RuleLists.{listed_overlaps, listed_reduced}
use Rattle.theory.specs.Class.{SameClass, IsLeast, IsInfinite}
use Rattle.theory.specs.Listing.{IsNext}
use Rattle.theory.proofs.Words.{shorter_first, before_no_longer, before_irrefl, before_trans, order_cases}
use Rattle.theory.proofs.ClassLaws.{infinite_from_next}
use Rattle.theory.proofs.MarkedLaws.{marked_reduced}

abbrev bc : Word
bc = 0 ∷ 1 ∷ []

-- the marker, before c and alone
abbrev mc : Word
mc = 2 ∷ 1 ∷ []

abbrev m1 : Word
m1 = 2 ∷ []

abbrev M : Presentation
M = marked bicyclic_right

abbrev the_rules : List (Word × Word)
the_rules = (bc, []) ∷ (mc, m1) ∷ []

-- a property of each rule
each_rule : (P : Word × Word → Type 0) → P (bc, []) → P (mc, m1) → (l r : Word) → Listed the_rules l r → P (l, r)
each_rule P x y l r m = go (in_from_contains (l, r) the_rules m)
  where
    go : IsIn (l, r) the_rules → P (l, r)
    go (inl e) = subst P (sym e) x
    go (inr (inl e)) = subst P (sym e) y
    go (inr (inr h)) = absurd h

pub two_long : (l r : Word) → Listed the_rules l r → length l ≡ 2
two_long = each_rule (λ (p : Word × Word). length p.0 ≡ 2) refl refl

short_reduced : (u : Word) → length u ≤ 1 → IsReduced (Listed the_rules) u
short_reduced u h v s =
    omega (arith, two_long s.from s.to s.base, ap length s.source, length-append s.before (s.from ++ s.after), length-append s.from s.after)

rule_applies : (l r : Word) → Listed the_rules l r → IsReduced (Listed the_rules) l → ⊥
rule_applies l r m h = h r (step_whole (Listed the_rules) TwoSided l r m)

-- what the rules make of a word of at most two letters
abbrev pair_normal : ℕ → ℕ → Word
pair_normal zero zero = 0 ∷ 0 ∷ []
pair_normal zero (suc zero) = []
pair_normal zero (suc (suc b)) = 0 ∷ suc (suc b) ∷ []
pair_normal (suc zero) b = 1 ∷ b ∷ []
pair_normal (suc (suc zero)) zero = 2 ∷ 0 ∷ []
pair_normal (suc (suc zero)) (suc zero) = 2 ∷ []
pair_normal (suc (suc zero)) (suc (suc b)) = 2 ∷ suc (suc b) ∷ []
pair_normal (suc (suc (suc a))) b = suc (suc (suc a)) ∷ b ∷ []

abbrev normal : Word → Word
normal [] = []
normal (a ∷ []) = a ∷ []
normal (a ∷ b ∷ []) = pair_normal a b
normal (a ∷ b ∷ c ∷ u) = a ∷ b ∷ c ∷ u

pair_reduced : (a b : ℕ) → IsReduced (Listed the_rules) (a ∷ b ∷ []) → pair_normal a b ≡ a ∷ b ∷ []
pair_reduced zero zero h = refl
pair_reduced zero (suc zero) h = absurd (rule_applies bc [] (0, omega arith, refl) h)
pair_reduced zero (suc (suc b)) h = refl
pair_reduced (suc zero) b h = refl
pair_reduced (suc (suc zero)) zero h = refl
pair_reduced (suc (suc zero)) (suc zero) h = absurd (rule_applies mc m1 (1, omega arith, refl) h)
pair_reduced (suc (suc zero)) (suc (suc b)) h = refl
pair_reduced (suc (suc (suc a))) b h = refl

reduced_normal : (u : Word) → IsReduced (Listed the_rules) u → normal u ≡ u
reduced_normal [] h = refl
reduced_normal (a ∷ []) h = refl
reduced_normal (a ∷ b ∷ []) h = pair_reduced a b h
reduced_normal (a ∷ b ∷ c ∷ u) h = refl

short_normal : (u : Word) → length u < 2 → normal u ≡ u
short_normal u h = reduced_normal u (short_reduced u (omega arith))

either_normal : (r s : Word) → EitherWay M.relations r s → normal r ≡ normal s
either_normal r s h = elim h [
  | inl m ↦ each_rule (λ (p : Word × Word). normal p.0 ≡ normal p.1) refl refl r s m
  | inr m ↦ sym (each_rule (λ (p : Word × Word). normal p.0 ≡ normal p.1) refl refl s r m)
]

-- a word of two letters or more fits in no longer context
alone : (x u y : Word) → Fits M 2 (x ++ (u ++ y)) → 2 ≤ length u → (x ≡ []) × (y ≡ [])
alone x u y f h = (
  nil_from_length x (omega (arith, f.short, length-append x (u ++ y), length-append u y)),
  nil_from_length y (omega (arith, f.short, length-append x (u ++ y), length-append u y)),
)

unwrapped : (x u v y : Word) → (x ≡ []) × (y ≡ []) → normal u ≡ normal v → normal (x ++ (u ++ y)) ≡ normal (x ++ (v ++ y))
unwrapped x u v y e h =
    subst₂ (λ (p q : Word). normal (p ++ (u ++ q)) ≡ normal (p ++ (v ++ q))) (sym e.0) (sym e.1)
    (subst₂ (λ (p q : Word). normal p ≡ normal q) (sym (append-nil u)) (sym (append-nil v)) h)

within_normal : {u v : Word} → Within M 2 u v → normal u ≡ normal v
within_normal (same f) = refl
within_normal (symmetric w) = sym (within_normal w)
within_normal (transitive w x) = within_normal w ∙ within_normal x
within_normal (relation {r} {s} e f g) = either_normal r s e
within_normal (context u v x y w f g) = elim (cases_lt (length u) 2) [
  | inr long ↦ unwrapped x u v y (alone x u y f long) (within_normal w)
  | inl short ↦ elim (cases_lt (length v) 2) [
    | inr long ↦ unwrapped x u v y (alone x v y g long) (within_normal w)
    | inl brief ↦
        let one : u ≡ v = sym (short_normal u short) ∙ within_normal w ∙ short_normal v brief in
        ap (λ z. normal (x ++ (z ++ y))) one
  ]
]

are_rules : AreRules M 2 the_rules
are_rules = record {
  related = each_rule (λ (p : Word × Word). Within M 2 p.0 p.1)
      (relation (inl (0, omega arith, refl)) (record { over = (omega arith, (omega arith, tt)); short = omega arith }) (record { over = tt; short = omega arith }))
      (relation (inl (1, omega arith, refl)) (record { over = (omega arith, (omega arith, tt)); short = omega arith })
      (record { over = (omega arith, tt); short = omega arith }));
  falls = each_rule (λ (p : Word × Word). shortlex p.1 p.0 ≡ Less) refl refl;
  reduced = each_rule (λ (p : Word × Word). IsReduced (Listed the_rules) p.1) (short_reduced [] (omega arith)) (short_reduced m1 (omega arith));
  apart = λ l r f g m n h. omega (arith, proper_shorter f l h, two_long l r m, two_long f g n);
  full = λ u v w hu hv. sym (reduced_normal u hu) ∙ within_normal w ∙ reduced_normal v hv;
}

-- the right side of a rule by its left side
abbrev right_side : Word → Word
right_side [] = []
right_side (zero ∷ u) = []
right_side (suc a ∷ u) = m1

right_is : (l r : Word) → Listed the_rules l r → r ≡ right_side l
right_is = each_rule (λ (p : Word × Word). p.1 ≡ right_side p.0) refl refl

-- left sides end with c and begin with another letter
abbrev first_of : Word → ℕ
first_of [] = 0
first_of (a ∷ u) = a

abbrev second_of : Word → ℕ
second_of [] = 0
second_of (a ∷ u) = first_of u

begins : (l r : Word) → Listed the_rules l r → first_of l ≡ 1 → ⊥
begins = each_rule (λ (p : Word × Word). first_of p.0 ≡ 1 → ⊥) (λ e. omega (arith, e)) (λ e. omega (arith, e))

ends_with : (l r : Word) → Listed the_rules l r → second_of l ≡ 1
ends_with = each_rule (λ (p : Word × Word). second_of p.0 ≡ 1) refl refl

joins : OverlapsJoin (Listed the_rules)
joins [] b c v w full r s =
    let none : c ≡ [] = nil_from_length c (omega (arith, two_long b v r, two_long (b ++ c) w s, length-append b c)) in
    let whole : b ≡ b ++ c = sym (ap (λ x. b ++ x) none ∙ append-nil b) in
    let one : v ++ c ≡ w = ap (λ x. v ++ x) none ∙ append-nil v ∙ right_is b v r ∙ ap right_side whole ∙ sym (right_is (b ++ c) w s) in
    subst (λ x. Joinable (Listed the_rules) (v ++ c) x) one (joinable_refl (Listed the_rules) (v ++ c))
joins (x ∷ a) [] c v w full r s = absurd (full refl)
joins (x ∷ []) (y ∷ b) c v w full r s = absurd (begins (y ∷ (b ++ c)) w s (ends_with (x ∷ y ∷ b) v r))
joins (x ∷ d ∷ a) (y ∷ b) c v w full r s = absurd (omega (arith, two_long (x ∷ d ∷ (a ++ y ∷ b)) v r, length-append a (y ∷ b)))

abbrev Short : Word × Word → Type 0
Short r = (length r.0 ≤ 2) × (length r.1 ≤ 2)

pub bicyclic_ends_at_two : CompletionEnds (marked bicyclic_right) 2
bicyclic_ends_at_two = record {
  fits = All-cons Short (bc, []) ((mc, m1) ∷ []) (omega arith, omega arith) (All-cons Short (mc, m1) [] (omega arith, omega arith) (All-nil Short));
  join = listed_overlaps M 2 the_rules are_rules joins;
}

pub bicyclic_needs_two : CompletionEnds (marked bicyclic_right) 1 → ⊥
bicyclic_needs_two = side_too_long M 1 (record { side = bc; other = []; known = inl (0, omega arith, refl); long = omega arith })

-- The least words are the powers of b.
bicyclic_well_formed : IsWellFormed bicyclic_right
bicyclic_well_formed = record {
  relations = All-cons Sides (bc, []) [] ((omega arith, (omega arith, tt)), tt) (All-nil Sides);
  pairs = All-cons Sides (1 ∷ [], []) [] ((omega arith, tt), tt) (All-nil Sides);
}
  where
    Sides : Word × Word → Type 0
    Sides q = IsElement true 2 q.0 × IsElement true 2 q.1

-- no letter is c
abbrev IsFree : Word → Type 0
IsFree [] = Unit {0}
IsFree (a ∷ u) = (a ≡ 1 → ⊥) × IsFree u

free_right : (x y : Word) → IsFree (x ++ y) → IsFree y
free_right [] y h = h
free_right (a ∷ x) y h = free_right x y h.1

free_left : (x y : Word) → IsFree (x ++ y) → IsFree x
free_left [] y h = tt
free_left (a ∷ x) y h = (h.0, free_left x y h.1)

rule_not_free : (l r : Word) → Listed the_rules l r → IsFree l → ⊥
rule_not_free = each_rule (λ (p : Word × Word). IsFree p.0 → ⊥) (λ h. h.1.0 refl) (λ h. h.1.0 refl)

free_reduced : (u : Word) → IsFree u → IsReduced (Listed the_rules) u
free_reduced u h v s =
    rule_not_free s.from s.to s.base (free_left s.from s.after (free_right s.before (s.from ++ s.after) (subst IsFree s.source h)))

power_free : (n : ℕ) → IsFree (power n)
power_free zero = tt
power_free (suc n) = (λ e. omega (arith, e), power_free n)

power_over : (n : ℕ) → IsOver 2 (power n)
power_over zero = tt
power_over (suc n) = (omega arith, power_over n)

power_length : (n : ℕ) → length (power n) ≡ n
power_length zero = refl
power_length (suc n) = ap suc (power_length n)

-- a part of a reduced word is reduced
tail_reduced : (a : ℕ) (u : Word) → IsReduced (Listed the_rules) (a ∷ u) → IsReduced (Listed the_rules) u
tail_reduced a u h v s = h (a ∷ v) (record {
  before = a ∷ s.before;
  from = s.from;
  to = s.to;
  after = s.after;
  base = s.base;
  place = tt;
  source = ap (λ w. a ∷ w) s.source;
  target = ap (λ w. a ∷ w) s.target;
})

front_applies : (l r y : Word) → Listed the_rules l r → IsReduced (Listed the_rules) (l ++ y) → ⊥
front_applies l r y m h = h (r ++ y) (step_at (Listed the_rules) [] l r y m)

-- behind the marker or b stands no c
behind_b : (u : Word) → IsOver 2 u → IsReduced (Listed the_rules) (0 ∷ u) → (n : ℕ) × (u ≡ power n)
behind_b [] over h = (0, refl)
behind_b (zero ∷ u) over h = let rest = behind_b u over.1 (tail_reduced 0 (0 ∷ u) h) in (suc rest.0, ap (λ w. 0 ∷ w) rest.1)
behind_b (suc zero ∷ u) over h = absurd (front_applies bc [] u (0, omega arith, refl) h)
behind_b (suc (suc a) ∷ u) over h = absurd (omega (arith, over.0))

behind_marker : (u : Word) → IsOver 2 u → IsReduced (Listed the_rules) (2 ∷ u) → (n : ℕ) × (u ≡ power n)
behind_marker [] over h = (0, refl)
behind_marker (zero ∷ u) over h = let rest = behind_b u over.1 (tail_reduced 2 (0 ∷ u) h) in (suc rest.0, ap (λ w. 0 ∷ w) rest.1)
behind_marker (suc zero ∷ u) over h = absurd (front_applies mc m1 u (1, omega arith, refl) h)
behind_marker (suc (suc a) ∷ u) over h = absurd (omega (arith, over.0))

pub least_power : (u : Word) → IsLeast (SameClass bicyclic_right) u ↔ ((n : ℕ) × (u ≡ power n))
least_power u = (
  λ h. behind_marker u h.element.left ((listed_reduced M 2 the_rules are_rules (2 ∷ u)).1 ((by_marker u h.element.left).0 h)),
  λ p. subst (λ w. IsLeast (SameClass bicyclic_right) w) (sym p.1)
      ((by_marker (power p.0) (power_over p.0)).1
      ((listed_reduced M 2 the_rules are_rules (2 ∷ power p.0)).0 (free_reduced (2 ∷ power p.0) (λ e. omega (arith, e), power_free p.0)))),
)
  where
    by_marker : (u : Word) → IsOver 2 u → IsLeast (SameClass bicyclic_right) u ↔ IsReduced (Rule M 2) (2 ∷ u)
    by_marker = marked_reduced bicyclic_right bicyclic_well_formed 2 bicyclic_ends_at_two

-- so each has a next one
is_power : (n : ℕ) → IsLeast (SameClass bicyclic_right) (power n)
is_power n = (least_power (power n)).1 (n, refl)

next_power : (cursor : Option Word) → (u : Word) × IsNext (IsLeast (SameClass bicyclic_right)) ◌≺◌ cursor u
next_power None = (
  [],
  record { has = is_power 0; after = tt; least = λ y h a less. omega (arith, before_no_longer y [] less, nothing y less) },
)
  where
    nothing : (y : Word) → y ≺ [] → 1 ≤ length y
    nothing [] h = absurd (before_irrefl [] h)
    nothing (a ∷ y) h = omega arith
next_power (Some u) = elim (order_cases u (power (length u))) [
  | inl less ↦ (power (length u), next (length u) less (λ m h. longer m (omega (arith, h))))
  | inr (inl e) ↦ (power (suc (length u)), next (suc (length u)) (further refl) (λ m h. up_to m (omega (arith, h)) (inl e)))
  | inr (inr g) ↦ (power (suc (length u)), next (suc (length u)) (further refl) (λ m h. up_to m (omega (arith, h)) (inr g)))
]
  where
    further : {n : ℕ} → n ≡ suc (length u) → u ≺ power n
    further {n} e = shorter_first u (power n) (omega (arith, power_length n, e))

    longer : (m : ℕ) → m < length u → u ≺ power m → ⊥
    longer m h less = omega (arith, before_no_longer u (power m) less, power_length m)

    up_to : (m : ℕ) → m ≤ length u → (u ≡ power (length u)) ⊎ (power (length u) ≺ u) → u ≺ power m → ⊥
    up_to m h or less = elim (cases_lt m (length u)) [
      | inl lower ↦ longer m lower less
      | inr top ↦
          let same : m ≡ length u = omega arith in
          let less : u ≺ power (length u) = subst (λ n. u ≺ power n) same less in
          elim or [
            | inl e ↦ before_irrefl (power (length u)) (subst (λ w. w ≺ power (length u)) e less)
            | inr g ↦ before_irrefl u (before_trans u (power (length u)) u less g)
          ]
    ]

    next : (n : ℕ) → u ≺ power n → ((m : ℕ) → m < n → u ≺ power m → ⊥) → IsNext (IsLeast (SameClass bicyclic_right)) ◌≺◌ (Some u) (power n)
    next n less none = record {
      has = is_power n;
      after = less;
      least = λ y h a l.
          let at = (least_power y).0 h in
          let below : power at.0 ≺ power n = subst (λ w. w ≺ power n) at.1 l in
          let fewer : at.0 < n = elim (cases_lt at.0 n) [
            | inl f ↦ f
            | inr g ↦ elim (cases_lt n at.0) [
              | inl more ↦ absurd (before_irrefl (power n) (before_trans (power n) (power at.0) (power n) (shorter_first (power n) (power at.0) (omega (arith, power_length n, power_length at.0))) below))
              | inr most ↦ absurd (before_irrefl (power n) (subst (λ m. power m ≺ power n) (omega arith) below))
            ]
          ] in
          none at.0 fewer (subst (λ w. u ≺ w) at.1 a);
    }

pub infinite_powers : IsInfinite (SameClass bicyclic_right)
infinite_powers = infinite_from_next bicyclic_right next_power
