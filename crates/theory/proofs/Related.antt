-- What steps and chains keep, and right congruences.
use Rattle.std.proofs.Common.{◌≡◌, ℕ, Bool, true, false, List, [], ◌++◌, length, refl, sym, ap, subst, append-nil, arith, inl, inr, Contains, length-append}
use Rattle.std.proofs.lemmas.List.Elements.{All-contains}
use Rattle.std.proofs.lemmas.List.{nil_from_length}
use Rattle.theory.specs.Word.{Word, IsOver, IsElement}
use Rattle.theory.specs.Congruence.{Congruence, EitherWay, AreElements, IsWellFormed, IsRightSided}
use Rattle.theory.specs.Chain.{MayStand, Step, StepBy, Related}
use Rattle.theory.specs.declared.Kind.{Kind}
use Rattle.theory.specs.declared.Kind.TheVariants.{TwoSided}
use Rattle.theory.proofs.Words.{over_append, over_left, over_right}
use Rattle.theory.proofs.Chains.{joined_map, joined_one, joined_least, step_kept, step_whole}

pub element_over : (b : Bool) (k : ℕ) (u : Word) → IsElement b k u → IsOver k u
element_over true k u h = h
element_over false k u h = h.1

-- nothing is in an empty list
pub none_contained : {A : Type 0} (x : A) → Contains [] x → ⊥
none_contained x h = omega (arith, h.1)

pub none_either : (r s : Word) → EitherWay [] r s → ⊥
none_either r s h = elim h [ inl a ↦ none_contained (r, s) a | inr b ↦ none_contained (s, r) b ]

-- a side of a pair is an element
pub side_element : (b : Bool) (k : ℕ) (pairs : List (Word × Word)) (r s : Word) → AreElements b k pairs → EitherWay pairs r s
    → IsElement b k r × IsElement b k s
side_element b k pairs r s all h =
    elim h [
      | inl a ↦ All-contains (λ (p : Word × Word). IsElement b k p.0 × IsElement b k p.1) pairs (r, s) all a
      | inr a ↦ let both = All-contains (λ (p : Word × Word). IsElement b k p.0 × IsElement b k p.1) pairs (s, r) all a in (both.1, both.0)
    ]

-- the letters of a word after a step
pub step_over : (k : ℕ) (B : Word → Word → Type 0) (kind : Kind) → ((r s : Word) → B r s → IsOver k s) → (u v : Word) → Step B kind u v
    → IsOver k u → IsOver k v
step_over k B kind sides u v h over =
    let whole : IsOver k (h.before ++ (h.from ++ h.after)) = subst (λ w. IsOver k w) h.source over in
    let front = over_left k h.before (h.from ++ h.after) whole in
    let back = over_right k h.from h.after (over_right k h.before (h.from ++ h.after) whole) in
    rw (h.target) (over_append k h.before (h.to ++ h.after) front (over_append k h.to h.after (sides h.from h.to h.base) back))

-- a right-sided congruence keeps what is multiplied on the right
pub related_behind : (c : Congruence) → IsRightSided c → (u v y : Word) → Related c u v → Related c (u ++ y) (v ++ y)
related_behind c right u v y =
    joined_map (StepBy B c.kind c.pairs) (StepBy B c.kind c.pairs) (λ w. w ++ y) one u v
  where
    B : Word → Word → Type 0
    B = EitherWay c.presentation.relations

    one : (u v : Word) → StepBy (EitherWay c.presentation.relations) c.kind c.pairs u v
        → StepBy (EitherWay c.presentation.relations) c.kind c.pairs (u ++ y) (v ++ y)
    one u v h = elim h [
      | inl a ↦ inl (step_kept (EitherWay c.presentation.relations) TwoSided u v [] y a tt)
      | inr b ↦ inr (by_pair u v b)
    ]
      where
        by_pair : (u v : Word) → Step (EitherWay c.pairs) c.kind u v → Step (EitherWay c.pairs) c.kind (u ++ y) (v ++ y)
        by_pair u v b = elim right [
          | inl e ↦ step_kept (EitherWay c.pairs) c.kind u v [] y b (subst (λ kind. MayStand kind [] y) (sym e) refl)
          | inr e ↦ absurd (none_either b.from b.to (subst (λ pairs. EitherWay pairs b.from b.to) e b.base))
        ]

-- a relation read at the end of a word
pub related_by_relation_at : (c : Congruence) (x r s : Word) → EitherWay c.presentation.relations r s → Related c (x ++ r) (x ++ s)
related_by_relation_at c x r s h =
    joined_one (StepBy (EitherWay c.presentation.relations) c.kind c.pairs) (x ++ r) (x ++ s)
    (inl
    (record { before = x; from = r; to = s; after = []; base = h; place = tt; source = ap (λ w. x ++ w) (sym (append-nil r)); target = ap (λ w. x ++ w) (sym (append-nil s)) }))

-- a pair
pub related_by_pair : (c : Congruence) (r s : Word) → EitherWay c.pairs r s → Related c r s
related_by_pair c r s h =
    joined_one (StepBy (EitherWay c.presentation.relations) c.kind c.pairs) r s
    (inr (step_whole (EitherWay c.pairs) c.kind r s h))

-- an element's step leads to an element
pub element_step : (b : Bool) (k : ℕ) (B : Word → Word → Type 0) (kind : Kind) → ((r s : Word) → B r s → IsElement b k s) → (u v : Word)
    → Step B kind u v → IsElement b k u → IsElement b k v
element_step true k B kind sides u v s h = step_over k B kind sides u v s h
element_step false k B kind sides u v s h = (
  λ e. (sides s.from s.to s.base).0 (nil_from_length s.to (omega (arith, ap length e, ap length s.target, length-append s.before (s.to ++ s.after), length-append s.to s.after))),
  step_over k B kind (λ r t d. (sides r t d).1) u v s h.1,
)

-- what is related to an element is one
pub related_element : (c : Congruence) → IsWellFormed c → (u v : Word) → Related c u v
    → IsElement c.presentation.is_monoid c.presentation.letters u → IsElement c.presentation.is_monoid c.presentation.letters v
related_element c is =
    joined_least (StepBy (EitherWay c.presentation.relations) c.kind c.pairs)
    (λ u v. IsElement c.presentation.is_monoid c.presentation.letters u → IsElement c.presentation.is_monoid c.presentation.letters v) (λ u h. h)
    (λ u v w f g h. g (f h)) one
  where
    one : (u v : Word) → StepBy (EitherWay c.presentation.relations) c.kind c.pairs u v
        → IsElement c.presentation.is_monoid c.presentation.letters u → IsElement c.presentation.is_monoid c.presentation.letters v
    one u v s h = elim s [
      | inl a ↦
          element_step c.presentation.is_monoid c.presentation.letters (EitherWay c.presentation.relations) TwoSided
          (λ r t e. (side_element c.presentation.is_monoid c.presentation.letters c.presentation.relations r t is.relations e).1) u v a h
      | inr a ↦
          element_step c.presentation.is_monoid c.presentation.letters (EitherWay c.pairs) c.kind
          (λ r t e. (side_element c.presentation.is_monoid c.presentation.letters c.pairs r t is.pairs e).1) u v a h
    ]

-- a word with a letter is an element
pub nonempty_element : (b : Bool) (k : ℕ) (u : Word) → IsOver k u → (u ≡ [] → ⊥) → IsElement b k u
nonempty_element true k u over full = over
nonempty_element false k u over full = (full, over)
