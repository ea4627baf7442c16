-- Lists of words none of which stands in another.
use Rattle.std.proofs.Common.{◌≡◌, Bool, true, false, List, [], ◌∷◌, ◌++◌, refl, sym, ◌∙◌, ap, subst, inl, inr, append-nil}
use Rattle.std.specs.List.{All, filter}
use Rattle.std.proofs.lemmas.List.Elements.{All-cons, All-head, All-tail, All-nil, All-contains}
use Rattle.std.proofs.lemmas.Bool.{cases_Bool}
use Rattle.theory.specs.Word.{Word, IsFactor, IsProperFactor}
use Rattle.theory.specs.Completion.{Listed}
use Rattle.theory.proofs.Counting.{IsIn, in_from_contains, contains_from_in}
use Rattle.knuth_bendix.specs.Held.{AreAllClear, AreClear, lefts}
use Rattle.knuth_bendix.proofs.ListedRules.{left_in}

-- a word stands in itself
pub stands_in_itself : (f : Word) → IsFactor f f
stands_in_itself f = record { before = []; after = []; is = sym (append-nil f) }

all_in : {X : Type 0} (P : X → Type 0) (xs : List X) (x : X) → All P xs → IsIn x xs → P x
all_in P xs x h m = All-contains P xs x h (contains_from_in x xs m)

-- two listed rules are one where the left side of the one stands in that of the other
pub same_rule : (rules : List (Word × Word)) → AreAllClear (lefts rules) → (p q : Word × Word)
    → IsIn p rules → IsIn q rules → IsFactor q.0 p.0 → p ≡ q
same_rule [] clear p q m n stands = absurd m
same_rule (x ∷ rules) clear p q (inl e) (inl d) stands = e ∙ sym d
same_rule (x ∷ rules) clear p q (inl e) (inr n) stands =
    absurd ((all_in (λ g. AreClear x.0 g) (lefts rules) q.0 clear.0 (left_in q rules n)).back (subst (λ (r : Word × Word). IsFactor q.0 r.0) e stands))
same_rule (x ∷ rules) clear p q (inr m) (inl d) stands =
    absurd ((all_in (λ g. AreClear x.0 g) (lefts rules) p.0 clear.0 (left_in p rules m)).there (subst (λ (r : Word × Word). IsFactor r.0 p.0) d stands))
same_rule (x ∷ rules) clear p q (inr m) (inr n) stands = same_rule rules clear.1 p q m n stands

-- so no left side stands inside another
pub clear_apart : (rules : List (Word × Word)) → AreAllClear (lefts rules) → (l r f g : Word) → Listed rules l r → Listed rules f g → IsProperFactor f l → ⊥
clear_apart rules clear l r f g m n inside =
    inside.proper (sym (ap (λ (p : Word × Word). p.0) (same_rule rules clear (l, r) (f, g) (in_from_contains (l, r) rules m) (in_from_contains (f, g) rules n) inside.factor)))

-- one more word
pub clear_push : (fs : List Word) (g : Word) → AreAllClear fs → ((f : Word) → IsIn f fs → AreClear f g) → AreAllClear (fs ++ g ∷ [])
clear_push [] g clear each = (All-nil (λ h. AreClear g h), tt)
clear_push (f ∷ fs) g clear each = (
  all_push fs clear.0,
  clear_push fs g clear.1 (λ h m. each h (inr m)),
)
  where
    all_push : (hs : List Word) → All (λ h. AreClear f h) hs → All (λ h. AreClear f h) (hs ++ g ∷ [])
    all_push [] h = All-cons (λ h. AreClear f h) g [] (each f (inl refl)) (All-nil (λ h. AreClear f h))
    all_push (k ∷ hs) h =
        All-cons (λ h. AreClear f h) k (hs ++ g ∷ []) (All-head (λ h. AreClear f h) k hs h) (all_push hs (All-tail (λ h. AreClear f h) k hs h))

-- some of the rules
pub clear_filter : (test : Word × Word → Bool) (rules : List (Word × Word)) → AreAllClear (lefts rules) → AreAllClear (lefts (filter test rules))
clear_filter test [] clear = tt
clear_filter test (x ∷ rules) clear = elim (cases_Bool (test x)) [
  | inl e ↦ rw e (some rules clear.0, clear_filter test rules clear.1)
  | inr e ↦ rw e (clear_filter test rules clear.1)
]
  where
    some : (ys : List (Word × Word)) → All (λ g. AreClear x.0 g) (lefts ys) → All (λ g. AreClear x.0 g) (lefts (filter test ys))
    some [] h = h
    some (y ∷ ys) h = elim (cases_Bool (test y)) [
      | inl e ↦ rw e (All-cons (λ g. AreClear x.0 g) y.0 (lefts (filter test ys)) (All-head (λ g. AreClear x.0 g) y.0 (lefts ys) h) (some ys (All-tail (λ g. AreClear x.0 g) y.0 (lefts ys) h)))
      | inr e ↦ rw e (some ys (All-tail (λ g. AreClear x.0 g) y.0 (lefts ys) h))
    ]

-- what a filter keeps
pub filter_in : {X : Type 0} (test : X → Bool) (xs : List X) (x : X) → IsIn x (filter test xs) → IsIn x xs × (test x ≡ true)
filter_in test [] x m = absurd m
filter_in {X} test (y ∷ xs) x m = elim (cases_Bool (test y)) [
  | inl e ↦ elim (kept e m) [
    | inl d ↦ (inl d, ap test d ∙ e)
    | inr n ↦ let r = filter_in test xs x n in (inr r.0, r.1)
  ]
  | inr e ↦ let r = filter_in test xs x (left_out e m) in (inr r.0, r.1)
]
  where
    kept : test y ≡ true → IsIn x (filter test (y ∷ xs)) → IsIn x (y ∷ filter test xs)
    kept e m = rw e at m

    left_out : test y ≡ false → IsIn x (filter test (y ∷ xs)) → IsIn x (filter test xs)
    left_out e m = rw e at m

pub in_filter : {X : Type 0} (test : X → Bool) (xs : List X) (x : X) → IsIn x xs → test x ≡ true → IsIn x (filter test xs)
in_filter test [] x m t = absurd m
in_filter test (y ∷ xs) x (inl e) t = let d : test y ≡ true = ap test (sym e) ∙ t in rw d (inl e)
in_filter test (y ∷ xs) x (inr m) t = elim (cases_Bool (test y)) [
  | inl e ↦ rw e (inr (in_filter test xs x m t))
  | inr e ↦ rw e (in_filter test xs x m t)
]
