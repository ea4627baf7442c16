-- Front parts of the targets of tables, and the order of dictionaries.
use Rattle.std.proofs.Common.{◌≡◌, ℕ, ◌+◌, ◌*◌, ◌<◌, ◌≤◌, max, Bool, true, false, List, [], ◌∷◌, ◌++◌, length, take, All, refl, sym, ◌∙◌, ap, ap₂, subst, arith, ◌⊎◌, inl, inr, append-nil, nat_cmp, Less, Equal, length-append}
use Rattle.std.proofs.Math.Nat.{mul-le-mul_left}
use Rattle.std.specs.Ordering.{ordering_then}
use Rattle.std.specs.Cmp.Lexicographic.{slice_cmp}
use Rattle.std.proofs.lemmas.Cmp.{nat_list_cmp_total, tied_itself}
use Rattle.std.proofs.lemmas.Bool.{cases_lt}
use Rattle.std.proofs.lemmas.List.{take_at, drop_at, take-append-le}
use Rattle.std.proofs.lemmas.List.Elements.{All-head, All-tail, All-take, All-drop, All-append, All-cons, All-nil}
use Rattle.theory.specs.Congruence.{Presentation}
use Rattle.theory.specs.LowIndex.{IsNumberedFrom}
use Rattle.theory.proofs.Words.{nat_Less, nat_Equal}
use Rattle.word_graph.specs.Numbered.{max_from}
use Rattle.word_graph.proofs.NumberLaws.{numbered_front, numbered_behind, numbered_append, max_append, start_below}
use Rattle.sims_one.specs.Targets.{seen, IsFront, AreAllowed, least_target, most_nodes}
use Rattle.sims_one.specs.Search.{Before}

pub seen_more : (t u : List ℕ) → seen t ≤ seen (t ++ u)
seen_more t u = omega (arith, max_append 0 t u, start_below (max_from 0 t) u)

pub front_next : (k : ℕ) (t : List ℕ) (n : ℕ) (u : List ℕ) → IsFront k (t ++ n ∷ u) → n ≤ seen t
front_next k t n u f = (numbered_behind 0 t (n ∷ u) f.numbered).0

-- a target is wanting behind a front part that goes on
pub front_wants : (k : ℕ) (t : List ℕ) (n : ℕ) (u : List ℕ) → IsFront k (t ++ n ∷ u) → length t < k * seen t
front_wants k t n u f =
    let within : length t < length (t ++ n ∷ u) = omega (arith, length-append t (n ∷ u)) in
    subst (λ (xs : List ℕ). length t < k * seen xs) (take_at t (n ∷ u) (length t) refl) (f.goes_on (length t) within)

pub front_front : (k : ℕ) (t u : List ℕ) → IsFront k (t ++ u) → IsFront k t
front_front k t u f = record {
  numbered = numbered_front 0 t u f.numbered;
  goes_on = λ j h. subst (λ (xs : List ℕ). j < k * seen xs) (take-append-le j t u (omega arith)) (f.goes_on j (omega (arith, h, length-append t u)));
  fits = fits u f;
}
  where
    fits : (u : List ℕ) → IsFront k (t ++ u) → length t ≤ k * seen t
    fits [] f = subst (λ (xs : List ℕ). length xs ≤ k * seen xs) (append-nil t) f.fits
    fits (n ∷ u) f = omega (arith, front_wants k t n u f)

pub times_more : (k m n : ℕ) → m ≤ n → k * m ≤ k * n
times_more k m n h = mul-le-mul_left k h

-- a place where a target is wanting
pub place_small : (k s place : ℕ) → k ≤ 53 → s ≤ 17 → place < k * s → place < 901
place_small k s place few seen h = omega (arith, h, times_more k s 17 seen, few)

-- the rows of the nodes seen are not full
pub wanting_here : (k letters nodes place : ℕ) (t : List ℕ) → letters ≡ k → nodes ≡ seen t → place ≡ length t → place < letters * nodes → length t < k * seen t
wanting_here k letters nodes place t e f l h = subst (λ z. length t < z * seen t) e (subst (λ z. length t < letters * z) f (subst (λ z. z < letters * nodes) l h))

pub front_push : (k : ℕ) (t : List ℕ) (n : ℕ) → IsFront k t → length t < k * seen t → n ≤ seen t → IsFront k (t ++ n ∷ [])
front_push k t n f wants low = record {
  numbered = numbered_append 0 t (n ∷ []) f.numbered (low, tt);
  goes_on = λ j h. go j (cases_lt j (length t)) (omega (arith, h, length-append t (n ∷ [])));
  fits = omega (arith, length-append t (n ∷ []), wants, times_more k (seen t) (seen (t ++ n ∷ [])) (seen_more t (n ∷ [])));
}
  where
    go : (j : ℕ) → (j < length t) ⊎ (length t ≤ j) → j ≤ length t → j < k * seen (take j (t ++ n ∷ []))
    go j (inl h) most = subst (λ (xs : List ℕ). j < k * seen xs) (sym (take-append-le j t (n ∷ []) (omega arith))) (f.goes_on j h)
    go j (inr h) most =
        let same : length t ≡ j = omega arith in
        subst (λ (xs : List ℕ). j < k * seen xs) (sym (take_at t (n ∷ []) j same)) (omega (arith, wants, same))

-- nothing goes on behind the targets of a whole table
pub full_ends : (k : ℕ) (t : List ℕ) (n : ℕ) (u : List ℕ) → IsFront k (t ++ n ∷ u) → k * seen t ≤ length t → ⊥
full_ends k t n u f full = omega (arith, front_wants k t n u f)

pub front_none : (k : ℕ) → IsFront k []
front_none k = record { numbered = tt; goes_on = λ j h. absurd (omega arith); fits = omega arith }

pub max_below : (b s : ℕ) (xs : List ℕ) → s < b → All (λ m. m < b) xs → max_from s xs < b
max_below b s [] h all = h
max_below b s (x ∷ xs) h all =
    let here : x < b = All-head (λ m. m < b) x xs all in
    max_below b (max s x) xs (omega arith) (All-tail (λ m. m < b) x xs all)

pub max_long : (s : ℕ) (xs : List ℕ) → IsNumberedFrom s xs → max_from s xs ≤ s + length xs
max_long s [] h = omega arith
max_long s (x ∷ xs) h = let rest = max_long (max s x) xs h.1 in omega (arith, rest, h.0)

module _ (p : Presentation) (n : ℕ) where
  abbrev IsAllowed : ℕ → Type 0
  IsAllowed m = (least_target p.is_monoid ≤ m) × (m < most_nodes p.is_monoid n)

  pub allowed_push : (t : List ℕ) (m : ℕ) → AreAllowed p n t → least_target p.is_monoid ≤ m → m < most_nodes p.is_monoid n → AreAllowed p n (t ++ m ∷ [])
  allowed_push t m all least most = All-append IsAllowed t (m ∷ []) all (All-cons IsAllowed m [] (least, most) (All-nil IsAllowed))

  pub allowed_front : (t u : List ℕ) → AreAllowed p n (t ++ u) → AreAllowed p n t
  allowed_front t u all = subst (λ (xs : List ℕ). AreAllowed p n xs) (take_at t u (length t) refl) (All-take IsAllowed (length t) (t ++ u) all)

  pub allowed_next : (t : List ℕ) (m : ℕ) (u : List ℕ) → AreAllowed p n (t ++ m ∷ u) → (least_target p.is_monoid ≤ m) × (m < most_nodes p.is_monoid n)
  allowed_next t m u all = All-head IsAllowed m u (subst (λ (xs : List ℕ). AreAllowed p n xs) (drop_at t (m ∷ u) (length t) refl) (All-drop IsAllowed (length t) (t ++ m ∷ u) all))

  pub allowed_below : (b : ℕ) (t : List ℕ) → AreAllowed p n t → most_nodes p.is_monoid n ≤ b → All (λ m. m < b) t
  allowed_below b t all h = λ i d lt. omega (arith, all i d lt, h)

pub most_few : (is_monoid : Bool) (n : ℕ) → n ≤ 16 → most_nodes is_monoid n ≤ 17
most_few true n h = omega arith
most_few false n h = omega arith

-- as many nodes as may be
pub few_seen : (p : Presentation) (n : ℕ) (t : List ℕ) → AreAllowed p n t → n ≤ 16 → seen t ≤ 17
few_seen p n t allowed few = let h = max_below 17 0 t (omega arith) (allowed_below p n 17 t allowed (most_few p.is_monoid n few)) in omega (arith, h)

-- the order of dictionaries
pub before_itself : (t : List ℕ) → Before t t → ⊥
before_itself t h = let e = tied_itself nat_list_cmp_total t in let d : Less ≡ Equal = sym h ∙ e in cc

pub before_both : (t u : List ℕ) → Before t u → Before u t → ⊥
before_both t u h g = before_itself t (nat_list_cmp_total.trans t u t h g)

pub common_front : (t u v : List ℕ) → slice_cmp nat_cmp (t ++ u) (t ++ v) ≡ slice_cmp nat_cmp u v
common_front [] u v = refl
common_front (x ∷ t) u v = ap (λ o. ordering_then o (slice_cmp nat_cmp (t ++ u) (t ++ v))) (nat_Equal x) ∙ common_front t u v

pub before_heads : (t : List ℕ) (m n : ℕ) (u v : List ℕ) → m < n → Before (t ++ m ∷ u) (t ++ n ∷ v)
before_heads t m n u v h = common_front t (m ∷ u) (n ∷ v) ∙ ap (λ o. ordering_then o (slice_cmp nat_cmp u v)) (nat_Less m n h)

-- u begins with t, or compares in one way with all that do
pub data Compared (t u : List ℕ) : Type 0 where
  begins : (rest : List ℕ) → u ≡ t ++ rest → Compared t u
  below : ((v : List ℕ) → Before (t ++ v) u) → Compared t u
  above : ((v : List ℕ) → Before u (t ++ v)) → Compared t u

pub compared : (t u : List ℕ) → Compared t u
compared [] u = begins u refl
compared (x ∷ t) [] = above (λ v. refl)
compared (x ∷ t) (y ∷ u) = elim (cases_lt x y) [
  | inl less ↦ below (λ v. ap (λ o. ordering_then o (slice_cmp nat_cmp (t ++ v) u)) (nat_Less x y less))
  | inr most ↦ elim (cases_lt y x) [
    | inl more ↦ above (λ v. ap (λ o. ordering_then o (slice_cmp nat_cmp u (t ++ v))) (nat_Less y x more))
    | inr less ↦ same (omega arith) (compared t u)
  ]
]
  where
    same : x ≡ y → Compared t u → Compared (x ∷ t) (y ∷ u)
    same e (begins rest is) = begins rest (ap₂ (λ (z : ℕ) (zs : List ℕ). z ∷ zs) (sym e) is)
    same e (below h) = below (λ v. ap (λ z. ordering_then (nat_cmp x z) (slice_cmp nat_cmp (t ++ v) u)) (sym e) ∙ ap (λ o. ordering_then o (slice_cmp nat_cmp (t ++ v) u)) (nat_Equal x) ∙ h v)
    same e (above h) = above (λ v. ap (λ z. ordering_then (nat_cmp z x) (slice_cmp nat_cmp u (t ++ v))) (sym e) ∙ ap (λ o. ordering_then o (slice_cmp nat_cmp u (t ++ v))) (nat_Equal x) ∙ h v)
