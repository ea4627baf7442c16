-- The equivalence within a bound is decidable, and each word that fits has a least word in it.
use Rattle.std.proofs.Common.{◌≡◌, ◌≢◌, ℕ, zero, suc, ◌<◌, ◌≤◌, Bool, true, false, ◌&&◌, ◌||◌, List, [], ◌∷◌, ◌++◌, length, map, refl, sym, ◌∙◌, ap, subst, subst₂, arith, ◌⊎◌, inl, inr, Contains, cond, append_assoc, append-nil, Ordering, Less, Equal, Greater}
use Rattle.std.proofs.lemmas.Bool.{cases_lt}
use Rattle.theory.specs.Word.{Word, IsOver}
use Rattle.theory.specs.ShortLex.{shortlex, ◌≺◌}
use Rattle.theory.specs.Congruence.{Presentation}
use Rattle.theory.specs.Class.{IsNormal}
use Rattle.theory.specs.Completion.{Fits, Within, same, symmetric, transitive, relation, context}
use Rattle.theory.proofs.Words.{shortlex_induction, shortlex_total, shortlex_exact}
use Rattle.theory.proofs.Counting.{IsIn, in_from_contains, contains_from_in}
use Rattle.theory.proofs.CompletionLaws.{within_left, fits_factor}
use Rattle.std.proofs.lemmas.Cmp.{tied_itself}

-- an element with a property, or none in the list
pub find_in : {X : Type 0} (P : X → Type 0) → ((x : X) → P x ⊎ (P x → ⊥)) → (xs : List X)
    → ((x : X) × IsIn x xs × P x) ⊎ ((x : X) → IsIn x xs → P x → ⊥)
find_in P dec [] = inr (λ x m h. m)
find_in P dec (x ∷ xs) = elim (dec x) [
  | inl h ↦ inl (x, inl refl, h)
  | inr no' ↦ elim (find_in P dec xs) [
    | inl r ↦ inl (r.0, inr r.1, r.2)
    | inr none ↦ inr (λ y m h. elim m [ inl e ↦ no' (subst P e h) | inr n ↦ none y n h ])
  ]
]

bool_cases : (b : Bool) → (b ≡ true) ⊎ (b ≡ false)
bool_cases true = inl refl
bool_cases false = inr refl

true_decides : (b : Bool) → (b ≡ true) ⊎ (b ≡ true → ⊥)
true_decides true = inl refl
true_decides false = inr (λ e. cc)

both_decide : {P Q : Type 0} → P ⊎ (P → ⊥) → Q ⊎ (Q → ⊥) → (P × Q) ⊎ (P × Q → ⊥)
both_decide (inl p) (inl q) = inl (p, q)
both_decide (inl p) (inr no') = inr (λ h. no' h.1)
both_decide (inr no') q = inr (λ h. no' h.0)

some_decides : {X : Type 0} (P : X → Type 0) → ((x : X) → P x ⊎ (P x → ⊥)) → (xs : List X)
    → ((x : X) × IsIn x xs × P x) ⊎ ((x : X) × IsIn x xs × P x → ⊥)
some_decides P dec xs = elim (find_in P dec xs) [ inl r ↦ inl r | inr none ↦ inr (λ h. none h.0 h.1 h.2) ]

pub less_decides : (u v : Word) → (u ≺ v) ⊎ (u ≺ v → ⊥)
less_decides u v = go (shortlex u v) refl
  where
    go : (o : Ordering) → shortlex u v ≡ o → (u ≺ v) ⊎ (u ≺ v → ⊥)
    go Less e = inl e
    go Equal e = inr (λ h. cc)
    go Greater e = inr (λ h. cc)

pub word_decides : (u v : Word) → (u ≡ v) ⊎ (u ≡ v → ⊥)
word_decides u v = go (shortlex u v) refl
  where
    differs : shortlex u v ≢ Equal → u ≡ v → ⊥
    differs h e = h (subst (λ w. shortlex u w ≡ Equal) e (tied_itself shortlex_total u))

    go : (o : Ordering) → shortlex u v ≡ o → (u ≡ v) ⊎ (u ≡ v → ⊥)
    go Less e = inr (differs (λ d. cc))
    go Equal e = inl (shortlex_exact u v e)
    go Greater e = inr (differs (λ d. cc))

over_decides : (k : ℕ) (u : Word) → IsOver k u ⊎ (IsOver k u → ⊥)
over_decides k [] = inl tt
over_decides k (a ∷ u) = both_decide (below a) (over_decides k u)
  where
    below : (a : ℕ) → (a < k) ⊎ (a < k → ⊥)
    below a = elim (cases_lt a k) [ inl l ↦ inl l | inr g ↦ inr (λ l. omega arith) ]

-- the words over k letters with at most n
in_left : {X : Type 0} (x : X) (xs ys : List X) → IsIn x xs → IsIn x (xs ++ ys)
in_left x [] ys h = absurd h
in_left x (z ∷ xs) ys (inl e) = inl e
in_left x (z ∷ xs) ys (inr h) = inr (in_left x xs ys h)

in_right : {X : Type 0} (x : X) (xs ys : List X) → IsIn x ys → IsIn x (xs ++ ys)
in_right x [] ys h = h
in_right x (z ∷ xs) ys h = inr (in_right x xs ys h)

in_map : {X Y : Type 0} (f : X → Y) (x : X) (xs : List X) → IsIn x xs → IsIn (f x) (map f xs)
in_map f x [] h = absurd h
in_map f x (z ∷ xs) (inl e) = inl (ap f e)
in_map f x (z ∷ xs) (inr h) = inr (in_map f x xs h)

abbrev pub letters_before : ℕ → List Word → List Word
letters_before zero ws = []
letters_before (suc a) ws = map (λ w. a ∷ w) ws ++ letters_before a ws

in_letters_before : (k : ℕ) (ws : List Word) (a : ℕ) (u : Word) → a < k → IsIn u ws → IsIn (a ∷ u) (letters_before k ws)
in_letters_before zero ws a u h m = absurd (omega arith)
in_letters_before (suc k) ws a u h m = elim (cases_lt a k) [
  | inl l ↦ in_right (a ∷ u) (map (λ w. k ∷ w) ws) (letters_before k ws) (in_letters_before k ws a u l m)
  | inr g ↦
      let same : k ≡ a = omega arith in
      in_left (a ∷ u) (map (λ w. k ∷ w) ws) (letters_before k ws) (subst (λ b. IsIn (b ∷ u) (map (λ w. k ∷ w) ws)) same (in_map (λ w. k ∷ w) u ws m))
]

abbrev pub all_words : ℕ → ℕ → List Word
all_words k zero = [] ∷ []
all_words k (suc n) = [] ∷ letters_before k (all_words k n)

pub in_all_words : (k n : ℕ) (u : Word) → IsOver k u → length u ≤ n → IsIn u (all_words k n)
in_all_words k zero [] over h = inl refl
in_all_words k zero (a ∷ u) over h = absurd (omega arith)
in_all_words k (suc n) [] over h = inl refl
in_all_words k (suc n) (a ∷ u) over h = inr (in_letters_before k (all_words k n) a u over.0 (in_all_words k n u over.1 (omega arith)))

-- the test of a decision
test_of : {P : Type 0} → P ⊎ (P → ⊥) → Bool
test_of (inl p) = true
test_of (inr n) = false

test_true : {P : Type 0} (d : P ⊎ (P → ⊥)) → test_of d ≡ true → P
unfolding test_of
test_true (inl p) e = p
test_true (inr n) e = cc

true_test : {P : Type 0} (d : P ⊎ (P → ⊥)) → P → test_of d ≡ true
unfolding test_of
true_test (inl p) h = refl
true_test (inr n) h = absurd (n h)

-- how many of the pairs a test misses
abbrev misses : (Word → Word → Bool) → List (Word × Word) → ℕ
misses E [] = 0
misses E (p ∷ ps) = cond (E p.0 p.1) (misses E ps) (suc (misses E ps))

misses_no_more : (E F : Word → Word → Bool) → ((u v : Word) → E u v ≡ true → F u v ≡ true) → (ps : List (Word × Word))
    → misses F ps ≤ misses E ps
misses_no_more E F more [] = omega arith
misses_no_more E F more (p ∷ ps) = go (E p.0 p.1) (F p.0 p.1) (more p.0 p.1) (misses_no_more E F more ps)
  where
    go : (a b : Bool) → (a ≡ true → b ≡ true) → misses F ps ≤ misses E ps
        → cond b (misses F ps) (suc (misses F ps)) ≤ cond a (misses E ps) (suc (misses E ps))
    go true true h l = l
    go true false h l = let e = h refl in cc
    go false true h l = omega arith
    go false false h l = omega arith

misses_fewer : (E F : Word → Word → Bool) → ((u v : Word) → E u v ≡ true → F u v ≡ true) → (a b : Word) → E a b ≡ false → F a b ≡ true
    → (ps : List (Word × Word)) → IsIn (a, b) ps → misses F ps < misses E ps
misses_fewer E F more a b lost won [] m = absurd m
misses_fewer E F more a b lost won (p ∷ ps) (inl e) =
    let first : a ≡ p.0 = ap (λ (q : Word × Word). q.0) e in
    let second : b ≡ p.1 = ap (λ (q : Word × Word). q.1) e in
    let was : E p.0 p.1 ≡ false = subst₂ (λ x y. E x y ≡ false) first second lost in
    let now : F p.0 p.1 ≡ true = subst₂ (λ x y. F x y ≡ true) first second won in
    go (E p.0 p.1) (F p.0 p.1) was now (misses_no_more E F more ps)
  where
    go : (a b : Bool) → a ≡ false → b ≡ true → misses F ps ≤ misses E ps
        → cond b (misses F ps) (suc (misses F ps)) < cond a (misses E ps) (suc (misses E ps))
    go true b e d l = cc
    go false true e d l = omega arith
    go false false e d l = cc
misses_fewer E F more a b lost won (p ∷ ps) (inr m) = go (E p.0 p.1) (F p.0 p.1) (more p.0 p.1) (misses_fewer E F more a b lost won ps m)
  where
    go : (a b : Bool) → (a ≡ true → b ≡ true) → misses F ps < misses E ps
        → cond b (misses F ps) (suc (misses F ps)) < cond a (misses E ps) (suc (misses E ps))
    go true true h l = l
    go true false h l = let e = h refl in cc
    go false true h l = omega arith
    go false false h l = omega arith

-- every pair of two lists
abbrev pub all_pairs : List Word → List Word → List (Word × Word)
all_pairs [] vs = []
all_pairs (u ∷ us) vs = map (λ v. (u, v)) vs ++ all_pairs us vs

pub in_all_pairs : (us vs : List Word) (u v : Word) → IsIn u us → IsIn v vs → IsIn (u, v) (all_pairs us vs)
in_all_pairs [] vs u v m n = absurd m
in_all_pairs (w ∷ us) vs u v (inl e) n =
    in_left (u, v) (map (λ x. (w, x)) vs) (all_pairs us vs)
    (subst (λ w. IsIn {X = Word × Word} (u, v) (map (λ x. (w, x)) vs)) e (in_map (λ (x : Word). let q : Word × Word = (u, x) in q) v vs n))
in_all_pairs (w ∷ us) vs u v (inr m) n = in_right (u, v) (map (λ x. (w, x)) vs) (all_pairs us vs) (in_all_pairs us vs u v m n)

module _ (p : Presentation) (L : ℕ) where
  pub fits_decides : (u : Word) → Fits p L u ⊎ (Fits p L u → ⊥)
  fits_decides u = elim (both_decide (over_decides p.letters u) (short (length u))) [
    | inl h ↦ inl (record { over = h.0; short = h.1 })
    | inr n ↦ inr (λ f. n (f.over, f.short))
  ]
    where
      short : (n : ℕ) → (n ≤ L) ⊎ (n ≤ L → ⊥)
      short n = elim (cases_lt L n) [ inl l ↦ inr (λ h. omega arith) | inr g ↦ inl g ]

  abbrev fitting : List Word
  fitting = all_words p.letters L

  pub in_fitting : (u : Word) → Fits p L u → IsIn u (all_words p.letters L)
  in_fitting u f = in_all_words p.letters L u f.over f.short

  -- an equivalence by a test, within the bound
  record IsKnown (E : Word → Word → Bool) : Type 0 where
    sound : (u v : Word) → E u v ≡ true → Within p L u v
    reflexive : (u : Word) → Fits p L u → E u u ≡ true
    symm : (u v : Word) → E u v ≡ true → E v u ≡ true
    trans : (u v w : Word) → E u v ≡ true → E v w ≡ true → E u w ≡ true

  -- with one more pair
  abbrev merged : (Word → Word → Bool) → Word → Word → Word → Word → Bool
  merged E a b u v = E u v || ((E u a && E b v) || (E u b && E a v))

  merged_cases : (E : Word → Word → Bool) (a b u v : Word) → merged E a b u v ≡ true
      → (E u v ≡ true) ⊎ (((E u a ≡ true) × (E b v ≡ true)) ⊎ ((E u b ≡ true) × (E a v ≡ true)))
  merged_cases E a b u v h = go (E u v) (E u a) (E b v) (E u b) (E a v) h
    where
      go : (x y z s t : Bool) → (x || ((y && z) || (s && t))) ≡ true → (x ≡ true) ⊎ (((y ≡ true) × (z ≡ true)) ⊎ ((s ≡ true) × (t ≡ true)))
      go true y z s t e = inl refl
      go false true true s t e = inr (inl (refl, refl))
      go false true false true true e = inr (inr (refl, refl))
      go false true false true false e = cc
      go false true false false t e = cc
      go false false z true true e = inr (inr (refl, refl))
      go false false z true false e = cc
      go false false z false t e = cc

  merged_true : (E : Word → Word → Bool) (a b u v : Word)
      → (E u v ≡ true) ⊎ (((E u a ≡ true) × (E b v ≡ true)) ⊎ ((E u b ≡ true) × (E a v ≡ true))) → merged E a b u v ≡ true
  merged_true E a b u v h = go (E u v) (E u a) (E b v) (E u b) (E a v) h
    where
      go : (x y z s t : Bool) → (x ≡ true) ⊎ (((y ≡ true) × (z ≡ true)) ⊎ ((s ≡ true) × (t ≡ true))) → (x || ((y && z) || (s && t))) ≡ true
      go true y z s t e = refl
      go false true true s t e = refl
      go false true false true true e = refl
      go false false z true true e = refl
      go false y z s t (inl e) = cc
      go false true false s t (inr (inl e)) = cc
      go false false z s t (inr (inl e)) = cc
      go false true false true false (inr (inr e)) = cc
      go false true false false t (inr (inr e)) = cc
      go false false z true false (inr (inr e)) = cc
      go false false z false t (inr (inr e)) = cc

  merged_known : (E : Word → Word → Bool) (a b : Word) → IsKnown E → Within p L a b → IsKnown (merged E a b)
  merged_known E a b known w =
      record {
        sound = λ u v h. elim (merged_cases E a b u v h) [
          | inl e ↦ known.sound u v e
          | inr o ↦ elim o [
            | inl e ↦ transitive (known.sound u a e.0) (transitive w (known.sound b v e.1))
            | inr e ↦ transitive (known.sound u b e.0) (transitive (symmetric w) (known.sound a v e.1))
          ]
        ];
        reflexive = λ u f. merged_true E a b u u (inl (known.reflexive u f));
        symm = λ u v h. merged_true E a b v u (elim (merged_cases E a b u v h) [
          | inl e ↦ inl (known.symm u v e)
          | inr o ↦ elim o [
            | inl e ↦ inr (inr (known.symm b v e.1, known.symm u a e.0))
            | inr e ↦ inr (inl (known.symm a v e.1, known.symm u b e.0))
          ]
        ]);
        trans = λ u v x h k. merged_true E a b u x (go u v x (merged_cases E a b u v h) (merged_cases E a b v x k));
      }
    where
      go : (u v x : Word) → (E u v ≡ true) ⊎ (((E u a ≡ true) × (E b v ≡ true)) ⊎ ((E u b ≡ true) × (E a v ≡ true)))
          → (E v x ≡ true) ⊎ (((E v a ≡ true) × (E b x ≡ true)) ⊎ ((E v b ≡ true) × (E a x ≡ true)))
          → (E u x ≡ true) ⊎ (((E u a ≡ true) × (E b x ≡ true)) ⊎ ((E u b ≡ true) × (E a x ≡ true)))
      go u v x (inl e) (inl d) = inl (known.trans u v x e d)
      go u v x (inl e) (inr (inl d)) = inr (inl (known.trans u v a e d.0, d.1))
      go u v x (inl e) (inr (inr d)) = inr (inr (known.trans u v b e d.0, d.1))
      go u v x (inr (inl e)) (inl d) = inr (inl (e.0, known.trans b v x e.1 d))
      go u v x (inr (inl e)) (inr (inl d)) = inr (inl (e.0, d.1))
      go u v x (inr (inl e)) (inr (inr d)) = inl (known.trans u a x e.0 d.1)
      go u v x (inr (inr e)) (inl d) = inr (inr (e.0, known.trans a v x e.1 d))
      go u v x (inr (inr e)) (inr (inl d)) = inl (known.trans u b x e.0 d.1)
      go u v x (inr (inr e)) (inr (inr d)) = inr (inr (e.0, d.1))

  -- a pair that follows, and that the test misses
  record IsMissing (E : Word → Word → Bool) (a b : Word) : Type 0 where
    follows : Within p L a b
    missed : E a b ≡ false

  -- the test has the relations and the contexts that fit
  record IsClosed (E : Word → Word → Bool) : Type 0 where
    relations : (r s : Word) → Contains p.relations (r, s) → Fits p L r → Fits p L s → E r s ≡ true
    contexts : (u v x y : Word) → E u v ≡ true → Fits p L (x ++ (u ++ y)) → Fits p L (x ++ (v ++ y))
        → E (x ++ (u ++ y)) (x ++ (v ++ y)) ≡ true

  -- then it has all that follows
  closed_full : (E : Word → Word → Bool) → IsKnown E → IsClosed E → {u v : Word} → Within p L u v → E u v ≡ true
  closed_full E known closed (same {u} f) = known.reflexive u f
  closed_full E known closed (symmetric {u} {v} w) = known.symm u v (closed_full E known closed w)
  closed_full E known closed (transitive {u} {v} {w} a b) = known.trans u v w (closed_full E known closed a) (closed_full E known closed b)
  closed_full E known closed (relation {r} {s} e f g) = elim e [
    | inl m ↦ closed.relations r s m f g
    | inr m ↦ known.symm s r (closed.relations s r m g f)
  ]
  closed_full E known closed (context u v x y w f g) = closed.contexts u v x y (closed_full E known closed w) f g

  -- a relation that fits and that the test misses
  abbrev relation_missed : (Word → Word → Bool) → Word × Word → Type 0
  relation_missed E q = Fits p L q.0 × (Fits p L q.1 × (E q.0 q.1 ≡ false))

  -- a context that fits and that the test misses
  abbrev context_missed : (Word → Word → Bool) → Word → Word → Word → Word → Type 0
  context_missed E u v x y = (E u v ≡ true) × (Fits p L (x ++ (u ++ y)) × (Fits p L (x ++ (v ++ y)) × (E (x ++ (u ++ y)) (x ++ (v ++ y)) ≡ false)))

  false_decides : (b : Bool) → (b ≡ false) ⊎ (b ≡ false → ⊥)
  false_decides false = inl refl
  false_decides true = inr (λ e. cc)

  true_unless : (b : Bool) → (b ≡ false → ⊥) → b ≡ true
  true_unless true h = refl
  true_unless false h = absurd (h refl)

  -- a pair that is missing, or none is
  missing_or_closed : (E : Word → Word → Bool) → IsKnown E → ((a : Word) × (b : Word) × IsMissing E a b) ⊎ IsClosed E
  missing_or_closed E known =
      elim (find_in (relation_missed E) (λ q. both_decide (fits_decides q.0) (both_decide (fits_decides q.1) (false_decides (E q.0 q.1)))) p.relations) [
        | inl r ↦ inl (r.0.0, r.0.1, record { follows = relation (inl (contains_from_in r.0 p.relations r.1)) r.2.0 r.2.1.0; missed = r.2.1.1 })
        | inr none ↦ elim (find_in At at_decides (all_words p.letters L)) [
          | inl c ↦ let d = c.2 in let e = d.2 in let f = e.2 in
              inl (
                e.0 ++ (c.0 ++ f.0),
                e.0 ++ (d.0 ++ f.0),
                record { follows = context c.0 d.0 e.0 f.0 (known.sound c.0 d.0 f.2.0) f.2.1.0 f.2.1.1.0; missed = f.2.1.1.1 },
              )
          | inr nowhere ↦ inr (record {
            relations = λ r s m f g. true_unless (E r s) (λ e. none (r, s) (in_from_contains (r, s) p.relations m) (f, (g, e)));
            contexts = λ u v x y h f g. true_unless (E (x ++ (u ++ y)) (x ++ (v ++ y))) (λ e.
                nowhere u (in_fitting u (fits_factor p L x u y f))
                (v, in_fitting v (fits_factor p L x v y g), (x, in_fitting x (front x (u ++ y) f), (y, in_fitting y (back x u y f), (h, (f, (g, e)))))));
          })
        ]
      ]
    where
      At : Word → Type 0
      At u =
          (v : Word) × IsIn v (all_words p.letters L) × ((x : Word) × IsIn x (all_words p.letters L) × ((y : Word) × IsIn y (all_words p.letters L) × context_missed E u v x y))

      at_decides : (u : Word) → At u ⊎ (At u → ⊥)
      at_decides u =
          some_decides (λ v. (x : Word) × IsIn x (all_words p.letters L) × ((y : Word) × IsIn y (all_words p.letters L) × context_missed E u v x y))
          (λ v.
          some_decides (λ x. (y : Word) × IsIn y (all_words p.letters L) × context_missed E u v x y) (λ x.
          some_decides (λ y. context_missed E u v x y) (λ y.
          both_decide (true_decides (E u v))
          (both_decide (fits_decides (x ++ (u ++ y))) (both_decide (fits_decides (x ++ (v ++ y))) (false_decides (E (x ++ (u ++ y)) (x ++ (v ++ y)))))))
          (all_words p.letters L))
          (all_words p.letters L))
          (all_words p.letters L)

      front : (x y : Word) → Fits p L (x ++ y) → Fits p L x
      front x y f = fits_factor p L [] x y f

      back : (x u y : Word) → Fits p L (x ++ (u ++ y)) → Fits p L y
      back x u y f = fits_factor p L (x ++ u) y [] (subst (λ w. Fits p L w) (sym (ap (λ z. (x ++ u) ++ z) (append-nil y) ∙ append_assoc x u y)) f)

  merged_misses : (E : Word → Word → Bool) (a b : Word) → IsKnown E → IsMissing E a b
      → misses (merged E a b) (all_pairs (all_words p.letters L) (all_words p.letters L)) < misses E (all_pairs (all_words p.letters L) (all_words p.letters L))
  merged_misses E a b known m =
      let fits = within_left p L m.follows in
      misses_fewer E (merged E a b) (λ u v e. merged_true E a b u v (inl e)) a b m.missed
      (merged_true E a b a b (inr (inl (known.reflexive a fits.0, known.reflexive b fits.1))))
      (all_pairs (all_words p.letters L) (all_words p.letters L))
      (in_all_pairs (all_words p.letters L) (all_words p.letters L) a b (in_fitting a fits.0) (in_fitting b fits.1))

  -- merging missing pairs comes to an end
  closing : (n : ℕ) (E : Word → Word → Bool) → IsKnown E → misses E (all_pairs (all_words p.letters L) (all_words p.letters L)) ≤ n
      → (F : Word → Word → Bool) × IsKnown F × IsClosed F
  closing zero E known few = elim (missing_or_closed E known) [
    | inr closed ↦ (E, known, closed)
    | inl m ↦ absurd (omega (arith, merged_misses E m.0 m.1 known m.2))
  ]
  closing (suc n) E known few = elim (missing_or_closed E known) [
    | inr closed ↦ (E, known, closed)
    | inl m ↦ closing n (merged E m.0 m.1) (merged_known E m.0 m.1 known m.2.follows) (omega (arith, merged_misses E m.0 m.1 known m.2))
  ]

  -- at first each word that fits is related to itself alone
  abbrev alone : Word → Word → Bool
  alone u v = test_of (both_decide (fits_decides u) (word_decides u v))

  alone_known : IsKnown alone
  alone_known =
      record {
        sound = λ u v h. let d = test_true (both_decide (fits_decides u) (word_decides u v)) h in subst (λ w. Within p L u w) d.1 (same d.0);
        reflexive = λ u f. true_test (both_decide (fits_decides u) (word_decides u u)) (f, refl);
        symm = λ u v h. let d = test_true (both_decide (fits_decides u) (word_decides u v)) h in true_test (both_decide (fits_decides v) (word_decides v u)) (subst (λ w. Fits p L w) d.1 d.0, sym d.1);
        trans = λ u v w h k.
            let d = test_true (both_decide (fits_decides u) (word_decides u v)) h in
            let e = test_true (both_decide (fits_decides v) (word_decides v w)) k in
            true_test (both_decide (fits_decides u) (word_decides u w)) (d.0, d.1 ∙ e.1);
      }

  -- words are related within the bound, or are not
  pub within_decides : (u v : Word) → Within p L u v ⊎ (Within p L u v → ⊥)
  within_decides u v = go (closing (misses alone (all_pairs (all_words p.letters L) (all_words p.letters L))) alone alone_known (omega arith))
    where
      go : (F : Word → Word → Bool) × IsKnown F × IsClosed F → Within p L u v ⊎ (Within p L u v → ⊥)
      go r = elim (true_decides (r.0 u v)) [
        | inl e ↦ inl (r.1.sound u v e)
        | inr n ↦ inr (λ w. n (closed_full r.0 r.1 r.2 w))
      ]

  -- each word that fits has a least word within the bound
  pub within_normal : (u : Word) → Fits p L u → (v : Word) × IsNormal (Within p L) u v
  within_normal = shortlex_induction (λ u. Fits p L u → (v : Word) × IsNormal (Within p L) u v) at
    where
      at : (u : Word) → ((v : Word) → v ≺ u → Fits p L v → (w : Word) × IsNormal (Within p L) v w) → Fits p L u
          → (v : Word) × IsNormal (Within p L) u v
      at u later fits =
          elim (find_in (λ v. (v ≺ u) × Within p L u v) (λ v. both_decide (less_decides v u) (within_decides u v)) (all_words p.letters L)) [
            | inl r ↦ let n = later r.0 r.2.0 (within_left p L r.2.1).1 in (n.0, record { related = transitive r.2.1 n.1.related; least = n.1.least })
            | inr none ↦ (
              u,
              record {
                related = same fits;
                least = record { element = same fits; none_less = λ v w less. none v (in_fitting v (within_left p L w).1) (less, w) };
              },
            )
          ]
