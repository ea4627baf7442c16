-- How many relations make a letter an identity or a zero, what their sides are, and what they relate.
use Rattle.std.proofs.Common.{◌≡◌, ℕ, zero, suc, ◌+◌, ◌<◌, ◌≤◌, Bool, true, false, ◌==◌, List, [], ◌∷◌, ◌++◌, length, Option, refl, subst, cond, arith, inl, All, Contains, length-append, append-nil}
use Rattle.std.specs.Prelude.{option_to_list}
use Rattle.std.proofs.lemmas.Grind.{common_steps}
use Rattle.std.proofs.lemmas.List.Elements.{All-nil, All-cons, All-append, All-weaker, All-contains, All-contains_itself, Contains-append_left, Contains-append_right}
use Rattle.theory.specs.Word.{Word, IsOver, IsElement}
use Rattle.theory.specs.Congruence.{Presentation, AreElements, with_relations, of_presentation}
use Rattle.theory.specs.Chain.{Related}
use Rattle.theory.proofs.Chains.{related_congruence, related_by_relation}
use Rattle.theory.proofs.Related.{nonempty_element}
use Rattle.presentation.specs.Added.{both_products, products_with, identity_relations, zero_relations, inverse_relations, HasRelations}

-- ---- letters that are alike or differ

same : (x y : ℕ) → (x == y) ≡ true → x ≡ y
same x y e = grind (arith, common_steps)

itself : (x : ℕ) → (x == x) ≡ true
itself x = grind (arith, common_steps)

differs : (x y : ℕ) → x < y → (x == y) ≡ false
differs x y h = grind (arith, common_steps)

less : (x k : ℕ) → (x == k) ≡ false → x < suc k → x < k
less x k e h = grind (arith, common_steps)

less_back : (x k : ℕ) → (k == x) ≡ false → x < suc k → x < k
less_back x k e h = grind (arith, common_steps)

-- ---- how many there are

pub both_count_same : (x : ℕ) (w : Word) → length (both_products x x w) ≡ 1
both_count_same x w = rw (itself x) refl

pub both_count : (x y : ℕ) (w : Word) → (x == y) ≡ false → length (both_products x y w) ≡ 2
both_count x y w e = rw e refl

-- two for each of the letters before a
count_before : (a : ℕ) (f : ℕ → Word) (k : ℕ) → k ≤ a → length (products_with a f k) ≡ k + k
count_before a f zero h = refl
count_before a f (suc k) h =
    let rest : length (products_with a f k) ≡ k + k = count_before a f k (omega arith) in
    let last : length (both_products k a (f k)) ≡ 2 = both_count k a (f k) (differs k a (omega arith)) in
    omega (arith, rest, last, length-append (products_with a f k) (both_products k a (f k)))

-- two for each letter, and one less where a is one of them
pub products_count : (a : ℕ) (f : ℕ → Word) (k : ℕ) → a < k → length (products_with a f k) + 1 ≡ k + k
products_count a f zero h = absurd (omega arith)
products_count a f (suc k) h = by (k == a) refl (products_count a f k)
  where
    by : (b : Bool) → (k == a) ≡ b → (a < k → length (products_with a f k) + 1 ≡ k + k) → length (products_with a f k ++ both_products k a (f k)) + 1 ≡ suc k + suc k
    by true e more =
        let is : k ≡ a = same k a e in
        let rest : length (products_with a f k) ≡ k + k = count_before a f k (omega (arith, is)) in
        let last : length (both_products k a (f k)) ≡ 1 = rw e refl in
        omega (arith, rest, last, length-append (products_with a f k) (both_products k a (f k)))
    by false e more =
        let lower : a < k = less_back a k e h in
        let rest : length (products_with a f k) + 1 ≡ k + k = more lower in
        let last : length (both_products k a (f k)) ≡ 2 = both_count k a (f k) e in
        omega (arith, rest, last, length-append (products_with a f k) (both_products k a (f k)))

-- ---- their sides are elements

pub both_elements : (m : Bool) (k x y : ℕ) (w : Word) → x < k → y < k → IsElement m k w → AreElements m k (both_products x y w)
both_elements m k x y w p q e = by (x == y)
  where
    P : Word × Word → Type 0
    P r = IsElement m k r.0 × IsElement m k r.1

    product : (x y : ℕ) → x < k → y < k → IsElement m k (x ∷ y ∷ [])
    product x y p q = nonempty_element m k (x ∷ y ∷ []) (p, (q, tt)) (λ h. cc)

    by : (b : Bool) → All P ((x ∷ y ∷ [], w) ∷ cond b [] ((y ∷ x ∷ [], w) ∷ []))
    by true = All-cons P (x ∷ y ∷ [], w) [] (product x y p q, e) (All-nil P)
    by false = All-cons P (x ∷ y ∷ [], w) ((y ∷ x ∷ [], w) ∷ []) (product x y p q, e) (All-cons P (y ∷ x ∷ [], w) [] (product y x q p, e) (All-nil P))

products_elements : (m : Bool) (k a : ℕ) (f : ℕ → Word) → a < k → ((x : ℕ) → x < k → IsElement m k (f x)) → (n : ℕ) → n ≤ k → AreElements m k (products_with a f n)
products_elements m k a f p e zero h = All-nil (λ (r : Word × Word). IsElement m k r.0 × IsElement m k r.1)
products_elements m k a f p e (suc n) h =
    All-append (λ (r : Word × Word). IsElement m k r.0 × IsElement m k r.1) (products_with a f n) (both_products n a (f n))
    (products_elements m k a f p e n (omega arith)) (both_elements m k n a (f n) (omega arith) p (e n (omega arith)))

letter_element : (m : Bool) (k x : ℕ) → x < k → IsElement m k (x ∷ [])
letter_element m k x h = nonempty_element m k (x ∷ []) (h, tt) (λ e. cc)

pub identity_elements : (m : Bool) (k e : ℕ) → e < k → AreElements m k (identity_relations k e)
identity_elements m k e h = products_elements m k e (λ x. x ∷ []) h (λ x p. letter_element m k x p) k (omega arith)

pub zero_elements : (m : Bool) (k z : ℕ) → z < k → AreElements m k (zero_relations k z)
zero_elements m k z h = products_elements m k z (λ x. z ∷ []) h (λ x p. letter_element m k z h) k (omega arith)

-- ---- which pairs are among them

first : (x y : ℕ) (w : Word) → Contains (both_products x y w) (x ∷ y ∷ [], w)
first x y w = (zero, omega arith, refl)

second : (x y : ℕ) (w : Word) → Contains (both_products x y w) (y ∷ x ∷ [], w)
second x y w = by (x == y) refl
  where
    by : (b : Bool) → (x == y) ≡ b → Contains {X = Word × Word} ((x ∷ y ∷ [], w) ∷ cond b [] ((y ∷ x ∷ [], w) ∷ [])) (y ∷ x ∷ [], w)
    by true e = let is : x ≡ y = same x y e in (zero, omega arith, rw is refl)
    by false e = (suc zero, omega arith, refl)

within : (a : ℕ) (f : ℕ → Word) (r : Word × Word) (x k : ℕ) → x < k → Contains (both_products x a (f x)) r → Contains (products_with a f k) r
within a f r x zero p h = absurd (omega arith)
within a f r x (suc k) p h = by (x == k) refl (λ q. within a f r x k q h)
  where
    by : (b : Bool) → (x == k) ≡ b → (x < k → Contains (products_with a f k) r) → Contains (products_with a f k ++ both_products k a (f k)) r
    by true e more = Contains-append_right (products_with a f k) (both_products k a (f k)) r (subst (λ n. Contains (both_products n a (f n)) r) (same x k e) h)
    by false e more = Contains-append_left (products_with a f k) (both_products k a (f k)) r (more (less x k e p))

-- ---- what they relate

-- a relation of p, read at any place
had : (p : Presentation) (pairs : List (Word × Word)) → HasRelations p pairs → (r s : Word) → Contains pairs (r, s) → (x y : Word) → Related (of_presentation p) (x ++ (r ++ y)) (x ++ (s ++ y))
had p pairs has r s h x y = related_by_relation (of_presentation p) x r s y (inl (All-contains (Contains p.relations) pairs (r, s) has h))

had_behind : (p : Presentation) (a : ℕ) (f : ℕ → Word) → HasRelations p (products_with a f p.letters) → (x : ℕ) → x < p.letters → (u : Word) → Related (of_presentation p) (u ++ x ∷ a ∷ []) (u ++ f x)
had_behind p a f has x h u =
    let r : Related (of_presentation p) (u ++ (x ∷ a ∷ [])) (u ++ (f x ++ [])) = had p (products_with a f p.letters) has (x ∷ a ∷ []) (f x) (within a f (x ∷ a ∷ [], f x) x p.letters h (first x a (f x))) u [] in
    subst (λ w. Related (of_presentation p) (u ++ x ∷ a ∷ []) (u ++ w)) (append-nil (f x)) r

had_before : (p : Presentation) (a : ℕ) (f : ℕ → Word) → HasRelations p (products_with a f p.letters) → (x : ℕ) → x < p.letters → (u : Word) → Related (of_presentation p) (a ∷ x ∷ u) (f x ++ u)
had_before p a f has x h u = had p (products_with a f p.letters) has (a ∷ x ∷ []) (f x) (within a f (a ∷ x ∷ [], f x) x p.letters h (second x a (f x))) [] u

-- a letter before both words
before_both : (p : Presentation) (a : ℕ) (u v : Word) → Related (of_presentation p) u v → Related (of_presentation p) (a ∷ u) (a ∷ v)
before_both p a u v h =
    let kept : Related (of_presentation p) (a ∷ (u ++ [])) (a ∷ (v ++ [])) = (related_congruence (of_presentation p)).kept (a ∷ []) [] tt u v h in
    subst (λ w. Related (of_presentation p) (a ∷ u) (a ∷ w)) (append-nil v) (subst (λ w. Related (of_presentation p) (a ∷ w) (a ∷ (v ++ []))) (append-nil u) kept)

pub identity_behind : (p : Presentation) (e : ℕ) → HasRelations p (identity_relations p.letters e) → (u : Word) → (u ≡ [] → ⊥) → IsOver p.letters u → Related (of_presentation p) (u ++ e ∷ []) u
identity_behind p e has [] full over = absurd (full refl)
identity_behind p e has (x ∷ []) full over = had_behind p e (λ x. x ∷ []) has x over.0 []
identity_behind p e has (x ∷ y ∷ u) full over =
    before_both p x ((y ∷ u) ++ e ∷ []) (y ∷ u) (identity_behind p e has (y ∷ u) (λ h. cc) over.1)

pub identity_before : (p : Presentation) (e : ℕ) → HasRelations p (identity_relations p.letters e) → (u : Word) → (u ≡ [] → ⊥) → IsOver p.letters u → Related (of_presentation p) (e ∷ u) u
identity_before p e has [] full over = absurd (full refl)
identity_before p e has (x ∷ u) full over = had_before p e (λ x. x ∷ []) has x over.0 u

pub zero_behind : (p : Presentation) (z : ℕ) → HasRelations p (zero_relations p.letters z) → (u : Word) → IsOver p.letters u → Related (of_presentation p) (u ++ z ∷ []) (z ∷ [])
zero_behind p z has [] over = (related_congruence (of_presentation p)).reflexive (z ∷ [])
zero_behind p z has (x ∷ u) over =
    (related_congruence (of_presentation p)).transitive (x ∷ (u ++ z ∷ [])) (x ∷ z ∷ []) (z ∷ [])
    (before_both p x (u ++ z ∷ []) (z ∷ []) (zero_behind p z has u over.1)) (had_behind p z (λ x. z ∷ []) has x over.0 [])

pub zero_before : (p : Presentation) (z : ℕ) → HasRelations p (zero_relations p.letters z) → (u : Word) → IsOver p.letters u → Related (of_presentation p) (z ∷ u) (z ∷ [])
zero_before p z has [] over = (related_congruence (of_presentation p)).reflexive (z ∷ [])
zero_before p z has (x ∷ u) over =
    (related_congruence (of_presentation p)).transitive (z ∷ x ∷ u) (z ∷ u) (z ∷ []) (had_before p z (λ x. z ∷ []) has x over.0 u)
    (zero_before p z has u over.1)

-- a relation of p
had_alone : (p : Presentation) (pairs : List (Word × Word)) → HasRelations p pairs → (r s : Word) → Contains pairs (r, s) → Related (of_presentation p) r s
had_alone p pairs has r s h =
    subst (λ w. Related (of_presentation p) r w) (append-nil s) (subst (λ w. Related (of_presentation p) w (s ++ [])) (append-nil r) (had p pairs has r s h [] []))

pub inverse_product : (p : Presentation) (x y : ℕ) (e : Option ℕ) → HasRelations p (inverse_relations x y e) → Related (of_presentation p) (x ∷ y ∷ []) (option_to_list e)
inverse_product p x y e has = had_alone p (inverse_relations x y e) has (x ∷ y ∷ []) (option_to_list e) (first x y (option_to_list e))

pub inverse_exchanged : (p : Presentation) (x y : ℕ) (e : Option ℕ) → HasRelations p (inverse_relations x y e) → Related (of_presentation p) (y ∷ x ∷ []) (option_to_list e)
inverse_exchanged p x y e has = had_alone p (inverse_relations x y e) has (y ∷ x ∷ []) (option_to_list e) (second x y (option_to_list e))

-- ---- relations that are added

pub further_had : (p : Presentation) (pairs : List (Word × Word)) → HasRelations (with_relations p pairs) pairs
further_had p pairs = All-weaker (Contains pairs) (Contains (p.relations ++ pairs)) (λ r h. Contains-append_right p.relations pairs r h) pairs (All-contains_itself pairs)

pub earlier_had : (p : Presentation) (pairs more : List (Word × Word)) → HasRelations p pairs → HasRelations (with_relations p more) pairs
earlier_had p pairs more h = All-weaker (Contains p.relations) (Contains (p.relations ++ more)) (λ r c. Contains-append_left p.relations more r c) pairs h
