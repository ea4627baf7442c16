-- The laws of pages.
use Rattle.std.proofs.Common.{None, Some, ◌≡◌, ℕ, zero, suc, ◌+◌, ◌≤◌, Bool, true, false, List, [], ◌∷◌, ◌++◌, length, refl, sym, ap, ap₂, subst, arith, ◌⊎◌, ◌↔◌, inl, inr, Option, Some, suc-add, zero-add}
use Rattle.theory.specs.Listing.{IsAfter, IsAscending, IsLast, IsListOf, IsNext, IsPage, IsPageEnd, IsStartOf, IsStrictOrder, AreInfinite, last_of}
use Rattle.theory.proofs.Counting.{IsIn}

module _ {A : Type 0} (P : A → Type 0) (Less : A → A → Type 0) where
  -- pages without items, and with one more in front
  pub page_none : (cursor : Option A) (count : ℕ) → IsLast P Less cursor → IsPage P Less cursor count [] false
  page_none cursor count last = record { first = tt; end = (omega arith, last) }

  pub page_of_none : (cursor : Option A) → (x : A) × IsNext P Less cursor x → IsPage P Less cursor 0 [] true
  page_of_none cursor next = record { first = tt; end = (refl, next) }

  longer : (last : Option A) (count filled : ℕ) (more : Bool) → IsPageEnd P Less last count filled more → IsPageEnd P Less last (suc count) (suc filled) more
  longer last count filled true e = (ap suc e.0, e.1)
  longer last count filled false e = (omega (arith, e.0), e.1)

  shorter : (last : Option A) (count filled : ℕ) (more : Bool) → IsPageEnd P Less last (suc count) (suc filled) more → IsPageEnd P Less last count filled more
  shorter last count filled true e = (omega (arith, e.0), e.1)
  shorter last count filled false e = (omega (arith, e.0), e.1)

  pub page_cons : (cursor : Option A) (count : ℕ) (x : A) (xs : List A) (more : Bool) → IsNext P Less cursor x → IsPage P Less (Some x) count xs more
      → IsPage P Less cursor (suc count) (x ∷ xs) more
  page_cons cursor count x xs more next page = record { first = (next, page.first); end = longer (last_of (Some x) xs) count (length xs) more page.end }

  pub page_tail : (cursor : Option A) (count : ℕ) (x : A) (xs : List A) (more : Bool) → IsPage P Less cursor (suc count) (x ∷ xs) more
      → IsPage P Less (Some x) count xs more
  page_tail cursor count x xs more page = record { first = page.first.1; end = shorter (last_of (Some x) xs) count (length xs) more page.end }

  pub page_length : (cursor : Option A) (count : ℕ) (xs : List A) (more : Bool) → IsPage P Less cursor count xs more → length xs ≤ count
  page_length cursor count xs true page = omega (arith, page.end.0)
  page_length cursor count xs false page = omega (arith, page.end.0)

  -- the first items, and a page of those that follow
  pub page_after_start : (cursor : Option A) (xs : List A) (n : ℕ) (ys : List A) (more : Bool) → IsStartOf P Less cursor xs
      → IsPage P Less (last_of cursor xs) n ys more → IsPage P Less cursor (length xs + n) (xs ++ ys) more
  page_after_start cursor [] n ys more p q = rw zero-add q
  page_after_start cursor (x ∷ xs) n ys more p q =
      rw suc-add (page_cons cursor (length xs + n) x (xs ++ ys) more p.0 (page_after_start (Some x) xs n ys more p.1 q))

module _ {A : Type 0} (P : A → Type 0) (Less : A → A → Type 0) (order : IsStrictOrder P Less) where
  pub next_unique : (cursor : Option A) (x y : A) → IsNext P Less cursor x → IsNext P Less cursor y → x ≡ y
  next_unique cursor x y p q =
      elim (order.cases x y p.has q.has) [
        | inl l ↦ absurd (q.least x p.has p.after l)
        | inr (inl e) ↦ e
        | inr (inr g) ↦ absurd (p.least y q.has q.after g)
      ]

  -- a cursor has one page of each size
  pub page_unique : (cursor : Option A) (count : ℕ) (xs ys : List A) (m n : Bool) → IsPage P Less cursor count xs m
      → IsPage P Less cursor count ys n → (xs ≡ ys) × (m ≡ n)
  page_unique cursor count [] [] false false p q = (refl, refl)
  page_unique cursor count [] [] false true p q = let next = q.end.1 in absurd (p.end.1 next.0 next.1.has next.1.after)
  page_unique cursor count [] [] true false p q = let next = p.end.1 in absurd (q.end.1 next.0 next.1.has next.1.after)
  page_unique cursor count [] [] true true p q = (refl, refl)
  page_unique cursor count [] (y ∷ ys) false n p q = let next = q.first.0 in absurd (p.end.1 y next.has next.after)
  page_unique cursor count [] (y ∷ ys) true n p q = let few = page_length P Less cursor count (y ∷ ys) n q in absurd (omega (arith, few, p.end.0))
  page_unique cursor count (x ∷ xs) [] m false p q = let next = p.first.0 in absurd (q.end.1 x next.has next.after)
  page_unique cursor count (x ∷ xs) [] m true p q = let few = page_length P Less cursor count (x ∷ xs) m p in absurd (omega (arith, few, q.end.0))
  page_unique cursor zero (x ∷ xs) (y ∷ ys) m n p q = let few = page_length P Less cursor zero (x ∷ xs) m p in absurd (omega (arith, few))
  page_unique cursor (suc count) (x ∷ xs) (y ∷ ys) m n p q =
      let same : x ≡ y = next_unique cursor x y p.first.0 q.first.0 in
      let left = subst (λ z. IsPage P Less (Some z) count xs m) same (page_tail P Less cursor count x xs m p) in
      let rest = page_unique (Some y) count xs ys m n left (page_tail P Less cursor count y ys n q) in
      (ap₂ (λ (z : A) (zs : List A). z ∷ zs) same rest.0, rest.1)

  -- a page of what is greater than the last of a full page goes on where that ended
  pub page_join : (cursor : Option A) (m n : ℕ) (xs ys : List A) (more : Bool) → IsPage P Less cursor m xs true
      → IsPage P Less (last_of cursor xs) n ys more → IsPage P Less cursor (m + n) (xs ++ ys) more
  page_join cursor m n xs ys more p q =
      subst (λ k. IsPage P Less cursor (k + n) (xs ++ ys) more) p.end.0 (page_after_start P Less cursor xs n ys more p.first q)

  -- there is one list
  pub list_unique : (cursor : Option A) (xs ys : List A) → IsListOf P Less cursor xs → IsListOf P Less cursor ys → xs ≡ ys
  list_unique cursor [] [] p q = refl
  list_unique cursor [] (y ∷ ys) p q = absurd (p y q.0.has q.0.after)
  list_unique cursor (x ∷ xs) [] p q = absurd (q x p.0.has p.0.after)
  list_unique cursor (x ∷ xs) (y ∷ ys) p q =
      let same : x ≡ y = next_unique cursor x y p.0 q.0 in
      ap₂ (λ (z : A) (zs : List A). z ∷ zs) same (list_unique (Some y) xs ys (subst (λ z. IsListOf P Less (Some z) xs) same p.1) q.1)

  -- no beginning is longer than the list
  pub start_no_longer : (cursor : Option A) (xs ys : List A) → IsListOf P Less cursor xs → IsStartOf P Less cursor ys
      → length ys ≤ length xs
  start_no_longer cursor xs [] p q = omega arith
  start_no_longer cursor [] (y ∷ ys) p q = absurd (p y q.0.has q.0.after)
  start_no_longer cursor (x ∷ xs) (y ∷ ys) p q =
      let same : x ≡ y = next_unique cursor x y p.0 q.0 in
      let rest = start_no_longer (Some y) xs ys (subst (λ z. IsListOf P Less (Some z) xs) same p.1) q.1 in
      omega (arith, rest)

  -- what the beginning of a list leaves out is greater than its last
  pub start_full : (cursor : Option A) (xs : List A) → IsStartOf P Less cursor xs → (y : A) → P y → IsAfter Less cursor y
      → ((before after : List A) × (xs ≡ before ++ (y ∷ after))) ⊎ IsAfter Less (last_of cursor xs) y
  start_full cursor [] p y has after = inr after
  start_full cursor (x ∷ xs) p y has after =
      elim (order.cases y x has p.0.has) [
        | inl l ↦ absurd (p.0.least y has after l)
        | inr (inl e) ↦ inl ([], xs, ap (λ z. z ∷ xs) (sym e))
        | inr (inr g) ↦ elim (start_full (Some x) xs p.1 y has g) [
          | inl r ↦ inl (x ∷ r.0, r.1, ap (λ zs. x ∷ zs) r.2)
          | inr a ↦ inr a
        ]
      ]

  -- Pages as a loop makes them, one after another.
  -- one more at the end
  pub start_push : (cursor : Option A) (xs : List A) (y : A) → IsStartOf P Less cursor xs → IsNext P Less (last_of cursor xs) y
      → IsStartOf P Less cursor (xs ++ y ∷ [])
  start_push cursor [] y p q = (q, tt)
  start_push cursor (x ∷ xs) y p q = (p.0, start_push (Some x) xs y p.1 q)

  pub last_of_push : (cursor : Option A) (xs : List A) (y : A) → last_of cursor (xs ++ y ∷ []) ≡ Some y
  last_of_push cursor [] y = refl
  last_of_push cursor (x ∷ xs) y = last_of_push (Some x) xs y

  -- a full page with a further one
  pub page_from_next : (cursor : Option A) (xs : List A) (y : A) → IsStartOf P Less cursor xs → IsNext P Less (last_of cursor xs) y
      → IsPage P Less cursor (length xs) xs true
  page_from_next cursor xs y p q = record { first = p; end = (refl, (y, q)) }

  -- a page with nothing further
  pub page_from_last : (cursor : Option A) (count : ℕ) (xs : List A) → length xs ≤ count → IsStartOf P Less cursor xs
      → IsLast P Less (last_of cursor xs) → IsPage P Less cursor count xs false
  page_from_last cursor count xs h p q = record { first = p; end = (h, q) }

  -- all of the list
  pub list_from_last : (cursor : Option A) (xs : List A) → IsStartOf P Less cursor xs → IsLast P Less (last_of cursor xs)
      → IsListOf P Less cursor xs
  list_from_last cursor [] p q = q
  list_from_last cursor (x ∷ xs) p q = (p.0, list_from_last (Some x) xs p.1 q)

  -- where each has a next there are beginnings of every length
  pub endless : ((cursor : Option A) → (x : A) × IsNext P Less cursor x) → (cursor : Option A) (n : ℕ)
      → (xs : List A) × IsStartOf P Less cursor xs × (length xs ≡ n)
  endless next cursor zero = ([], tt, refl)
  endless next cursor (suc n) =
      let first = next cursor in
      let rest = endless next (Some first.0) n in
      (first.0 ∷ rest.0, (first.1, rest.1), ap suc rest.2)

  -- what is ascending is behind its cursor
  pub ascending_after : (x : A) (xs : List A) → IsAscending Less (Some x) xs → (y : A) → IsIn y xs → Less x y
  ascending_after x [] h y m = absurd m
  ascending_after x (z ∷ xs) h y (inl e) = subst (λ w. Less x w) (sym e) h.0
  ascending_after x (z ∷ xs) h y (inr m) = order.trans x z y h.0 (ascending_after z xs h.1 y m)

  -- an ascending list of all that have the property is the list
  pub list_from_ascending : (cursor : Option A) (xs : List A) → IsAscending Less cursor xs → ((y : A) → IsIn y xs → P y)
      → ((y : A) → P y → IsAfter Less cursor y → IsIn y xs) → IsListOf P Less cursor xs
  list_from_ascending cursor [] h has all = λ y p a. all y p a
  list_from_ascending cursor (x ∷ xs) h has all = (
    record {
      has = has x (inl refl);
      after = h.0;
      least = λ y p a less. elim (all y p a) [
        | inl e ↦ order.irrefl x (subst (λ w. Less w x) e less)
        | inr m ↦ order.irrefl x (order.trans x y x (ascending_after x xs h.1 y m) less)
      ];
    },
    list_from_ascending (Some x) xs h.1 (λ y m. has y (inr m)) (λ y p a. elim (all y p (later cursor x y h.0 a)) [
      | inl e ↦ absurd (order.irrefl x (subst (λ w. Less x w) e a))
      | inr m ↦ m
    ]),
  )
    where
      later : (cursor : Option A) (x y : A) → IsAfter Less cursor x → Less x y → IsAfter Less cursor y
      later None x y a l = tt
      later (Some z) x y a l = order.trans z x y a l

-- one property under two names has one next, one end, one list, one page of each size, and beginnings
-- of the same lengths
module _ {A : Type 0} (P Q : A → Type 0) (Less : A → A → Type 0) (same : (x : A) → P x ↔ Q x) where
  pub next_same : (cursor : Option A) (x : A) → IsNext P Less cursor x → IsNext Q Less cursor x
  next_same cursor x h = record { has = (same x).0 h.has; after = h.after; least = λ y q. h.least y ((same y).1 q) }

  pub last_same : (cursor : Option A) → IsLast P Less cursor → IsLast Q Less cursor
  last_same cursor h y q = h y ((same y).1 q)

  pub list_same : (cursor : Option A) (xs : List A) → IsListOf P Less cursor xs → IsListOf Q Less cursor xs
  list_same cursor [] h = last_same cursor h
  list_same cursor (x ∷ xs) h = (next_same cursor x h.0, list_same (Some x) xs h.1)

  pub start_same : (cursor : Option A) (xs : List A) → IsStartOf P Less cursor xs → IsStartOf Q Less cursor xs
  start_same cursor [] h = tt
  start_same cursor (x ∷ xs) h = (next_same cursor x h.0, start_same (Some x) xs h.1)

  end_same : (last : Option A) (count filled : ℕ) (more : Bool) → IsPageEnd P Less last count filled more → IsPageEnd Q Less last count filled more
  end_same last count filled true e = (e.0, (e.1.0, next_same last e.1.0 e.1.1))
  end_same last count filled false e = (e.0, last_same last e.1)

  pub page_same : (cursor : Option A) (count : ℕ) (xs : List A) (more : Bool) → IsPage P Less cursor count xs more → IsPage Q Less cursor count xs more
  page_same cursor count xs more page =
      record { first = start_same cursor xs page.first; end = end_same (last_of cursor xs) count (length xs) more page.end }

  pub infinite_same : AreInfinite P Less → AreInfinite Q Less
  infinite_same h n = let at = h n in (at.0, start_same None at.0 at.1, at.2)
