-- Tables that grow by one trace after another.
use Rattle.std.proofs.Common.{◌≡◌, ℕ, ◌+◌, ◌<◌, ◌≤◌, List, [], ◌∷◌, ◌++◌, refl, sym, ◌∙◌, ap, arith, ◌⊎◌, inl, inr, Some, length, subst, ◌-◌, drop, take, get_or, slice_get, Bool, false, append_assoc, append-nil}
use Rattle.std.proofs.lemmas.Bool.{cases_eq, cases_lt}
use Rattle.std.proofs.lemmas.List.{take-append-drop, take_more, get_or_default}
use Rattle.std.proofs.lemmas.Option.{slice_get_within, get_or_from_slice_get}
use Rattle.words.proofs.TextLemmas.{over_at}
use Rattle.theory.specs.Word.{Word, IsPrefix, IsOver}
use Rattle.theory.specs.Congruence.{Congruence, AreElements}
use Rattle.theory.specs.Graph.{Graph, target, path, SameEnd}
use Rattle.theory.specs.Hlt.{IsSide, IsTraced, IsExtension, IsInRow}
use Rattle.theory.proofs.GraphLaws.{path_append, path_front}
use Rattle.theory.proofs.FactsLaws.{prefix_last}
use Rattle.theory.proofs.Related.{element_over, side_element}
use Rattle.coincidence.specs.Holding.{MeetAt}
use Rattle.coincidence.specs.Table.{CosetTable, IsTable, IsLive}
use Rattle.coincidence.proofs.DueLaws.{split_last}
use Rattle.coincidence.proofs.FollowsLaws.{path_more}
use Rattle.tc_hlt.specs.Tracing.{AreSides, AreSidesAny, IsGrown, IsNext, IsAlong, IsAlongBoth, IsWithin, FactsAfter, NoDrawing}

-- where a word leads from a live node is live
pub leads_live : (t : CosetTable) (n m : ℕ) (u : Word) → IsTable t → IsLive t n → path t.graph n u ≡ Some m → IsLive t m
leads_live t n m u is live e =
    let r = is.live.reached n live in
    is.live.lives m (r.0 ++ u, path_append t.graph 0 n r.0 u r.1 ∙ e)

pub word_live : (t : CosetTable) (n : ℕ) (u : Word) → IsTable t → path t.graph 0 u ≡ Some n → IsLive t n
word_live t n u is e = is.live.lives n (u, e)

-- a live node stays live where paths stay
pub grown_live : (D : Word → Word → Type 0) (E : Word → Word → Word → Type 0) (old new : CosetTable) (node n : ℕ) → IsTable old → IsTable new → IsGrown D E old new node → IsLive old n → IsLive new n
grown_live D E old new node n was is g live = let r = was.live.reached n live in is.live.lives n (r.0, g.paths 0 n r.0 r.1)

pub grown_same : (D : Word → Word → Type 0) (E : Word → Word → Word → Type 0) (old new : CosetTable) (node : ℕ) → IsGrown D E old new node → (u v : Word) → SameEnd old.graph u v → SameEnd new.graph u v
grown_same D E old new node g u v h = (h.0, g.paths 0 h.0 u h.1, g.paths 0 h.0 v h.2)

-- a prefix of a word with a path has one
pub prefix_there : (g : Graph) (p u : Word) (n : ℕ) → IsPrefix p u → path g 0 u ≡ Some n → SameEnd g p p
prefix_there g p u n h e = let f = path_front g 0 n p h.after (sym (ap (λ z. path g 0 z) h.is) ∙ e) in (f.0, f.1, f.1)

-- nothing is made
pub grown_none : (D : Word → Word → Type 0) (E : Word → Word → Word → Type 0) (t : CosetTable) (node : ℕ) → t.failed ≡ false → ((x v : Word) → path t.graph 0 x ≡ Some node → D x v → SameEnd t.graph v v) → IsGrown D E t t node
grown_none D E t node failed there = record {
  congruence = refl;
  paths = λ n m u e. e;
  marks = λ n. (λ on. on, λ on. on);
  failed = failed;
  there = there;
  within = λ L U x hx facts drawn within. within;
}

-- one after another, at one node
pub grown_both : (D D' : Word → Word → Type 0) (E E' : Word → Word → Word → Type 0) (old mid new : CosetTable) (node : ℕ) → IsGrown D E old mid node → IsGrown D' E' mid new node → IsGrown (λ x v. D x v ⊎ D' x v) (λ x u v. E x u v ⊎ E' x u v) old new node
grown_both D D' E E' old mid new node f g = record {
  congruence = g.congruence ∙ f.congruence;
  paths = λ n m u e. g.paths n m u (f.paths n m u e);
  marks = λ n. (λ on. (f.marks n).0 ((g.marks n).0 on), λ on. (g.marks n).1 ((f.marks n).1 on));
  failed = g.failed;
  there = λ x v hx h. elim h [ inl d ↦ grown_same D' E' mid new node g v v (f.there x v hx d) | inr e ↦ g.there x v (f.paths 0 node x hx) e ];
  within = λ L U x hx facts drawn within.
      let mid_within : IsWithin old.congruence L U mid.graph = f.within L U x hx (λ v d. facts v (inl d)) (λ u v d. drawn u v (inl d)) within in
      subst (λ (c : Congruence). IsWithin c L U new.graph) f.congruence
      (g.within L U x (f.paths 0 node x hx) (λ v e. subst (λ (c : Congruence). FactsAfter c L U v v) (sym f.congruence) (facts v (inr e))) (λ u v e. subst (λ (c : Congruence). FactsAfter c L U u v) (sym f.congruence) (drawn u v (inr e)))
      (subst (λ (c : Congruence). IsWithin c L U mid.graph) (sym f.congruence) mid_within));
}

-- the same words, told otherwise, and no fewer pairs
pub grown_as : (D D' : Word → Word → Type 0) (E E' : Word → Word → Word → Type 0) (old new : CosetTable) (node : ℕ) → ((x v : Word) → D' x v → D x v) → ((x v : Word) → D x v → D' x v) → ((x u v : Word) → E x u v → E' x u v)
    → IsGrown D E old new node → IsGrown D' E' old new node
grown_as D D' E E' old new node to from drawn g = record {
  congruence = g.congruence;
  paths = g.paths;
  marks = g.marks;
  failed = g.failed;
  there = λ x v hx e. g.there x v hx (to x v e);
  within = λ L U x hx facts pairs within. g.within L U x hx (λ v d. facts v (from x v d)) (λ u v d. pairs u v (drawn x u v d)) within;
}

-- the edge is there
pub grown_found : (t : CosetTable) (node a m : ℕ) → t.failed ≡ false → target t.graph node a ≡ Some m → IsGrown (IsNext a) NoDrawing t t node
grown_found t node a m failed e = grown_none (IsNext a) NoDrawing t node failed
    (λ x v hx is. let at : path t.graph 0 v ≡ Some m = ap (λ z. path t.graph 0 z) is ∙ path_more t.graph 0 node x a hx ∙ e in (m, at, at))

-- the whole word is there
pub grown_whole : (E : Word → Word → Word → Type 0) (t : CosetTable) (node m : ℕ) (w : Word) → t.failed ≡ false → path t.graph node w ≡ Some m → IsGrown (IsAlong w) E t t node
grown_whole E t node m w failed e = grown_none (IsAlong w) E t node failed (λ x v hx h. prefix_there t.graph v (x ++ w) m h (path_append t.graph 0 node x w hx ∙ e))

-- both sides of a pair are there
pub grown_met : (E : Word → Word → Word → Type 0) (t : CosetTable) (node : ℕ) (pair : Word × Word) → t.failed ≡ false → MeetAt t.graph node pair → IsGrown (IsAlongBoth pair.0 pair.1) E t t node
grown_met E t node pair failed met = grown_none (IsAlongBoth pair.0 pair.1) E t node failed (λ x v hx h. elim h [
  | inl p ↦ prefix_there t.graph v (x ++ pair.0) met.0 p (path_append t.graph 0 node x pair.0 hx ∙ met.1)
  | inr p ↦ prefix_there t.graph v (x ++ pair.1) met.0 p (path_append t.graph 0 node x pair.1 hx ∙ met.2)
])

-- a word of which nothing is traced
pub grown_start : (t : CosetTable) (node : ℕ) → t.failed ≡ false → IsGrown (IsAlong []) NoDrawing t t node
grown_start t node failed = grown_whole NoDrawing t node node [] failed refl

-- one letter further
pub grown_further : (old mid new : CosetTable) (node at a : ℕ) (done : Word) → IsGrown (IsAlong done) NoDrawing old mid node → path mid.graph node done ≡ Some at → IsGrown (IsNext a) NoDrawing mid new at → IsGrown (IsAlong (done ++ a ∷ [])) NoDrawing old new node
grown_further old mid new node at a done f here g = record {
  congruence = g.congruence ∙ f.congruence;
  paths = λ n m u e. g.paths n m u (f.paths n m u e);
  marks = λ n. (λ on. (f.marks n).0 ((g.marks n).0 on), λ on. (g.marks n).1 ((f.marks n).1 on));
  failed = g.failed;
  there = λ x v hx h. elim (prefix_last v (x ++ done) a (split x v h)) [
    | inl p ↦ grown_same (IsNext a) NoDrawing mid new at g v v (f.there x v hx p)
    | inr e ↦ g.there (x ++ done) v (leads x hx) e
  ];
  within = λ L U x hx facts drawn within.
      let mid_within : IsWithin old.congruence L U mid.graph = f.within L U x hx (λ v p. facts v (longer x v p)) drawn within in
      let new_within : IsWithin mid.congruence L U new.graph =
      g.within L U (x ++ done) (leads x hx)
      (λ v e. subst (λ (c : Congruence). FactsAfter c L U v v) (sym f.congruence) (facts v (whole x v e)))
      (λ u v h. absurd h)
      (subst (λ (c : Congruence). IsWithin c L U mid.graph) (sym f.congruence) mid_within) in
      subst (λ (c : Congruence). IsWithin c L U new.graph) f.congruence new_within;
}
  where
    leads : (x : Word) → path old.graph 0 x ≡ Some node → path mid.graph 0 (x ++ done) ≡ Some at
    leads x hx = path_append mid.graph 0 node x done (f.paths 0 node x hx) ∙ here

    split : (x v : Word) → IsPrefix v (x ++ (done ++ a ∷ [])) → IsPrefix v ((x ++ done) ++ a ∷ [])
    split x v h = record { after = h.after; is = append_assoc x done (a ∷ []) ∙ h.is }

    longer : (x v : Word) → IsPrefix v (x ++ done) → IsPrefix v (x ++ (done ++ a ∷ []))
    longer x v p = record { after = p.after ++ a ∷ []; is = sym (append_assoc x done (a ∷ [])) ∙ ap (λ z. z ++ a ∷ []) p.is ∙ append_assoc v p.after (a ∷ []) }

    whole : (x v : Word) → v ≡ (x ++ done) ++ a ∷ [] → IsPrefix v (x ++ (done ++ a ∷ []))
    whole x v e = record { after = []; is = sym (append_assoc x done (a ∷ [])) ∙ sym e ∙ sym (append-nil v) }

-- a letter of a word
pub letter_of : (k : ℕ) (w : Word) (i a : ℕ) → IsOver k w → slice_get w i ≡ Some a → a < k
letter_of k w i a over e =
    let less : i < length w = slice_get_within w i a e in
    let is : get_or w i 0 ≡ a = get_or_from_slice_get w i a 0 e in
    omega (arith, over_at k w i 0 over less)

pub take_letter : (w : Word) (i a : ℕ) → slice_get w i ≡ Some a → take (i + 1) w ≡ take i w ++ a ∷ []
take_letter w i a e = take_more w i 0 (slice_get_within w i a e) ∙ ap (λ b. take i w ++ b ∷ []) (get_or_from_slice_get w i a 0 e)

-- the state of a trace after so many letters
pub record IsTracedTo (old t : CosetTable) (node : ℕ) (done : Word) (at : ℕ) : Type 0 where
  pub table : IsTable t
  pub leads : path t.graph node done ≡ Some at
  pub grown : IsGrown (IsAlong done) NoDrawing old t node

pub traced_start : (t : CosetTable) (node : ℕ) → IsTable t → t.failed ≡ false → IsTracedTo t t node [] node
traced_start t node is failed = record { table = is; leads = refl; grown = grown_start t node failed }

pub traced_live : (old t : CosetTable) (node at : ℕ) (done : Word) → IsTable old → IsLive old node → IsTracedTo old t node done at → IsLive t at
traced_live old t node at done was live h = leads_live t node at done h.table (grown_live (IsAlong done) NoDrawing old t node node was h.table h.grown live) h.leads

pub traced_more : (old t new : CosetTable) (node at a next i : ℕ) (w : Word) → IsTracedTo old t node (take i w) at → slice_get w i ≡ Some a → IsTable new
    → target new.graph at a ≡ Some next → IsGrown (IsNext a) NoDrawing t new at → IsTracedTo old new node (take (i + 1) w) next
traced_more old t new node at a next i w h letter is edge g =
    subst (λ (done : Word). IsTracedTo old new node done next) (sym (take_letter w i a letter))
    (record {
      table = is;
      leads = path_more new.graph node at (take i w) a (g.paths node at (take i w) h.leads) ∙ edge;
      grown = grown_further old t new node at a (take i w) h.grown h.leads g;
    })

-- the last letter is traced
pub grown_last : (old new : CosetTable) (node at a : ℕ) (w : Word) → (length w ≡ 0 → ⊥) → slice_get w (length w - 1) ≡ Some a → old.failed ≡ false → path old.graph node (take (length w - 1) w) ≡ Some at → IsGrown (IsNext a) NoDrawing old new at
    → IsGrown (IsAlong w) NoDrawing old new node
grown_last old new node at a w some e failed here g =
    subst (λ (z : Word). IsGrown (IsAlong z) NoDrawing old new node) (sym (split_last w (length w) a refl some e))
    (grown_further old old new node at a (take (length w - 1) w) (grown_whole NoDrawing old node at (take (length w - 1) w) failed here) here g)

-- a prefix of some letters of a word is one of the word
prefix_front : (n : ℕ) (w x v : Word) → IsAlong (take n w) x v → IsAlong w x v
prefix_front n w x v p = record {
  after = p.after ++ drop n w;
  is = ap (λ z. x ++ z) (sym (take-append-drop n w)) ∙ sym (append_assoc x (take n w) (drop n w)) ∙ ap (λ z. z ++ drop n w) p.is ∙ append_assoc v p.after (drop n w);
}

-- both sides, once all but their last letters are there
pub both_grown : (n m : ℕ) (first second : Word) (E : Word → Word → Word → Type 0) (old one two new : CosetTable) (node : ℕ) → ((x u v : Word) → E x u v → AreSides first second x u v)
    → IsGrown (IsAlong (take n first)) NoDrawing old one node → IsGrown (IsAlong (take m second)) NoDrawing one two node → IsGrown (IsAlongBoth first second) E two new node
    → IsGrown (IsAlongBoth first second) (AreSides first second) old new node
both_grown n m first second E old one two new node drawn f g h =
    grown_as (λ x v. (IsAlong (take n first) x v ⊎ IsAlong (take m second) x v) ⊎ IsAlongBoth first second x v) (IsAlongBoth first second) (λ x u v. (⊥ ⊎ ⊥) ⊎ E x u v) (AreSides first second) old new node
    (λ x v a. inr a) from (λ x u v e. elim e [ inl none ↦ absurd (elim none [ inl k ↦ k | inr k ↦ k ]) | inr k ↦ drawn x u v k ])
    (grown_both (λ x v. IsAlong (take n first) x v ⊎ IsAlong (take m second) x v) (IsAlongBoth first second) (λ x u v. ⊥ ⊎ ⊥) E old two new node
    (grown_both (IsAlong (take n first)) (IsAlong (take m second)) NoDrawing NoDrawing old one two node f g) h)
  where
    from : (x v : Word) → (IsAlong (take n first) x v ⊎ IsAlong (take m second) x v) ⊎ IsAlongBoth first second x v → IsAlongBoth first second x v
    from x v (inl (inl p)) = inl (prefix_front n first x v p)
    from x v (inl (inr p)) = inr (prefix_front m second x v p)
    from x v (inr b) = b

-- the second side is there, and the end of the first is drawn to its end
pub both_there : (first second : Word) (two new : CosetTable) (node end : ℕ) → two.failed ≡ false → path two.graph node second ≡ Some end → IsGrown (IsAlong first) (AreSides second first) two new node
    → IsGrown (IsAlongBoth first second) (λ x u v. ⊥ ⊎ AreSides second first x u v) two new node
both_there first second two new node end failed e g =
    grown_as (λ x v. IsAlong second x v ⊎ IsAlong first x v) (IsAlongBoth first second) (λ x u v. ⊥ ⊎ AreSides second first x u v) (λ x u v. ⊥ ⊎ AreSides second first x u v) two new node
    (λ x v h. elim h [ inl a ↦ inr a | inr b ↦ inl b ]) (λ x v h. elim h [ inl a ↦ inr a | inr b ↦ inl b ]) (λ x u v h. h)
    (grown_both (IsAlong second) (IsAlong first) NoDrawing (AreSides second first) two two new node (grown_whole NoDrawing two node end second failed e) g)

-- the first side is made, and the end of the second is drawn to its end
pub both_made : (first second : Word) (two made new : CosetTable) (node : ℕ) → IsGrown (IsAlong first) NoDrawing two made node → IsGrown (IsAlong second) (AreSides first second) made new node
    → IsGrown (IsAlongBoth first second) (λ x u v. ⊥ ⊎ AreSides first second x u v) two new node
both_made first second two made new node f g = grown_both (IsAlong first) (IsAlong second) NoDrawing (AreSides first second) two made new node f g

-- the sides the other way
pub sides_turned : (first second x u v : Word) → ⊥ ⊎ AreSides second first x u v → AreSides first second x u v
sides_turned first second x u v (inl none) = absurd none
sides_turned first second x u v (inr (inl h)) = inr h
sides_turned first second x u v (inr (inr h)) = inl h

pub sides_kept : (first second x u v : Word) → ⊥ ⊎ AreSides first second x u v → AreSides first second x u v
sides_kept first second x u v (inl none) = absurd none
sides_kept first second x u v (inr h) = h

-- v is a prefix of x and a side of one of the first pairs
abbrev pub IsAlongFirst : List (Word × Word) → ℕ → Word → Word → Type 0
IsAlongFirst pairs i x v = (k : ℕ) × (p : Word × Word) × (k < i) × (get_or pairs k p ≡ p) × (IsPrefix v (x ++ p.0) ⊎ IsPrefix v (x ++ p.1))

pub first_none : (pairs : List (Word × Word)) (t : CosetTable) (node : ℕ) → t.failed ≡ false → IsGrown (IsAlongFirst pairs 0) (AreSidesAny pairs) t t node
first_none pairs t node failed = grown_none (IsAlongFirst pairs 0) (AreSidesAny pairs) t node failed (λ x v hx h. absurd (omega (arith, h.2)))

-- one pair more
pub first_more : (pairs : List (Word × Word)) (i : ℕ) (p : Word × Word) (old t new : CosetTable) (node : ℕ) → i < length pairs → p ≡ get_or pairs i p
    → IsGrown (IsAlongFirst pairs i) (AreSidesAny pairs) old t node → IsGrown (IsAlongBoth p.0 p.1) (AreSides p.0 p.1) t new node → IsGrown (IsAlongFirst pairs (i + 1)) (AreSidesAny pairs) old new node
first_more pairs i p old t new node less e f g =
    grown_as (λ x v. IsAlongFirst pairs i x v ⊎ IsAlongBoth p.0 p.1 x v) (IsAlongFirst pairs (i + 1)) (λ x u v. AreSidesAny pairs x u v ⊎ AreSides p.0 p.1 x u v) (AreSidesAny pairs) old new node to from drawn
    (grown_both (IsAlongFirst pairs i) (IsAlongBoth p.0 p.1) (AreSidesAny pairs) (AreSides p.0 p.1) old t new node f g)
  where
    from : (x v : Word) → IsAlongFirst pairs i x v ⊎ IsAlongBoth p.0 p.1 x v → IsAlongFirst pairs (i + 1) x v
    from x v (inl r) = (r.0, r.1, omega (arith, r.2), r.3, r.4)
    from x v (inr (inl r)) = (i, p, omega arith, sym e, inl r)
    from x v (inr (inr r)) = (i, p, omega arith, sym e, inr r)

    here : (q : Word × Word) → get_or pairs i q ≡ q → q ≡ p
    here q d = sym d ∙ get_or_default pairs i q p less ∙ sym e

    to : (x v : Word) → IsAlongFirst pairs (i + 1) x v → IsAlongFirst pairs i x v ⊎ IsAlongBoth p.0 p.1 x v
    to x v r = go (cases_lt r.0 i)
      where
        go : (r.0 < i) ⊎ (i ≤ r.0) → IsAlongFirst pairs i x v ⊎ IsAlongBoth p.0 p.1 x v
        go (inl l) = inl (r.0, r.1, l, r.3, r.4)
        go (inr l) =
            let at : r.0 ≡ i = omega (arith, r.2, l) in
            let is : r.1 ≡ p = here r.1 (subst (λ k. get_or pairs k r.1 ≡ r.1) at r.3) in
            elim r.4 [
              | inl a ↦ inr (inl (subst (λ (q : Word × Word). IsPrefix v (x ++ q.0)) is a))
              | inr b ↦ inr (inr (subst (λ (q : Word × Word). IsPrefix v (x ++ q.1)) is b))
            ]

    drawn : (x u v : Word) → AreSidesAny pairs x u v ⊎ AreSides p.0 p.1 x u v → AreSidesAny pairs x u v
    drawn x u v (inl a) = a
    drawn x u v (inr (inl h)) = (p.0, p.1, inl (i, less, sym e), h.0, h.1)
    drawn x u v (inr (inr h)) = (p.1, p.0, inr (i, less, sym e), h.0, h.1)

-- all of them
pub first_all : (pairs : List (Word × Word)) (i : ℕ) (old new : CosetTable) (node : ℕ) → i ≡ length pairs → IsGrown (IsAlongFirst pairs i) (AreSidesAny pairs) old new node → IsGrown (IsTraced pairs) (AreSidesAny pairs) old new node
first_all pairs i old new node end = grown_as (IsAlongFirst pairs i) (IsTraced pairs) (AreSidesAny pairs) (AreSidesAny pairs) old new node to from (λ x u v h. h)
  where
    to : (x v : Word) → IsTraced pairs x v → IsAlongFirst pairs i x v
    to x v h = elim h.1.1 [
      | inl m ↦ (m.0, (h.0, h.1.0), omega (arith, m.1, end), m.2, inl h.2)
      | inr m ↦ (m.0, (h.1.0, h.0), omega (arith, m.1, end), m.2, inr h.2)
    ]

    from : (x v : Word) → IsAlongFirst pairs i x v → IsTraced pairs x v
    from x v r =
        elim r.4 [
          | inl a ↦ (r.1.0, (r.1.1, inl (r.0, omega (arith, r.2, end), r.3)), a)
          | inr b ↦ (r.1.1, (r.1.0, inr (r.0, omega (arith, r.2, end), r.3)), b)
        ]

-- no letter yet, one letter more
pub letters_none : (t : CosetTable) (node : ℕ) → t.failed ≡ false → IsGrown (IsExtension 0) NoDrawing t t node
letters_none t node failed = grown_none (IsExtension 0) NoDrawing t node failed (λ x v hx h. absurd (omega (arith, h.1)))

pub letters_more : (i : ℕ) (old t new : CosetTable) (node : ℕ) → IsGrown (IsExtension i) NoDrawing old t node → IsGrown (IsNext i) NoDrawing t new node → IsGrown (IsExtension (i + 1)) NoDrawing old new node
letters_more i old t new node f g =
    grown_as (λ x v. IsExtension i x v ⊎ IsNext i x v) (IsExtension (i + 1)) (λ x u v. ⊥ ⊎ ⊥) NoDrawing old new node to from (λ x u v h. elim h [ inl n ↦ n | inr n ↦ n ])
    (grown_both (IsExtension i) (IsNext i) NoDrawing NoDrawing old t new node f g)
  where
    to : (x v : Word) → IsExtension (i + 1) x v → IsExtension i x v ⊎ IsNext i x v
    to x v e = elim (cases_eq e.0 i) [
      | inl d ↦ inr (e.2 ∙ ap (λ a. x ++ a ∷ []) d)
      | inr d ↦ inl (e.0, omega (arith, e.1, d), e.2)
    ]

    from : (x v : Word) → IsExtension i x v ⊎ IsNext i x v → IsExtension (i + 1) x v
    from x v (inl e) = (e.0, omega (arith, e.1), e.2)
    from x v (inr e) = (i, omega arith, e)

-- letters and sides are what the row defines
pub row_grown : (c : Congruence) (old mid new : CosetTable) (node : ℕ) → IsGrown (IsTraced c.presentation.relations) (AreSidesAny c.presentation.relations) old mid node → IsGrown (IsExtension c.presentation.letters) NoDrawing mid new node
    → IsGrown (IsInRow c) (AreSidesAny c.presentation.relations) old new node
row_grown c old mid new node f g =
    grown_as (λ x v. IsTraced c.presentation.relations x v ⊎ IsExtension c.presentation.letters x v) (IsInRow c) (λ x u v. AreSidesAny c.presentation.relations x u v ⊎ ⊥) (AreSidesAny c.presentation.relations) old new node to from
    (λ x u v h. elim h [ inl d ↦ d | inr n ↦ absurd n ])
    (grown_both (IsTraced c.presentation.relations) (IsExtension c.presentation.letters) (AreSidesAny c.presentation.relations) NoDrawing old mid new node f g)
  where
    to : (x v : Word) → IsInRow c x v → IsTraced c.presentation.relations x v ⊎ IsExtension c.presentation.letters x v
    to x v (inl e) = inr e
    to x v (inr t) = inl t

    from : (x v : Word) → IsTraced c.presentation.relations x v ⊎ IsExtension c.presentation.letters x v → IsInRow c x v
    from x v (inr e) = inl e
    from x v (inl t) = inr t

-- sides of relations and pairs are over the letters
pub sides_over : (b : Bool) (k : ℕ) (pairs : List (Word × Word)) → AreElements b k pairs → (side : Word) → IsSide pairs side → IsOver k side
sides_over b k pairs all side h = element_over b k side (side_element b k pairs side h.0 all h.1).0

-- the sides of a pair in the list
pub sides_of : (pairs : List (Word × Word)) (i : ℕ) (p : Word × Word) → i < length pairs → p ≡ get_or pairs i p → IsSide pairs p.0 × IsSide pairs p.1
sides_of pairs i p less e = ((p.1, inl (i, less, sym e)), (p.0, inr (i, less, sym e)))
