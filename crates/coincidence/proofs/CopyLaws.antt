-- A graph that is copied edge by edge.
use Rattle.std.proofs.Common.{◌≡◌, ◌≢◌, ℕ, suc, ◌+◌, ◌<◌, ◌≤◌, List, [], ◌∷◌, refl, sym, ◌∙◌, ap, arith, ◌⊎◌, inl, inr, Option, Some, None, length, subst, get_or, length-set, set}
use Rattle.std.proofs.lemmas.Bool.{cases_eq, cases_lt}
use Rattle.theory.specs.Graph.{Graph, target, IsGraph}
use Rattle.word_graph.specs.Edges.{with_edge}
use Rattle.word_graph.specs.Walk.{IsBefore}
use Rattle.word_graph.proofs.EdgeLaws.{target_edged, target_other, target_in, graph_edged}
use Rattle.cells.proofs.EntryLaws.{target_is}
use Rattle.word_graph.proofs.WalkLaws.{before_next}

-- lists that read the same
row_same : (xs ys : List (Option ℕ)) → length xs ≡ length ys → ((i : ℕ) → get_or xs i None ≡ get_or ys i None) → xs ≡ ys
row_same [] [] e h = refl
row_same [] (y ∷ ys) e h = absurd (omega (arith, e))
row_same (x ∷ xs) [] e h = absurd (omega (arith, e))
row_same (x ∷ xs) (y ∷ ys) e h = ap (λ z. z ∷ xs) (h 0) ∙ ap (λ z. y ∷ z) (row_same xs ys (omega (arith, e)) (λ i. h (suc i)))

rows_same : (k : ℕ) (g h : Graph) → length g ≡ length h → ((i : ℕ) → i < length g → length (get_or g i []) ≡ k) → ((i : ℕ) → i < length h → length (get_or h i []) ≡ k)
    → ((i a : ℕ) → get_or (get_or g i []) a None ≡ get_or (get_or h i []) a None) → g ≡ h
rows_same k [] [] e w v same = refl
rows_same k [] (y ∷ ys) e w v same = absurd (omega (arith, e))
rows_same k (x ∷ xs) [] e w v same = absurd (omega (arith, e))
rows_same k (x ∷ xs) (y ∷ ys) e w v same =
    let one : x ≡ y = row_same x y (w 0 (omega arith) ∙ sym (v 0 (omega arith))) (λ a. same 0 a) in
    ap (λ z. z ∷ xs) one ∙ ap (λ z. y ∷ z) (rows_same k xs ys (omega (arith, e)) (λ i h. w (suc i) (omega (arith, h))) (λ i h. v (suc i) (omega (arith, h))) (λ i a. same (suc i) a))

-- the cells before the row n and letter a are copied, and no other
pub record IsCopiedTo (k : ℕ) (old new : Graph) (n a : ℕ) : Type 0 where
  pub graph : IsGraph k new
  pub nodes : length new ≡ length old
  pub done : (p b : ℕ) → IsBefore p b n a → target new p b ≡ target old p b
  pub later : (p b : ℕ) → (IsBefore p b n a → ⊥) → target new p b ≡ None

before_or : (p b n a : ℕ) → IsBefore p b n (a + 1) → IsBefore p b n a ⊎ ((p ≡ n) × (b ≡ a))
before_or = before_next

more : (p b n a : ℕ) → IsBefore p b n a → IsBefore p b n (a + 1)
more p b n a (inl h) = inl h
more p b n a (inr h) = inr (h.0, omega (arith, h.1))

not_here : (n a : ℕ) → IsBefore n a n a → ⊥
not_here n a (inl h) = absurd (omega (arith, h))
not_here n a (inr h) = absurd (omega (arith, h.1))

pub copy_none : (k : ℕ) (old new : Graph) (n a : ℕ) → target old n a ≡ None → IsCopiedTo k old new n a → IsCopiedTo k old new n (a + 1)
copy_none k old new n a none c = record {
  graph = c.graph;
  nodes = c.nodes;
  done = λ p b before. elim (before_or p b n a before) [
    | inl h ↦ c.done p b h
    | inr e ↦ subst (λ z. target new z b ≡ target old z b) (sym e.0) (subst (λ z. target new n z ≡ target old n z) (sym e.1) (c.later n a (not_here n a) ∙ sym none))
  ];
  later = λ p b off. c.later p b (λ h. off (more p b n a h));
}

pub copy_edge : (k : ℕ) (old new : Graph) (n a m : ℕ) → IsGraph k old → target old n a ≡ Some m → IsCopiedTo k old new n a → IsCopiedTo k old (with_edge new n a m) n (a + 1)
copy_edge k old new n a m is e c = record {
  graph = graph_edged k new n a m c.graph inside at.1 (omega (arith, at.2, c.nodes));
  nodes = length-set new n (set (get_or new n []) a (Some m)) ∙ c.nodes;
  done = λ p b before. elim (before_or p b n a before) [
    | inl h ↦ target_other new n a m p b inside (apart p b h) ∙ c.done p b h
    | inr f ↦ subst (λ z. target (with_edge new n a m) z b ≡ target old z b) (sym f.0) (subst (λ z. target (with_edge new n a m) n z ≡ target old n z) (sym f.1) (target_edged new n a m inside wide ∙ sym e))
  ];
  later = λ p b off. target_other new n a m p b inside (away p b off) ∙ c.later p b (λ h. off (more p b n a h));
}
  where
    at : (n < length old) × (a < k) × (m < length old)
    at = target_in k old is n a m e

    inside : n < length new
    inside = omega (arith, at.0, c.nodes)

    wide : a < length (get_or new n [])
    wide = omega (arith, c.graph.width n [] inside, at.1)

    apart : (p b : ℕ) → IsBefore p b n a → (p ≢ n) ⊎ (b ≢ a)
    apart p b (inl h) = inl (λ d. absurd (omega (arith, d, h)))
    apart p b (inr h) = inr (λ d. absurd (omega (arith, d, h.1)))

    away : (p b : ℕ) → (IsBefore p b n (a + 1) → ⊥) → (p ≢ n) ⊎ (b ≢ a)
    away p b off = elim (cases_eq p n) [ inr d ↦ inl d | inl d ↦ inr (λ f. off (inr (d, omega (arith, f)))) ]

pub copy_row : (k : ℕ) (old new : Graph) (n : ℕ) → IsGraph k old → IsCopiedTo k old new n k → IsCopiedTo k old new (n + 1) 0
copy_row k old new n is c = record {
  graph = c.graph;
  nodes = c.nodes;
  done = λ p b before. elim (cases_lt p n) [
    | inl h ↦ c.done p b (inl h)
    | inr h ↦ let same : p ≡ n = omega (arith, h, row before) in elim (cases_lt b k) [ inl l ↦ c.done p b (inr (same, l)) | inr l ↦ past new c.graph p b l ∙ sym (past old is p b l) ]
  ];
  later = λ p b off. c.later p b (λ h. off (inl (up h)));
}
  where
    row : {p b : ℕ} → IsBefore p b (n + 1) 0 → p < n + 1
    row (inl h) = h
    row (inr h) = absurd (omega (arith, h.1))

    up : {p b : ℕ} → IsBefore p b n k → p < n + 1
    up (inl h) = omega (arith, h)
    up (inr h) = omega (arith, h.0)

    past : (g : Graph) → IsGraph k g → (p b : ℕ) → k ≤ b → target g p b ≡ None
    past g ok p b l = go (target g p b) refl
      where
        go : (x : Option ℕ) → target g p b ≡ x → target g p b ≡ None
        go None e = e
        go (Some m) e = absurd (omega (arith, l, (target_in k g ok p b m e).1))

pub copy_end : (k : ℕ) (old new : Graph) (n : ℕ) → n ≡ length old → IsGraph k old → IsCopiedTo k old new n 0 → new ≡ old
copy_end k old new n e is c = rows_same k new old c.nodes (λ i h. c.graph.width i [] h) (λ i h. is.width i [] h) (λ i a. sym (target_is new i a) ∙ read i a ∙ target_is old i a)
  where
    read : (i a : ℕ) → target new i a ≡ target old i a
    read i a = elim (cases_lt i n) [ inl h ↦ c.done i a (inl h) | inr h ↦ none new c.graph i a (omega (arith, h, e, c.nodes)) ∙ sym (none old is i a (omega (arith, h, e))) ]
      where
        none : (g : Graph) → IsGraph k g → (p b : ℕ) → length g ≤ p → target g p b ≡ None
        none g ok p b l = go (target g p b) refl
          where
            go : (x : Option ℕ) → target g p b ≡ x → target g p b ≡ None
            go None e = e
            go (Some m) e = absurd (omega (arith, l, (target_in k g ok p b m e).0))
