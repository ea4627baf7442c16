-- The least words of the nodes of a standard graph ascend.
use Rattle.std.proofs.Common.{◌≡◌, ℕ, zero, suc, ◌<◌, ◌≤◌, max, List, [], ◌∷◌, ◌++◌, length, map, refl, sym, ◌∙◌, ap, subst, arith, ◌⊎◌, inl, inr, Some, None, slice_get, length-append}
use Rattle.std.specs.Option.{unwrap_or}
use Rattle.std.proofs.lemmas.Bool.{cases_lt}
use Rattle.theory.specs.Word.{Word}
use Rattle.theory.specs.ShortLex.{◌≺◌}
use Rattle.theory.specs.Graph.{Graph, target, path, IsGraph}
use Rattle.theory.specs.LowIndex.{Rows, graph_of, entries, IsNumberedFrom}
use Rattle.theory.proofs.Words.{before_no_longer}
use Rattle.theory.proofs.GraphLaws.{path_append, path_front, path_letter}
use Rattle.theory.proofs.FactsLaws.{last_letter}
use Rattle.word_graph.specs.Walk.{NoLater, IsBefore, IsLeastWord}
use Rattle.word_graph.specs.Numbered.{max_from}
use Rattle.word_graph.proofs.EdgeLaws.{target_in}
use Rattle.word_graph.proofs.NumberLaws.{numbered_front, numbered_behind}
use Rattle.word_graph.proofs.OrderLaws.{before_behind, letter_before, empty_first, no_later_before}
use Rattle.word_graph.proofs.StandardLaws.{path_in}
use Rattle.word_graph.proofs.WalkLaws.{some_same}

-- each number up to the greatest seen is an entry
entry_of : (s : ℕ) (row : List ℕ) (i : ℕ) → IsNumberedFrom s row → s < i → i ≤ max_from s row
    → (b : ℕ) × (unwrap_or (slice_get (map Some row) b) None ≡ Some i)
entry_of s [] i h less most = absurd (omega arith)
entry_of s (n ∷ row) i h less most = go (cases_lt (max s n) i) (λ more. entry_of (max s n) row i h.1 more most)
  where
    go : (max s n < i) ⊎ (i ≤ max s n) → (max s n < i → (b : ℕ) × (unwrap_or (slice_get (map Some row) b) None ≡ Some i))
        → (b : ℕ) × (unwrap_or (slice_get (map Some (n ∷ row)) b) None ≡ Some i)
    go (inl more) further = let f = further more in (suc f.0, f.1)
    go (inr here) further = (0, ap (λ z. Some z) (let e : n ≡ i = omega (arith, h.0) in e))

-- a lesser number that was not seen is an entry before
entry_before : (s : ℕ) (row : List ℕ) (a i j : ℕ) → IsNumberedFrom s row → unwrap_or (slice_get (map Some row) a) None ≡ Some j → s < i → i < j
    → (b : ℕ) × (b < a) × (unwrap_or (slice_get (map Some row) b) None ≡ Some i)
entry_before s [] a i j h e less more = cc
entry_before s (n ∷ row) zero i j h e less more = let same : n ≡ j = some_same n j e in absurd (omega (arith, h.0, same))
entry_before s (n ∷ row) (suc a) i j h e less more = go (cases_lt (max s n) i) (λ far. entry_before (max s n) row a i j h.1 e far more)
  where
    go : (max s n < i) ⊎ (i ≤ max s n) → (max s n < i → (b : ℕ) × (b < a) × (unwrap_or (slice_get (map Some row) b) None ≡ Some i))
        → (b : ℕ) × (b < suc a) × (unwrap_or (slice_get (map Some (n ∷ row)) b) None ≡ Some i)
    go (inl far) further = let f = further far in (suc f.0, omega (arith, f.1), f.2)
    go (inr here) further = (0, omega arith, ap (λ z. Some z) (let e : n ≡ i = omega (arith, h.0) in e))

-- a lesser node that was not seen appears before
appears_before : (s : ℕ) (rows : Rows) (p a i j : ℕ) → IsNumberedFrom s (entries rows) → target (graph_of rows) p a ≡ Some j → s < i → i < j
    → (q b : ℕ) × IsBefore q b p a × (target (graph_of rows) q b ≡ Some i)
appears_before s [] p a i j h e less more = cc
appears_before s (row ∷ rows) zero a i j h e less more =
    let f = entry_before s row a i j (numbered_front s row (entries rows) h) e less more in
    (0, f.0, inr (refl, f.1), f.2)
appears_before s (row ∷ rows) (suc p) a i j h e less more =
    go (cases_lt (max_from s row) i) (λ far. appears_before (max_from s row) rows p a i j (numbered_behind s row (entries rows) h) e far more)
  where
    go : (max_from s row < i) ⊎ (i ≤ max_from s row)
        → (max_from s row < i → (q b : ℕ) × IsBefore q b p a × (target (graph_of rows) q b ≡ Some i))
        → (q b : ℕ) × IsBefore q b (suc p) a × (target (graph_of (row ∷ rows)) q b ≡ Some i)
    go (inl far) further = let f = further far in (suc f.0, f.1, later f.0 f.1 f.2, f.3)
      where
        later : (q b : ℕ) → IsBefore q b p a → IsBefore (suc q) b (suc p) a
        later q b (inl l) = inl (omega arith)
        later q b (inr l) = inr (ap suc l.0, l.1)
    go (inr here) further =
        let f = entry_of s row i (numbered_front s row (entries rows) h) less here in
        (0, f.0, inl (omega arith), f.1)

pub no_later_empty : (w : Word) → NoLater w [] → w ≡ []
no_later_empty w (inl l) = nil w (before_no_longer w [] l)
  where
    nil : (w : Word) → length w ≤ 0 → w ≡ []
    nil [] h = refl
    nil (a ∷ w) h = absurd (omega arith)
no_later_empty w (inr e) = e

module _ (k : ℕ) (g : Graph) (rows : Rows) (is : g ≡ graph_of rows) (numbered : IsNumberedFrom 0 (entries rows)) (graph : IsGraph k g)
    (word : ℕ → Word) (least : (i : ℕ) → i < length g → IsLeastWord g i (word i)) where
  inside : (j : ℕ) (v : Word) → path g 0 v ≡ Some j → j < length g
  inside j v e = path_in k g graph 0 j v graph.rooted e

  -- one letter more leads to the node of the edge, and the least word of that is no later
  no_later_on : (v : Word) (q b i : ℕ) → path g 0 v ≡ Some q → target g q b ≡ Some i → NoLater (word i) (v ++ b ∷ [])
  no_later_on v q b i leads edge =
      let on : path g 0 (v ++ b ∷ []) ≡ Some i = path_append g 0 q v (b ∷ []) leads ∙ path_letter g q b ∙ edge in
      (least i (inside i (v ++ b ∷ []) on)).least (v ++ b ∷ []) on

  root_word : word 0 ≡ []
  root_word = no_later_empty (word 0) ((least 0 graph.rooted).least [] refl)

  -- a word with a letter at its end comes after the least words of lesser nodes, where the word without it does
  one_more : (v : Word) (a i j : ℕ) → ((q p : ℕ) → path g 0 v ≡ Some p → q < p → word q ≺ v) → path g 0 (v ++ a ∷ []) ≡ Some j → i < j
      → word i ≺ (v ++ a ∷ [])
  one_more v a zero j known leads less = subst (λ w. w ≺ (v ++ a ∷ [])) (sym root_word) (empty_first v a)
  one_more v a (suc i) j known leads less =
      let front = path_front g 0 j v (a ∷ []) leads in
      let edge : target g front.0 a ≡ Some j = sym (path_letter g front.0 a) ∙ front.2 in
      let f = appears_before 0 rows front.0 a (suc i) j numbered (ap (λ (h : Graph). target h front.0 a) (sym is) ∙ edge) (omega arith) less in
      let first : target g f.0 f.1 ≡ Some (suc i) = ap (λ (h : Graph). target h f.0 f.1) is ∙ f.3 in
      by front.0 front.1 f.0 f.1 f.2 first
    where
      row : (q b : ℕ) → target g q b ≡ Some (suc i) → q < length g
      row q b e = (target_in k g graph q b (suc i) e).0

      by : (p : ℕ) → path g 0 v ≡ Some p → (q b : ℕ) → IsBefore q b p a → target g q b ≡ Some (suc i) → word (suc i) ≺ (v ++ a ∷ [])
      by p at q b (inl l) e =
          no_later_before (word (suc i)) (word q ++ b ∷ []) (v ++ a ∷ [])
          (no_later_on (word q) q b (suc i) (least q (row q b e)).leads e) (before_behind (word q) v b a (known q p at l))
      by p at q b (inr l) e =
          no_later_before (word (suc i)) (v ++ b ∷ []) (v ++ a ∷ [])
          (no_later_on v q b (suc i) (at ∙ ap (λ z. Some z) (sym l.0)) e) (letter_before v b a l.1)

  -- the least word of a node comes before each word that leads to a greater one
  comes_first : (n : ℕ) (v : Word) (i j : ℕ) → length v ≤ n → path g 0 v ≡ Some j → i < j → word i ≺ v
  comes_first zero [] i j short leads less = let e : 0 ≡ j = some_same 0 j leads in absurd (omega (arith, e))
  comes_first zero (a ∷ v) i j short leads less = absurd (omega arith)
  comes_first (suc n) v i j short leads less = elim (last_letter v) [
    | inl e ↦ let root : 0 ≡ j = some_same 0 j (ap (path g 0) (sym e) ∙ leads) in absurd (omega (arith, root))
    | inr l ↦
        subst (λ w. word i ≺ w) (sym l.2)
        (one_more l.0 l.1 i j (λ q p at less'. comes_first n l.0 q p (omega (arith, ap length l.2, length-append l.0 (l.1 ∷ []))) at less')
        (ap (path g 0) (sym l.2) ∙ leads) less)
  ]

  pub ascend : (i j : ℕ) → i < j → j < length g → word i ≺ word j
  ascend i j less within = comes_first (length (word j)) (word j) i j (omega arith) (least j within).leads less
