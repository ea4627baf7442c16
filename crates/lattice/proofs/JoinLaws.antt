-- The join of two tables: merging nodes from the roots on relates exactly what a list of words
-- joins.
use Rattle.std.proofs.Common.{◌≡◌, ◌≢◌, ℕ, zero, suc, ◌+◌, ◌-◌, ◌<◌, ◌≤◌, List, [], ◌∷◌, ◌++◌, length, get_or, slice_index, slice_get, refl, sym, ◌∙◌, ap, subst, subst₂, arith, inl, inr, ◌⊎◌, Option, None, Some, Ok, Err, IfOk, replicate, set, length-set, cond, nat_lt, Contains}
use Rattle.std.specs.Prelude.{Result}
use Rattle.std.specs.Option.{unwrap_or, option_and_then}
use Rattle.std.proofs.lemmas.Bool.{cases_lt, cases_eq}
use Rattle.std.proofs.lemmas.List.{length-replicate}
use Rattle.std.proofs.lemmas.List.Elements.{All-replicate}
use Rattle.theory.specs.Word.{Word, IsOver}
use Rattle.theory.specs.Facts.{AllDefined}
use Rattle.theory.specs.Graph.{Graph, target, path, IsComplete, IsCompleteTable, IsGraph, PathsRelate, SameEnd, Shows}
use Rattle.theory.specs.Generated.{given, symmetric, transitive, on_right}
use Rattle.theory.specs.Lattice.{Join, HasBoth, IsRightCongruence}
use Rattle.theory.specs.declared.Kind.TheVariants.{Right}
use Rattle.theory.proofs.GeneratedLaws.{generated_least}
use Rattle.theory.proofs.GraphLaws.{complete_all_defined, complete_path, path_append, path_letter}
use Rattle.theory.proofs.LatticeLaws.{join_congruence, join_has_left, join_has_right, has_both_joins, path_over, path_inside}
use Rattle.word_graph.specs.Edges.{with_edge}
use Rattle.word_graph.specs.Standard.{IsStandardGraph}
use Rattle.word_graph.specs.Walk.{IsBefore}
use Rattle.word_graph.proofs.EdgeLaws.{graph_edged, target_edged, target_in, target_other}
use Rattle.word_graph.proofs.WalkLaws.{before_next, some_same}
use Rattle.coincidence.proofs.FoldLaws.{bare_upto, width_is}
use Rattle.congruence_closure.specs.Maps.{AreInto, GivenPair, KeptBy, AreLeastClasses}
use Rattle.lattice.specs.Quotients.{both_edges, both_image, width, IsQuotient, IsQuotientTo}
use Rattle.lattice.specs.Tables.{AreTables, HaveOneWidth, IsTableOf}
use Rattle.lattice.proofs.ProductLaws.{table_of}

-- the width is the number of letters
pub width_of : (k : ℕ) (g : Graph) → IsGraph k g → width g ≡ k
width_of k g is = is.width 0 [] is.rooted

-- edges of s and of t, side by side
module _ (s t : Graph) where
  pub image_left : (i a m : ℕ) → i < length s → target s i a ≡ Some m → both_image s t i a ≡ m
  image_left i a m h e = left (both_image s t i a) (target s i a) refl e
    where
      left : (x : ℕ) (o : Option ℕ) → x ≡ cond (nat_lt i (length s)) (unwrap_or o 0) (length s + unwrap_or (target t (i - length s) a) 0) → o ≡ Some m → x ≡ m
      left x o is d = is ∙ grind (arith, h) ∙ ap (λ p. unwrap_or p 0) d

  pub image_right : (j a m : ℕ) → target t j a ≡ Some m → both_image s t (length s + j) a ≡ length s + m
  image_right j a m e = right (both_image s t (length s + j) a) (target t (length s + j - length s) a) refl (ap (λ x. target t x a) (let d : length s + j - length s ≡ j = omega arith in d) ∙ e)
    where
      right : (x : ℕ) (o : Option ℕ) → x ≡ cond (nat_lt (length s + j) (length s)) (unwrap_or (target s (length s + j) a) 0) (length s + unwrap_or o 0) → o ≡ Some m
          → x ≡ length s + m
      right x o is d = is ∙ grind arith ∙ ap (λ p. length s + unwrap_or p 0) d

  pub image_within : (k i a : ℕ) → IsGraph k s → IsGraph k t → i < length s + length t → both_image s t i a < length s + length t
  image_within k i a hs ht h = elim (cases_lt i (length s)) [
    | inl less ↦ at_left (target s i a) (λ m e. (target_in k s hs i a m e).2) less (both_image s t i a) refl
    | inr most ↦ at_right (target t (i - length s) a) (λ m e. (target_in k t ht (i - length s) a m e).2) most (both_image s t i a) refl
  ]
    where
      low : (o : Option ℕ) (n : ℕ) → 0 < n → ((m : ℕ) → o ≡ Some m → m < n) → unwrap_or o 0 < n
      low None n some h = some
      low (Some m) n some h = h m refl

      at_left : (o : Option ℕ) → ((m : ℕ) → o ≡ Some m → m < length s) → i < length s → (x : ℕ)
          → x ≡ cond (nat_lt i (length s)) (unwrap_or o 0) (length s + unwrap_or (target t (i - length s) a) 0) → x < length s + length t
      at_left o inside less x is =
          let m : x ≡ unwrap_or o 0 = is ∙ grind (arith, less) in
          omega (arith, m, low o (length s) hs.rooted inside)

      at_right : (o : Option ℕ) → ((m : ℕ) → o ≡ Some m → m < length t) → length s ≤ i → (x : ℕ)
          → x ≡ cond (nat_lt i (length s)) (unwrap_or (target s i a) 0) (length s + unwrap_or o 0) → x < length s + length t
      at_right o inside most x is =
          let m : x ≡ length s + unwrap_or o 0 = is ∙ grind (arith, most) in
          omega (arith, m, low o (length t) ht.rooted inside)

-- a path by its first edge
path_step : (g : Graph) (node a m : ℕ) (u : Word) → path g node (a ∷ u) ≡ Some m → (next : ℕ) × (target g node a ≡ Some next) × (path g next u ≡ Some m)
path_step g node a m u e = go (target g node a) refl e
  where
    go : (o : Option ℕ) → target g node a ≡ o → option_and_then (λ next. path g next u) o ≡ Some m → (next : ℕ) × (target g node a ≡ Some next) × (path g next u ≡ Some m)
    go None h d = cc
    go (Some next) h d = (next, h, d)

step_path : (g : Graph) (node a next m : ℕ) (u : Word) → target g node a ≡ Some next → path g next u ≡ Some m → path g node (a ∷ u) ≡ Some m
step_path g node a next m u h e = ap (option_and_then (λ n. path g n u)) h ∙ e

path_more : (g : Graph) (u : Word) (a i m : ℕ) → path g 0 u ≡ Some i → target g i a ≡ Some m → path g 0 (u ++ a ∷ []) ≡ Some m
path_more g u a i m e h = path_append g 0 i u (a ∷ []) e ∙ path_letter g i a ∙ h

one_end : (o : Option ℕ) (i j : ℕ) → o ≡ Some i → o ≡ Some j → i ≡ j
one_end o i j e d = some_same i j (sym e ∙ d)

module _ (k : ℕ) (s t : Graph) (both : AreTables k s t) where
  hs : IsCompleteTable k s
  hs = table_of k s both.left

  ht : IsCompleteTable k t
  ht = table_of k t both.right

  abbrev Kept : ℕ → ℕ → Type 0
  Kept = KeptBy (both_edges s t) ((0, length s) ∷ [])

  wide : width s ≡ k
  wide = width_of k s hs.graph

  letter_is : (a : ℕ) → a < k → a < width s
  letter_is a h = omega (arith, h, wide)

  -- the nodes to which a word leads in s and in t are related
  walk : (u : Word) (i j m n : ℕ) → i < length s → Kept i (length s + j) → path s i u ≡ Some m → path t j u ≡ Some n → Kept m (length s + n)
  walk [] i j m n h kept e d = subst₂ Kept (some_same i m e) (ap (λ x. length s + x) (some_same j n d)) kept
  walk (a ∷ u) i j m n h kept e d =
      let one = path_step s i a m u e in
      let two = path_step t j a n u d in
      let inside = target_in k s hs.graph i a one.0 one.1 in
      walk u one.0 two.0 m n inside.2
      (subst₂ Kept (image_left s t i a one.0 h one.1) (image_right s t j a two.0 two.1) (on_right i (length s + j) a tt (letter_is a inside.1) kept))
      one.2 two.2

  roots : Kept 0 (length s + 0)
  roots = given (inr (0, omega arith, ap (λ (x : ℕ). (0, x)) (let e : length s ≡ length s + 0 = omega arith in e)))

  leads_both : (u : Word) (m n : ℕ) → path s 0 u ≡ Some m → path t 0 u ≡ Some n → Kept m (length s + n)
  leads_both u m n = walk u 0 0 m n hs.graph.rooted roots

  -- words that lead to a node of s, or of t
  abbrev Leads : ℕ → Word → Type 0
  Leads i u = ((i < length s) × (path s 0 u ≡ Some i)) ⊎ ((j : ℕ) × (i ≡ length s + j) × (path t 0 u ≡ Some j))

  same_node : (i : ℕ) (u v : Word) → Leads i u → Leads i v → Join k s t u v
  same_node i u v (inl e) (inl d) = join_has_left k s t hs u v (i, e.1, d.1)
  same_node i u v (inl e) (inr d) = absurd (omega (arith, e.0, d.1))
  same_node i u v (inr e) (inl d) = absurd (omega (arith, d.0, e.1))
  same_node i u v (inr e) (inr d) =
      let one : e.0 ≡ d.0 = omega (arith, e.1, d.1) in
      join_has_right k s t ht u v (d.0, e.2 ∙ ap Some one, d.2)

  leads_over : (i : ℕ) (u : Word) → Leads i u → IsOver k u
  leads_over i u (inl e) = path_over k s hs.graph u 0 i e.1
  leads_over i u (inr e) = path_over k t ht.graph u 0 e.0 e.2

  leads_on : (i a : ℕ) (u : Word) → a < k → Leads i u → Leads (both_image s t i a) (u ++ a ∷ [])
  leads_on i a u l (inl e) =
      let next = hs.complete i a e.0 l in
      let is = image_left s t i a next.0 e.0 next.1 in
      inl (subst (λ x. x < length s) (sym is) (target_in k s hs.graph i a next.0 next.1).2, path_more s u a i next.0 e.1 next.1 ∙ ap Some (sym is))
  leads_on i a u l (inr e) =
      let next = ht.complete e.0 a (path_inside k t ht.graph u 0 e.0 ht.graph.rooted e.2) l in
      inr (next.0, ap (λ x. both_image s t x a) e.1 ∙ image_right s t e.0 a next.0 next.1, path_more t u a e.0 next.0 e.2 next.1)

  reached : (i : ℕ) → i < length s + length t → (u : Word) × Leads i u
  reached i h = elim (cases_lt i (length s)) [
    | inl less ↦ let at = hs.reached i less in (at.0, inl (less, at.2))
    | inr most ↦ let at = ht.reached (i - length s) (omega (arith, h, most)) in (at.0, inr (i - length s, omega (arith, most), at.2))
  ]

  -- related nodes have joined words
  abbrev HaveJoined : ℕ → ℕ → Type 0
  HaveJoined i j = (u : Word) × (v : Word) × Leads i u × Leads j v × Join k s t u v

  kept_joined : (i j : ℕ) → Kept i j → HaveJoined i j
  kept_joined i j =
      generated_least Right (width s) (both_image s t) (both_image s t) (GivenPair (length s + length t) ((0, length s) ∷ [])) HaveJoined at turn further along
      (λ i j a m h o. absurd m)
    where
      known : IsRightCongruence k (Join k s t)
      known = join_congruence k s t hs ht

      at : (i j : ℕ) → GivenPair (length s + length t) ((0, length s) ∷ []) i j → HaveJoined i j
      at i j (inl h) =
          let u = reached i h.0 in
          (u.0, u.0, u.1, subst (λ x. Leads x u.0) h.1 u.1, known.reflexive u.0 (leads_over i u.0 u.1))
      at i j (inr (zero, h, e)) =
          let first : 0 ≡ i = ap (λ (p : ℕ × ℕ). p.0) e in
          let second : length s ≡ j = ap (λ (p : ℕ × ℕ). p.1) e in
          ([], [], inl (subst (λ x. x < length s) first hs.graph.rooted, ap Some first), inr (0, omega (arith, second), refl), known.reflexive [] tt)
      at i j (inr (suc n, h, e)) = absurd (omega (arith, h))

      turn : (i j : ℕ) → HaveJoined i j → HaveJoined j i
      turn i j h = (h.1, h.0, h.3, h.2, known.symmetric h.0 h.1 h.4)

      further : (i j l : ℕ) → HaveJoined i j → HaveJoined j l → HaveJoined i l
      further i j l h g =
          (h.0, g.1, h.2, g.3, known.transitive h.0 h.1 g.1 h.4 (known.transitive h.1 g.0 g.1 (same_node j h.1 g.0 h.3 g.2) g.4))

      along : (i j a : ℕ) → Unit {0} → a < width s → HaveJoined i j → HaveJoined (both_image s t i a) (both_image s t j a)
      along i j a m l h =
          let low : a < k = omega (arith, l, wide) in
          (h.0 ++ a ∷ [], h.1 ++ a ∷ [], leads_on i a h.0 low h.2, leads_on j a h.1 low h.3, known.kept h.0 h.1 (a ∷ []) (low, tt) h.4)

  module _ (classes : List ℕ) (g : Graph) (is : AreLeastClasses (both_edges s t) ((0, length s) ∷ []) classes) (q : IsQuotient k s classes g) where
    in_both : (i : ℕ) → i < length s → i < length s + length t
    in_both i h = omega (arith, h)

    class_down : (i : ℕ) → i < length s → slice_index classes i ≤ i
    class_down i h = is.least i i (in_both i h) (given (inl (in_both i h, refl)))

    same_class : (i j : ℕ) → i < length s → j < length s → Kept i j → slice_index classes i ≡ slice_index classes j
    same_class i j h l kept = (is.related i j (in_both i h) (in_both j l)).0 kept

    -- a word leads in the quotient to the class of the node to which it leads in s
    path_classes : (u : Word) (i m : ℕ) → i < length s → path s i u ≡ Some m → path g (slice_index classes i) u ≡ Some (slice_index classes m)
    path_classes [] i m h e = ap (λ x. Some (slice_index classes x)) (some_same i m e)
    path_classes (a ∷ u) i m h e =
        let one = path_step s i a m u e in
        let inside = target_in k s hs.graph i a one.0 one.1 in
        let low : slice_index classes i < length s = omega (arith, class_down i h, h) in
        let other = hs.complete (slice_index classes i) a low inside.1 in
        let near = target_in k s hs.graph (slice_index classes i) a other.0 other.1 in
        let kept : Kept other.0 one.0 =
        subst₂ Kept (image_left s t (slice_index classes i) a other.0 low other.1) (image_left s t i a one.0 h one.1)
        (on_right (slice_index classes i) i a tt (letter_is a inside.1) (symmetric (is.own i (in_both i h)))) in
        let edge : target g (slice_index classes i) a ≡ Some (slice_index classes one.0) =
        q.edges (slice_index classes i) a other.0 other.1 ∙ ap Some (same_class other.0 one.0 near.2 inside.2 kept) in
        step_path g (slice_index classes i) a (slice_index classes one.0) (slice_index classes m) u edge (path_classes u one.0 m inside.2 one.2)

    first : slice_index classes 0 ≡ 0
    first = omega (arith, class_down 0 hs.graph.rooted)

    from_root : (u : Word) (m : ℕ) → path s 0 u ≡ Some m → path g 0 u ≡ Some (slice_index classes m)
    from_root u m e = subst (λ x. path g x u ≡ Some (slice_index classes m)) first (path_classes u 0 m hs.graph.rooted e)

    inside_s : (u : Word) (m : ℕ) → path s 0 u ≡ Some m → m < length s
    inside_s u m = path_inside k s hs.graph u 0 m hs.graph.rooted

    -- words over the letters lead somewhere in s and in t
    end_s : (u : Word) → IsOver k u → (m : ℕ) × (path s 0 u ≡ Some m)
    end_s u = complete_path k s hs.graph hs.complete u 0 hs.graph.rooted

    -- the quotient relates no more than the join
    within : (u v : Word) → SameEnd g u v → Join k s t u v
    within u v h =
        let left = end_s u (path_over k g q.graph u 0 h.0 h.1) in
        let right = end_s v (path_over k g q.graph v 0 h.0 h.2) in
        let one = one_end (path g 0 u) (slice_index classes left.0) h.0 (from_root u left.0 left.1) h.1 in
        let two = one_end (path g 0 v) (slice_index classes right.0) h.0 (from_root v right.0 right.1) h.2 in
        let li = inside_s u left.0 left.1 in
        let ri = inside_s v right.0 right.1 in
        let kept : Kept left.0 right.0 = (is.related left.0 right.0 (in_both left.0 li) (in_both right.0 ri)).1 (one ∙ sym two) in
        let joined = kept_joined left.0 right.0 kept in
        let known = join_congruence k s t hs ht in
        known.transitive u joined.0 v (same_node left.0 u joined.0 (inl (li, left.1)) joined.2)
        (known.transitive joined.0 joined.1 v joined.4 (same_node right.0 joined.1 v joined.3 (inl (ri, right.1))))

    -- and what s or t relates
    has_left : (u v : Word) → SameEnd s u v → SameEnd g u v
    has_left u v h = (slice_index classes h.0, from_root u h.0 h.1, from_root v h.0 h.2)

    has_right : (u v : Word) → SameEnd t u v → SameEnd g u v
    has_right u v h =
        let left = end_s u (path_over k t ht.graph u 0 h.0 h.1) in
        let right = end_s v (path_over k t ht.graph v 0 h.0 h.2) in
        let one = same_class left.0 right.0 (inside_s u left.0 left.1) (inside_s v right.0 right.1)
        (transitive (leads_both u left.0 h.0 left.1 h.1) (symmetric (leads_both v right.0 h.0 right.1 h.2))) in
        (slice_index classes right.0, from_root u left.0 left.1 ∙ ap Some one, from_root v right.0 right.1)

    -- a word for each node of t
    abbrev word_from : (n : ℕ) → (n < length t) ⊎ (length t ≤ n) → Word
    word_from n (inl h) = (ht.reached n h).0
    word_from n (inr h) = []

    abbrev word : ℕ → Word
    word zero = []
    word (suc n) = word_from (suc n) (cases_lt (suc n) (length t))

    word_leads : (n : ℕ) → n < length t → path t 0 (word n) ≡ Some n
    word_leads zero h = refl
    word_leads (suc n) h = go (cases_lt (suc n) (length t))
      where
        go : (c : (suc n < length t) ⊎ (length t ≤ suc n)) → path t 0 (word_from (suc n) c) ≡ Some (suc n)
        go (inl l) = (ht.reached (suc n) l).2
        go (inr l) = absurd (omega (arith, h, l))

    has_both : HasBoth k s t g word
    has_both = record {
      root = refl;
      has = has_left;
      edges = λ node letter next h l e.
          has_right (word node ++ letter ∷ []) (word next)
          (next, path_more t (word node) letter node next (word_leads node h) e, word_leads next (target_in k t ht.graph node letter next e).2);
    }

    pub quotient_shows : PathsRelate g (Join k s t)
    quotient_shows = has_both_joins k s t g word hs ht q.graph has_both within

    pub quotient_defined : AllDefined k (SameEnd g)
    quotient_defined u over = has_left u u (complete_all_defined k s hs.graph hs.complete u over)

pub join_table : (k : ℕ) (s t g h : Graph) (classes : List ℕ) → AreTables k s t → AreLeastClasses (both_edges s t) ((0, length s) ∷ []) classes → IsQuotient k s classes g
    → PathsRelate h (SameEnd g) → ((k : ℕ) → IsGraph k g → AllDefined k (SameEnd g) → IsStandardGraph k h) → IsTableOf k (Join k s t) h
join_table k s t g h classes both is q same standard = record {
  standard = standard k q.graph (quotient_defined k s t both classes g is q);
  paths = λ u v. (
    λ e. (quotient_shows k s t both classes g is q u v).0 ((same u v).0 e),
    λ e. (same u v).1 ((quotient_shows k s t both classes g is q u v).1 e),
  );
}

pub join_found : {F : Type 0} (s t g : Graph) (r : Result Graph F) (classes : List ℕ) → AreLeastClasses (both_edges s t) ((0, length s) ∷ []) classes
    → ((k : ℕ) → IsGraph k s → IsQuotient k s classes g) → IfOk r (λ h. Shows h (SameEnd g))
    → IfOk r (λ h. (k : ℕ) → IsGraph k g → AllDefined k (SameEnd g) → IsStandardGraph k h) → IfOk r (λ h. (k : ℕ) → AreTables k s t → IsTableOf k (Join k s t) h)
join_found s t g (Ok h) classes is quotient shows standard = λ k both.
    join_table k s t g h classes both is (quotient k (table_of k s both.left).graph) shows.paths standard
join_found s t g (Err e) classes is quotient shows standard = tt

-- the quotient, edge by edge
pub quotient_bare : (k l n : ℕ) (s : Graph) (classes : List ℕ) (g : Graph) → IsGraph k s → IsGraph l s → n ≡ length s → g ≡ replicate n (replicate l None)
    → IsQuotientTo k s classes g 0 0
quotient_bare k l n s classes g hs hl count is = subst (λ (h : Graph). IsQuotientTo k s classes h 0 0) (sym made) begun
  where
    made : g ≡ replicate (length s) (replicate k None)
    made = is ∙ ap (λ m. replicate m (replicate l None)) count ∙ ap (λ m. replicate (length s) (replicate m None)) (width_is l k s hl hs)

    nothing : (p b : ℕ) → IsBefore p b 0 0 → ⊥
    nothing p b (inl h) = absurd (omega arith)
    nothing p b (inr h) = absurd (omega (arith, h.1))

    begun : IsQuotientTo k s classes (replicate (length s) (replicate k None)) 0 0
    begun =
        let bare = bare_upto k s classes hs.rooted in
        record { graph = bare.graph; count = bare.nodes; edges = λ i b next before e. absurd (nothing i b before) }

pub quotient_none : (k : ℕ) (s : Graph) (classes : List ℕ) (g : Graph) (i a : ℕ) → target s i a ≡ None → IsQuotientTo k s classes g i a → IsQuotientTo k s classes g i (a + 1)
quotient_none k s classes g i a none q = record { graph = q.graph; count = q.count; edges = edges }
  where
    no : (o : Option ℕ) (m : ℕ) → o ≡ None → o ≡ Some m → ⊥
    no o m e d = cc

    edges : (p b next : ℕ) → IsBefore p b i (a + 1) → target s p b ≡ Some next → target g p b ≡ Some (slice_index classes next)
    edges p b next before e = elim (before_next p b i a before) [
      | inl h ↦ q.edges p b next h e
      | inr h ↦ absurd (no (target s i a) next none (sym (ap (λ x. target s x a) h.0) ∙ sym (ap (λ x. target s p x) h.1) ∙ e))
    ]

-- where an edge is put
module _ (k : ℕ) (s : Graph) (classes : List ℕ) (g : Graph) (i a next : ℕ) (hs : IsGraph k s) (e : target s i a ≡ Some next)
    (below : (j : ℕ) → j < length s → slice_index classes j ≤ j) (q : IsQuotientTo k s classes g i a) where
  inside : (i < length s) × (a < k) × (next < length s)
  inside = target_in k s hs i a next e

  pub put_node : i < length g
  put_node = omega (arith, inside.0, q.count)

  pub put_letter : a < length (get_or g i [])
  put_letter = let wide : length (get_or g i []) ≡ k = q.graph.width i [] put_node in omega (arith, inside.1, wide)

  pub put_to : slice_index classes next < length g
  put_to = omega (arith, inside.2, below next inside.2, q.count)

  pub quotient_put : IsQuotientTo k s classes (with_edge g i a (slice_index classes next)) i (a + 1)
  quotient_put = record {
    graph = graph_edged k g i a (slice_index classes next) q.graph put_node inside.1 put_to;
    count = length-set g i (set (get_or g i []) a (Some (slice_index classes next))) ∙ q.count;
    edges = edges;
  }
    where
      edges : (p b m : ℕ) → IsBefore p b i (a + 1) → target s p b ≡ Some m → target (with_edge g i a (slice_index classes next)) p b ≡ Some (slice_index classes m)
      edges p b m before d = elim (before_next p b i a before) [
        | inl h ↦ target_other g i a (slice_index classes next) p b put_node (apart h) ∙ q.edges p b m h d
        | inr h ↦
            let same : next ≡ m = one_end (target s i a) next m e (sym (ap (λ x. target s x a) h.0) ∙ sym (ap (λ x. target s p x) h.1) ∙ d) in
            subst₂ (λ x y. target (with_edge g i a (slice_index classes next)) x y ≡ Some (slice_index classes m)) (sym h.0) (sym h.1)
            (target_edged g i a (slice_index classes next) put_node put_letter ∙ ap (λ x. Some (slice_index classes x)) same)
      ]
        where
          apart : IsBefore p b i a → (p ≢ i) ⊎ (b ≢ a)
          apart (inl h) = inl (λ x. absurd (omega (arith, h, x)))
          apart (inr h) = inr (λ x. absurd (omega (arith, h.1, x)))

-- the row ends
pub quotient_row : (k : ℕ) (s : Graph) (classes : List ℕ) (g : Graph) (i : ℕ) → IsGraph k s → IsQuotientTo k s classes g i k → IsQuotientTo k s classes g (i + 1) 0
quotient_row k s classes g i hs q = record { graph = q.graph; count = q.count; edges = edges }
  where
    edges : (p b m : ℕ) → IsBefore p b (i + 1) 0 → target s p b ≡ Some m → target g p b ≡ Some (slice_index classes m)
    edges p b m (inr h) e = absurd (omega (arith, h.1))
    edges p b m (inl h) e = elim (cases_lt p i) [
      | inl less ↦ q.edges p b m (inl less) e
      | inr most ↦ q.edges p b m (inr (omega (arith, h, most), (target_in k s hs p b m e).1)) e
    ]

-- all rows are done
pub quotient_end : (k : ℕ) (s : Graph) (classes : List ℕ) (g : Graph) (n : ℕ) → IsGraph k s → length s ≤ n → IsQuotientTo k s classes g n 0 → IsQuotient k s classes g
quotient_end k s classes g n hs all q = record {
  graph = q.graph;
  count = q.count;
  edges = λ i b next e. q.edges i b next (inl (omega (arith, all, (target_in k s hs i b next e).0))) e;
}

pub tables_into : (k : ℕ) (s t : Graph) → AreTables k s t → AreInto (both_edges s t)
tables_into k s t both i a h l = image_within s t k i a (table_of k s both.left).graph (table_of k t both.right).graph h

pub classes_down : (k : ℕ) (s t : Graph) (classes : List ℕ) → AreTables k s t → AreLeastClasses (both_edges s t) ((0, length s) ∷ []) classes
    → (i : ℕ) → i < length s → slice_index classes i ≤ i
classes_down k s t classes both is i h = let low : i < length s + length t = omega (arith, h) in is.least i i low (given (inl (low, refl)))

-- edges of nodes of t, as they are found
pub right_small : (s t : Graph) (k i a m : ℕ) → IsGraph k s → IsGraph k t → length s ≤ i → i < length s + length t → m ≡ unwrap_or (target t (i - length s) a) 0
    → length s + m < length s + length t
right_small s t k i a m hs ht most h is = omega (arith, is, low (target t (i - length s) a) (λ n e. (target_in k t ht (i - length s) a n e).2))
  where
    low : (o : Option ℕ) → ((n : ℕ) → o ≡ Some n → n < length t) → unwrap_or o 0 < length t
    low None inside = ht.rooted
    low (Some n) inside = inside n refl
