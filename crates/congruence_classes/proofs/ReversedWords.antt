-- The least words of nodes that are read backwards, in order.
use Rattle.std.proofs.Common.{◌≡◌, ℕ, zero, suc, ◌+◌, ◌<◌, Bool, true, List, [], length, get_or, nat_eq, reverse, Some, sym, ◌∙◌, ap, subst, subst₂, arith, inl, inr}
use denote.Ref.{Bor}
use denote.Param.Members.{Mut}
use Rattle.std.specs.declared.cmp.Ordering.{Ordering}
use Rattle.std.specs.Fn.{Called, ComparesAs}
use Rattle.std.proofs.lemmas.Fn.{always_returns_same}
use Rattle.std.specs.List.Sorted.{IsPermutation, IsSortedBy}
use Rattle.std.specs.Ordering.{is_lt}
use Rattle.std.specs.Cmp.{IsStrictWeakOrder}
use Rattle.std.proofs.lemmas.Bool.{cases_lt, eq-eqb, ne_eqb}
use Rattle.std.proofs.lemmas.List.{get_or_default}
use Rattle.std.proofs.lemmas.List.Elements.{All-from_get_or}
use Rattle.std.proofs.lemmas.List.Sorted.{All-permutation, Contains-permutation, length_permutation, ranks_by}
use Rattle.std.proofs.lemmas.Map.Keys.{IsDistinct-IsPermutation, IsDistinct-from_apart, apart_from_distinct}
use Rattle.theory.specs.Word.{Word}
use Rattle.theory.specs.ShortLex.{shortlex, ◌≺◌}
use Rattle.theory.specs.Graph.{Graph, path, IsGraph}
use Rattle.theory.proofs.Words.{before_trans, order_cases, shortlex_total}
use Rattle.word_graph.specs.Backwards.{AreLeastBackwards}
use Rattle.word_graph.proofs.WalkLaws.{some_same}
use Rattle.congruence_classes.specs.ClassLists.{word_at, node_at, AreNumberedWords, AreOrderedWords}
use Rattle.congruence_classes.proofs.ClassListLaws.{path_over, over_read}

-- the test of the order by words
abbrev pub word_before : ℕ × Word → ℕ × Word → Bool
word_before p q = is_lt (shortlex p.1 q.1)

word_order : IsStrictWeakOrder word_before
word_order = ranks_by shortlex_total (λ (p : ℕ × Word). p.1)

-- pairs that a closure sorted which compares words
pub sorted_by_words : {F : Type 0} {g : Mut F (Bor (ℕ × Word) × (Bor (ℕ × Word) × Unit {0})) Ordering} {f : F} (pairs : List (ℕ × Word))
    → ((lt : ℕ × Word → ℕ × Word → Bool) → IsStrictWeakOrder lt → ComparesAs g lt f → IsSortedBy lt pairs)
    → ((a : Bor (ℕ × Word) × (Bor (ℕ × Word) × Unit {0})) (r : Ordering) (f' : F) → Called g f a r f'
    → (r ≡ shortlex a.0.now.1 a.1.0.now.1) × (f' ≡ f))
    → IsSortedBy word_before pairs
sorted_by_words {g = g} {f = f} pairs up h =
    up word_before word_order
    (always_returns_same g (λ a r. is_lt r ≡ word_before a.0.now a.1.0.now) f (λ a r f' k. (ap is_lt (h a r f' k).0, (h a r f' k).1)))

-- whether two pairs have one node
abbrev same_node : ℕ × Word → ℕ × Word → Bool
same_node p q = nat_eq p.0 q.0

same_node_flips : (p q : ℕ × Word) → same_node p q ≡ same_node q p
same_node_flips p q = grind arith

-- the word leads to the node, read backwards, and no lesser word does
record IsNodeWord (g : Graph) (node : ℕ) (word : Word) : Type 0 where
  within : node < length g
  leads : path g 0 (reverse word) ≡ Some node
  none_less : (v : Word) → path g 0 (reverse v) ≡ Some node → v ≺ word → ⊥

module _ (k : ℕ) (g : Graph) (words : List Word) (pairs sorted : List (ℕ × Word)) (graph : IsGraph k g) (least : AreLeastBackwards g words)
    (numbered : AreNumberedWords words pairs) (moved : IsPermutation pairs sorted) (up : IsSortedBy word_before sorted) where
  node_is : (i : ℕ) (d : ℕ × Word) → i < length pairs → (get_or pairs i d).0 ≡ i
  node_is i d h = ap (λ (p : ℕ × Word). p.0) (get_or_default pairs i d (0, []) h) ∙ numbered.nodes i (omega (arith, h, numbered.count))

  node_word : (i : ℕ) → i < length pairs → IsNodeWord g (node_at pairs i) (word_at pairs i)
  node_word i h =
      let within : i < length g = omega (arith, h, numbered.count, least.count) in
      let here = least.least k graph i within in
      subst₂ (IsNodeWord g) (sym (node_is i (0, []) h)) (sym (numbered.each i (omega (arith, h, numbered.count))))
      (record {
        within = within;
        leads = here.leads;
        none_less = λ v e. here.least v (over_read true k v (path_over k g graph (reverse v) 0 i e)) e;
      })

  at_place : (i : ℕ) → i < length sorted → IsNodeWord g (node_at sorted i) (word_at sorted i)
  at_place i =
      All-permutation (λ (p : ℕ × Word). IsNodeWord g p.0 p.1) pairs sorted moved
      (All-from_get_or (λ (p : ℕ × Word). IsNodeWord g p.0 p.1) pairs (0, []) node_word) i (0, [])

  differ : (i j : ℕ) → i < j → j < length sorted → node_at sorted i ≡ node_at sorted j → ⊥
  differ i j less h e =
      let apart = apart_from_distinct same_node sorted i j (0, [])
      (IsDistinct-IsPermutation same_node same_node_flips pairs sorted moved
      (IsDistinct-from_apart same_node pairs (λ m l d under within.
      ne_eqb (get_or pairs m d).0 (get_or pairs l d).0
      (λ same. omega (arith, under, same, node_is m d (omega (arith, under, within)), node_is l d within))))) less h in
      let same : nat_eq (node_at sorted i) (node_at sorted j) ≡ true = eq-eqb (node_at sorted i) (node_at sorted j) e in
      cc

  next_later : (i : ℕ) → i + 1 < length sorted → word_at sorted i ≺ word_at sorted (i + 1)
  next_later i h = elim (order_cases (word_at sorted i) (word_at sorted (i + 1))) [
    | inl less ↦ less
    | inr (inl e) ↦
        absurd (differ i (i + 1) (omega arith) h
        (some_same (node_at sorted i) (node_at sorted (i + 1))
        (sym (at_place i (omega (arith, h))).leads ∙ ap (λ w. path g 0 (reverse w)) e ∙ (at_place (i + 1) h).leads)))
    | inr (inr less) ↦
        let no = up i (0, []) (omega arith) h in
        let yes : word_before (get_or sorted (i + 1) (0, [])) (get_or sorted i (0, [])) ≡ true = ap is_lt less in
        absurd cc
  ]

  ascends : (i j : ℕ) → i < j → j < length sorted → word_at sorted i ≺ word_at sorted j
  ascends i zero less h = absurd (omega arith)
  ascends i (suc j) less h =
      let one : j + 1 ≡ suc j = omega arith in
      let last = subst (λ n. word_at sorted j ≺ word_at sorted n) one (next_later j (omega (arith, h))) in
      elim (cases_lt i j) [
        | inl old ↦ before_trans (word_at sorted i) (word_at sorted j) (word_at sorted (suc j)) (ascends i j old (omega (arith, h))) last
        | inr most ↦
            let here : j ≡ i = omega (arith, less, most) in
            subst (λ n. word_at sorted n ≺ word_at sorted (suc j)) here last
      ]

  found : (node : ℕ) → node < length g → (i : ℕ) × (i < length sorted) × (node_at sorted i ≡ node)
  found node h =
      let within : node < length pairs = omega (arith, h, numbered.count, least.count) in
      let pair : ℕ × Word = get_or pairs node (0, []) in
      let at = Contains-permutation pairs sorted pair moved (node, within, get_or_default pairs node pair (0, []) within) in
      (at.0, at.1, ap (λ (p : ℕ × Word). p.0) (get_or_default sorted at.0 (0, []) pair at.1 ∙ at.2) ∙ node_is node (0, []) within)

  pub ordered_backwards : AreOrderedWords g true sorted
  ordered_backwards = record {
    count = length_permutation pairs sorted moved ∙ numbered.count ∙ least.count;
    ascending = ascends;
    nodes = λ i h. (at_place i h).within;
    all = found;
    leads = λ i h. (at_place i h).leads;
    none_less = λ i v h. (at_place i h).none_less v;
  }
