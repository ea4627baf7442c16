-- Least words that are read backwards, and the classes of a left congruence.
use Rattle.std.proofs.Common.{◌≡◌, ℕ, ◌<◌, List, [], ◌∷◌, ◌++◌, length, refl, sym, ◌∙◌, ap, subst, arith, ◌⊎◌, inl, inr, ◌↔◌, Some, None, reverse, Contains}
use Rattle.std.proofs.lemmas.List.{reverse-append}
use Rattle.theory.specs.Word.{Word, IsOver, IsElement}
use Rattle.theory.specs.ShortLex.{◌≺◌}
use Rattle.theory.specs.Congruence.{Presentation, Congruence, IsWellFormed, read_backwards}
use Rattle.theory.specs.Chain.{Related}
use Rattle.theory.specs.Class.{SameClass, IsNormal, IsClassList}
use Rattle.theory.specs.Listing.{IsAscending}
use Rattle.theory.specs.Graph.{Graph, target, path, SameEnd, IsGraph}
use Rattle.theory.specs.Backwards.{IsLeastBackwards, AreWordsBackwards, DecidesBackwards}
use Rattle.theory.specs.declared.Kind.TheVariants.{Left}
use Rattle.theory.proofs.Words.{shorter_first, before_cons, before_irrefl, before_trans, order_cases}
use Rattle.theory.proofs.Chains.{related_congruence}
use Rattle.theory.proofs.Related.{element_over, related_element}
use Rattle.theory.proofs.Counting.{in_from_contains, contains_from_in}
use Rattle.theory.proofs.ClassLaws.{same_class_equivalence, list_from_least}
use Rattle.theory.proofs.GraphLaws.{path_append, path_front, path_letter}
use Rattle.theory.proofs.KindLaws.{over_turned, left_backwards}

reverse_cons : (a : ℕ) (u : Word) → reverse (a ∷ u) ≡ reverse u ++ a ∷ []
reverse_cons a u = reverse-append (a ∷ []) u

-- a letter in front is, read backwards, one edge more
back_front : (g : Graph) (a node : ℕ) (u : Word) → path g 0 (reverse (a ∷ u)) ≡ Some node
    → (m : ℕ) × (path g 0 (reverse u) ≡ Some m) × (target g m a ≡ Some node)
back_front g a node u e =
    let at = path_front g 0 node (reverse u) (a ∷ []) (ap (path g 0) (sym (reverse_cons a u)) ∙ e) in
    (at.0, at.1, sym (path_letter g at.0 a) ∙ at.2)

front_back : (g : Graph) (a m node : ℕ) (u : Word) → path g 0 (reverse u) ≡ Some m → target g m a ≡ Some node
    → path g 0 (reverse (a ∷ u)) ≡ Some node
front_back g a m node u e d = ap (path g 0) (reverse_cons a u) ∙ path_append g 0 m (reverse u) (a ∷ []) e ∙ path_letter g m a ∙ d

-- the word of a least word without its first letter is least
pub backwards_tail : (k : ℕ) (g : Graph) (node a : ℕ) (w : Word) → IsLeastBackwards k g node (a ∷ w)
    → (m : ℕ) × (target g m a ≡ Some node) × IsLeastBackwards k g m w
backwards_tail k g node a w h =
    let at = back_front g a node w h.leads in (
      at.0,
      at.2,
      record {
        over = h.over.1;
        leads = at.1;
        least = λ v over e less. h.least (a ∷ v) (h.over.0, over) (front_back g a at.0 node v e at.2) (before_cons a v w less);
      },
    )

-- words along whose edges none falls are least
pub backwards_least : (k : ℕ) (g : Graph) (word : ℕ → Word) → IsGraph k g → AreWordsBackwards k g word → (node : ℕ) → node < length g
    → IsLeastBackwards k g node (word node)
backwards_least k g word is h node l = record { over = h.over node l; leads = h.leads node l; least = λ v over e less. none v node over e less }
  where
    later : (v : Word) (node : ℕ) → IsOver k v → path g 0 (reverse v) ≡ Some node → (node < length g) × ((word node ≺ v) ⊎ (word node ≡ v))
    later [] node over e =
        let same : 0 ≡ node = cc in
        (subst (λ n. n < length g) same is.rooted, inr (ap word (sym same) ∙ h.root))
    later (a ∷ v) node over e =
        let at = back_front g a node v e in
        let rest = later v at.0 over.1 at.1 in
        (is.nodes at.0 a node at.2, go (rest.1) (h.edges at.0 a node rest.0 over.0 at.2))
      where
        go : {m : ℕ} → (word m ≺ v) ⊎ (word m ≡ v) → (word node ≺ (a ∷ word m)) ⊎ (word node ≡ a ∷ word m)
            → (word node ≺ (a ∷ v)) ⊎ (word node ≡ a ∷ v)
        go {m} (inl p) (inl q) = inl (before_trans (word node) (a ∷ word m) (a ∷ v) q (before_cons a (word m) v p))
        go {m} (inl p) (inr q) = inl (subst (λ x. x ≺ (a ∷ v)) (sym q) (before_cons a (word m) v p))
        go {m} (inr p) (inl q) = inl (subst (λ x. word node ≺ (a ∷ x)) p q)
        go {m} (inr p) (inr q) = inr (q ∙ ap (λ x. a ∷ x) p)

    none : (v : Word) (node : ℕ) → IsOver k v → path g 0 (reverse v) ≡ Some node → v ≺ word node → ⊥
    none v node over e less = elim (later v node over e).1 [
      | inl p ↦ before_irrefl v (before_trans v (word node) v less p)
      | inr q ↦ before_irrefl v (subst (λ x. v ≺ x) q less)
    ]

-- and least words are such
pub least_backwards : (k : ℕ) (g : Graph) (word : ℕ → Word) → 0 < length g
    → ((node : ℕ) → node < length g → IsLeastBackwards k g node (word node)) → IsGraph k g → AreWordsBackwards k g word
least_backwards k g word some h is = record {
  root = root (word 0) (h 0 some);
  over = λ node l. (h node l).over;
  leads = λ node l. (h node l).leads;
  edges = λ node letter next l over e.
      let there = h next (is.nodes node letter next e) in
      elim (order_cases (word next) (letter ∷ word node)) [
        | inl less ↦ inl less
        | inr (inl same) ↦ inr same
        | inr (inr greater) ↦ absurd (there.least (letter ∷ word node) (over, (h node l).over) (front_back g letter node next (word node) (h node l).leads e) greater)
      ];
}
  where
    root : (w : Word) → IsLeastBackwards k g 0 w → w ≡ []
    root [] h = refl
    root (a ∷ w) h = absurd (h.least [] tt refl (shorter_first [] (a ∷ w) (omega arith)))

-- a left congruence that a graph decides
module _ (c : Congruence) (is : IsWellFormed c) (g : Graph) (decides : DecidesBackwards g c) where
  -- the least word of the node to which an element leads is its normal form
  pub backwards_normal : (u w : Word) (node : ℕ) → IsElement c.presentation.is_monoid c.presentation.letters u
      → path g 0 (reverse u) ≡ Some node → IsLeastBackwards c.presentation.letters g node w → IsNormal (SameClass c) u w
  backwards_normal u w node element e h =
      let over = element_over c.presentation.is_monoid c.presentation.letters u element in
      let related = (decides u w over).1 (node, e, h.leads) in
      let there = related_element c is u w related element in
      record {
        related = record { left = element; right = there; related = related };
        least = record {
          element = record { left = there; right = there; related = (related_congruence c).reflexive w };
          none_less = λ v r less.
              let ends = (decides w v h.over).0 r.related in
              let same : path g 0 (reverse v) ≡ Some node = ends.2 ∙ sym ends.1 ∙ h.leads in
              h.least v (element_over c.presentation.is_monoid c.presentation.letters v r.right) same less;
        };
      }

  -- the least words of the nodes to which elements lead, in order, are the class list
  pub backwards_list : (words : List Word) → IsAscending ◌≺◌ None words
      → ((w : Word) → Contains words w → IsElement c.presentation.is_monoid c.presentation.letters w × (node : ℕ) × IsLeastBackwards c.presentation.letters g node w)
      → ((u : Word) (node : ℕ) → IsElement c.presentation.is_monoid c.presentation.letters u → path g 0 (reverse u) ≡ Some node
      → (w : Word) × Contains words w × IsLeastBackwards c.presentation.letters g node w)
      → IsClassList (SameClass c) words
  backwards_list words ascending each all =
      list_from_least (SameClass c) (same_class_equivalence c) words ascending
      (λ w m.
      let at = each w (contains_from_in w words m) in
      (backwards_normal w w at.1 at.0 at.2.leads at.2).least)
      (λ u r.
      let ends = (decides u u (element_over c.presentation.is_monoid c.presentation.letters u r.left)).0 r.related in
      let at = all u ends.0 r.left ends.1 in
      (at.0, in_from_contains at.0 words at.1, (backwards_normal u at.0 ends.0 r.left ends.1 at.2).related))

-- a graph of the right congruence of the words backwards
pub decides_backwards : (p : Presentation) (pairs : List (Word × Word)) (g : Graph)
    → let c : Congruence = record { presentation = p; kind = Left; pairs = pairs } in
    ((u v : Word) → IsOver p.letters u → Related (read_backwards c) u v ↔ SameEnd g u v) → DecidesBackwards g c
decides_backwards p pairs g same u v over =
    let c : Congruence = record { presentation = p; kind = Left; pairs = pairs } in
    let there = same (reverse u) (reverse v) (over_turned p.letters u over) in
    let here = left_backwards p pairs u v in
    (λ h. there.0 (here.0 h), λ h. here.1 (there.1 h))
