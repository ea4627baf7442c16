-- The lattice of right congruences, by their tables (Sims 1994, ch. 5; Howie 1995, ch. 1;
-- libsemigroups: WordGraph).
use Rattle.std.specs.Prelude.{◌≡◌, ◌≢◌, ℕ, ◌<◌, true, List, [], ◌∷◌, ◌++◌, ◌⊎◌, length, Some, Contains}
use Rattle.theory.specs.Word.{Word, IsOver}
use Rattle.theory.specs.Congruence.{Congruence}
use Rattle.theory.specs.Chain.{Joined}
use Rattle.theory.specs.Class.{Among}
use Rattle.theory.specs.Facts.{Follows, Merged}
use Rattle.theory.specs.Graph.{Graph, target, path, SameEnd}
use Rattle.theory.specs.declared.Kind.{Kind}

-- an equivalence on the words over k letters that is kept under multiplication on the right
pub record IsRightCongruence (k : ℕ) (R : Word → Word → Type 0) : Type 0 where
  pub over : (u v : Word) → R u v → IsOver k u × IsOver k v
  pub reflexive : (u : Word) → IsOver k u → R u u
  pub symmetric : (u v : Word) → R u v → R v u
  pub transitive : (u v w : Word) → R u v → R v w → R u w
  pub kept : (u v y : Word) → IsOver k y → R u v → R (u ++ y) (v ++ y)

-- the meet: both tables relate the words
abbrev pub Meet : Graph → Graph → Word → Word → Type 0
Meet s t u v = SameEnd s u v × SameEnd t u v

-- the join: a list of words over k letters joins them, each neighbour related by one of the tables
abbrev pub Join : ℕ → Graph → Graph → Word → Word → Type 0
Join k s t = Among (IsOver k) (Joined (λ u v. SameEnd s u v ⊎ SameEnd t u v))

-- no edge leads into the root: the empty word is related to itself alone
abbrev pub HasFreeRoot : Graph → Type 0
HasFreeRoot g = (node letter : ℕ) → target g node letter ≢ Some 0

-- each node of g stands for one of s and one of t, no two for the same, and edges lead where both
-- lead
pub record IsProductOf (s t g : Graph) (left right : ℕ → ℕ) : Type 0 where
  pub left_root : left 0 ≡ 0
  pub right_root : right 0 ≡ 0
  pub edges : (node letter next : ℕ)
      → target g node letter ≡ Some next
      → (target s (left node) letter ≡ Some (left next))
      × (target t (right node) letter ≡ Some (right next))
  pub apart : (i j : ℕ) → i < length g → j < length g → left i ≡ left j → right i ≡ right j → i ≡ j

-- what is shown after the words of each pair are merged, one pair after another
abbrev pub MergedAll : (Word → Word → Type 0) → List (Word × Word) → Word → Word → Type 0
MergedAll V [] = V
MergedAll V (p ∷ ps) = MergedAll (Merged V p.0 p.1) ps

-- with a word for each node, pairs that the table relates, and among which is each edge: a node's
-- word with a letter behind it, and the word of the node to which that leads
pub record AreEdgePairs (k : ℕ) (t : Graph) (word : ℕ → Word)
    (pairs : List (Word × Word)) : Type 0 where
  pub root : word 0 ≡ []
  pub related : (u v : Word) → Contains pairs (u, v) → SameEnd t u v
  pub edges : (node letter next : ℕ)
      → node < length t → letter < k → target t node letter ≡ Some next
      → (word node ++ letter ∷ [] ≡ word next)
      ⊎ Contains pairs (word node ++ letter ∷ [], word next)

-- what follows once the nodes x and y of g are one, and no relation is read
abbrev pub MergedAt : Graph → ℕ → ℕ → Word → Word → Type 0
MergedAt g x y = Follows [] [] (λ u v. SameEnd g u v
    ⊎ ((path g 0 u ≡ Some x) × (path g 0 v ≡ Some y))) (λ w. ⊥)

-- g relates what s does, and where each edge of t leads: a node's word with a letter behind it, and
-- the word of the node to which that leads
pub record HasBoth (k : ℕ) (s t g : Graph) (word : ℕ → Word) : Type 0 where
  pub root : word 0 ≡ []
  pub has : (u v : Word) → SameEnd s u v → SameEnd g u v
  pub edges : (node letter next : ℕ)
      → node < length t → letter < k → target t node letter ≡ Some next
      → SameEnd g (word node ++ letter ∷ []) (word next)

-- the congruence of this kind that the pairs generate on the free monoid with k letters
abbrev pub free_with : ℕ → Kind → List (Word × Word) → Congruence
free_with k kind pairs = record {
  presentation = record { letters = k; is_monoid = true; relations = [] };
  kind = kind;
  pairs = pairs;
}
