-- Edges, and for each node and letter the list of the nodes where the edges into it start.
use Rattle.std.specs.Prelude.{◌≡◌, ℕ, zero, suc, ◌≤◌, All, List, [], ◌∷◌, ◌++◌, length, Option, Some, None}
use Rattle.theory.specs.Graph.{Graph, target, IsGraph}
use Rattle.cells.specs.Rows.{with_entry}
use Rattle.coincidence.specs.Pending.{IsAmong}

-- the edges; the first source of each node and letter; and the source after each node in the list
-- of its target
pub record Links : Type 0 where
  pub graph : Graph
  pub firsts : Graph
  pub nexts : Graph

-- from the start, one after the other gives the list
abbrev pub IsChain : (ℕ → Option ℕ) → Option ℕ → List ℕ → Type 0
IsChain next start [] = start ≡ None
IsChain next start (n ∷ ns) = (start ≡ Some n) × IsChain next (next n) ns

-- no number stands twice
abbrev pub IsOnce : List ℕ → Type 0
IsOnce [] = Unit {0}
IsOnce (n ∷ ns) = (IsAmong n ns → ⊥) × IsOnce ns

-- the list has each node whose edge of the letter leads to this node, once
pub record IsSources (t : Links) (node letter : ℕ) (list : List ℕ) : Type 0 where
  pub chain : IsChain (λ n. target t.nexts n letter) (target t.firsts node letter) list
  pub once : IsOnce list
  pub all : (n : ℕ) → target t.graph n letter ≡ Some node → IsAmong n list
  pub only : (n : ℕ) → IsAmong n list → target t.graph n letter ≡ Some node

-- k letters, and each node has a list for each letter
pub record IsLinked (k : ℕ) (t : Links) : Type 0 where
  pub few : k ≤ 256
  pub graph : IsGraph k t.graph
  pub firsts : All (λ row. length row ≡ k) t.firsts
  pub nexts : All (λ row. length row ≡ k) t.nexts
  pub first_rows : length t.graph ≤ length t.firsts
  pub next_rows : length t.graph ≤ length t.nexts
  pub lists : (node letter : ℕ) → (list : List ℕ) × IsSources t node letter list

-- g with the entry x at the node, if there is one, and letter a
abbrev pub with_entry_at : Graph → Option ℕ → ℕ → Option ℕ → Graph
with_entry_at g None a x = g
with_entry_at g (Some j) a x = with_entry g j a x

-- how many come one after the other, at most so many
abbrev pub chain_count : ℕ → (ℕ → Option ℕ) → Option ℕ → ℕ
chain_count zero next start = 0
chain_count (suc most) next None = 0
chain_count (suc most) next (Some n) = suc (chain_count most next (next n))

-- in the list the node stands first, or right behind another
abbrev pub IsBehind : List ℕ → ℕ → Option ℕ → Type 0
IsBehind list node None = (back : List ℕ) × (list ≡ node ∷ back)
IsBehind list node (Some before) = (front back : List ℕ) × (list ≡ front ++ before ∷ node ∷ back)

-- in the list of m, at the letter a, the node n stands first, or right behind another
abbrev pub IsBack : Links → ℕ → ℕ → ℕ → Option ℕ → Type 0
IsBack t n a m None = target t.firsts m a ≡ Some n
IsBack t n a m (Some before) = (target t.graph before a ≡ Some m)
    × (target t.nexts before a ≡ Some n)

-- for each edge, the node before its own in the list of its target
pub record IsBacked (k : ℕ) (t : Links) (befores : Graph) : Type 0 where
  pub width : All (λ row. length row ≡ k) befores
  pub rows : length t.graph ≤ length befores
  pub backs : (n a m : ℕ) → target t.graph n a ≡ Some m → IsBack t n a m (target befores n a)
