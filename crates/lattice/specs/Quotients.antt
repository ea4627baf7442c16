-- The edges of two tables side by side, and the graph of the classes of nodes.
use Rattle.std.specs.Prelude.{◌≡◌, ℕ, ◌+◌, ◌-◌, ◌<◌, [], List, length, slice_index, slice_index_or, Some, unwrap_or, cond, nat_lt}
use Rattle.theory.specs.Graph.{Graph, target, IsGraph}
use Rattle.word_graph.specs.Walk.{IsBefore}
use Rattle.congruence_closure.specs.Maps.{MapList}

-- how many letters there are
abbrev pub width : Graph → ℕ
width g = length (slice_index_or g 0 [])

-- where an edge leads; the nodes of t stand behind those of s
abbrev pub both_image : Graph → Graph → ℕ → ℕ → ℕ
both_image s t i a = cond (nat_lt i (length s)) (unwrap_or (target s i a) 0)
    (length s + unwrap_or (target t (i - length s) a) 0)

abbrev pub both_edges : Graph → Graph → MapList
both_edges s t = record {
  bound = length s + length t;
  count = width s;
  image = both_image s t;
}

-- each edge of s before a place and letter leads in g to the least node of a class
pub record IsQuotientTo (k : ℕ) (s : Graph) (classes : List ℕ) (g : Graph)
    (place letter : ℕ) : Type 0 where
  pub graph : IsGraph k g
  pub count : length g ≡ length s
  pub edges : (i b next : ℕ) → IsBefore i b place letter → target s i b ≡ Some next
      → target g i b ≡ Some (slice_index classes next)

-- each edge of s leads in g to the least node of a class
pub record IsQuotient (k : ℕ) (s : Graph) (classes : List ℕ) (g : Graph) : Type 0 where
  pub graph : IsGraph k g
  pub count : length g ≡ length s
  pub edges : (i b next : ℕ) → target s i b ≡ Some next
      → target g i b ≡ Some (slice_index classes next)
