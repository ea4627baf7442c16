-- Tables of right congruences over the same letters.
use Rattle.std.specs.Prelude.{ℕ}
use Rattle.theory.specs.Word.{Word}
use Rattle.theory.specs.Graph.{Graph, PathsRelate}
use Rattle.word_graph.specs.Standard.{IsStandardGraph}

-- both tables are standard, with an edge of each of k letters
pub record AreTables (k : ℕ) (s t : Graph) : Type 0 where
  pub left : IsStandardGraph k s
  pub right : IsStandardGraph k t

abbrev pub HaveOneWidth : Graph → Graph → Type 0
HaveOneWidth s t = (k : ℕ) × AreTables k s t

-- the standard table over k letters whose equal paths are a relation
pub record IsTableOf (k : ℕ) (V : Word → Word → Type 0) (g : Graph) : Type 0 where
  pub standard : IsStandardGraph k g
  pub paths : PathsRelate g V
