-- How many nodes there are.
use Rattle.std.proofs.Common.{◌≡◌, ℕ, ◌<◌, ◌≤◌, length, sym, ◌∙◌, Some}
use Rattle.theory.specs.Word.{Word}
use Rattle.theory.specs.Graph.{Graph, path, SameEnd, IsGraph, Shows}
use Rattle.theory.proofs.Counting.{no_more_numbers}
use Rattle.word_graph.proofs.StandardLaws.{path_in}
use Rattle.word_graph.proofs.WalkLaws.{some_same}

-- some word leads to n in g, and to m in h
record IsPlace (g h : Graph) (n m : ℕ) : Type 0 where
  word : Word
  here : path g 0 word ≡ Some n
  there : path h 0 word ≡ Some m

module _ (k : ℕ) (g h : Graph) (is : IsGraph k h) (shows : Shows g (SameEnd h)) where
  place : (n : ℕ) → n < length g → (m : ℕ) × (m < length h) × IsPlace g h n m
  place n less =
      let r = shows.reached n less in
      let both = (shows.paths r.0 r.0).0 (n, r.1, r.1) in
      (both.0, path_in k h is 0 both.0 r.0 is.rooted both.1, record { word = r.0; here = r.1; there = both.1 })

  one : (i n m : ℕ) → IsPlace g h i m → IsPlace g h n m → i ≡ n
  one i n m a b =
      let both = (shows.paths a.word b.word).1 (m, a.there, b.there) in
      some_same i n (sym a.here ∙ both.1 ∙ sym both.2 ∙ b.here)

  -- a graph that shows the paths of h has no more nodes
  pub no_more_nodes : length g ≤ length h
  no_more_nodes = no_more_numbers (IsPlace g h) (length g) (length h) one place
