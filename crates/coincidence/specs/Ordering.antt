-- The nodes in the order of their least words, as far as each of their edges is there.
use Rattle.std.specs.Prelude.{◌≡◌, ◌≢◌, ℕ, ◌<◌, nat_lt, cond, Option, Some, None, option_and_then}
use Rattle.theory.specs.Graph.{Graph, target}
use Rattle.word_graph.specs.Walk.{Walked, IsBefore, IsWalkTo}

-- a walk to the row i and letter a, of which no edge is missing before
pub record IsOrderTo (k : ℕ) (g : Graph) (w : Walked) (i a : ℕ) : Type 0 where
  pub walk : IsWalkTo k g w i a
  pub whole : (p b : ℕ) → p < w.count → b < k → IsBefore p b i a → target g (w.node p) b ≢ None

-- the place, if it is before p
abbrev pub before_place : ℕ → Option ℕ → Option ℕ
before_place p place = option_and_then (λ j. cond (nat_lt j p) (Some j) None) place

-- the walk, with the places before p alone
abbrev pub cut_walk : Walked → ℕ → Walked
cut_walk w p = record {
  count = p;
  node = w.node;
  parent = w.parent;
  letter = w.letter;
  word = w.word;
  place = λ m. before_place p (w.place m);
}

-- the edges before the row i and letter a are those of old
abbrev pub IsSameTo : Graph → Graph → Walked → ℕ → ℕ → Type 0
IsSameTo old new w i a = (p b : ℕ) → p < w.count → IsBefore p b i a
    → target new (w.node p) b ≡ target old (w.node p) b
