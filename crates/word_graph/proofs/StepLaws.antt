-- Walks as the code keeps them go on.
use Rattle.std.proofs.Common.{◌≡◌, ℕ, zero, suc, ◌+◌, ◌<◌, List, [], ◌∷◌, ◌++◌, length, refl, sym, ◌∙◌, ap, subst, arith, Option, Some, None, get_or, set, replicate, length-set, true, false, cond, nat_eq, inl, inr, ◌≢◌}
use Rattle.std.specs.Option.{is_some}
use Rattle.std.proofs.lemmas.List.{get_or_append_left, get_or_push, length_push, length-replicate, get_or-set_same, get_or-set_other, get_or-replicate, get_or_past}
use Rattle.std.proofs.lemmas.Bool.{cases_lt}
use Rattle.theory.specs.Word.{Word}
use Rattle.theory.specs.Facts.{AllDefined}
use Rattle.theory.specs.Graph.{Graph, target, SameEnd, IsGraph}
use Rattle.word_graph.specs.Walk.{IsFound, IsBefore, IsFirstMissing}
use Rattle.word_graph.specs.Gaps.{count_none}
use Rattle.word_graph.specs.Steps.{step_at, walked, IsWalkedTo}
use Rattle.word_graph.specs.declared.walks.Step.{Step}
use Rattle.word_graph.proofs.WalkLaws.{walk_none, walk_known, walk_found, walk_row, walk_start, none_missing, first_missing}

pub none_set : {X : Type 0} (xs : List (Option X)) (i : ℕ) (x : X) → i < length xs → get_or xs i None ≡ None → count_none (set xs i (Some x)) + 1 ≡ count_none xs
none_set [] i x h e = absurd (omega arith)
none_set (None ∷ xs) zero x h e = omega arith
none_set (Some y ∷ xs) zero x h e = cc
none_set (None ∷ xs) (suc i) x h e = omega (arith, none_set xs i x (omega arith) e)
none_set (Some y ∷ xs) (suc i) x h e = none_set xs i x (omega arith) e

none_all : (n : ℕ) → count_none {X = ℕ} (replicate n None) ≡ n
none_all zero = refl
none_all (suc n) = omega (arith, none_all n)

-- the words, and one more
pub word_with : (ℕ → Word) → ℕ → Word → ℕ → Word
word_with word n u j = cond (nat_eq j n) u (word j)

with_same : (word : ℕ → Word) (n : ℕ) (u : Word) (j : ℕ) → j ≡ n → word_with word n u j ≡ u
unfolding word_with
with_same word n u j e = grind (arith, e)

with_other : (word : ℕ → Word) (n : ℕ) (u : Word) (j : ℕ) → j < n → word_with word n u j ≡ word j
unfolding word_with
with_other word n u j h = grind (arith, h)

-- no edge here
pub walked_none : (k : ℕ) (g : Graph) (steps : List Step) (places : List (Option ℕ)) (i a : ℕ) → i < length steps
    → target g (step_at steps i).node a ≡ None → IsWalkedTo k g steps places i a → IsWalkedTo k g steps places i (a + 1)
walked_none k g steps places i a hi none is =
    record { word = is.word; walk = walk_none k g (walked steps places is.word) i a is.walk hi none; shape = is.shape; left = is.left }

-- an edge to a node that was found before
pub walked_known : (k : ℕ) (g : Graph) (steps : List Step) (places : List (Option ℕ)) (i a next : ℕ) → IsGraph k g → i < length steps
    → target g (step_at steps i).node a ≡ Some next → is_some (get_or places next None) ≡ true
    → IsWalkedTo k g steps places i a → IsWalkedTo k g steps places i (a + 1)
walked_known k g steps places i a next graph hi here known is = go (get_or places next None) refl known
  where
    go : (o : Option ℕ) → get_or places next None ≡ o → is_some o ≡ true → IsWalkedTo k g steps places i (a + 1)
    go None e h = cc
    go (Some j) e h = record { word = is.word; walk = walk_known k g (walked steps places is.word) i a is.walk next j hi here e; shape = is.shape; left = is.left }

pub not_some : {X : Type 0} (o : Option X) → is_some o ≡ false → o ≡ None
not_some None h = refl
not_some (Some j) h = cc

-- one step more, to a node of the graph
pub one_found : (steps : List Step) (places : List (Option ℕ)) (word : ℕ → Word) (i a next : ℕ) → next < length places
    → IsFound (walked steps places word)
    (walked (steps ++ record { node = next; parent = i; letter = a } ∷ []) (set places next (Some (length steps))) (word_with word (length steps) (word i ++ a ∷ [])))
    i a next
one_found steps places word i a next inside =
    record {
      count = length_push steps new;
      node_is = ap (λ (s : Step). s.node) last;
      parent_is = ap (λ (s : Step). s.parent) last;
      letter_is = ap (λ (s : Step). s.letter) last;
      word_is = with_same word (length steps) (word i ++ a ∷ []) (length steps) refl;
      place_is = get_or-set_same places next (Some (length steps)) None inside;
      nodes = λ j h. ap (λ (s : Step). s.node) (old j h);
      parents = λ j h. ap (λ (s : Step). s.parent) (old j h);
      letters = λ j h. ap (λ (s : Step). s.letter) (old j h);
      words = λ j h. with_other word (length steps) (word i ++ a ∷ []) j h;
      places = λ m d. get_or-set_other places next m (Some (length steps)) None d;
    }
  where
    new : Step
    new = record { node = next; parent = i; letter = a }

    steps' : List Step
    steps' = steps ++ record { node = next; parent = i; letter = a } ∷ []

    old : (j : ℕ) → j < length steps → step_at steps' j ≡ step_at steps j
    old j h = get_or_append_left steps (new ∷ []) (record { node = 0; parent = 0; letter = 0 }) j h

    last : step_at steps' (length steps) ≡ new
    last = get_or_push steps new (record { node = 0; parent = 0; letter = 0 }) (length steps) refl

-- an edge to a new node
pub walked_found : (k : ℕ) (g : Graph) (steps : List Step) (places : List (Option ℕ)) (i a next : ℕ) → IsGraph k g → i < length steps → a < k
    → target g (step_at steps i).node a ≡ Some next → is_some (get_or places next None) ≡ false
    → IsWalkedTo k g steps places i a
    → IsWalkedTo k g (steps ++ record { node = next; parent = i; letter = a } ∷ []) (set places next (Some (length steps))) i (a + 1)
walked_found k g steps places i a next graph hi ha here fresh is =
    record {
      word = word';
      walk = walk_found k g (walked steps places is.word) i a is.walk (walked steps' places' word') next (one_found steps places is.word i a next inside) hi ha here none;
      shape = length-set places next (Some (length steps)) ∙ is.shape;
      left = omega (arith, none_set places next (length steps) inside none, length_push steps new, is.left);
    }
  where
    new : Step
    new = record { node = next; parent = i; letter = a }

    steps' : List Step
    steps' = steps ++ record { node = next; parent = i; letter = a } ∷ []

    places' : List (Option ℕ)
    places' = set places next (Some (length steps))

    word' : ℕ → Word
    word' = word_with is.word (length steps) (is.word i ++ a ∷ [])

    inside : next < length places
    inside = omega (arith, graph.nodes (step_at steps i).node a next here, is.shape)

    none : get_or places next None ≡ None
    none = not_some (get_or places next None) fresh

-- the row ends
pub walked_row : (k : ℕ) (g : Graph) (steps : List Step) (places : List (Option ℕ)) (i : ℕ) → IsGraph k g → IsWalkedTo k g steps places i k
    → IsWalkedTo k g steps places (i + 1) 0
walked_row k g steps places i graph is =
    record { word = is.word; walk = walk_row k g (walked steps places is.word) i graph is.walk; shape = is.shape; left = is.left }

blank : (nodes m : ℕ) → get_or (replicate {A = Option ℕ} nodes None) m None ≡ None
blank nodes m = elim (cases_lt m nodes) [
  | inl h ↦ get_or-replicate nodes m None None h
  | inr h ↦ get_or_past (replicate nodes None) m None (omega (arith, length-replicate {A = Option ℕ} nodes None))
]

-- the root has the first place, and no other node has one
abbrev pub root_places : ℕ → List (Option ℕ)
root_places nodes = set (replicate nodes None) 0 (Some 0)

pub root_placed : (nodes : ℕ) → 0 < nodes → get_or (root_places nodes) 0 None ≡ Some 0
root_placed nodes some = get_or-set_same (replicate nodes None) 0 (Some 0) None (omega (arith, length-replicate {A = Option ℕ} nodes None))

pub no_other_placed : (nodes m : ℕ) → (m ≡ 0 → ⊥) → get_or (root_places nodes) m None ≡ None
no_other_placed nodes m d = get_or-set_other (replicate nodes None) 0 m (Some 0) None d ∙ blank nodes m

pub root_left : (nodes : ℕ) → 0 < nodes → count_none (root_places nodes) + 1 ≡ nodes
root_left nodes some = none_set (replicate nodes None) 0 0 (omega (arith, length-replicate {A = Option ℕ} nodes None)) (blank nodes 0) ∙ none_all nodes

-- the root alone
pub walked_start : (k : ℕ) (g : Graph) (nodes : ℕ) (letter : ℕ) → 0 < nodes → length g ≡ nodes
    → IsWalkedTo k g (record { node = 0; parent = 0; letter = letter } ∷ []) (root_places nodes) 0 0
walked_start k g nodes letter some shape =
    record {
      word = λ j. [];
      walk = walk_start k g (walked steps (root_places nodes) (λ j. [])) refl refl refl (root_placed nodes some) (no_other_placed nodes);
      shape = length-set (replicate nodes None) 0 (Some 0) ∙ length-replicate nodes None ∙ sym shape;
      left = root_left nodes some ∙ sym shape;
    }
  where
    steps : List Step
    steps = record { node = 0; parent = 0; letter = letter } ∷ []

there : (o : Option ℕ) → o ≢ None → (m : ℕ) × (o ≡ Some m)
there None h = absurd (h refl)
there (Some m) h = (m, refl)

-- no edge is missing at a place
pub all_there : (k : ℕ) (g : Graph) (steps : List Step) (places : List (Option ℕ)) → IsWalkedTo k g steps places (length steps) 0
    → ((p b : ℕ) → p < length steps → b < k → target g (step_at steps p).node b ≢ None) → AllDefined k (SameEnd g)
all_there k g steps places is edges =
    none_missing k g (walked steps places is.word) is.walk (λ p b hp hb. there (target g (step_at steps p).node b) (edges p b hp hb))

-- the first edge that is missing
pub missing_at : (k : ℕ) (g : Graph) (steps : List Step) (places : List (Option ℕ)) (i a : ℕ) → IsWalkedTo k g steps places (length steps) 0
    → i < length steps → a < k → target g (step_at steps i).node a ≡ None → ((b : ℕ) → b < a → target g (step_at steps i).node b ≢ None)
    → ((p b : ℕ) → p < i → b < k → target g (step_at steps p).node b ≢ None) → IsFirstMissing k g (step_at steps i).node a
missing_at k g steps places i a is hi ha none row rows =
    first_missing k g (walked steps places is.word) is.walk i a hi ha none edges
  where
    edges : (p b : ℕ) → p < length steps → b < k → IsBefore p b i a → (m : ℕ) × (target g (step_at steps p).node b ≡ Some m)
    edges p b hp hb (inl l) = there (target g (step_at steps p).node b) (rows p b l hb)
    edges p b hp hb (inr e) = there (target g (step_at steps p).node b) (subst (λ z. target g (step_at steps z).node b ≢ None) (sym e.0) (row b e.1))
