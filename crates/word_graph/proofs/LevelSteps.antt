-- Walks by levels as the code keeps them, and the list of least words that are read backwards.
use Rattle.std.proofs.Common.{◌≡◌, ℕ, ◌+◌, ◌<◌, ◌≤◌, List, [], ◌∷◌, ◌++◌, length, reverse, refl, sym, ◌∙◌, ap, subst, arith, Option, Some, None, get_or, set, replicate, length-set, true, false, inl, inr}
use Rattle.std.specs.Option.{is_some}
use Rattle.std.proofs.lemmas.List.{length_push, length-replicate, get_or_append_left, get_or_push}
use Rattle.std.proofs.lemmas.Bool.{cases_lt}
use Rattle.theory.specs.Word.{Word}
use Rattle.theory.specs.Graph.{Graph, target, IsGraph}
use Rattle.theory.proofs.BackwardsLaws.{backwards_least}
use Rattle.word_graph.specs.Steps.{step_at, walked, words_of}
use Rattle.word_graph.specs.Levels.{Frontier, frontier_at, IsLevelledTo, IsLevelledBefore}
use Rattle.word_graph.specs.Backwards.{AreAllReached, AreLeastBackwards}
use Rattle.word_graph.specs.declared.walks.Step.{Step}
use Rattle.word_graph.proofs.StepLaws.{none_set, word_with, not_some, one_found, root_places, root_placed, no_other_placed, root_left}
use Rattle.word_graph.proofs.WalkLaws.{some_same}
use Rattle.word_graph.proofs.WordLaws.{words_are}
use Rattle.word_graph.proofs.LevelLaws.{level_same, level_found, level_letter, level_next, level_start, node_placed, words_backwards}

module _ (k : ℕ) (g : Graph) (steps : List Step) (places : List (Option ℕ)) (at : Frontier) (hf : at.from ≤ at.place) (hi : at.place < at.to) where
  -- an edge to a node that was found before
  pub levelled_known : (next : ℕ) → target g (step_at steps at.place).node at.letter ≡ Some next → is_some (get_or places next None) ≡ true
      → IsLevelledTo k g steps places at → IsLevelledTo k g steps places (record at { place = at.place + 1 })
  levelled_known next here known is = go (get_or places next None) refl known
    where
      go : (o : Option ℕ) → get_or places next None ≡ o → is_some o ≡ true → IsLevelledTo k g steps places (record at { place = at.place + 1 })
      go None e h = cc
      go (Some j) e h =
          record {
            word = is.word;
            walk = level_same k g (walked steps places is.word) at is.walk hf hi
                (λ m d. (j, subst (λ z. get_or places z None ≡ Some j) (some_same next m (sym here ∙ d)) e));
            shape = is.shape;
            left = is.left;
          }

  -- an edge to a new node
  pub levelled_found : (next : ℕ) → IsGraph k g → at.letter < k → target g (step_at steps at.place).node at.letter ≡ Some next → is_some (get_or places next None) ≡ false
      → IsLevelledTo k g steps places at
      → IsLevelledTo k g (steps ++ record { node = next; parent = at.place; letter = at.letter } ∷ []) (set places next (Some (length steps))) (record at { place = at.place + 1 })
  levelled_found next graph ha here fresh is =
      record {
        word = word_with is.word (length steps) (is.word at.place ++ at.letter ∷ []);
        walk = level_found k g (walked steps places is.word) at is.walk hf hi
            (walked (steps ++ record { node = next; parent = at.place; letter = at.letter } ∷ []) (set places next (Some (length steps))) (word_with is.word (length steps) (is.word at.place ++ at.letter ∷ [])))
            next (one_found steps places is.word at.place at.letter next inside) ha here none;
        shape = length-set places next (Some (length steps)) ∙ is.shape;
        left = omega (arith, none_set places next (length steps) inside none, length_push steps (record { node = next; parent = at.place; letter = at.letter }), is.left);
      }
    where
      inside : next < length places
      inside = omega (arith, graph.nodes (step_at steps at.place).node at.letter next here, is.shape)

      none : get_or places next None ≡ None
      none = not_some (get_or places next None) fresh

-- the letter is done
pub levelled_letter : (k : ℕ) (g : Graph) (steps : List Step) (places : List (Option ℕ)) (from to a : ℕ)
    → IsLevelledTo k g steps places (frontier_at from to a to) → IsLevelledTo k g steps places (frontier_at from to (a + 1) from)
levelled_letter k g steps places from to a is =
    record { word = is.word; walk = level_letter k g (walked steps places is.word) from to a is.walk; shape = is.shape; left = is.left }

-- the level is done
pub levelled_next : (k : ℕ) (g : Graph) (steps : List Step) (places : List (Option ℕ)) (from to : ℕ) → IsGraph k g → IsLevelledTo k g steps places (frontier_at from to k from)
    → IsLevelledBefore k g steps places to
levelled_next k g steps places from to graph is =
    record { word = is.word; walk = level_next k g (walked steps places is.word) from to graph is.walk; shape = is.shape; left = is.left }

-- the root alone
pub levelled_start : (k : ℕ) (g : Graph) (nodes letter : ℕ) → 0 < nodes → length g ≡ nodes
    → IsLevelledBefore k g (record { node = 0; parent = 0; letter = letter } ∷ []) (root_places nodes) 0
levelled_start k g nodes letter some shape =
    record {
      word = λ j. [];
      walk = level_start k g (walked steps (root_places nodes) (λ j. [])) refl refl (λ j. refl) (root_placed nodes some) (no_other_placed nodes);
      shape = length-set (replicate nodes None) 0 (Some 0) ∙ length-replicate nodes None ∙ sym shape;
      left = root_left nodes some ∙ sym shape;
    }
  where
    steps : List Step
    steps = record { node = 0; parent = 0; letter = letter } ∷ []

-- the list has the words of the nodes before one, read backwards
pub record IsTurnedTo (places : List (Option ℕ)) (words least : List Word) (node : ℕ) : Type 0 where
  pub count : length least ≡ node
  pub each : (n j : ℕ) → n < node → get_or places n None ≡ Some j → get_or least n [] ≡ reverse (get_or words j [])

pub turned_more : (places : List (Option ℕ)) (words least : List Word) (node place : ℕ) → get_or places node None ≡ Some place → IsTurnedTo places words least node
    → IsTurnedTo places words (least ++ reverse (get_or words place []) ∷ []) (node + 1)
turned_more places words least node place at is =
    record {
      count = length_push least (reverse (get_or words place [])) ∙ ap (λ n. n + 1) is.count;
      each = λ n j h e. elim (cases_lt n node) [
        | inl old ↦ get_or_append_left least (reverse (get_or words place []) ∷ []) [] n (omega (arith, old, is.count)) ∙ is.each n j old e
        | inr new ↦
            let same : node ≡ n = omega (arith, h, new) in
            let same' : place ≡ j = some_same place j (sym at ∙ ap (λ m. get_or places m None) same ∙ e) in
            get_or_push least (reverse (get_or words place [])) [] n (is.count ∙ same) ∙ ap (λ m. reverse (get_or words m [])) same'
      ];
    }

module _ (k : ℕ) (g : Graph) (steps : List Step) (places : List (Option ℕ)) (is : IsLevelledBefore k g steps places (length steps)) where
  -- each node has a place
  pub place_there : AreAllReached g → (node : ℕ) → node < length g → (j : ℕ) × (get_or places node None ≡ Some j)
  place_there all node h = node_placed k g (walked steps places is.word) is.walk all node h

  pub place_inside : (node j : ℕ) → get_or places node None ≡ Some j → j < length steps
  place_inside node j e = (is.walk.tree.placed node j e).0

-- the words of all nodes, read backwards, are the least
pub turned_least : (g : Graph) (steps : List Step) (places : List (Option ℕ)) (least : List Word) → AreAllReached g
    → ((k : ℕ) → IsGraph k g → IsLevelledBefore k g steps places (length steps)) → IsTurnedTo places (words_of steps) least (length g) → AreLeastBackwards g least
turned_least g steps places least all levelled turned =
    record {
      count = turned.count;
      least = λ k graph.
          let is = levelled k graph in
          backwards_least k g (λ n. get_or least n []) graph
          (words_backwards k g (walked steps places is.word) is.walk all (λ n. get_or least n []) graph (λ n j h e. turned.each n j h e ∙ ap reverse (words_are k g steps places is.word is.walk.tree j (is.walk.tree.placed n j e).0)));
    }
