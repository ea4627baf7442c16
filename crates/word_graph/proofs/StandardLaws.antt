-- The part that a walk reaches, as the code makes it.
use Rattle.std.proofs.Common.{◌≡◌, ℕ, suc, ◌*◌, ◌<◌, List, [], ◌∷◌, length, map, refl, sym, ◌∙◌, ap, subst, arith, inl, inr, Option, Some, None, option_and_then, get_or, All}
use Rattle.std.specs.Option.{unwrap_or}
use Rattle.std.proofs.lemmas.Bool.{cases_lt}
use Rattle.std.proofs.lemmas.List.{length-map, get_or-map, get_or_past}
use Rattle.std.proofs.lemmas.List.Elements.{All-map, All-from_get_or}
use Rattle.theory.specs.Word.{Word}
use Rattle.theory.specs.Facts.{AllDefined}
use Rattle.theory.specs.Graph.{Graph, target, path, SameEnd, IsGraph, IsComplete, Shows}
use Rattle.theory.specs.LowIndex.{graph_of}
use Rattle.word_graph.specs.Walk.{IsRenumbering}
use Rattle.word_graph.specs.Steps.{step_at, walked, IsWalkedTo}
use Rattle.word_graph.specs.Renumber.{renumber}
use Rattle.word_graph.specs.Standard.{IsStandardGraph, renumbered}
use Rattle.word_graph.specs.declared.walks.Step.{Step}
use Rattle.cells.specs.Rows.{flat, rows_of}
use Rattle.cells.proofs.CellLaws.{flat_long, rows_flat}
use Rattle.cells.proofs.EntryLaws.{target_is}
use Rattle.word_graph.proofs.WalkLaws.{some_same}
use Rattle.word_graph.proofs.RenumberLaws.{renumbered_paths, word_leads, renumbered_nodes, place_edge, appears_before, renumbered_complete}
use Rattle.word_graph.proofs.RowLaws.{target_rows, rows_exact, entries_all, numbered}

-- a path ends within the graph
pub path_in : (k : ℕ) (g : Graph) → IsGraph k g → (p n : ℕ) (u : Word) → p < length g → path g p u ≡ Some n → n < length g
path_in k g is p n [] h e = subst (λ z. z < length g) (some_same p n e) h
path_in k g is p n (a ∷ u) h e = go (target g p a) refl (λ m l d. path_in k g is m n u l d) e
  where
    go : (t : Option ℕ) → target g p a ≡ t → ((m : ℕ) → m < length g → path g m u ≡ Some n → n < length g) → option_and_then (λ next. path g next u) t ≡ Some n → n < length g
    go None d further e = cc
    go (Some m) d further e = further m (is.nodes p a m d) e

-- nodes of steps are nodes
pub step_inside : (k : ℕ) (g : Graph) (steps : List Step) (places : List (Option ℕ)) → IsGraph k g → IsWalkedTo k g steps places (length steps) 0
    → (p : ℕ) → p < length steps → (step_at steps p).node < length g
step_inside k g steps places graph is p h = path_in k g graph 0 (step_at steps p).node (is.word p) graph.rooted (is.walk.leads p h)

row_past : (r : List (Option ℕ)) (places : List (Option ℕ)) (b : ℕ) → get_or (map (renumber places) r) b None ≡ renumber places (get_or r b None)
row_past r places b = elim (cases_lt b (length r)) [
  | inl h ↦ get_or-map (renumber places) r b None None h
  | inr h ↦ get_or_past (map (renumber places) r) b None (omega (arith, length-map r (renumber places), h)) ∙ sym (ap (renumber places) (get_or_past r b None h))
]

module _ (k : ℕ) (g : Graph) (steps : List Step) (places : List (Option ℕ)) (graph : IsGraph k g) (is : IsWalkedTo k g steps places (length steps) 0) where
  row_is : (p : ℕ) → p < length steps → get_or (renumbered steps places g) p [] ≡ map (renumber places) (get_or g (step_at steps p).node [])
  row_is p h = get_or-map (λ (s : Step). map (renumber places) (get_or g s.node [])) steps p (record { node = 0; parent = 0; letter = 0 }) [] h

  -- the rows of the steps are the graph with the places of the walk
  renumbering : IsRenumbering g (walked steps places is.word) (renumbered steps places g)
  renumbering = record {
    count = length-map steps (λ (s : Step). map (renumber places) (get_or g s.node []));
    edges = λ p b h.
        target_is (renumbered steps places g) p b ∙ ap (λ (r : List (Option ℕ)). get_or r b None) (row_is p h)
        ∙ row_past (get_or g (step_at steps p).node []) places b ∙ ap (renumber places) (sym (target_is g (step_at steps p).node b));
    past = λ p b h.
        target_is (renumbered steps places g) p b
        ∙ ap (λ (r : List (Option ℕ)). get_or r b None) (get_or_past (renumbered steps places g) p [] (omega (arith, length-map steps (λ (s : Step). map (renumber places) (get_or g s.node [])), h)));
  }

  width_at : (p : ℕ) → p < length steps → length (get_or (renumbered steps places g) p []) ≡ k
  width_at p h =
      ap length (row_is p h) ∙ length-map (get_or g (step_at steps p).node []) (renumber places)
      ∙ graph.width (step_at steps p).node [] (step_inside k g steps places graph is p h)

  size : length (renumbered steps places g) ≡ length steps
  size = length-map steps (λ (s : Step). map (renumber places) (get_or g s.node []))

  widths : All (λ row. length row ≡ k) (renumbered steps places g)
  widths = All-from_get_or (λ row. length row ≡ k) (renumbered steps places g) [] (λ p h. width_at p (omega (arith, size, h)))

  pub renumbered_graph : IsGraph k (renumbered steps places g)
  renumbered_graph = record {
    rooted = omega (arith, size, is.walk.some);
    width = widths;
    nodes = renumbered_nodes k g (walked steps places is.word) (renumbered steps places g) is.walk renumbering;
  }

  -- places are those of steps
  pub renumbered_few : (target : Option ℕ) (p : ℕ) → renumber places target ≡ Some p → p < length steps
  renumbered_few None p e = cc
  renumbered_few (Some m) p e = (is.walk.placed m p e).0

  -- the rows, one behind another
  pub renumbered_long : length (flat (renumbered steps places g)) ≡ length steps * k
  renumbered_long = flat_long k (renumbered steps places g) widths ∙ ap (λ n. n * k) size

  pub renumbered_rows : rows_of k (length steps) (flat (renumbered steps places g)) ≡ renumbered steps places g
  renumbered_rows = ap (λ n. rows_of k n (flat (renumbered steps places g))) (sym size) ∙ rows_flat k (renumbered steps places g) widths

  -- it shows the same
  pub renumbered_shows : Shows (renumbered steps places g) (SameEnd g)
  renumbered_shows = record {
    reached = λ n h. (is.word n, word_leads k g (walked steps places is.word) (renumbered steps places g) is.walk renumbering n (omega (arith, size, h)));
    paths = renumbered_paths k g (walked steps places is.word) (renumbered steps places g) is.walk renumbering;
  }

  -- where all words are defined it is standard
  pub renumbered_standard : AllDefined k (SameEnd g) → IsStandardGraph k (renumbered steps places g)
  renumbered_standard all =
      record {
        rows = target_rows (renumbered steps places g);
        is = exact;
        standard = record {
          rooted = omega (arith, same_size, size, is.walk.some);
          width = All-map (λ (row : List ℕ). length row ≡ k) (map (λ (t : Option ℕ). unwrap_or t 0)) (renumbered steps places g)
              (λ p d h. length-map (get_or (renumbered steps places g) p d) (λ (t : Option ℕ). unwrap_or t 0) ∙ widths p d h);
          nodes = entries_all (λ n. n < length (target_rows (renumbered steps places g))) (target_rows (renumbered steps places g))
              (λ i b n e. omega (arith, same_size, renumbered_graph.nodes i b n (back i b n e)));
          numbered = numbered (target_rows (renumbered steps places g))
              (λ i b n e.
              let f = appears_before k g (walked steps places is.word) (renumbered steps places g) is.walk renumbering i b n (back i b (suc (suc n)) e) in
              (f.0, f.1, f.2, there f.0 f.1 (suc n) f.3));
          appears = λ n some h.
              let f = place_edge k g (walked steps places is.word) (renumbered steps places g) is.walk renumbering n some (omega (arith, same_size, size, h)) in
              (is_parent n, is_letter n, f.0, there (is_parent n) (is_letter n) n f.2);
        };
      }
    where
      is_parent : ℕ → ℕ
      is_parent n = (step_at steps n).parent

      is_letter : ℕ → ℕ
      is_letter n = (step_at steps n).letter

      complete : IsComplete k (renumbered steps places g)
      complete = renumbered_complete k g (walked steps places is.word) (renumbered steps places g) is.walk renumbering all

      full : (n a : ℕ) → n < length (renumbered steps places g) → a < length (get_or (renumbered steps places g) n [])
          → (m : ℕ) × (get_or (get_or (renumbered steps places g) n []) a None ≡ Some m)
      full n a hn ha =
          let edge = complete n a hn (omega (arith, width_at n (omega (arith, size, hn)), ha)) in
          (edge.0, sym (target_is (renumbered steps places g) n a) ∙ edge.1)

      exact : renumbered steps places g ≡ graph_of (target_rows (renumbered steps places g))
      exact = rows_exact (renumbered steps places g) full

      same_size : length (target_rows (renumbered steps places g)) ≡ length (renumbered steps places g)
      same_size = length-map (renumbered steps places g) (map (λ (t : Option ℕ). unwrap_or t 0))

      there : (i b n : ℕ) → target (renumbered steps places g) i b ≡ Some n → target (graph_of (target_rows (renumbered steps places g))) i b ≡ Some n
      there i b n e = ap (λ (h : Graph). target h i b) (sym exact) ∙ e

      back : (i b n : ℕ) → target (graph_of (target_rows (renumbered steps places g))) i b ≡ Some n → target (renumbered steps places g) i b ≡ Some n
      back i b n e = ap (λ (h : Graph). target h i b) exact ∙ e
