-- Graphs that stand for right congruences of low index have one table each.
use Rattle.std.proofs.Common.{◌≡◌, ◌≢◌, ℕ, zero, suc, ◌<◌, ◌≤◌, ◌↔◌, Bool, true, false, [], ◌∷◌, ◌++◌, length, map, Some, refl, sym, ◌∙◌, ap, subst, arith}
use Rattle.std.proofs.lemmas.List.{length-map}
use Rattle.theory.specs.Word.{Word}
use Rattle.theory.specs.Congruence.{Presentation, AreElements}
use Rattle.theory.specs.Graph.{Graph, target, path, SameEnd, Shows}
use Rattle.theory.specs.LowIndex.{Rows, graph_of, IsStandard, IsCompatible, HasAtMostClasses, IsLowIndex}
use Rattle.theory.proofs.GraphLaws.{path_append, path_letter, complete_path}
use Rattle.theory.proofs.StandardLaws.{standard_unique}
use Rattle.word_graph.proofs.RowLaws.{entries_all}
use Rattle.word_graph.proofs.StandardLaws.{path_in}
use Rattle.word_graph.proofs.WalkThere.{standard_there}
use Rattle.sims_one.specs.Graphs.{AreAtMost, HaveSamePaths, StandsFor}
use Rattle.sims_one.proofs.LowIndexLaws.{relation_words}

-- an edge is at a node
pub inside : (rows : Rows) (i b m : ℕ) → target (graph_of rows) i b ≡ Some m → i < length rows
inside [] i b m e = cc
inside (row ∷ rows) zero b m e = omega arith
inside (row ∷ rows) (suc i) b m e = omega (arith, inside rows i b m e)

module _ (p : Presentation) (n : ℕ) (g : Graph) (elements : AreElements p.is_monoid p.letters p.relations) (is : StandsFor p n g) where
  module _ (rows : Rows) (standard : IsStandard p.letters rows) (shows : Shows (graph_of rows) (SameEnd g)) (small : length (graph_of rows) ≤ length g) where
    size : length rows ≤ length g
    size = omega (arith, small, length-map rows (map Some))

    compatible : IsCompatible p rows
    compatible node r s h m =
        let words = relation_words p elements r s m in
        let reached = shows.reached node (omega (arith, h, length-map rows (map Some))) in
        let u = reached.0 in
        let same = (shows.paths u u).0 (node, reached.1, reached.1) in
        let inside : same.0 < length g = path_in p.letters g is.graph 0 same.0 u is.graph.rooted same.1 in
        let left = complete_path p.letters g is.graph is.complete r same.0 inside words.0 in
        let ends : SameEnd g (u ++ r) (u ++ s) = (
          left.0,
          path_append g 0 same.0 u r same.1 ∙ left.1,
          path_append g 0 same.0 u s same.1 ∙ sym (is.meets same.0 r s inside m) ∙ left.1,
        ) in
        let back = (shows.paths (u ++ r) (u ++ s)).1 ends in
        sym (path_append (graph_of rows) 0 node u r reached.1) ∙ back.1 ∙ sym back.2 ∙ path_append (graph_of rows) 0 node u s reached.1

    -- no edge leads to the root where none did
    no_root : ((node letter : ℕ) → target g node letter ≢ Some 0) → (i b m : ℕ) → i < length rows → target (graph_of rows) i b ≡ Some m → m ≢ 0
    no_root none i b m h e root =
        let reached = shows.reached i (omega (arith, h, length-map rows (map Some))) in
        let u = reached.0 in
        let there : path (graph_of rows) 0 (u ++ b ∷ []) ≡ Some 0 = path_append (graph_of rows) 0 i u (b ∷ []) reached.1 ∙ path_letter (graph_of rows) i b ∙ e ∙ ap (λ z. Some z) root in
        let same = (shows.paths (u ++ b ∷ []) []).0 (0, there, refl) in
        let at = (shows.paths u u).0 (i, reached.1, reached.1) in
        let at_root : Some same.0 ≡ Some 0 = sym same.2 in
        let edge : target g at.0 b ≡ Some 0 = sym (path_letter g at.0 b) ∙ sym (path_append g 0 at.0 u (b ∷ []) at.1) ∙ same.1 ∙ at_root in
        none at.0 b edge

    few_for : (is_monoid : Bool) → AreAtMost is_monoid n g → HasAtMostClasses is_monoid n rows
    few_for true few = omega (arith, few, size)
    few_for false few = (omega (arith, few.0, size), entries_all (λ m. m ≢ 0) rows (λ i b m e. no_root few.1 i b m (inside rows i b m e) e))

    table : IsLowIndex p n rows
    table = record { standard = standard; compatible = compatible; size = few_for p.is_monoid is.few }

  pub table_there : (rows : Rows) × IsLowIndex p n rows × HaveSamePaths (graph_of rows) g
  table_there =
      let s = standard_there p.letters g is.graph is.complete in
      let rows = s.1.rows in
      let shows : Shows (graph_of rows) (SameEnd g) = subst (λ (h : Graph). Shows h (SameEnd g)) s.1.is s.2 in
      let small : length (graph_of rows) ≤ length g = subst (λ (h : Graph). length h ≤ length g) s.1.is s.3 in
      (rows, table rows s.1.standard shows small, shows.paths)

pub table_one : (p : Presentation) (n : ℕ) (g : Graph) (s t : Rows) → IsLowIndex p n s → IsLowIndex p n t → ((u v : Word) → SameEnd (graph_of s) u v ↔ SameEnd g u v) → ((u v : Word) → SameEnd (graph_of t) u v ↔ SameEnd g u v) → s ≡ t
table_one p n g s t low other hs ht =
    standard_unique p.letters s t low.standard other.standard (λ u v. (λ e. (ht u v).1 ((hs u v).0 e), λ e. (hs u v).1 ((ht u v).0 e)))
