-- A definition makes one word more.
use Rattle.std.proofs.Common.{◌≡◌, ℕ, ◌<◌, ◌≤◌, List, [], ◌∷◌, ◌++◌, sym, ◌∙◌, ◌⊎◌, inl, inr, Some, None, length, subst}
use Rattle.std.proofs.lemmas.Bool.{cases_lt}
use Rattle.theory.specs.Word.{Word}
use Rattle.theory.specs.Facts.{Follows}
use Rattle.theory.specs.Graph.{Graph, target, path, SameEnd, IsGraph}
use Rattle.theory.proofs.PartLaws.{symmetric, transitive, extended}
use Rattle.word_graph.specs.Edges.{with_edge, with_node}
use Rattle.coincidence.proofs.DefinedPaths.{edged, kept_path, last_path, new_path, old_path}
use Rattle.coincidence.proofs.FollowsLaws.{path_more}

module _ (k : ℕ) (g : Graph) (n a : ℕ) (is : IsGraph k g) (hn : n < length g) (ha : a < k) (none : target g n a ≡ None) where
  -- the new word has a path
  pub new_there : (x : Word) → path g 0 x ≡ Some n → path (with_edge (with_node k g) n a (length g)) 0 (x ++ a ∷ []) ≡ Some (length g)
  new_there x e = path_more (with_edge (with_node k g) n a (length g)) 0 n x a (kept_path k g n a is hn ha none 0 n x e) ∙ (edged k g n a is hn ha none).edge

  -- nothing is related but what follows, where that has the new word
  pub new_within : (R P : List (Word × Word)) (G : Word → Word → Type 0) (U : Word → Type 0) (x : Word) → path g 0 x ≡ Some n
      → Follows R P G U (x ++ a ∷ []) (x ++ a ∷ []) → ((u v : Word) → SameEnd g u v → Follows R P G U u v)
      → (u v : Word) → SameEnd (with_edge (with_node k g) n a (length g)) u v → Follows R P G U u v
  new_within R P G U x hx self within u v h = go (cases_lt h.0 (length g))
    where
      -- whatever leads to the new node is related to the new word
      fresh : (u : Word) → path (with_edge (with_node k g) n a (length g)) 0 u ≡ Some (length g) → Follows R P G U (x ++ a ∷ []) u
      fresh u e =
          let s = new_path k g n a is hn ha none u e in
          subst (λ z. Follows R P G U (x ++ a ∷ []) z) (sym s.1) (extended x s.0 a (within x s.0 (n, hx, s.2)) self)

      go : (h.0 < length g) ⊎ (length g ≤ h.0) → Follows R P G U u v
      go (inl l) = within u v (h.0, old_path k g n a is hn ha none 0 h.0 u is.rooted l h.1, old_path k g n a is hn ha none 0 h.0 v is.rooted l h.2)
      go (inr l) =
          let left = last_path k g n a is hn ha none h.0 u l h.1 in
          let right = last_path k g n a is hn ha none h.0 v l h.2 in
          transitive (symmetric (fresh u left)) (fresh v right)
