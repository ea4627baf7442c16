-- One definition with all that follows leads from one stage to the next.
use Rattle.std.proofs.Common.{◌≡◌, ℕ, zero, suc, ◌<◌, List, [], ◌∷◌, ◌++◌, refl, sym, ◌∙◌, ap, arith, inl, inr, Some, None, length, subst, replicate, Contains}
use Rattle.theory.specs.Word.{Word}
use Rattle.theory.specs.Congruence.{Congruence}
use Rattle.theory.specs.Graph.{Graph, target, path, SameEnd, IsGraph, PathsRelate}
use Rattle.theory.specs.Facts.{Facts, Defines, ClosedAll}
use Rattle.theory.proofs.PartLaws.{given}
use Rattle.theory.specs.Felsch.{FelschFacts}
use Rattle.theory.proofs.FactsLaws.{follows_between, facts_grow, defines_within}
use Rattle.word_graph.specs.Edges.{with_edge, with_node}
use Rattle.coincidence.proofs.DefinedPaths.{kept_path}
use Rattle.coset_enumeration.proofs.DefinedLaws.{new_there, new_within}
use Rattle.coset_enumeration.proofs.RootLaws.{root_end}

-- what follows from the paths of g are the facts, where the facts have the paths of g and these have what is defined
pub closed_facts : (c : Congruence) (D : Word → Type 0) (g new : Graph) → ((u v : Word) → SameEnd g u v → Facts c D (λ w. Unit {0}) u v)
    → ((w : Word) → D w → SameEnd g w w) → SameEnd g [] [] → PathsRelate new (ClosedAll c (SameEnd g)) → PathsRelate new (Facts c D (λ w. Unit {0}))
closed_facts c D g new within given_there root f = λ u v.
    let same = follows_between c.presentation.relations c.pairs (Defines D) (SameEnd g) (λ w. Unit {0}) (defines_within D (SameEnd g) root given_there) within u v in
    (λ h. same.0 ((f u v).0 h), λ h. (f u v).1 (same.1 h))

-- at the start the facts without a definition are shown
pub start_facts : (c : Congruence) (k : ℕ) (new : Graph) → PathsRelate new (ClosedAll c (SameEnd (replicate k None ∷ []))) → PathsRelate new (FelschFacts c [])
start_facts c k new f =
    closed_facts c (Contains []) (replicate k None ∷ []) new
    (λ u v h. subst (λ z. FelschFacts c [] z v) (sym (root_end k h.0 u h.1)) (subst (λ z. FelschFacts c [] [] z) (sym (root_end k h.0 v h.2)) (given (refl, inl refl))))
    (λ w d. absurd (omega (arith, d.1)))
    (0, refl, refl) f

module _ (c : Congruence) (k : ℕ) (g : Graph) (n a : ℕ) (is : IsGraph k g) (hn : n < length g) (ha : a < k) (none : target g n a ≡ None) where
  -- the facts of the next stage
  pub next_facts : (D : List Word) (w new : Word) (after : Graph) → new ≡ w ++ a ∷ [] → path g 0 w ≡ Some n → PathsRelate g (FelschFacts c D) → PathsRelate after (ClosedAll c (SameEnd (with_edge (with_node k g) n a (length g)))) → PathsRelate after (FelschFacts c (new ∷ D))
  next_facts D w new after e hw f r =
      closed_facts c (Contains (new ∷ D)) (with_edge (with_node k g) n a (length g)) after within given_there (0, refl, refl) r
    where
      there : path (with_edge (with_node k g) n a (length g)) 0 new ≡ Some (length g)
      there = ap (λ z. path (with_edge (with_node k g) n a (length g)) 0 z) e ∙ new_there k g n a is hn ha none w hw

      self : FelschFacts c (new ∷ D) (w ++ a ∷ []) (w ++ a ∷ [])
      self = subst (λ z. FelschFacts c (new ∷ D) z z) e (given (refl, inr (0, omega arith, refl)))

      within : (u v : Word) → SameEnd (with_edge (with_node k g) n a (length g)) u v → FelschFacts c (new ∷ D) u v
      within = new_within k g n a is hn ha none c.presentation.relations c.pairs (Defines (Contains (new ∷ D))) (λ w. Unit {0}) w hw self
          (λ u v h. facts_grow c (Contains D) (λ w. Unit {0}) (Contains (new ∷ D)) (λ w. Unit {0}) (λ x d. (suc d.0, omega (arith, d.1), d.2)) (λ w h. tt) u v ((f u v).0 h))

      given_there : (x : Word) → Contains (new ∷ D) x → SameEnd (with_edge (with_node k g) n a (length g)) x x
      given_there x (zero, h, d) = (length g, subst (λ z. path (with_edge (with_node k g) n a (length g)) 0 z ≡ Some (length g)) d there, subst (λ z. path (with_edge (with_node k g) n a (length g)) 0 z ≡ Some (length g)) d there)
      given_there x (suc i, h, d) = let o = (f x x).1 (given (refl, inr (i, omega (arith, h), d))) in (o.0, kept_path k g n a is hn ha none 0 o.0 x o.1, kept_path k g n a is hn ha none 0 o.0 x o.2)
