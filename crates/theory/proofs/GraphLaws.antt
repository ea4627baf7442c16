-- Paths, and graphs that show what follows.
use Rattle.std.proofs.Common.{◌<◌, length, ◌≡◌, ℕ, [], ◌∷◌, ◌++◌, refl, sym, ◌∙◌, ap, Option, Some, None, option_and_then}
use Rattle.theory.specs.Word.{Word, IsOver}
use Rattle.theory.specs.Felsch.{IsLeastUndefined}
use Rattle.theory.proofs.Words.{over_append}
use Rattle.theory.specs.Congruence.{Congruence}
use Rattle.theory.specs.Facts.{Facts, Defines, AllDefined}
use Rattle.theory.proofs.PartLaws.{HasEach}
use Rattle.theory.specs.Graph.{Graph, target, path, SameEnd, IsModel, Shows, IsGraph, IsComplete, PathsRelate}
use Rattle.theory.proofs.FactsLaws.{facts_least, defines_within}

-- a path goes on from where its first part ends
pub path_append : (g : Graph) (node m : ℕ) (u v : Word) → path g node u ≡ Some m → path g node (u ++ v) ≡ path g m v
path_append g node m [] v e = ap (λ n. path g n v) (some_same node m e)
  where
    some_same : (a b : ℕ) → Some a ≡ Some b → a ≡ b
    some_same a b e = cc
path_append g node m (a ∷ u) v e = go (target g node a) (λ next h. path_append g next m u v h) e
  where
    go : (t : Option ℕ) → ((next : ℕ) → path g next u ≡ Some m → path g next (u ++ v) ≡ path g m v)
        → option_and_then (λ next. path g next u) t ≡ Some m → option_and_then (λ next. path g next (u ++ v)) t ≡ path g m v
    go None further e = cc
    go (Some next) further e = further next e

-- a word with a path has one for each prefix
pub path_front : (g : Graph) (node m : ℕ) (u v : Word) → path g node (u ++ v) ≡ Some m
    → (j : ℕ) × (path g node u ≡ Some j) × (path g j v ≡ Some m)
path_front g node m [] v e = (node, refl, e)
path_front g node m (a ∷ u) v e = go (target g node a) (λ next h. path_front g next m u v h) e
  where
    go : (t : Option ℕ) → ((next : ℕ) → path g next (u ++ v) ≡ Some m → (j : ℕ) × (path g next u ≡ Some j) × (path g j v ≡ Some m))
        → option_and_then (λ next. path g next (u ++ v)) t ≡ Some m
        → (j : ℕ) × (option_and_then (λ next. path g next u) t ≡ Some j) × (path g j v ≡ Some m)
    go None further e = cc
    go (Some next) further e = further next e

-- one letter
pub path_letter : (g : Graph) (node a : ℕ) → path g node (a ∷ []) ≡ target g node a
path_letter g node a = go (target g node a)
  where
    go : (t : Option ℕ) → option_and_then (λ next. Some next) t ≡ t
    go None = refl
    go (Some next) = refl

pub same_end_symm : (g : Graph) (u v : Word) → SameEnd g u v → SameEnd g v u
same_end_symm g u v h = (h.0, h.2, h.1)

pub same_end_trans : (g : Graph) (u v w : Word) → SameEnd g u v → SameEnd g v w → SameEnd g u w
same_end_trans g u v w h k = (k.0, let e : Some h.0 ≡ Some k.0 = sym h.2 ∙ k.1 in h.1 ∙ e, k.2)

-- words that end at one node go on to one node
pub same_end_extended : (g : Graph) (u v y : Word) → SameEnd g u v → SameEnd g (u ++ y) (u ++ y) → SameEnd g (u ++ y) (v ++ y)
same_end_extended g u v y h k =
    (k.0, k.1, path_append g 0 h.0 v y h.2 ∙ sym (path_append g 0 h.0 u y h.1) ∙ k.1)

-- a graph that is a model relates by its paths whatever follows
model_has_facts : (c : Congruence) (D U : Word → Type 0) (g : Graph) → IsModel c D U g
    → HasEach c.presentation.relations c.pairs (Defines D) U (SameEnd g)
model_has_facts c D U g model =
    record {
      given = defines_within D (SameEnd g) (0, refl, refl) (λ w d. let at = model.defined w d in (at.0, at.1, at.1));
      symmetric = same_end_symm g;
      transitive = same_end_trans g;
      extended = λ u v a h k. same_end_extended g u v (a ∷ []) h k;
      relation = λ u w r s a h m e k l.
          let first = path_front g 0 k.0 u r k.1 in
          let second = path_front g 0 l.0 u s l.1 in
          let here : path g 0 w ≡ Some first.0 = h.2 ∙ sym h.1 ∙ first.1 in
          let there : path g first.0 s ≡ Some l.0 = sym (path_append g 0 first.0 u s first.1) ∙ l.1 in
          let edge = model.closed w first.0 m here r s a k.0 l.0 e first.2 there in
          (k.0, k.1, path_append g 0 first.0 u (s ++ a ∷ []) first.1 ∙ path_append g first.0 l.0 s (a ∷ []) there ∙ path_letter g l.0 a ∙ edge);
      pair = λ r s a e k l.
          let edge = model.pairs r s a k.0 l.0 e k.1 l.1 in
          (k.0, k.1, path_append g 0 l.0 s (a ∷ []) l.1 ∙ path_letter g l.0 a ∙ edge);
    }

pub facts_in_model : (c : Congruence) (D U : Word → Type 0) (g : Graph) → IsModel c D U g → (u v : Word) → Facts c D U u v → SameEnd g u v
facts_in_model c D U g model u v f = facts_least c D U (SameEnd g) (model_has_facts c D U g model) f

-- a reached graph that is a model, and whose paths are related, shows what follows
pub model_shows : (c : Congruence) (D U : Word → Type 0) (g : Graph) → IsModel c D U g
    → ((node : ℕ) → node < length g → (u : Word) × (path g 0 u ≡ Some node)) → ((u v : Word) → SameEnd g u v → Facts c D U u v)
    → Shows g (Facts c D U)
model_shows c D U g model reached sound = record { reached = reached; paths = λ u v. (sound u v, facts_in_model c D U g model u v) }

-- in a complete graph each word has a path from each node
pub complete_path : (k : ℕ) (g : Graph) → IsGraph k g → IsComplete k g → (u : Word) (node : ℕ) → node < length g → IsOver k u
    → (m : ℕ) × (path g node u ≡ Some m)
complete_path k g is complete [] node h over = (node, refl)
complete_path k g is complete (a ∷ u) node h over =
    let next = complete node a h over.0 in
    let rest = complete_path k g is complete u next.0 (is.nodes node a next.0 next.1) over.1 in
    (rest.0, ap (option_and_then (λ m. path g m u)) next.1 ∙ rest.1)

-- so all words are defined
pub complete_all_defined : (k : ℕ) (g : Graph) → IsGraph k g → IsComplete k g → AllDefined k (SameEnd g)
complete_all_defined k g is complete w over = let at = complete_path k g is complete w 0 is.rooted over in (at.0, at.1, at.1)

-- and a reached graph in which all words are defined is complete
pub all_defined_complete : (k : ℕ) (g : Graph) → ((node : ℕ) → node < length g → (u : Word) × IsOver k u × (path g 0 u ≡ Some node))
    → AllDefined k (SameEnd g) → IsComplete k g
all_defined_complete k g reached all node letter h l =
    let at = reached node h in
    let whole = all (at.0 ++ letter ∷ []) (over_append k at.0 (letter ∷ []) at.1 (l, tt)) in
    (whole.0, sym (path_letter g node letter) ∙ sym (path_append g 0 node at.0 (letter ∷ []) at.2) ∙ whole.1)

-- what is least undefined for the paths is so for what they relate
pub least_undefined_same : (k : ℕ) (g : Graph) (V : Word → Word → Type 0) → PathsRelate g V → (w : Word) → IsLeastUndefined k (SameEnd g) w
    → IsLeastUndefined k V w
least_undefined_same k g V same w h =
    record { over = h.over; undefined = λ d. h.undefined ((same w w).1 d); least = λ v over less. (same v v).0 (h.least v over less) }
