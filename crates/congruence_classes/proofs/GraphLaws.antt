-- A graph that decides the right congruence that stands for a congruence decides the congruence.
use Rattle.std.proofs.Common.{◌≡◌, ◌↔◌, ℕ, ◌<◌, Bool, not, false, List, [], ◌∷◌, length, refl, sym, ◌∙◌, ap, subst, subst₂, arith, Some}
use Rattle.std.proofs.lemmas.Bool.{ne_eqb}
use Rattle.theory.specs.Word.{Word, IsOver, IsElement}
use Rattle.theory.specs.Congruence.{Congruence, IsWellFormed, as_right, as_right_word}
use Rattle.theory.specs.Chain.{Related}
use Rattle.theory.specs.declared.Kind.{Kind}
use Rattle.theory.specs.declared.Kind.TheVariants.{TwoSided, Right, Left}
use Rattle.theory.specs.Graph.{Graph, path, SameEnd, IsGraph}
use Rattle.theory.proofs.Chains.{related_congruence}
use Rattle.theory.proofs.KindLaws.{as_right_related, as_right_well_formed}
use Rattle.theory.proofs.Related.{element_over, nonempty_element, related_element}
use Rattle.word_graph.specs.Standard.{IsStandardGraph}
use Rattle.presentation.specs.Presented.{Posed}
use Rattle.problem.specs.declared.kinds.Problem.TheVariants.{Presented}
use Rattle.congruence_classes.specs.ClassLists.{IsStandardGraphFor, are_read_backwards, as_read}
use Rattle.congruence_classes.proofs.ClassListLaws.{path_over, read_over}

-- the right congruence that stands for a congruence has its letters, and its empty word
same_letters : (c : Congruence) → (as_right c).presentation.letters ≡ c.presentation.letters
same_letters c = go c.kind c.pairs
  where
    go : (kind : Kind) (pairs : List (Word × Word))
        → (as_right (record { presentation = c.presentation; kind = kind; pairs = pairs })).presentation.letters ≡ c.presentation.letters
    go TwoSided pairs = refl
    go Right pairs = refl
    go Left [] = refl
    go Left (q ∷ pairs) = refl

same_empty_word : (c : Congruence) → (as_right c).presentation.is_monoid ≡ c.presentation.is_monoid
same_empty_word c = go c.kind c.pairs
  where
    go : (kind : Kind) (pairs : List (Word × Word))
        → (as_right (record { presentation = c.presentation; kind = kind; pairs = pairs })).presentation.is_monoid ≡ c.presentation.is_monoid
    go TwoSided pairs = refl
    go Right pairs = refl
    go Left [] = refl
    go Left (q ∷ pairs) = refl

-- words are read as the right congruence takes them
same_reading : (c : Congruence) (u : Word) → as_right_word c u ≡ as_read (are_read_backwards c.kind c.pairs) u
same_reading c u = go c.kind c.pairs
  where
    go : (kind : Kind) (pairs : List (Word × Word))
        → as_right_word (record { presentation = c.presentation; kind = kind; pairs = pairs }) u ≡ as_read (are_read_backwards kind pairs) u
    go TwoSided pairs = refl
    go Right pairs = refl
    go Left [] = refl
    go Left (q ∷ pairs) = ap (λ b. as_read (not b) u) (sym (ne_eqb (length (q ∷ pairs)) 0 (λ e. omega (arith, e))))

-- a standard graph whose equal paths are a right congruence
pub record IsRightGraph (k : Congruence) (g : Graph) : Type 0 where
  pub graph : IsGraph k.presentation.letters g
  pub reached : (node : ℕ) → node < length g → (u : Word) × (path g 0 u ≡ Some node)
  pub standard : IsStandardGraph k.presentation.letters g
  pub decides : (u v : Word) → IsOver k.presentation.letters u → Related k u v ↔ SameEnd g u v

-- in a semigroup no nonempty word is related to the empty one
alone : (k : Congruence) (g : Graph) → IsWellFormed k → IsRightGraph k g → k.presentation.is_monoid ≡ false → (u : Word)
    → path g 0 u ≡ Some 0 → u ≡ []
alone k g well is semigroup [] e = refl
alone k g well is semigroup (a ∷ u) e =
    let over = path_over k.presentation.letters g is.graph (a ∷ u) 0 0 e in
    let element = nonempty_element k.presentation.is_monoid k.presentation.letters (a ∷ u) over (λ e. cc) in
    let none = related_element k well (a ∷ u) [] ((is.decides (a ∷ u) [] over).1 (0, e, refl)) element in
    absurd ((subst (λ b. IsElement b k.presentation.letters []) semigroup none).0 refl)

-- it decides the congruence that the right one stands for
pub graph_for : (p : Posed) (g : Graph) → IsWellFormed p.congruence → IsRightGraph (as_right p.congruence) g → IsStandardGraphFor (Presented p) g
graph_for p g well is = (
  record {
    graph = subst (λ n. IsGraph n g) letters is.graph;
    reached = is.reached;
    defined = λ u over.
        let ends = (is.decides u u (back u over)).0 ((related_congruence k).reflexive u) in
        (ends.0, ends.1);
    alone = λ semigroup. alone k g (as_right_well_formed p.congruence well) is (same_empty_word p.congruence ∙ semigroup);
    decides = λ u v left right. (
      λ h. (decides u v left).0 h.related,
      λ e. record { left = left; right = right; related = (decides u v left).1 e },
    );
  },
  subst (λ n. IsStandardGraph n g) letters is.standard,
)
  where
    k : Congruence
    k = as_right p.congruence

    letters : (as_right p.congruence).presentation.letters ≡ p.congruence.presentation.letters
    letters = same_letters p.congruence

    back : (u : Word) → IsOver p.congruence.presentation.letters u → IsOver (as_right p.congruence).presentation.letters u
    back u = subst (λ n. IsOver n u) (sym (same_letters p.congruence))

    decides : (u v : Word) → IsElement p.congruence.presentation.is_monoid p.congruence.presentation.letters u
        → Related p.congruence u v
        ↔ SameEnd g (as_read (are_read_backwards p.congruence.kind p.congruence.pairs) u) (as_read (are_read_backwards p.congruence.kind p.congruence.pairs) v)
    decides u v element =
        let b : Bool = are_read_backwards p.congruence.kind p.congruence.pairs in
        let over = read_over b p.congruence.presentation.letters u (element_over p.congruence.presentation.is_monoid p.congruence.presentation.letters u element) in
        let same = subst₂ (λ x y. Related p.congruence u v ↔ Related (as_right p.congruence) x y) (same_reading p.congruence u) (same_reading p.congruence v) (as_right_related p.congruence u v) in
        let here = is.decides (as_read b u) (as_read b v) (back (as_read b u) over) in
        (λ h. here.0 (same.0 h), λ e. same.1 (here.1 e))
