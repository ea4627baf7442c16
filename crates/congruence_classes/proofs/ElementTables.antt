-- The tables and classes of values are those of their relation.
use Rattle.std.proofs.Common.{◌≡◌, ℕ, ◌<◌, Bool, List, length, refl, sym, None}
use Rattle.theory.specs.Word.{Word}
use Rattle.theory.specs.Class.{IsLeast}
use Rattle.theory.specs.Value.{IsProduct, SameValue, SameElement}
use Rattle.theory.specs.Semigroup.{Semigroup}
use Rattle.theory.specs.declared.Kind.{Kind}
use Rattle.theory.proofs.GeneratedLaws.{same_symm}
use Rattle.elements.specs.Generators.{HaveOneShape, value_by}
use Rattle.elements.proofs.Semigroups.{semigroup_of}
use Rattle.froidure_pin.specs.declared.tables.CayleyTables.{CayleyTables}
use Rattle.cayley.specs.Tables.{edge, number_in, word_at}
use Rattle.cayley.specs.Whole.{AreTablesOf, AreClassesOf}
use Rattle.element_tables.specs.CayleyGraphs.{AreCayleyGraphs}
use Rattle.congruence_classes.specs.ElementLists.{AreClassesIn}
use Rattle.congruence_classes.proofs.ListedWords.{listed_ascend, listed_at}

module _ {V : Type 0} {shape : V → ℕ × ℕ} {product : V → V → V} {equal : V → V → Bool}
    (laws : (one : ℕ × ℕ) → IsProduct (λ x. shape x ≡ one) product equal) (generators : List V) (unused : V)
    (t : CayleyTables) (tables : AreTablesOf product equal generators unused t) where
  -- the tables are the Cayley graphs of the values
  pub graphs : AreCayleyGraphs (SameValue (length generators) equal (value_by product generators unused)) (length generators) t.words (edge t.right) (edge t.left)
  graphs = record { listed = tables.listed; on_right = tables.numbered.on_right; on_left = tables.numbered.on_left }

  module _ (shaped : HaveOneShape shape generators) where
    abbrev semi : Semigroup shape product equal
    semi = semigroup_of generators unused shaped

    abbrev Same : Word → Word → Type 0
    Same = SameValue (length generators) equal (value_by product generators unused)

    own_number : (i : ℕ) → i < length t.words → number_in t (word_at t i) ≡ i
    own_number i within =
        let found = tables.every (word_at t i) (tables.numbered.elements i within) in
        sym (tables.numbered.distinct i (number_in t (word_at t i)) within found.0 found.1)

    -- the classes of the numbers are those of the relation
    pub classes_in : (kind : Kind) (pairs : List (Word × Word)) (classes : List ℕ) → AreClassesOf product equal generators unused kind pairs t classes
        → AreClassesIn (SameElement (length generators) equal (value_by product generators unused) kind pairs) (length generators) t classes
    classes_in kind pairs classes are = record {
      fit = tables.fit;
      letters = tables.letters;
      count = are.count;
      below = λ i h. are.least i i h h refl;
      elements = tables.numbered.elements;
      numbers = own_number;
      ascending = λ i j less h. listed_ascend (IsLeast Same) None t.words tables.listed i j less h;
      least = λ u e less.
          let found = tables.every u e in
          (listed_at (IsLeast Same) None t.words tables.listed (number_in t u) found.0).0.none_less u
          (same_symm semi (laws semi.one) u (word_at t (number_in t u)) found.1) less;
      within = λ u e. (tables.every u e).0;
      related = are.related;
    }
