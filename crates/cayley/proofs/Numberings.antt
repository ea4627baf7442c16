-- The numbering of elements that tables of their generators have.
use Rattle.std.proofs.Common.{◌≡◌, ℕ, Bool, List, length}
use Rattle.theory.specs.Semigroup.{Semigroup, Numbering}
use Rattle.elements.specs.Generators.{HaveOneShape}
use Rattle.elements.proofs.Semigroups.{semigroup_of}
use Rattle.froidure_pin.specs.declared.tables.CayleyTables.{CayleyTables}
use Rattle.cayley.specs.Tables.{edge, word_at}
use Rattle.cayley.specs.Whole.{AreTablesOf}

module _ {V : Type 0} {shape : V → ℕ × ℕ} {product : V → V → V} {equal : V → V → Bool} (generators : List V) (unused : V) (one_shape : HaveOneShape shape generators) where
  abbrev semi : Semigroup shape product equal
  semi = semigroup_of generators unused one_shape

  abbrev pub numbering_of : (t : CayleyTables) → AreTablesOf product equal generators unused t → Numbering semi
  numbering_of t tables = record { count = length t.words; word = word_at t; right = edge t.right; left = edge t.left; numbered = tables.numbered }
