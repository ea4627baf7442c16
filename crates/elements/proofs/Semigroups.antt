-- The semigroup of generators in a list.
use Rattle.std.proofs.Common.{◌≡◌, ℕ, Bool, List, length, slice_index_or, arith}
use Rattle.theory.specs.Semigroup.{Semigroup}
use Rattle.elements.specs.Generators.{HaveOneShape}

abbrev pub semigroup_of : {V : Type 0} {shape : V → ℕ × ℕ} {product : V → V → V} {equal : V → V → Bool} (generators : List V) (unused : V) → HaveOneShape shape generators
    → Semigroup shape product equal
semigroup_of {shape = shape} generators unused one_shape = record {
  letters = length generators;
  generator = λ a. slice_index_or generators a unused;
  unused = unused;
  one = shape (slice_index_or generators 0 unused);
  shaped = λ a h. one_shape a 0 unused h (omega (arith, h));
}
