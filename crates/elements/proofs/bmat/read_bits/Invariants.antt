use Rattle.std.proofs.Common.{◌≡◌, ℕ, map, take, ◌<◌, length, slice_get, Some}
use Rattle.elements.specs.declared.field.Field.{Field}
use Rattle.elements.specs.BMat.{IsBit, field_of_bit}
use Rattle.elements.proofs.bmat.read_bits.Given as goal

abbrev pub invariant-loop-i : goal.invariant-loop-i
invariant-loop-i l = record {
  entries : map field_of_bit l.entries.items ≡ take l.i l.fields;
  count : length l.entries.items ≡ l.i;
  before : (k : ℕ) (f : Field) → k < l.i → slice_get l.fields k ≡ Some f → IsBit f;
}
