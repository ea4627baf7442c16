use Rattle.std.proofs.Common.{◌≡◌, ℕ, map, take, ◌<◌, All, slice_get, Some}
use Rattle.elements.specs.declared.field.Field.{Field}
use Rattle.elements.specs.Fields.{IsBelow, IsBelowOrDash, field_of}
use Rattle.elements.proofs.entries.read_optional.Given as goal

abbrev pub invariant-loop-i : goal.invariant-loop-i
invariant-loop-i l = record {
  entries : map field_of l.entries.items ≡ take l.i l.fields;
  in_range : All (IsBelow l.limit) l.entries.items;
  before : (k : ℕ) (f : Field) → k < l.i → slice_get l.fields k ≡ Some f → IsBelowOrDash l.limit f;
}
