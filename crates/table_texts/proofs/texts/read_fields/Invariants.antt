use Rattle.std.proofs.Common.{◌≡◌, ◌≢◌, ◌++◌, ℕ, ◌<◌, ◌≤◌, take, map, slice_get}
use Rattle.std.specs.Prelude.{Some, None}
use Rattle.table_texts.specs.TableText.{target_read, texts}
use Rattle.table_texts.proofs.texts.read_fields.Given as goal

abbrev pub invariant-loop-place : goal.invariant-loop-place
invariant-loop-place l = record {
  read : l.entries.items ≡ l.initial.entries.items ++ take l.place (map (target_read l.nodes) (texts l.fields));
  good : (i : ℕ) → i < l.place → slice_get (map (target_read l.nodes) (texts l.fields)) i ≢ Some None;
  few : l.place ≤ l.letters;
}
