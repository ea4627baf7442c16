use Rattle.std.proofs.Common.{◌≡◌, ◌*◌, ◌≤◌, take, map, length}
use Rattle.cells.specs.Rows.{flat}
use Rattle.table_texts.specs.TableText.{row_read, texts}
use Rattle.table_texts.proofs.ReadLaws.{GoodRows}
use Rattle.table_texts.proofs.texts.read_rows.Given as goal

abbrev pub invariant-loop-i : goal.invariant-loop-i
invariant-loop-i l = record {
  read : l.entries.items ≡ flat (take l.i (map (row_read (length l.pieces)) (texts l.pieces)));
  long : length l.entries.items ≡ l.i * l.letters;
  good : GoodRows l.letters (map (row_read (length l.pieces)) (texts l.pieces)) l.i;
  few : l.i ≤ 1024;
}
