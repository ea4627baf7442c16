use Rattle.std.proofs.Common.{◌≡◌, ◌++◌, ◌+◌, ◌*◌, [], ℕ, take, List, length, map, get_or, ◌<◌, ap, sym, ◌∙◌, subst, arith}
use Rattle.std.specs.Prelude.{Option}
use Rattle.std.specs.Borrow.{Bor}
use Rattle.std.proofs.Math.Nat.{suc-mul}
use Rattle.std.proofs.lemmas.List.{length-append, take_all}
use Rattle.cells.specs.Rows.{flat}
use Rattle.cells.proofs.CellLaws.{flat_more}
use Rattle.table_texts.specs.TableText.{texts, row_read, IsLeastFault}
use Rattle.table_texts.proofs.ReadLaws.{cell_at, cells_long, cells_more, rows_more, least_in, least_long, no_fault}
use Rattle.table_texts.proofs.texts.read_rows.Goals as goal

abbrev lent : Bor (List ℕ)
lent = record { ref_ptr = (0, 0); now = [] }

pub returns-then-i-eq-MOST_ROWS-clause-bad : goal.returns-then-i-eq-MOST_ROWS-clause-bad
returns-then-i-eq-MOST_ROWS-clause-bad c = λ place e.
    let f = row_read (length c.args.pieces.now) in
    let cells : List (List (Option ℕ)) = map f (texts c.args.pieces.now) in
    let full : c.loop-i.i ≡ 1024 = c.if-i-eq-MOST_ROWS.true in
    let at : length c.loop-i.entries.items ≡ place = cc in
    let same : 1024 * c.args.letters ≡ place = ap (λ i. i * c.args.letters) (sym full) ∙ sym c.loop-i.invariant.long ∙ at in
    let long : 1024 < length cells = omega (arith, cells_long f c.args.pieces.now, c.loop-i-test.true, full) in
    subst (IsLeastFault c.args.letters cells) same (least_long c.args.letters cells (λ r d h. c.loop-i.invariant.good r d (omega (arith, full, h))) long)

pub returns-in-Err-clause-bad : goal.returns-in-Err-clause-bad
returns-in-Err-clause-bad c = λ place e.
    let f = row_read (length c.args.pieces.now) in
    let cells : List (List (Option ℕ)) = map f (texts c.args.pieces.now) in
    let i : ℕ = c.loop-i.i in
    let bad = c.in-Err.ensures.bad place cc in
    let same : i * c.args.letters + bad.0 ≡ place = ap (λ n. n + bad.0) (sym c.loop-i.invariant.long) ∙ sym bad.1 in
    subst (IsLeastFault c.args.letters cells) same (least_in c.args.letters cells i bad.0 _ c.loop-i.invariant.good (cell_at f c.args.pieces.now i lent c.loop-i-test.true) bad.2 (omega (arith, c.loop-i.invariant.few, c.if-i-eq-MOST_ROWS.false)))

pub loop-i-preserved : goal.loop-i-preserved
loop-i-preserved c =
    let f = row_read (length c.args.pieces.now) in
    let cells : List (List (Option ℕ)) = map f (texts c.args.pieces.now) in
    let i : ℕ = c.loop-i.i in
    let inv = c.loop-i.invariant in
    let row : List (Option ℕ) = f (get_or c.args.pieces.now i lent).now in
    let more : c.read_row.new.entries.items ≡ c.loop-i.entries.items ++ row = c.in-Ok.ensures.ok in
    record {
      read = more ∙ ap (λ t. t ++ row) inv.read ∙ flat_more (take i cells) row ∙ ap flat (cells_more f c.args.pieces.now i lent c.loop-i-test.true);
      long = ap length more ∙ length-append c.loop-i.entries.items row ∙ (let size : length c.loop-i.entries.items + length row ≡ (i + 1) * c.args.letters = omega (arith, inv.long, c.in-Ok.ensures.good.width, suc-mul i c.args.letters) in size);
      good = rows_more c.args.letters cells i _ inv.good (cell_at f c.args.pieces.now i lent c.loop-i-test.true) c.in-Ok.ensures.good;
      few = omega (arith, inv.few, c.if-i-eq-MOST_ROWS.false);
    }

pub returns-clause-ok : goal.returns-clause-ok
returns-clause-ok c =
    let f = row_read (length c.args.pieces.now) in
    let cells : List (List (Option ℕ)) = map f (texts c.args.pieces.now) in
    c.loop-i.invariant.read ∙ ap flat (take_all c.loop-i.i cells (omega (arith, cells_long f c.args.pieces.now, c.loop-i-test.false)))

pub returns-clause-good : goal.returns-clause-good
returns-clause-good c =
    let f = row_read (length c.args.pieces.now) in
    let cells : List (List (Option ℕ)) = map f (texts c.args.pieces.now) in
    no_fault c.args.letters cells c.loop-i.i c.loop-i.invariant.good (omega (arith, cells_long f c.args.pieces.now)) (omega (arith, cells_long f c.args.pieces.now, c.loop-i.invariant.few))
