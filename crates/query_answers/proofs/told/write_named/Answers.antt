use Rattle.std.proofs.Common.{refl}
use Rattle.ports.proofs.WriteLemmas.{bytes_refused, handed_on, same_bytes}
use Rattle.table_texts.specs.TableText.{table_text}
use Rattle.report_lines.proofs.ListingLemmas.{line_put}
use Rattle.query_answers.proofs.told.write_named.Goals as goal

pub returns-in_err-line : goal.returns-in_err-line
returns-in_err-line g c = handed_on g.O.Sink _ _ _ _ c.from_residual.ensures.1 (bytes_refused g.O.Sink _ c.args.sink.now)

pub returns-in_err-table : goal.returns-in_err-table
returns-in_err-table g c = handed_on g.O.Sink _ _ _ _ c.from_residual-in_err-table.ensures.1 (bytes_refused g.O.Sink _ c.args.sink.now)

pub returns : goal.returns
returns g c =
    same_bytes g.O.Sink _ _ _ _ _ (line_put c.args.name.now (table_text c.args.table.now) c.in_ok-line.line c.table.new.self (table_text c.args.table.now) c.in_ok-line.ensures c.in_ok-table.ensures refl) c.write.ensures
