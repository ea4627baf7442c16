use Rattle.std.proofs.Common.{codes, decimal, refl}
use Rattle.ports.proofs.WriteLemmas.{bytes_refused, handed_on, same_bytes}
use Rattle.report_lines.proofs.ListingLemmas.{line_put}
use Rattle.report_lines.proofs.single.write_over.Goals as goal

pub returns-in_err-line : goal.returns-in_err-line
returns-in_err-line g c = handed_on g.O.Sink _ _ _ _ c.from_residual.ensures.1 (bytes_refused g.O.Sink _ c.args.sink.now)

pub returns-in_err-number : goal.returns-in_err-number
returns-in_err-number g c = handed_on g.O.Sink _ _ _ _ c.from_residual-in_err-number.ensures.1 (bytes_refused g.O.Sink _ c.args.sink.now)

pub returns : goal.returns
returns g c = same_bytes g.O.Sink _ _ _ _ _ (line_put (codes "index over ") (decimal c.args.bound) c.in_ok-line.line c.number.new.self (decimal c.args.bound) c.in_ok-line.ensures c.in_ok-number.ensures refl) c.write.ensures
