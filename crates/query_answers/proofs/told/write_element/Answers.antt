use Rattle.std.proofs.Common.{codes, ◌∙◌}
use Rattle.ports.proofs.WriteLemmas.{bytes_refused, handed_on, same_bytes}
use Rattle.problem.specs.Problem.{value_text}
use Rattle.report_lines.proofs.ListingLemmas.{line_put}
use Rattle.query_answers.proofs.told.write_element.Goals as goal

pub returns-in_err-entries : goal.returns-in_err-entries
returns-in_err-entries g c = handed_on g.O.Sink _ _ _ _ c.from_residual.ensures.1 (bytes_refused g.O.Sink _ c.args.sink.now)

pub returns-in_err-line : goal.returns-in_err-line
returns-in_err-line g c = handed_on g.O.Sink _ _ _ _ c.from_residual-in_err-line.ensures.1 (bytes_refused g.O.Sink _ c.args.sink.now)

pub returns-in_err-text : goal.returns-in_err-text
returns-in_err-text g c = handed_on g.O.Sink _ _ _ _ c.from_residual-in_err-text.ensures.1 (bytes_refused g.O.Sink _ c.args.sink.now)

pub returns : goal.returns
returns g c =
    same_bytes g.O.Sink _ _ _ _ _ (line_put (codes "element ") (value_text c.args.problem.now c.args.word.now) c.in_ok-line.line c.text.new.self c.as_slice.result.now c.in_ok-line.ensures c.in_ok-text.ensures (c.as_slice.ensures.value ∙ c.in_ok-entries.ensures)) c.write.ensures
