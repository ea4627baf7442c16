use Rattle.std.proofs.Common.{codes, refl}
use Rattle.ports.proofs.WriteLemmas.{bytes_refused, handed_on, same_bytes}
use Rattle.words.specs.WordText.{text_of}
use Rattle.report_lines.proofs.ListingLemmas.{line_put}
use Rattle.report_lines.proofs.single.write_normal_form.Goals as goal

pub returns-in_err-line : goal.returns-in_err-line
returns-in_err-line g c = handed_on g.O.Sink _ _ _ _ c.from_residual.ensures.1 (bytes_refused g.O.Sink _ c.args.sink.now)

pub returns-in_err-word : goal.returns-in_err-word
returns-in_err-word g c = handed_on g.O.Sink _ _ _ _ c.from_residual-in_err-word.ensures.1 (bytes_refused g.O.Sink _ c.args.sink.now)

pub returns : goal.returns
returns g c = same_bytes g.O.Sink _ _ _ _ _ (line_put (codes "normal ") (text_of c.args.alphabet.now c.args.normal.now) c.in_ok-line.line c.word.new.self (text_of c.args.alphabet.now c.args.normal.now) c.in_ok-line.ensures c.in_ok-word.ensures refl) c.write.ensures
