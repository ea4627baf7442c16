use Rattle.std.proofs.Common.{codes}
use Rattle.ports.proofs.WriteLemmas.{bytes_refused, handed_on, same_bytes}
use Rattle.words.specs.WordText.{text_of}
use Rattle.report_lines.proofs.ListingLemmas.{both_put}
use Rattle.report_lines.proofs.listings.write_rule.Goals as goal

pub returns-in_err-line : goal.returns-in_err-line
returns-in_err-line g c = handed_on g.O.Sink _ _ _ _ c.from_residual.ensures.1 (bytes_refused g.O.Sink _ c.args.sink.now)

pub returns-in_err-text : goal.returns-in_err-text
returns-in_err-text g c = handed_on g.O.Sink _ _ _ _ c.from_residual-in_err-text.ensures.1 (bytes_refused g.O.Sink _ c.args.sink.now)

pub returns-in_err-word : goal.returns-in_err-word
returns-in_err-word g c = handed_on g.O.Sink _ _ _ _ c.from_residual-in_err-word.ensures.1 (bytes_refused g.O.Sink _ c.args.sink.now)

pub returns : goal.returns
returns g c =
    same_bytes g.O.Sink _ _ _ _ _
    (both_put (text_of c.args.alphabet.now c.args.rule.now.0) (codes " ") (text_of c.args.alphabet.now c.args.rule.now.1) c.in_ok-line.line c.text.new.self c.word.new.self c.in_ok-line.ensures c.in_ok-text.ensures c.in_ok-word.ensures) c.write.ensures
