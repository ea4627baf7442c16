use Rattle.std.proofs.Common.{ℕ, List, [], ◌∷◌, ◌++◌, map, false, ap, ◌∙◌, arith}
use Rattle.ports.proofs.WriteLemmas.{handed_on, no_bytes, same_bytes}
use Rattle.theory.specs.Word.{Word}
use Rattle.froidure_pin.proofs.OneShape.{get_any}
use Rattle.report_lines.specs.LineBytes.{bytes_of}
use Rattle.report_lines.specs.Lines.{word_line, end_line}
use Rattle.report_lines.proofs.ListingLemmas.{more_lines, line_begun, lines_done, listing_begun, listing_ended}
use Rattle.report_lines.proofs.listings.write_words.Goals as goal

pub loop-word-init : goal.loop-word-init
loop-word-init g c = no_bytes g.O.Sink c.args.sink.now

pub loop-word-preserved : goal.loop-word-preserved
loop-word-preserved g c =
    let f : Word → List ℕ = word_line c.args.alphabet.now in
    let words : List Word = c.deref-word-items.result.now in
    let none : Word = [] in
    let line = ap f (c.word-item.is ∙ get_any words c.loop-word.word-index c.word-item.result none c.loop-word-test.true) in
    more_lines f words g.O.Sink c.loop-word.word-index _ c.loop-word.sink c.loop-word.invariant none _ c.loop-word-test.true
    (same_bytes g.O.Sink _ _ _ _ _ line c.in_ok-write_word.ensures)

pub returns-in_err-write_word : goal.returns-in_err-write_word
returns-in_err-write_word g c =
    let f : Word → List ℕ = word_line c.args.alphabet.now in
    let words : List Word = c.deref-word-items.result.now in
    let none : Word = [] in
    let line = ap f (c.word-item.is ∙ get_any words c.loop-word.word-index c.word-item.result none c.loop-word-test.true) in
    let all = ap (λ rs. bytes_of (map f rs ++ end_line false ∷ [])) c.deref-word-items.ensures.value in
    handed_on g.O.Sink _ _ _ _ c.from_residual.ensures.1
    (same_bytes g.O.Sink _ _ _ _ _ all
    (listing_begun g.O.Sink f words (end_line false) _ _ _
    (line_begun f words g.O.Sink c.loop-word.word-index _ c.loop-word.sink c.loop-word.invariant none _ _ c.loop-word-test.true
    (same_bytes g.O.Sink _ _ _ _ _ line c.in_err-write_word.ensures))))

pub returns : goal.returns
returns g c =
    let f : Word → List ℕ = word_line c.args.alphabet.now in
    let words : List Word = c.deref-word-items.result.now in
    let all = ap (λ rs. bytes_of (map f rs ++ end_line false ∷ [])) c.deref-word-items.ensures.value in
    same_bytes g.O.Sink _ _ _ _ _ all
    (listing_ended g.O.Sink f words (end_line false) _ c.loop-word.sink _ _
    (lines_done f words g.O.Sink c.loop-word.word-index _ _ c.loop-word.invariant (omega (arith, c.loop-word-test.false))) c.write_end.ensures.bytes)
