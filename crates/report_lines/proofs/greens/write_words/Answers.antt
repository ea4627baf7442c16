use Rattle.std.proofs.Common.{ℕ, List, [], false, get_or, slice_index_or, ap, ◌∙◌, arith}
use Rattle.ports.proofs.WriteLemmas.{handed_on, same_bytes}
use Rattle.problem.specs.Problem.{letters_of}
use Rattle.report_lines.specs.Lines.{end_line, word_line}
use Rattle.report_lines.proofs.GraphLemmas.{row_word_over}
use Rattle.report_lines.proofs.ListingLemmas.{line_begun, lines_begun, lines_done, listing_begun, listing_ended}
use Rattle.report_lines.proofs.greens.write_words.Goals as goal

pub returns-in_err-word : goal.returns-in_err-word
returns-in_err-word g c =
    let f : ℕ → List ℕ = λ i. word_line (letters_of c.args.problem.now) (slice_index_or c.args.tables.now.words i []) in
    let numbers : List ℕ = c.args.numbers.now in
    handed_on g.O.Sink _ _ _ _ c.from_residual.ensures.1
    (listing_begun g.O.Sink f numbers (end_line false) _ _ _ (lines_begun f numbers g.O.Sink c.loop-number.number-index _ _ c.loop-number.invariant))

pub returns-in_err-write_word : goal.returns-in_err-write_word
returns-in_err-write_word g c =
    let f : ℕ → List ℕ = λ i. word_line (letters_of c.args.problem.now) (slice_index_or c.args.tables.now.words i []) in
    let numbers : List ℕ = c.args.numbers.now in
    let line = ap (λ ls. word_line ls c.in_ok-word.word) c.alphabet.ensures.letters ∙ ap (word_line (letters_of c.args.problem.now)) c.in_ok-word.ensures in
    handed_on g.O.Sink _ _ _ _ c.from_residual-in_err-write_word.ensures.1
    (listing_begun g.O.Sink f numbers (end_line false) _ _ _
    (line_begun f numbers g.O.Sink c.loop-number.number-index _ c.loop-number.sink c.loop-number.invariant 0 _ _ c.loop-number-test.true
    (same_bytes g.O.Sink _ _ _ _ _ line c.in_err-write_word.ensures)))

pub returns : goal.returns
returns g c =
    let f : ℕ → List ℕ = λ i. word_line (letters_of c.args.problem.now) (slice_index_or c.args.tables.now.words i []) in
    let numbers : List ℕ = c.args.numbers.now in
    listing_ended g.O.Sink f numbers (end_line false) _ c.loop-number.sink _ _
    (lines_done f numbers g.O.Sink c.loop-number.number-index _ _ c.loop-number.invariant (omega (arith, c.loop-number-test.false))) c.write_end.ensures.bytes

pub write_word-requires : goal.write_word-requires
write_word-requires g c =
    let i : ℕ = c.loop-number.number-index in
    row_word_over c.args.problem.now c.args.tables.now c.requires.tables (get_or c.args.numbers.now i 0) (c.requires.numbers i 0 c.loop-number-test.true)
    c.alphabet.result.now c.in_ok-word.word c.alphabet.ensures.letters c.alphabet.ensures.one_each c.in_ok-word.ensures
