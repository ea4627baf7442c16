use Rattle.std.proofs.Common.{◌≡◌, ◌++◌, OnOk, codes, decimal, subst₂}
use Rattle.words.specs.WordText.{text_of}
use Rattle.report_lines.proofs.GraphLemmas.{row_word_over}
use Rattle.report_lines.proofs.ListingLemmas.{put_behind}
use Rattle.report_lines.proofs.graphs.put_element.Goals as goal

pub word-requires-2 : goal.word-requires-2
word-requires-2 c =
    row_word_over c.args.problem.now c.args.tables.now c.requires.tables c.args.number c.requires.number c.alphabet.result.now c.in_ok-word.field-0
    c.alphabet.ensures.letters c.alphabet.ensures.one_each c.in_ok-word.ensures

pub returns : goal.returns
returns c =
    let line = c.word-3.new.self in
    put_behind c.word-3.result c.args.line.now (decimal c.args.number) c.number.new.self _ line c.in_ok-number.ensures
    (put_behind c.word-3.result c.number.new.self (codes " ") c.text.new.self _ line c.in_ok-text.ensures
    (subst₂ (λ letters word. OnOk c.word-3.result (line ≡ c.text.new.self ++ text_of letters word)) c.alphabet.ensures.letters c.in_ok-word.ensures c.word-3.ensures))
