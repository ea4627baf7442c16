use Rattle.std.proofs.Common.{ℕ, List, [], ◌+◌, ◌∙◌, Option, IfSome, slice_index_or, sym, ap, subst}
use Rattle.std.specs.List.{slice_range}
use Rattle.theory.specs.Word.{Word}
use Rattle.words.specs.WordText.{bytes_of, text_of}
use Rattle.froidure_pin.specs.Found.{word_or_none}
use Rattle.report_lines.specs.declared.blocks.Block.{Block}
use Rattle.report_lines.specs.Blocks.{block_at, place_in}
use Rattle.report_lines.specs.Texts.{IsInBlock}
use Rattle.report_lines.proofs.TextLaws.{text_bytes, text_letters}
use Rattle.report_lines.proofs.texts.Texts.letters.Goals as goal

pub returns-in-Some-clause-letters : goal.returns-in-Some-clause-letters
returns-in-Some-clause-letters c alphabet words t =
    let bytes : List ℕ = c.args.self.now.bytes in
    let number : ℕ = c.in-Some.number in
    let word : Word = slice_index_or words number [] in
    let its : IsInBlock c.args.self.now c.args.block number = subst (λ (o : Option ℕ). IfSome o (IsInBlock c.args.self.now c.args.block)) c.in-Some.is c.requires.number in
    let block : Block = block_at c.args.self.now.blocks c.args.block in
    let end = c.place-place.ensures.end ∙ ap (λ s. s + block.width) c.place-place.ensures.start in
    ap (λ s. slice_range bytes (s + 1) c.place-place.result.end) c.place-place.ensures.start
    ∙ ap (slice_range bytes (place_in block number + 1)) end
    ∙ text_letters bytes (text_of alphabet word) block number (t.text c.args.block number its)
    ∙ text_bytes alphabet words word (t.some number its.counted)
    ∙ ap (λ (o : Option ℕ). bytes_of alphabet (word_or_none words o)) (sym c.in-Some.is)
