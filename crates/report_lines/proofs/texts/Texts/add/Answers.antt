use Rattle.std.proofs.Common.{◌≡◌, ◌≤◌, ◌++◌, ◌+◌, ◌-◌, ◌∷◌, ◌∙◌, [], ℕ, List, length, slice_index_or, codes, refl, sym, ap, subst, arith}
use Rattle.std.specs.List.{slice_range}
use Rattle.std.proofs.lemmas.Option.{get_or_from_slice_get}
use Rattle.theory.specs.Word.{Word, IsOver}
use Rattle.theory.proofs.Words.{over_right}
use Rattle.words.specs.WordText.{bytes_of}
use Rattle.froidure_pin.specs.Found.{word_or_none}
use Rattle.report_lines.specs.declared.blocks.Block.{Block}
use Rattle.report_lines.specs.Texts.{JoinedTexts, AreTexts}
use Rattle.report_lines.proofs.TextLaws.{joined, slice_kept, texts_more}
use Rattle.report_lines.proofs.texts.Texts.add.Goals as goal

pub byte-requires : goal.byte-requires
byte-requires c =
    let k : ℕ = length c.args.alphabet.now in
    let words : List Word = c.args.words.now in
    let u : Word = word_or_none words c.factors-prefix.result.0 in
    let here : c.self.inside.count ≡ c.args.self.now.count = ap (λ (t : JoinedTexts). t.count) c.self.view_is in
    let over : IsOver k (u ++ c.factors-prefix.result.1 ∷ []) = subst (IsOver k) c.factors-prefix.ensures.word (subst (λ n. IsOver k (slice_index_or words n [])) (sym here) c.requires.over) in
    (over_right k u (c.factors-prefix.result.1 ∷ []) over).0

pub returns-clause-texts : goal.returns-clause-texts
returns-clause-texts c =
    let alphabet : List ℕ = c.args.alphabet.now in
    let words : List Word = c.args.words.now in
    let bytes : List ℕ = c.self.inside.bytes.items in
    let blocks : List Block = c.self.inside.blocks.items in
    let count : ℕ = c.self.inside.count in
    let texts : AreTexts alphabet words (joined bytes blocks count) = subst (λ (t : JoinedTexts). AreTexts alphabet words t) (sym c.self.view_is) c.requires.texts in
    let prefix = c.factors-prefix.result.0 in
    let start : ℕ = c.letters-letters.result.start in
    let end : ℕ = c.letters-letters.result.end in
    let letters : List ℕ = slice_range bytes start end in
    let same : bytes ≡ c.args.self.now.bytes = ap (λ (t : JoinedTexts). t.bytes) c.self.view_is in
    let front : letters ≡ bytes_of alphabet (word_or_none words prefix) = ap (λ (xs : List ℕ). slice_range xs start end) same ∙ c.letters-letters.ensures.letters alphabet words c.requires.texts in
    let within : end ≤ length bytes = omega (arith, c.letters-letters.ensures.within, ap length same) in
    let more : c.extend_from_within.new.self.items ≡ (bytes ++ codes " ") ++ letters =
    c.in_ok-extend_from_within.ensures.items ∙ ap (λ (xs : List ℕ). xs ++ slice_range xs start end) c.in_ok-push.ensures.items
    ∙ ap (λ xs. (bytes ++ codes " ") ++ xs) (slice_kept bytes (codes " ") start end c.letters-letters.ensures.order within) in
    let whole : c.push-2.new.self.items ≡ ((bytes ++ codes " ") ++ letters) ++ c.byte.result ∷ [] = c.in_ok-push-2.ensures.items ∙ ap (λ xs. xs ++ c.byte.result ∷ []) more in
    let place : c.len-place.result ≡ length bytes = omega (arith, c.len-place.ensures) in
    let width : c.len.result - c.len-place.result ≡ length c.push-2.new.self.items - length bytes = omega (arith, c.len.ensures, place) in
    let block : Block = record { first = count; place = c.len-place.result; width = c.len.result - c.len-place.result } in
    subst (λ (bs : List Block). AreTexts alphabet words (joined c.push-2.new.self.items bs (count + 1))) (sym c.in_ok-begin_block.ensures)
    (texts_more alphabet words bytes blocks count texts prefix letters c.factors-prefix.result.1 c.byte.result block c.push-2.new.self.items c.factors-prefix.ensures.word front
    (sym (get_or_from_slice_get alphabet c.factors-prefix.result.1 c.byte.result 0 c.byte.ensures)) whole refl place width)
