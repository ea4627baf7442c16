-- Letters as bytes, one after another, and a word piece by piece.
use Rattle.std.proofs.Common.{◌≡◌, ℕ, suc, ◌+◌, ◌*◌, ◌<◌, ◌-◌, List, [], ◌∷◌, ◌++◌, drop, fold, get_or, length, min, slice_set, take, sym, ◌∙◌, ap, arith}
use Rattle.std.proofs.lemmas.List.{length-drop, take_min, take_more, take_more_set}
use Rattle.std.proofs.Math.Seq.{take-length}
use Rattle.std.proofs.lemmas.List.Sums.{fold_push}
use Rattle.words.specs.Pieces.{pieces}

-- one letter more
pub letter_more : (bytes letters : List ℕ) (place byte letter : ℕ) → take place bytes ≡ take place letters → place < length bytes → place < length letters
    → byte ≡ letter → letter ≡ get_or letters place letter → take (place + 1) (slice_set bytes place byte) ≡ take (place + 1) letters
letter_more bytes letters place byte letter so_far room within same is =
    take_more_set bytes place byte room ∙ ap (λ (xs : List ℕ). xs ++ byte ∷ []) so_far ∙ ap (λ n. take place letters ++ n ∷ []) (same ∙ is)
    ∙ sym (take_more letters place letter within)

-- as many letters as a piece has, or all
pub first_letters : (letters : List ℕ) (n : ℕ) → n ≡ min (length letters) 32 → take n letters ≡ take 32 letters
first_letters letters n is = ap (λ k. take k letters) (is ∙ (let other : min (length letters) 32 ≡ min 32 (length letters) = omega arith in other)) ∙ take_min 32 letters

all_behind : (letters : List ℕ) (k : ℕ) → take (length letters - k) (drop k letters) ≡ drop k letters
all_behind letters k = ap (λ n. take n (drop k letters)) (sym (length-drop k letters)) ∙ take-length (drop k letters)

-- one piece more
pub piece_more : {S : Type 0} (write : S → List ℕ → S) (s t u : S) (letters rest : List ℕ) (n next : ℕ) → next ≡ n + 1 → rest ≡ take (length letters - n * 32) (drop (n * 32) letters) → t ≡ fold write s (pieces n letters)
    → u ≡ write t (take 32 rest) → u ≡ fold write s (pieces next letters)
piece_more write s t u letters rest n next follows is so_far written =
    written ∙ ap (λ x. write x (take 32 rest)) so_far ∙ ap (λ (xs : List ℕ). write (fold write s (pieces n letters)) (take 32 xs)) (is ∙ all_behind letters (n * 32))
    ∙ sym (fold_push write s (pieces n letters) (take 32 (drop (n * 32) letters)))
    ∙ ap (λ k. fold write s (pieces k letters)) (let at : suc n ≡ next = omega (arith, follows) in at)
