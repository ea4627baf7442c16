-- The letters and the bytes of a word, one by one.
use Rattle.std.proofs.Common.{◌≡◌, ℕ, zero, suc, ◌+◌, ◌<◌, List, [], ◌∷◌, ◌++◌, length, take, get_or, append-nil, slice_get, slice_index, Some, None, sym, ap, ◌∙◌, arith}
use Rattle.std.proofs.lemmas.List.{take_more, map-append}
use Rattle.std.proofs.lemmas.List.Elements.{filter_map-append}
use Rattle.std.specs.List.{cons_option}
use Rattle.theory.specs.Word.{Word, IsOver}
use Rattle.words.specs.Alphabet.{place_of}
use Rattle.words.specs.WordText.{letters_of, bytes_of}

pub over_at : (k : ℕ) (u : Word) (i d : ℕ) → IsOver k u → i < length u → get_or u i d < k
over_at k [] i d over h = absurd (omega arith)
over_at k (a ∷ u) zero d over h = over.0
over_at k (a ∷ u) (suc i) d over h = over_at k u i d over.1 (omega arith)

-- one byte more, which is a letter or not
letters_more : (alphabet text : List ℕ) (i d : ℕ) → i < length text → letters_of alphabet (take (i + 1) text) ≡ letters_of alphabet (take i text) ++ cons_option (place_of alphabet (get_or text i d)) []
letters_more alphabet text i d h =
    ap (letters_of alphabet) (take_more text i d h) ∙ filter_map-append (place_of alphabet) (take i text) (get_or text i d ∷ [])

pub letter_more : (alphabet text : List ℕ) (i d a : ℕ) (before : Word) → i < length text → before ≡ letters_of alphabet (take i text) → place_of alphabet (get_or text i d) ≡ Some a → before ++ a ∷ [] ≡ letters_of alphabet (take (i + 1) text)
letter_more alphabet text i d a before h e at =
    ap (λ w. w ++ a ∷ []) e ∙ sym (letters_more alphabet text i d h ∙ ap (λ o. letters_of alphabet (take i text) ++ cons_option o []) at)

pub no_letter_more : (alphabet text : List ℕ) (i d : ℕ) (before : Word) → i < length text → before ≡ letters_of alphabet (take i text) → place_of alphabet (get_or text i d) ≡ None → before ≡ letters_of alphabet (take (i + 1) text)
no_letter_more alphabet text i d before h e at =
    e ∙ sym (letters_more alphabet text i d h ∙ ap (λ o. letters_of alphabet (take i text) ++ cons_option o []) at ∙ append-nil (letters_of alphabet (take i text)))

-- one letter more
pub byte_more : (alphabet : List ℕ) (word : Word) (i d byte : ℕ) (before after : List ℕ) → i < length word → before ≡ bytes_of alphabet (take i word) → slice_get alphabet (get_or word i d) ≡ Some byte → after ≡ before ++ byte ∷ [] → after ≡ bytes_of alphabet (take (i + 1) word)
byte_more alphabet word i d byte before after h e at is =
    is
    ∙ ap (λ t. t ++ byte ∷ []) e
    ∙ sym (ap (bytes_of alphabet) (take_more word i d h)
    ∙ map-append (λ a. slice_index alphabet a) (take i word) (get_or word i d ∷ [])
    ∙ ap (λ b. bytes_of alphabet (take i word) ++ b ∷ []) (index alphabet (get_or word i d) byte at))
  where
    index : (xs : List ℕ) (k byte : ℕ) → slice_get xs k ≡ Some byte → slice_index xs k ≡ byte
    index [] k byte at = cc
    index (x ∷ xs) zero byte at = cc
    index (x ∷ xs) (suc k) byte at = index xs k byte at
