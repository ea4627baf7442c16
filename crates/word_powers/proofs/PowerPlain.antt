-- Words without powers are words with powers.
use Rattle.std.proofs.Common.{◌≡◌, ℕ, ◌+◌, ◌≤◌, Bool, true, false, nat_le, List, [], ◌∷◌, ◌++◌, length, Option, Some, None, is_none, position, Ok, Err, inl, inr, refl, sym, ap, ◌∙◌, subst, arith, cond, append_assoc, append-nil}
use Rattle.std.specs.List.{cons_option, position_from}
use Rattle.std.proofs.lemmas.Grind.{common_steps}
use Rattle.std.proofs.lemmas.List.{take_all}
use Rattle.std.proofs.lemmas.Iterator.Adapters.{position_from-zero}
use Rattle.theory.specs.Word.{Word}
use Rattle.words.specs.Alphabet.{place_of}
use Rattle.words.specs.WordText.{most_letters, is_empty_text, first_stranger, letters_of, word_of, word_unless}
use Rattle.word_powers.specs.Powers.{IsWordText, Letter, Alone}
use Rattle.words.specs.declared.fault.WordFault.TheVariants.{EmptyWord}
use Rattle.word_powers.proofs.PowerTexts.{IsSeq, Nothing, Something, seq_item}

letters_seq : (alphabet text before : List ℕ) (word : Word) (i : ℕ) → position_from (λ b. is_none (place_of alphabet b)) i text ≡ None → IsSeq alphabet 8 before word → IsSeq alphabet 8 (before ++ text) (word ++ letters_of alphabet text)
letters_seq alphabet [] before word i e seq = rw (append-nil before, append-nil word) seq
letters_seq alphabet (b ∷ bs) before word i e seq = by (place_of alphabet b) refl e (λ w. letters_seq alphabet bs (before ++ b ∷ []) w (i + 1))
  where
    by : (o : Option ℕ) → place_of alphabet b ≡ o → cond (is_none o) (Some i) (position_from (λ b. is_none (place_of alphabet b)) (i + 1) bs) ≡ None → ((w : Word) → position_from (λ b. is_none (place_of alphabet b)) (i + 1) bs ≡ None → IsSeq alphabet 8 (before ++ b ∷ []) w → IsSeq alphabet 8 ((before ++ b ∷ []) ++ bs) (w ++ letters_of alphabet bs)) → IsSeq alphabet 8 (before ++ b ∷ bs) (word ++ cons_option o (letters_of alphabet bs))
    by None at e rest = absurd (cc)
    by (Some a) at e rest =
        let items = seq_item alphabet 8 before word (b ∷ []) (a ∷ []) seq (Alone 8 (b ∷ []) (a ∷ []) (Letter 8 b a at)) in
        let more = rest (word ++ a ∷ []) e (Something 8 (before ++ b ∷ []) (word ++ a ∷ []) items) in
        subst (λ t. IsSeq alphabet 8 t (word ++ a ∷ letters_of alphabet bs)) (append_assoc before (b ∷ []) bs)
        (subst (IsSeq alphabet 8 ((before ++ b ∷ []) ++ bs)) (append_assoc word (a ∷ []) (letters_of alphabet bs)) more)

seq_word : (alphabet text : List ℕ) (word : Word) → is_empty_text text ≡ false → IsSeq alphabet 8 text word → IsWordText alphabet text word
seq_word alphabet text word e (Nothing _) = absurd (cc)
seq_word alphabet text word e (Something _ _ _ items) = inr items

short : (n : ℕ) → nat_le n most_letters ≡ true → n ≤ most_letters
short n e = grind (arith, common_steps)

pub plain_word : (alphabet text : List ℕ) (allow_empty : Bool) (word : Word) → word_of alphabet allow_empty text ≡ Ok word → IsWordText alphabet text word
plain_word alphabet text allow_empty word e = by (is_empty_text text) refl e
  where
    empty : (allow : Bool) → cond allow (Ok []) (Err EmptyWord) ≡ Ok word → word ≡ []
    empty true e = cc
    empty false e = absurd (cc)

    whole : (o : Option ℕ) (fits : Bool) (w : Word) → first_stranger alphabet text ≡ o → nat_le (length text) most_letters ≡ fits → word_unless o fits w ≡ Ok word → (first_stranger alphabet text ≡ None) × (nat_le (length text) most_letters ≡ true) × (w ≡ word)
    whole (Some place) fits w f g e = absurd (cc)
    whole None true w f g e = (f, g, cc)
    whole None false w f g e = absurd (cc)

    by : (b : Bool) → is_empty_text text ≡ b → cond b (cond allow_empty (Ok []) (Err EmptyWord)) (word_unless (first_stranger alphabet text) (nat_le (length text) most_letters) (letters_of alphabet text)) ≡ Ok word → IsWordText alphabet text word
    by true b e = inl (b, empty allow_empty e)
    by false b e =
        let h = whole (first_stranger alphabet text) (nat_le (length text) most_letters) (letters_of alphabet text) refl refl e in
        let known : position_from (λ b. is_none (place_of alphabet b)) 0 text ≡ None =
        sym (position_from-zero (λ b. is_none (place_of alphabet b)) text)
        ∙ ap (position (λ b. is_none (place_of alphabet b))) (sym (take_all most_letters text (short (length text) h.1)))
        ∙ h.0 in
        subst (IsWordText alphabet text) h.2 (seq_word alphabet text (letters_of alphabet text) b (letters_seq alphabet text [] [] 0 known (Nothing 8)))
