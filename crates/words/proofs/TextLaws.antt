-- Words that are read and printed.
use Rattle.std.proofs.Common.{◌≡◌, ℕ, ◌+◌, ◌<◌, ◌≤◌, Bool, true, false, ◌==◌, eqb, nat_le, nat_lt, List, [], ◌∷◌, length, get_or, slice_index, Option, Some, None, is_none, position, Ok, Err, refl, sym, ap, ◌∙◌, arith, cond, inl, inr}
use Rattle.std.specs.List.{cons_option, position_from, position_or_len, IsDistinct}
use Rattle.std.proofs.lemmas.Grind.{common_steps}
use Rattle.std.proofs.lemmas.Cmp.{nat_eq_equiv}
use Rattle.std.proofs.lemmas.List.{take_all, length-map}
use Rattle.std.proofs.lemmas.List.Sums.{position_or_len_is}
use Rattle.std.proofs.lemmas.List.Quantifiers.{position-Some}
use Rattle.std.proofs.lemmas.Iterator.Adapters.{position_from-zero}
use Rattle.std.proofs.lemmas.Map.Keys.{apart_from_distinct}
use Rattle.theory.specs.Word.{Word, IsOver}
use Rattle.words.specs.declared.fault.WordFault.TheVariants.{EmptyWord}
use Rattle.words.specs.Alphabet.{IsAlphabet, IsSymbol, place_of}
use Rattle.words.specs.WordText.{most_letters, is_empty_text, first_stranger, letters_of, word_unless, bytes_of, text_of, ReadsBack}

same : (x y : ℕ) → (x == y) ≡ true → x ≡ y
same x y e = grind (arith, common_steps)

-- ---- what is read

pub place_below : (alphabet : List ℕ) (b a : ℕ) → place_of alphabet b ≡ Some a → a < length alphabet
place_below alphabet b a e = (position-Some (λ y. y == b) alphabet a 0 e).0

place_byte : (alphabet : List ℕ) (b a : ℕ) → place_of alphabet b ≡ Some a → slice_index alphabet a ≡ b
place_byte alphabet b a e = same (get_or alphabet a 0) b (position-Some (λ y. y == b) alphabet a 0 e).1

-- what is read is over the alphabet
pub letters_over : (alphabet text : List ℕ) → IsOver (length alphabet) (letters_of alphabet text)
letters_over alphabet [] = tt
letters_over alphabet (b ∷ bs) = by (place_of alphabet b) refl (letters_over alphabet bs)
  where
    by : (o : Option ℕ) → place_of alphabet b ≡ o → IsOver (length alphabet) (letters_of alphabet bs) → IsOver (length alphabet) (cons_option o (letters_of alphabet bs))
    by None e over = over
    by (Some a) e over = (place_below alphabet b a e, over)

letters_bytes : (alphabet text : List ℕ) (i : ℕ) → position_from (λ b. is_none (place_of alphabet b)) i text ≡ None → bytes_of alphabet (letters_of alphabet text) ≡ text
letters_bytes alphabet [] i e = refl
letters_bytes alphabet (b ∷ bs) i e = by (place_of alphabet b) refl e (letters_bytes alphabet bs (i + 1))
  where
    by : (o : Option ℕ) → place_of alphabet b ≡ o → cond (is_none o) (Some i) (position_from (λ b. is_none (place_of alphabet b)) (i + 1) bs) ≡ None → (position_from (λ b. is_none (place_of alphabet b)) (i + 1) bs ≡ None → bytes_of alphabet (letters_of alphabet bs) ≡ bs) → bytes_of alphabet (cons_option o (letters_of alphabet bs)) ≡ b ∷ bs
    by None at e rest = absurd (cc)
    by (Some a) at e rest = let head = place_byte alphabet b a at in let tail = rest e in cc

no_stranger_bytes : (alphabet text : List ℕ) → length text ≤ most_letters → first_stranger alphabet text ≡ None → bytes_of alphabet (letters_of alphabet text) ≡ text
no_stranger_bytes alphabet text h e =
    letters_bytes alphabet text 0
    (sym (position_from-zero (λ b. is_none (place_of alphabet b)) text)
    ∙ ap (position (λ b. is_none (place_of alphabet b))) (sym (take_all most_letters text h))
    ∙ e)

spelled : (alphabet : List ℕ) (word : Word) (text : List ℕ) → is_empty_text text ≡ false → bytes_of alphabet word ≡ text → text_of alphabet word ≡ text
spelled alphabet [] text e h = let empty : text ≡ [] = sym h in absurd (let bad : is_empty_text text ≡ true = rw empty refl in cc)
spelled alphabet (a ∷ u) text e h = h

-- a word that is read from some text has that text
pub read_spells : (alphabet text : List ℕ) (word : Word) → is_empty_text text ≡ false → first_stranger alphabet text ≡ None → length text ≤ most_letters → word ≡ letters_of alphabet text → text_of alphabet word ≡ text
read_spells alphabet text word e o h is = spelled alphabet word text e (ap (bytes_of alphabet) is ∙ no_stranger_bytes alphabet text h o)

-- ---- what is printed

letter_place : (alphabet : List ℕ) (a : ℕ) → IsDistinct eqb alphabet → a < length alphabet → place_of alphabet (slice_index alphabet a) ≡ Some a
letter_place alphabet a distinct h =
    let first : position_or_len (λ y. y == slice_index alphabet a) alphabet ≡ a =
    position_or_len_is (λ y. y == slice_index alphabet a) alphabet a 0 (omega arith)
    (λ k p. apart_from_distinct eqb alphabet k a 0 distinct p h)
    (λ p. nat_eq_equiv.refl (slice_index alphabet a)) in
    found (position_or_len (λ y. y == slice_index alphabet a) alphabet) first
  where
    found : (n : ℕ) → n ≡ a → cond (nat_lt n (length alphabet)) (Some n) None ≡ Some a
    found n e = grind (arith, common_steps)

printed_letters : (alphabet : List ℕ) (word : Word) → IsDistinct eqb alphabet → IsOver (length alphabet) word → letters_of alphabet (bytes_of alphabet word) ≡ word
printed_letters alphabet [] distinct over = refl
printed_letters alphabet (a ∷ u) distinct over =
    let head = letter_place alphabet a distinct over.0 in
    let tail = printed_letters alphabet u distinct over.1 in
    rw (head, tail) refl

printed_known : (alphabet : List ℕ) (word : Word) (i : ℕ) → IsDistinct eqb alphabet → IsOver (length alphabet) word → position_from (λ b. is_none (place_of alphabet b)) i (bytes_of alphabet word) ≡ None
printed_known alphabet [] i distinct over = refl
printed_known alphabet (a ∷ u) i distinct over =
    let head = letter_place alphabet a distinct over.0 in
    rw head (printed_known alphabet u (i + 1) distinct over.1)

no_digit : (b : ℕ) → (b ≡ 49 → ⊥) → (b == 49) ≡ false
no_digit b h = by (b == 49) refl
  where
    by : (t : Bool) → (b == 49) ≡ t → t ≡ false
    by false e = refl
    by true e = absurd (h (same b 49 e))

-- no symbol is the digit 1
no_one : (b : ℕ) → IsSymbol b → (b == 49) ≡ false
no_one b (inl (inl h)) = no_digit b (λ e. omega (arith, e, h.0))
no_one b (inl (inr h)) = no_digit b (λ e. omega (arith, e, h.1))
no_one b (inr h) = no_digit b (λ e. omega (arith, e, h))

not_empty : (alphabet : List ℕ) (a : ℕ) (u : Word) → IsAlphabet alphabet → a < length alphabet → is_empty_text (bytes_of alphabet (a ∷ u)) ≡ false
not_empty alphabet a [] al h = no_one (slice_index alphabet a) (al.sound.all a 0 h)
not_empty alphabet a (b ∷ u) al h = refl

printed_stranger : (alphabet : List ℕ) (word : Word) → IsDistinct eqb alphabet → IsOver (length alphabet) word → length word ≤ most_letters → first_stranger alphabet (bytes_of alphabet word) ≡ None
printed_stranger alphabet word distinct over h =
    let few : length (bytes_of alphabet word) ≤ most_letters = omega (arith, length-map word (λ a. slice_index alphabet a)) in
    ap (position (λ b. is_none (place_of alphabet b))) (take_all most_letters (bytes_of alphabet word) few)
    ∙ position_from-zero (λ b. is_none (place_of alphabet b)) (bytes_of alphabet word)
    ∙ printed_known alphabet word 0 distinct over

few_enough : (n : ℕ) → n ≤ most_letters → nat_le n most_letters ≡ true
few_enough n h = grind (arith, common_steps)

-- what is printed is read
pub prints_back : (alphabet : List ℕ) (word : Word) → IsAlphabet alphabet → IsOver (length alphabet) word → ReadsBack alphabet (text_of alphabet word) word
prints_back alphabet [] al over true h some = refl
prints_back alphabet [] al over false h some = absurd (let bad : false ≡ true = some refl in cc)
prints_back alphabet (a ∷ u) al over allow h some =
    let empty = not_empty alphabet a u al over.0 in
    let stranger = printed_stranger alphabet (a ∷ u) al.sound.distinct over h in
    let long : nat_le (length (bytes_of alphabet (a ∷ u))) most_letters ≡ true = few_enough (length (bytes_of alphabet (a ∷ u))) (omega (arith, length-map (a ∷ u) (λ a. slice_index alphabet a))) in
    whole (is_empty_text (bytes_of alphabet (a ∷ u))) empty (first_stranger alphabet (bytes_of alphabet (a ∷ u))) stranger (nat_le (length (bytes_of alphabet (a ∷ u))) most_letters) long (letters_of alphabet (bytes_of alphabet (a ∷ u))) (printed_letters alphabet (a ∷ u) al.sound.distinct over)
  where
    whole : (x : Bool) → x ≡ false → (o : Option ℕ) → o ≡ None → (b : Bool) → b ≡ true → (w : Word) → w ≡ a ∷ u → cond x (cond allow (Ok []) (Err EmptyWord)) (word_unless o b w) ≡ Ok (a ∷ u)
    whole x e o f b g w is = rw (e, f, g, is) refl
