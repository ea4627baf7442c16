-- Each refusal excludes the others.
use Rattle.std.proofs.Common.{◌≡◌, ◌↔◌, ℕ, zero, suc, ◌-◌, ◌<◌, ◌≤◌, Bool, true, false, IsTrue, IsFalse, ◌==◌, ◌&&◌, nat_le, nat_lt, get_or, slice_get, List, [], ◌∷◌, ◌++◌, length, Some, None, ◌⊎◌, inl, inr, Result, Ok, Err, IfOk, refl, sym, ap, ◌∙◌, subst, arith, cond, length-append}
use Rattle.std.proofs.lemmas.Grind.{common_steps}
use Rattle.std.proofs.lemmas.Option.{slice_get-get_or}
use Rattle.std.specs.Result.{IsErrAnd}
use Rattle.theory.specs.Word.{Word, IsOver}
use Rattle.words.specs.Alphabet.{IsAlphabet}
use Rattle.words.specs.WordText.{is_empty_text}
use Rattle.word_powers.specs.Powers.{IsBase, IsItem, IsItems, IsWordText, StandsFor, IsLong, IsShort, IsReadable, IsFaultAt, IsStranger, IsStrangeByte, IsOutcome, IsPowerFault, power, Letter, Group, Alone, Power, One, More}
use Rattle.word_powers.specs.PowerSteps.{sign_of, plain_sign, letter_sign}
use Rattle.word_powers.specs.declared.fault.PowerFault.{PowerFault}
use Rattle.word_powers.specs.declared.fault.PowerFault.TheVariants.{EmptyWord, NotInAlphabet, BadPower, TooLong, NoMemory}
use Rattle.word_powers.specs.declared.powers.Sign.{Sign}
use Rattle.word_powers.specs.declared.powers.Sign.TheVariants as sign
use Rattle.words.proofs.TextLaws.{place_below}
use Rattle.word_powers.proofs.PowerFaults.{one_word, one_place}
use Rattle.word_powers.proofs.PowerReads.{IsSign, Spells, Opens, Closes, Raises, Counts, Strange, signs}
use Rattle.word_powers.proofs.PowerKept.{exponent_bounds}

-- ---- words of items

filled_power : (n : ℕ) (u : Word) → 1 ≤ n → 0 < length u → 0 < length (power n u)
filled_power zero u h l = absurd (omega arith)
filled_power (suc n) u h l = let e = length-append (power n u) u in omega arith

mutual
  filled_base : (alphabet : List ℕ) (depth : ℕ) (text : List ℕ) (word : Word) → IsBase alphabet depth text word → 0 < length word
  filled_base alphabet depth text word (Letter _ byte letter e) = omega arith
  filled_base alphabet _ _ word (Group depth text _ items) = filled_items alphabet depth text word items

  filled_item : (alphabet : List ℕ) (depth : ℕ) (text : List ℕ) (word : Word) → IsItem alphabet depth text word → 0 < length word
  filled_item alphabet depth text word (Alone _ _ _ b) = filled_base alphabet depth text word b
  filled_item alphabet depth _ _ (Power _ text word count digits number b e) = filled_power number word (exponent_bounds count digits number e).0 (filled_base alphabet depth text word b)

  filled_items : (alphabet : List ℕ) (depth : ℕ) (text : List ℕ) (word : Word) → IsItems alphabet depth text word → 0 < length word
  filled_items alphabet depth text word (One _ _ _ item) = filled_item alphabet depth text word item
  filled_items alphabet depth _ _ (More _ text word more more_word items item) = let h = filled_items alphabet depth text word items in let e = length-append word more_word in omega arith

over_append : (k : ℕ) (u v : Word) → IsOver k u → IsOver k v → IsOver k (u ++ v)
over_append k [] v p q = q
over_append k (a ∷ u) v p q = (p.0, over_append k u v p.1 q)

over_power : (k n : ℕ) (u : Word) → IsOver k u → IsOver k (power n u)
over_power k zero u p = tt
over_power k (suc n) u p = over_append k (power n u) u (over_power k n u p) p

mutual
  over_base : (alphabet : List ℕ) (depth : ℕ) (text : List ℕ) (word : Word) → IsBase alphabet depth text word → IsOver (length alphabet) word
  over_base alphabet depth text word (Letter _ byte letter e) = (place_below alphabet byte letter e, tt)
  over_base alphabet _ _ word (Group depth text _ items) = over_items alphabet depth text word items

  over_item : (alphabet : List ℕ) (depth : ℕ) (text : List ℕ) (word : Word) → IsItem alphabet depth text word → IsOver (length alphabet) word
  over_item alphabet depth text word (Alone _ _ _ b) = over_base alphabet depth text word b
  over_item alphabet depth _ _ (Power _ text word count digits number b e) = over_power (length alphabet) number word (over_base alphabet depth text word b)

  over_items : (alphabet : List ℕ) (depth : ℕ) (text : List ℕ) (word : Word) → IsItems alphabet depth text word → IsOver (length alphabet) word
  over_items alphabet depth text word (One _ _ _ item) = over_item alphabet depth text word item
  over_items alphabet depth _ _ (More _ text word more more_word items item) = over_append (length alphabet) word more_word (over_items alphabet depth text word items) (over_item alphabet depth more more_word item)

pub word_over : (alphabet text : List ℕ) (word : Word) → IsWordText alphabet text word → IsOver (length alphabet) word
word_over alphabet text word (inl h) = subst (IsOver (length alphabet)) (sym h.1) tt
word_over alphabet text word (inr items) = over_items alphabet 8 text word items

-- the empty word has no other texts
pub filled_word : (alphabet text : List ℕ) (word : Word) → is_empty_text text ≡ false → IsWordText alphabet text word → word ≡ [] → ⊥
filled_word alphabet text word e (inl h) is = let t = h.0 in cc
filled_word alphabet text word e (inr items) is = let h = filled_items alphabet 8 text word items in let l = ap length is in omega arith

-- ---- strangers

other_byte : (byte k : ℕ) → (byte < k) ⊎ (k < byte) → (byte == k) ≡ false
other_byte byte k h = grind (arith, common_steps)

outside : (byte : ℕ) → (byte < 48) ⊎ (57 < byte) → (nat_le 48 byte && nat_le byte 57) ≡ false
outside byte h = grind (arith, common_steps)

pub strange_sign : (alphabet : List ℕ) (byte : ℕ) → IsStrangeByte alphabet byte → sign_of alphabet byte ≡ sign.Stranger
strange_sign alphabet byte s =
    ap (λ o. letter_sign o (plain_sign byte)) s.no_letter
    ∙ by (byte == 40) (byte == 41) (byte == 94) (nat_le 48 byte && nat_le byte 57) (other_byte byte 40 (no_open byte s.no_sign)) (other_byte byte 41 (no_close byte s.no_sign)) (other_byte byte 94 (no_caret byte s.no_sign)) (outside byte s.no_digit)
  where
    no_open : (byte : ℕ) → (byte < 40) ⊎ ((41 < byte) × ((byte < 94) ⊎ (94 < byte))) → (byte < 40) ⊎ (40 < byte)
    no_open byte (inl h) = inl h
    no_open byte (inr h) = inr (let l : 41 < byte = h.0 in omega arith)

    no_close : (byte : ℕ) → (byte < 40) ⊎ ((41 < byte) × ((byte < 94) ⊎ (94 < byte))) → (byte < 41) ⊎ (41 < byte)
    no_close byte (inl h) = inl (omega arith)
    no_close byte (inr h) = inr h.0

    no_caret : (byte : ℕ) → (byte < 40) ⊎ ((41 < byte) × ((byte < 94) ⊎ (94 < byte))) → (byte < 94) ⊎ (94 < byte)
    no_caret byte (inl h) = inl (omega arith)
    no_caret byte (inr h) = h.1

    by : (p q r t : Bool) → p ≡ false → q ≡ false → r ≡ false → t ≡ false → cond p sign.Open (cond q sign.Close (cond r sign.Caret (cond t (sign.Digit (byte - 48)) sign.Stranger))) ≡ sign.Stranger
    by p q r t e f g h = rw (e, f, g, h) refl

pub sign_strange : (alphabet : List ℕ) (byte : ℕ) → sign_of alphabet byte ≡ sign.Stranger → IsStrangeByte alphabet byte
sign_strange alphabet byte e = by byte (sign_of alphabet byte) (signs alphabet byte) e
  where
    by : (b : ℕ) (sg : Sign) → IsSign alphabet b sg → sg ≡ sign.Stranger → IsStrangeByte alphabet b
    by b sg (Spells _ a p) e = absurd (cc)
    by b sg Opens e = absurd (cc)
    by b sg Closes e = absurd (cc)
    by b sg Raises e = absurd (cc)
    by b sg (Counts _ l u) e = absurd (cc)
    by b sg (Strange _ s) e = s

less : (x y : ℕ) → true ≡ nat_lt x y → x < y
less x y e = grind (arith, common_steps)

not_less : (x y : ℕ) → false ≡ nat_lt x y → y ≤ x
not_less x y e = grind (arith, common_steps)

beyond : (xs : List ℕ) (i : ℕ) → length xs ≤ i → slice_get xs i ≡ None
beyond [] i h = refl
beyond (x ∷ xs) zero h = absurd (omega arith)
beyond (x ∷ xs) (suc i) h = beyond xs i (omega arith)

pub no_stranger : (alphabet text : List ℕ) (place byte d : ℕ) → true ≡ nat_lt place (length text) → byte ≡ get_or text place d → (sign_of alphabet byte ≡ sign.Stranger → ⊥) → IsTrue false ↔ IsStranger alphabet text place
no_stranger alphabet text place byte d l e other =
    (λ h. absurd (cc), λ s. absurd (other (strange_sign alphabet byte (subst (IsStrangeByte alphabet) (same_byte s.0 s.1) s.2))))
  where
    some : (x y : ℕ) → Some x ≡ Some y → x ≡ y
    some x y e = cc

    same_byte : (b : ℕ) → slice_get text place ≡ Some b → b ≡ byte
    same_byte b at = some b (get_or text place d) (sym at ∙ slice_get-get_or text place d (less place (length text) l)) ∙ sym e

pub no_byte : (alphabet text : List ℕ) (place : ℕ) → false ≡ nat_lt place (length text) → IsTrue false ↔ IsStranger alphabet text place
no_byte alphabet text place l =
    (λ h. absurd (cc), λ s. absurd (let e = beyond text place (not_less place (length text) l) in let f = s.1 in cc))

-- ---- each refusal excludes the others

clash : (b : Bool) → IsTrue b → IsFalse b → ⊥
clash true t f = cc
clash false t f = cc

empty_word : (alphabet text : List ℕ) → IsTrue (is_empty_text text) → IsWordText alphabet text []
empty_word alphabet text e = inl (e, refl)

read_or_empty : (alphabet text : List ℕ) (allow : Bool) → IsAlphabet alphabet → StandsFor alphabet text (IsReadable allow) → IsTrue (is_empty_text text) → IsFalse allow → ⊥
read_or_empty alphabet text allow a w e f = clash allow (w.2.allowed (one_word alphabet a text w.0 [] w.1 (empty_word alphabet text e))) f

read_or_long : (alphabet text : List ℕ) (allow : Bool) → IsAlphabet alphabet → StandsFor alphabet text (IsReadable allow) → StandsFor alphabet text IsLong → ⊥
read_or_long alphabet text allow a w v =
    let e = ap length (one_word alphabet a text w.0 v.0 w.1 v.1) in
    let s : length w.0 ≤ 4096 = w.2.short in
    let l : 4096 < length v.0 = v.2 in
    omega arith

empty_or_long : (alphabet text : List ℕ) → IsAlphabet alphabet → IsTrue (is_empty_text text) → StandsFor alphabet text IsLong → ⊥
empty_or_long alphabet text a e v =
    let is = ap length (one_word alphabet a text [] v.0 (empty_word alphabet text e) v.1) in
    let l : 4096 < length v.0 = v.2 in
    omega arith

pub ok_word : (alphabet text : List ℕ) (allow : Bool) (result : Result Word PowerFault) → IsOutcome alphabet allow text result → IfOk result (IsWordText alphabet text)
ok_word alphabet text allow (Ok w) o = o.0
ok_word alphabet text allow (Err f) o = tt

pub ok_readable : (alphabet text : List ℕ) (allow : Bool) (result : Result Word PowerFault) → IsOutcome alphabet allow text result → IfOk result (IsReadable allow)
ok_readable alphabet text allow (Ok w) o = o.1
ok_readable alphabet text allow (Err f) o = tt

pub ok_over : (alphabet text : List ℕ) (allow : Bool) (result : Result Word PowerFault) → IsOutcome alphabet allow text result → IfOk result (IsOver (length alphabet))
ok_over alphabet text allow (Ok w) o = word_over alphabet text w o.0
ok_over alphabet text allow (Err f) o = tt

pub told : (alphabet text : List ℕ) (allow : Bool) (result : Result Word PowerFault) (f : PowerFault) → IsOutcome alphabet allow text result → result ≡ Err f → IsPowerFault alphabet allow text f
told alphabet text allow result f o e = subst (IsOutcome alphabet allow text) e o

pub tells_empty : (alphabet text : List ℕ) (allow : Bool) (result : Result Word PowerFault) → IsAlphabet alphabet → IsOutcome alphabet allow text result → IsTrue (is_empty_text text) × IsFalse allow → result ≡ Err EmptyWord
tells_empty alphabet text allow (Ok w) a o h = absurd (read_or_empty alphabet text allow a (w, o.0, o.1) h.0 h.1)
tells_empty alphabet text allow (Err EmptyWord) a o h = refl
tells_empty alphabet text allow (Err (NotInAlphabet p)) a o h = absurd (o.0.no_word [] (empty_word alphabet text h.0))
tells_empty alphabet text allow (Err (BadPower p)) a o h = absurd (o.0.no_word [] (empty_word alphabet text h.0))
tells_empty alphabet text allow (Err TooLong) a o h = absurd (empty_or_long alphabet text a h.0 o)
tells_empty alphabet text allow (Err NoMemory) a o h = absurd (read_or_empty alphabet text allow a o h.0 h.1)

pub tells_stranger : (alphabet text : List ℕ) (allow : Bool) (result : Result Word PowerFault) (place : ℕ) → IsOutcome alphabet allow text result → IsFaultAt alphabet text place × IsStranger alphabet text place → result ≡ Err (NotInAlphabet place)
tells_stranger alphabet text allow (Ok w) place o h = absurd (h.0.no_word w o.0)
tells_stranger alphabet text allow (Err EmptyWord) place o h = absurd (h.0.no_word [] (empty_word alphabet text o.0))
tells_stranger alphabet text allow (Err (NotInAlphabet p)) place o h = ap (λ n. Err (NotInAlphabet n)) (one_place alphabet text p place o.0 h.0)
tells_stranger alphabet text allow (Err (BadPower p)) place o h = absurd (o.1 (subst (IsStranger alphabet text) (one_place alphabet text place p h.0 o.0) h.1))
tells_stranger alphabet text allow (Err TooLong) place o h = absurd (h.0.no_word o.0 o.1)
tells_stranger alphabet text allow (Err NoMemory) place o h = absurd (h.0.no_word o.0 o.1)

pub tells_place : (alphabet text : List ℕ) (allow : Bool) (result : Result Word PowerFault) (place : ℕ) → IsOutcome alphabet allow text result → IsFaultAt alphabet text place × ¬ IsStranger alphabet text place → result ≡ Err (BadPower place)
tells_place alphabet text allow (Ok w) place o h = absurd (h.0.no_word w o.0)
tells_place alphabet text allow (Err EmptyWord) place o h = absurd (h.0.no_word [] (empty_word alphabet text o.0))
tells_place alphabet text allow (Err (NotInAlphabet p)) place o h = absurd (h.1 (subst (IsStranger alphabet text) (one_place alphabet text p place o.0 h.0) o.1))
tells_place alphabet text allow (Err (BadPower p)) place o h = ap (λ n. Err (BadPower n)) (one_place alphabet text p place o.0 h.0)
tells_place alphabet text allow (Err TooLong) place o h = absurd (h.0.no_word o.0 o.1)
tells_place alphabet text allow (Err NoMemory) place o h = absurd (h.0.no_word o.0 o.1)

pub tells_long : (alphabet text : List ℕ) (allow : Bool) (result : Result Word PowerFault) → IsAlphabet alphabet → IsOutcome alphabet allow text result → StandsFor alphabet text IsLong → result ≡ Err TooLong
tells_long alphabet text allow (Ok w) a o h = absurd (read_or_long alphabet text allow a (w, o.0, o.1) h)
tells_long alphabet text allow (Err EmptyWord) a o h = absurd (empty_or_long alphabet text a o.0 h)
tells_long alphabet text allow (Err (NotInAlphabet p)) a o h = absurd (o.0.no_word h.0 h.1)
tells_long alphabet text allow (Err (BadPower p)) a o h = absurd (o.0.no_word h.0 h.1)
tells_long alphabet text allow (Err TooLong) a o h = refl
tells_long alphabet text allow (Err NoMemory) a o h = absurd (read_or_long alphabet text allow a o h)

-- ---- what reading gives

pub read_word_text : (alphabet text : List ℕ) (allow : Bool) (word : Word) → IsAlphabet alphabet → is_empty_text text ≡ false → StandsFor alphabet text IsShort → IsWordText alphabet text word → IsReadable allow word
read_word_text alphabet text allow word a e w is =
    record { short = subst IsShort (one_word alphabet a text w.0 word w.1 is) w.2; allowed = λ none. absurd (filled_word alphabet text word e is none) }

pub memory_out : (alphabet text : List ℕ) (allow : Bool) (result : Result Word PowerFault) → IsAlphabet alphabet → is_empty_text text ≡ false → StandsFor alphabet text IsShort → IsErrAnd result (λ f. f ≡ NoMemory) → IsOutcome alphabet allow text result
memory_out alphabet text allow (Ok w) a e s h = absurd h
memory_out alphabet text allow (Err f) a e s h =
    subst (IsPowerFault alphabet allow text) (sym h) (s.0, s.1, read_word_text alphabet text allow s.0 a e s s.1)
