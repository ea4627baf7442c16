-- A word's text, byte by byte.
use Rattle.std.proofs.Common.{◌≡◌, ℕ, suc, ◌+◌, ◌*◌, ◌-◌, ◌<◌, ◌≤◌, Bool, true, false, IsTrue, ◌==◌, ◌&&◌, nat_lt, nat_le, List, [], ◌∷◌, ◌++◌, length, Option, Some, None, ◌⊎◌, inl, inr, refl, sym, ap, ◌∙◌, subst, arith, cond, append_assoc}
use Rattle.std.proofs.lemmas.Grind.{common_steps}
use Rattle.theory.specs.Word.{Word}
use Rattle.words.specs.Alphabet.{IsAlphabet, place_of}
use Rattle.word_powers.specs.Powers.{IsBase, IsItem, IsItems, IsExponent, IsWordText, power, Letter, Group, Alone, Power, One, More, First, Next}
use Rattle.word_powers.specs.PowerSteps.{State, value, done, outset, enter, entered, next, step, go, run, sign_of, plain_sign, letter_sign, is_ready, is_full, is_ended, is_whole, head_word, tail_words}
use Rattle.word_powers.specs.declared.powers.Sign.{Sign}
use Rattle.word_powers.specs.declared.powers.Sign.TheVariants as sign
use Rattle.word_powers.specs.declared.powers.Last.{Last}
use Rattle.word_powers.specs.declared.powers.Last.TheVariants as last
use Rattle.word_powers.proofs.PowerSigns.{no_letter, Opens, Closes, Raises, Counts}
use Rattle.word_powers.proofs.PowerTexts.{exponent_short}

-- ---- what the bytes mean

pub sign_letter : (alphabet : List ℕ) (byte letter : ℕ) → place_of alphabet byte ≡ Some letter → sign_of alphabet byte ≡ sign.Letter letter
sign_letter alphabet byte letter e = ap (λ o. letter_sign o (plain_sign byte)) e

pub sign_plain : (alphabet : List ℕ) (byte : ℕ) → place_of alphabet byte ≡ None → sign_of alphabet byte ≡ plain_sign byte
sign_plain alphabet byte e = ap (λ o. letter_sign o (plain_sign byte)) e

digit_sign : (byte : ℕ) → 48 ≤ byte → byte ≤ 57 → plain_sign byte ≡ sign.Digit (byte - 48)
digit_sign byte l u = by (byte == 40) (byte == 41) (byte == 94) (nat_le 48 byte && nat_le byte 57) (apart byte 40 l u (inl (omega arith))) (apart byte 41 l u (inl (omega arith))) (apart byte 94 l u (inr (omega arith))) (within byte l u)
  where
    apart : (byte k : ℕ) → 48 ≤ byte → byte ≤ 57 → (k < 48) ⊎ (57 < k) → (byte == k) ≡ false
    apart byte k l u h = grind (arith, common_steps)

    within : (byte : ℕ) → 48 ≤ byte → byte ≤ 57 → (nat_le 48 byte && nat_le byte 57) ≡ true
    within byte l u = grind (arith, common_steps)

    by : (p q r t : Bool) → p ≡ false → q ≡ false → r ≡ false → t ≡ true → cond p sign.Open (cond q sign.Close (cond r sign.Caret (cond t (sign.Digit (byte - 48)) sign.Stranger))) ≡ sign.Digit (byte - 48)
    by p q r t e f g h = rw (e, f, g, h) refl

pub sign_open : (alphabet : List ℕ) → IsAlphabet alphabet → sign_of alphabet 40 ≡ sign.Open
sign_open alphabet a = sign_plain alphabet 40 (no_letter alphabet 40 a Opens)

pub sign_close : (alphabet : List ℕ) → IsAlphabet alphabet → sign_of alphabet 41 ≡ sign.Close
sign_close alphabet a = sign_plain alphabet 41 (no_letter alphabet 41 a Closes)

pub sign_caret : (alphabet : List ℕ) → IsAlphabet alphabet → sign_of alphabet 94 ≡ sign.Caret
sign_caret alphabet a = sign_plain alphabet 94 (no_letter alphabet 94 a Raises)

pub sign_digit : (alphabet : List ℕ) (byte : ℕ) → IsAlphabet alphabet → 48 ≤ byte → byte ≤ 57 → sign_of alphabet byte ≡ sign.Digit (byte - 48)
sign_digit alphabet byte a l u = sign_plain alphabet byte (no_letter alphabet byte a (Counts byte l u)) ∙ digit_sign byte l u

-- ---- one byte

pub below : (x y : ℕ) → x < y → nat_lt x y ≡ true
below x y h = grind (arith, common_steps)

pub stepped : (alphabet : List ℕ) (s : State) (byte : ℕ) (sg : Sign) (w : Last) → sign_of alphabet byte ≡ sg → next (length s.outer) s.last sg ≡ Some w → step alphabet s byte ≡ Some (enter s sg w)
stepped alphabet s byte sg w e n = ap (λ g. entered s g (next (length s.outer) s.last g)) e ∙ ap (entered s sg) n

pub step_letter : (alphabet : List ℕ) (s : State) (byte letter : ℕ) → place_of alphabet byte ≡ Some letter → is_ready s.last ≡ true → step alphabet s byte ≡ Some (enter s (sign.Letter letter) last.Base)
step_letter alphabet s byte letter e ready = stepped alphabet s byte (sign.Letter letter) last.Base (sign_letter alphabet byte letter e) (rw ready refl)

step_open : (alphabet : List ℕ) (s : State) → IsAlphabet alphabet → length s.outer < 8 → is_ready s.last ≡ true → step alphabet s 40 ≡ Some (enter s sign.Open last.Start)
step_open alphabet s a h ready = stepped alphabet s 40 sign.Open last.Start (sign_open alphabet a) (let l = below (length s.outer) 8 h in rw (ready, l) refl)

pub step_close : (alphabet : List ℕ) (s : State) → IsAlphabet alphabet → 0 < length s.outer → is_full s.last ≡ true → step alphabet s 41 ≡ Some (enter s sign.Close last.Base)
step_close alphabet s a h full = stepped alphabet s 41 sign.Close last.Base (sign_close alphabet a) (let l = below 0 (length s.outer) h in rw (full, l) refl)

pub full_ready : (was : Last) → is_full was ≡ true → is_ready was ≡ true
full_ready last.Start e = refl
full_ready last.One e = absurd (cc)
full_ready last.Base e = refl
full_ready last.Caret e = absurd (cc)
full_ready (last.Digits n) e = refl

-- ---- more bytes

pub run-append : (alphabet : List ℕ) (o : Option State) (xs ys : List ℕ) → run alphabet o (xs ++ ys) ≡ run alphabet (run alphabet o xs) ys
run-append alphabet o [] ys = refl
run-append alphabet o (x ∷ xs) ys = run-append alphabet (go alphabet o x) xs ys

-- a state inside so many groups, behind an item or where one begins
record IsRoomy (depth : ℕ) (s : State) : Type 0 where
  room : depth + length s.outer ≤ 8
  ready : is_ready s.last ≡ true

-- what a base leaves
abbrev based : State → Word → State
based s word = record { outer = s.outer; before = done s; base = word; last = last.Base }

-- what an item leaves
record RunsItem (alphabet text : List ℕ) (s : State) (word : Word) : Type 0 where
  base : Word
  last : Last
  runs : run alphabet (Some s) text ≡ Some (record { outer = s.outer; before = done s; base = base; last = last })
  full : is_full last ≡ true
  is : value last base ≡ word

-- what items leave
record RunsItems (alphabet text : List ℕ) (s : State) (word : Word) : Type 0 where
  after : State
  runs : run alphabet (Some s) text ≡ Some after
  outer : after.outer ≡ s.outer
  full : is_full after.last ≡ true
  is : done after ≡ done s ++ word

runs_exponent : (alphabet : List ℕ) → IsAlphabet alphabet → (outer : List Word) (before base : Word) (count : ℕ) (digits : List ℕ) (number : ℕ) → IsExponent count digits number → run alphabet (Some (record { outer = outer; before = before; base = base; last = last.Caret })) digits ≡ Some (record { outer = outer; before = before; base = base; last = last.Digits number })
runs_exponent alphabet a outer before base count digits number (First byte l u) =
    stepped alphabet (record { outer = outer; before = before; base = base; last = last.Caret }) byte (sign.Digit (byte - 48)) (last.Digits (byte - 48)) (sign_digit alphabet byte a (omega arith) u) (let h = some byte l in rw h refl)
  where
    some : (byte : ℕ) → 49 ≤ byte → ((byte - 48) == 0) ≡ false
    some byte l = grind (arith, common_steps)
runs_exponent alphabet a outer before base count _ number (Next k text n byte e short l u) =
    run-append alphabet (Some (record { outer = outer; before = before; base = base; last = last.Caret })) text (byte ∷ [])
    ∙ ap (λ o. run alphabet o (byte ∷ [])) (runs_exponent alphabet a outer before base k text n e)
    ∙ stepped alphabet (record { outer = outer; before = before; base = base; last = last.Digits n }) byte (sign.Digit (byte - 48)) (last.Digits (10 * n + (byte - 48))) (sign_digit alphabet byte a l u) (let h = below n 1000 (small k n text e short) in rw h refl)
  where
    small : (k n : ℕ) (text : List ℕ) → IsExponent k text n → k < 4 → n < 1000
    small k n text e h = by (exponent_short k text n e)
      where
        by : ((k ≡ 1) × (1 ≤ n) × (n ≤ 9)) ⊎ (((k ≡ 2) × (10 ≤ n) × (n ≤ 99)) ⊎ (((k ≡ 3) × (100 ≤ n) × (n ≤ 999)) ⊎ ((k ≡ 4) × (1000 ≤ n) × (n ≤ 9999)))) → n < 1000
        by (inl p) = omega (arith, p.2)
        by (inr (inl p)) = omega (arith, p.2)
        by (inr (inr (inl p))) = omega (arith, p.2)
        by (inr (inr (inr p))) = absurd (let q : k ≡ 4 = p.0 in omega arith)

runs_group : (alphabet : List ℕ) → IsAlphabet alphabet → (depth : ℕ) (text : List ℕ) (word : Word) (s : State) → IsRoomy (suc depth) s → RunsItems alphabet text (enter s sign.Open last.Start) word → run alphabet (Some s) (40 ∷ (text ++ 41 ∷ [])) ≡ Some (based s word)
runs_group alphabet a depth text word s roomy items =
    let room : length s.outer < 8 = let h = roomy.room in omega arith in
    let filled : 0 < length items.after.outer = let h = ap length items.outer in omega arith in
    let open_outer = items.outer in
    ap (λ o. run alphabet o (text ++ 41 ∷ [])) (step_open alphabet s a room roomy.ready)
    ∙ run-append alphabet (Some (enter s sign.Open last.Start)) text (41 ∷ [])
    ∙ ap (λ o. run alphabet o (41 ∷ [])) items.runs
    ∙ step_close alphabet items.after a filled items.full
    ∙ ap Some (same_state (tail_words items.after.outer) s.outer (head_word items.after.outer) (done s) (done items.after) word (ap tail_words items.outer) (ap head_word items.outer) items.is)
  where
    same_state : (o o' : List Word) (b b' u u' : Word) → o ≡ o' → b ≡ b' → u ≡ u' → ◌≡◌ {A = State} (record { outer = o; before = b; base = u; last = last.Base }) (record { outer = o'; before = b'; base = u'; last = last.Base })
    same_state o o' b b' u u' e f g = rw (e, f, g) refl

runs_power : (alphabet : List ℕ) → IsAlphabet alphabet → (text : List ℕ) (word : Word) (count : ℕ) (digits : List ℕ) (number : ℕ) (s : State) → IsExponent count digits number → run alphabet (Some s) text ≡ Some (based s word) → RunsItem alphabet (text ++ 94 ∷ digits) s (power number word)
runs_power alphabet a text word count digits number s e base =
    record {
      base = word;
      last = last.Digits number;
      runs = run-append alphabet (Some s) text (94 ∷ digits)
          ∙ ap (λ o. run alphabet o (94 ∷ digits)) base
          ∙ ap (λ o. run alphabet o digits) (stepped alphabet (based s word) 94 sign.Caret last.Caret (sign_caret alphabet a) refl)
          ∙ runs_exponent alphabet a s.outer (done s) word count digits number e;
      full = refl;
      is = refl;
    }

-- items and one more
runs_more : (alphabet text : List ℕ) (word : Word) (more : List ℕ) (more_word : Word) (s : State) (items : RunsItems alphabet text s word) → RunsItem alphabet more items.after more_word → RunsItems alphabet (text ++ more) s (word ++ more_word)
runs_more alphabet text word more more_word s items item =
    record {
      after = record { outer = items.after.outer; before = done items.after; base = item.base; last = item.last };
      runs = run-append alphabet (Some s) text more ∙ ap (λ o. run alphabet o more) items.runs ∙ item.runs;
      outer = items.outer;
      full = item.full;
      is = ap (λ u. done items.after ++ u) item.is ∙ ap (λ u. u ++ more_word) items.is ∙ append_assoc (done s) word more_word;
    }

mutual
  runs_base : (alphabet : List ℕ) → IsAlphabet alphabet → (depth : ℕ) (text : List ℕ) (word : Word) → IsBase alphabet depth text word → (s : State) → IsRoomy depth s → run alphabet (Some s) text ≡ Some (based s word)
  runs_base alphabet a depth text word (Letter _ byte letter e) s roomy = step_letter alphabet s byte letter e roomy.ready
  runs_base alphabet a _ _ word (Group depth text _ items) s roomy = runs_group alphabet a depth text word s roomy (runs_items alphabet a depth text word items (enter s sign.Open last.Start) (record { room = let h = roomy.room in omega arith; ready = refl }))

  runs_item : (alphabet : List ℕ) → IsAlphabet alphabet → (depth : ℕ) (text : List ℕ) (word : Word) → IsItem alphabet depth text word → (s : State) → IsRoomy depth s → RunsItem alphabet text s word
  runs_item alphabet a depth text word (Alone _ _ _ b) s roomy = record { base = word; last = last.Base; runs = runs_base alphabet a depth text word b s roomy; full = refl; is = refl }
  runs_item alphabet a depth _ _ (Power _ text word count digits number b e) s roomy = runs_power alphabet a text word count digits number s e (runs_base alphabet a depth text word b s roomy)

  runs_items : (alphabet : List ℕ) → IsAlphabet alphabet → (depth : ℕ) (text : List ℕ) (word : Word) → IsItems alphabet depth text word → (s : State) → IsRoomy depth s → RunsItems alphabet text s word
  runs_items alphabet a depth text word (One _ _ _ item) s roomy =
      let r = runs_item alphabet a depth text word item s roomy in
      record { after = record { outer = s.outer; before = done s; base = r.base; last = r.last }; runs = r.runs; outer = refl; full = r.full; is = ap (λ u. done s ++ u) r.is }
  runs_items alphabet a depth _ _ (More _ text word more more_word items item) s roomy =
      let r = runs_items alphabet a depth text word items s roomy in
      runs_more alphabet text word more more_word s r (runs_item alphabet a depth more more_word item r.after (record { room = let h = roomy.room in let e = ap length r.outer in omega arith; ready = full_ready r.after.last r.full }))

-- a word's text is read to its end, as the word
pub record RunsWord (alphabet text : List ℕ) (word : Word) : Type 0 where
  pub after : State
  pub runs : run alphabet (Some outset) text ≡ Some after
  pub whole : is_whole (length after.outer) after.last ≡ true
  pub is : done after ≡ word

pub full_ended : (was : Last) → is_full was ≡ true → is_ended was ≡ true
full_ended last.Start e = absurd (cc)
full_ended last.One e = refl
full_ended last.Base e = refl
full_ended last.Caret e = absurd (cc)
full_ended (last.Digits n) e = refl

pub runs_word : (alphabet : List ℕ) → IsAlphabet alphabet → (text : List ℕ) (word : Word) → IsWordText alphabet text word → RunsWord alphabet text word
runs_word alphabet a [] word (inl h) = record { after = outset; runs = refl; whole = refl; is = sym h.1 }
runs_word alphabet a (b ∷ []) word (inl h) =
    record {
      after = enter outset (sign.Digit 1) last.One;
      runs = stepped alphabet outset b (sign.Digit 1) last.One (subst (λ c. sign_of alphabet c ≡ sign.Digit 1) (sym (one b h.0)) (sign_digit alphabet 49 a (omega arith) (omega arith))) refl;
      whole = refl;
      is = sym h.1;
    }
  where
    one : (b : ℕ) → IsTrue (b == 49) → b ≡ 49
    one b e = grind (arith, common_steps)
runs_word alphabet a (b ∷ c ∷ bs) word (inl h) = absurd (let e = h.0 in cc)
runs_word alphabet a text word (inr items) =
    let r = runs_items alphabet a 8 text word items outset (record { room = omega arith; ready = refl }) in
    record {
      after = r.after;
      runs = r.runs;
      whole = let e = ap length r.outer in let f = full_ended r.after.last r.full in rw (e, f) refl;
      is = r.is;
    }
