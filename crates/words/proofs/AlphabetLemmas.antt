-- What a text with no fault is, and what a fault means.
use Rattle.std.proofs.Common.{◌≡◌, ℕ, zero, suc, ◌<◌, ◌≤◌, Bool, true, false, ◌==◌, eqb, List, [], ◌∷◌, ◌++◌, length, All, Option, Some, None, refl, sym, ◌∙◌, arith, append_assoc, append-nil, ◌&&◌, ◌||◌, ◌⊎◌, inl, inr, Contains, cond, subst}
use Rattle.std.specs.List.{list_any, IsDistinct, AllByRecursion}
use Rattle.std.specs.Option.{option_or}
use Rattle.std.proofs.lemmas.Grind.{common_steps}
use Rattle.std.proofs.lemmas.Map.Keys.{IsDistinct-push}
use Rattle.std.proofs.lemmas.Cmp.{nat_eq_equiv}
use Rattle.words.specs.declared.fault.AlphabetFault.{AlphabetFault}
use Rattle.words.specs.declared.fault.AlphabetFault.TheVariants.{Empty, NotALetter, Repeated, NoMemory}
use Rattle.words.specs.Alphabet.{IsAlphabetOf, IsAlphabetFault, IsLetterByte, IsSound, IsFirstFault, is_letter, is_lowercase, is_uppercase, fault_at, first_fault, alphabet_fault}

-- ---- texts with no fault

lower : (b : ℕ) → is_lowercase b ≡ true → (97 ≤ b) × (b ≤ 122)
lower b e = grind (arith, common_steps)

upper : (b : ℕ) → is_uppercase b ≡ true → (65 ≤ b) × (b ≤ 90)
upper b e = grind (arith, common_steps)

-- a byte is a letter exactly where it is taken for one
letter_byte : (wide : Bool) (b : ℕ) → is_letter wide b ≡ true → IsLetterByte wide b
letter_byte wide b e = by wide (is_lowercase b) (is_uppercase b) refl refl e
  where
    by : (wide x y : Bool) → is_lowercase b ≡ x → is_uppercase b ≡ y → x || (wide && y) ≡ true → IsLetterByte wide b
    by wide true y p q e = inl (lower b p)
    by true false true p q e = inr (refl, (upper b q).0, (upper b q).1)
    by true false false p q e = absurd (cc)
    by false false y p q e = absurd (cc)

is_lower : (b : ℕ) → 97 ≤ b → b ≤ 122 → is_lowercase b ≡ true
is_lower b l u = grind (arith, common_steps)

is_upper : (b : ℕ) → 65 ≤ b → b ≤ 90 → is_uppercase b ≡ true
is_upper b l u = grind (arith, common_steps)

lowered : (x y : Bool) → x ≡ true → x || y ≡ true
lowered x y p = rw p refl

byte_letter : (wide : Bool) (b : ℕ) → IsLetterByte wide b → is_letter wide b ≡ true
byte_letter wide b (inl h) = lowered (is_lowercase b) (wide && is_uppercase b) (is_lower b h.0 h.1)
byte_letter wide b (inr h) = either (is_lowercase b) wide (is_uppercase b) h.0 (is_upper b h.1 h.2)
  where
    either : (x w y : Bool) → w ≡ true → y ≡ true → x || (w && y) ≡ true
    either true w y p q = refl
    either false w y p q = rw (p, q) refl

sound_at : (wide : Bool) (before : List ℕ) (b : ℕ) → fault_at wide before b ≡ None → IsLetterByte wide b × (list_any (λ y. y == b) before ≡ false)
sound_at wide before b e = by (is_letter wide b) (list_any (λ y. y == b) before) refl refl
  where
    by : (x y : Bool) → is_letter wide b ≡ x → list_any (λ y. y == b) before ≡ y → IsLetterByte wide b × (list_any (λ y. y == b) before ≡ false)
    by true false p q = (letter_byte wide b p, q)
    by true true p q = let bad = rw (p, q) at e in absurd (cc)
    by false y p q = let bad = rw p at e in absurd (cc)

turned : (b : ℕ) (xs : List ℕ) → list_any (λ y. y == b) xs ≡ list_any (eqb b) xs
turned b [] = refl
turned b (x ∷ xs) = rw (turned b xs, nat_eq_equiv.symm x b) refl

all_push : (wide : Bool) (xs : List ℕ) (b : ℕ) → All (IsLetterByte wide) xs → IsLetterByte wide b → All (IsLetterByte wide) (xs ++ b ∷ [])
all_push wide [] b all h zero d p = h
all_push wide [] b all h (suc k) d p = absurd (omega arith)
all_push wide (x ∷ xs) b all h zero d p = all 0 d (omega arith)
all_push wide (x ∷ xs) b all h (suc k) d p = all_push wide xs b (λ k d p. all (suc k) d (omega arith)) h k d (omega arith)

none_both : (o p : Option AlphabetFault) → option_or o p ≡ None → (o ≡ None) × (p ≡ None)
none_both None p e = (refl, e)
none_both (Some f) p e = absurd (cc)

sound : (wide : Bool) (before bs : List ℕ) → first_fault wide before bs ≡ None → IsDistinct eqb before → All (IsLetterByte wide) before → IsDistinct eqb (before ++ bs) × All (IsLetterByte wide) (before ++ bs)
sound wide before [] e distinct all = rw append-nil (distinct, all)
sound wide before (b ∷ bs) e distinct all =
    let parts = none_both (fault_at wide before b) (first_fault wide (before ++ b ∷ []) bs) e in
    let here = sound_at wide before b parts.0 in
    let more : IsDistinct eqb (before ++ b ∷ []) = IsDistinct-push nat_eq_equiv before b distinct (sym (turned b before) ∙ here.1) in
    let rest = sound wide (before ++ b ∷ []) bs parts.1 more (all_push wide before b all here.0) in
    rw append_assoc at rest

-- a text with no fault is an alphabet
pub faultless : (wide : Bool) (text : List ℕ) → alphabet_fault wide text ≡ None → IsAlphabetOf (IsLetterByte wide) text
unfolding IsDistinct
faultless wide [] e = absurd (cc)
faultless wide (b ∷ bs) e =
    let whole = sound wide [] (b ∷ bs) e tt (λ k d p. absurd (omega arith)) in
    record { filled = omega arith; sound = record { distinct = whole.0; all = whole.1 } }

-- ---- faults

some_either : (o p : Option AlphabetFault) (f : AlphabetFault) → option_or o p ≡ Some f → (o ≡ Some f → ⊥) → p ≡ Some f
some_either None p f e h = e
some_either (Some g) p f e h = absurd (h e)

at_memory : (wide : Bool) (before : List ℕ) (b : ℕ) → fault_at wide before b ≡ Some NoMemory → ⊥
at_memory wide before b e = by (is_letter wide b) (list_any (λ y. y == b) before) refl refl
  where
    by : (x y : Bool) → is_letter wide b ≡ x → list_any (λ y. y == b) before ≡ y → ⊥
    by true false p q = let bad = rw (p, q) at e in cc
    by true true p q = let bad = rw (p, q) at e in cc
    by false y p q = let bad = rw p at e in cc

first_memory : (wide : Bool) (before bs : List ℕ) → first_fault wide before bs ≡ Some NoMemory → ⊥
first_memory wide before [] e = cc
first_memory wide before (b ∷ bs) e =
    first_memory wide (before ++ b ∷ []) bs (some_either (fault_at wide before b) (first_fault wide (before ++ b ∷ []) bs) NoMemory e (at_memory wide before b))

-- a fault of a text is why it is refused
pub refuses : (wide : Bool) (text : List ℕ) (fault : AlphabetFault) → alphabet_fault wide text ≡ Some fault → IsAlphabetFault (alphabet_fault wide text) fault
refuses wide text Empty e = e
refuses wide text (NotALetter place) e = e
refuses wide text (Repeated place) e = e
refuses wide [] NoMemory e = absurd (cc)
refuses wide (b ∷ bs) NoMemory e = absurd (first_memory wide [] (b ∷ bs) e)

-- ---- alphabets have no fault

middle : (P : ℕ → Type 0) (before : List ℕ) (b : ℕ) (bs : List ℕ) → AllByRecursion P (before ++ b ∷ bs) → P b
middle P [] b bs h = h.0
middle P (x ∷ xs) b bs h = middle P xs b bs h.1

middle_all : (wide : Bool) (before : List ℕ) (b : ℕ) (bs : List ℕ) → All (IsLetterByte wide) (before ++ b ∷ bs) → IsLetterByte wide b
middle_all wide [] b bs all = all zero b (omega arith)
middle_all wide (x ∷ xs) b bs all = middle_all wide xs b bs (λ k d p. all (suc k) d (omega arith))

apart : (before : List ℕ) (b : ℕ) (bs : List ℕ) → IsDistinct eqb (before ++ b ∷ bs) → list_any (λ y. y == b) before ≡ false
unfolding IsDistinct
apart [] b bs distinct = refl
apart (x ∷ xs) b bs distinct =
    let here : eqb x b ≡ false = middle (λ y. eqb x y ≡ false) xs b bs distinct.0 in
    let rest : list_any (λ y. y == b) xs ≡ false = apart xs b bs distinct.1 in
    rw (here, rest) refl

unfaulted : (wide : Bool) (before : List ℕ) (b : ℕ) → IsLetterByte wide b → list_any (λ y. y == b) before ≡ false → fault_at wide before b ≡ None
unfaulted wide before b h e = let letter : is_letter wide b ≡ true = byte_letter wide b h in rw (letter, e) refl

complete : (wide : Bool) (before bs : List ℕ) → IsDistinct eqb (before ++ bs) → All (IsLetterByte wide) (before ++ bs) → first_fault wide before bs ≡ None
complete wide before [] distinct all = refl
complete wide before (b ∷ bs) distinct all =
    let here : fault_at wide before b ≡ None = unfaulted wide before b (middle_all wide before b bs all) (apart before b bs distinct) in
    let rest : first_fault wide (before ++ b ∷ []) bs ≡ None = complete wide (before ++ b ∷ []) bs (rw append_assoc distinct) (rw append_assoc all) in
    rw (here, rest) refl

pub unfaulted_alphabet : (wide : Bool) (text : List ℕ) → IsAlphabetOf (IsLetterByte wide) text → alphabet_fault wide text ≡ None
unfaulted_alphabet wide [] a = absurd (let no : 0 < 0 = a.filled in omega arith)
unfaulted_alphabet wide (b ∷ bs) a = complete wide [] (b ∷ bs) a.sound.distinct a.sound.all

-- ---- what a fault means

none_here : (o p : Option AlphabetFault) (f : AlphabetFault) → option_or o p ≡ Some f → (o ≡ Some f) ⊎ ((o ≡ None) × (p ≡ Some f))
none_here None p f e = inr (refl, e)
none_here (Some g) p f e = inl e

there : (xs : List ℕ) (b : ℕ) → list_any (λ y. y == b) xs ≡ true → Contains xs b
there [] b h = absurd (cc)
there (x ∷ xs) b h = by (x == b) refl h (there xs b)
  where
    same : (x y : ℕ) → (x == y) ≡ true → x ≡ y
    same x y e = grind (arith, common_steps)

    by : (y : Bool) → (x == b) ≡ y → y || list_any (λ y. y == b) xs ≡ true → (list_any (λ y. y == b) xs ≡ true → Contains xs b) → Contains (x ∷ xs) b
    by true e h rest = (zero, omega arith, same x b e)
    by false e h rest = let c = rest h in (suc c.0, omega (arith, c.1), c.2)

no_letter : (wide : Bool) (b : ℕ) → is_letter wide b ≡ false → ¬ IsLetterByte wide b
no_letter wide b e h = let bad : false ≡ true = sym e ∙ byte_letter wide b h in cc

wrong_here : (wide : Bool) (before : List ℕ) (b : ℕ) (bs : List ℕ) (fault : AlphabetFault) → IsSound (IsLetterByte wide) before → fault_at wide before b ≡ Some fault → IsFirstFault wide (before ++ b ∷ bs) fault
wrong_here wide before b bs fault fine e = by (is_letter wide b) (list_any (λ y. y == b) before) refl refl fault e
  where
    by : (x y : Bool) → is_letter wide b ≡ x → list_any (λ y. y == b) before ≡ y → (fault : AlphabetFault) → cond x (cond y (Some (Repeated (length before))) None) (Some (NotALetter (length before))) ≡ Some fault → IsFirstFault wide (before ++ b ∷ bs) fault
    by true false p q fault e = absurd (cc)
    by true true p q fault e =
        let is : Repeated (length before) ≡ fault = cc in
        subst (IsFirstFault wide (before ++ b ∷ bs)) is (record { before = before; byte = b; after = bs; is = refl; at = refl; sound = fine; wrong = there before b q })
    by false y p q fault e =
        let is : NotALetter (length before) ≡ fault = cc in
        subst (IsFirstFault wide (before ++ b ∷ bs)) is (record { before = before; byte = b; after = bs; is = refl; at = refl; sound = fine; wrong = no_letter wide b p })

first_wrong : (wide : Bool) (before bs : List ℕ) (fault : AlphabetFault) → IsSound (IsLetterByte wide) before → first_fault wide before bs ≡ Some fault → IsFirstFault wide (before ++ bs) fault
first_wrong wide before [] fault fine e = absurd (cc)
first_wrong wide before (b ∷ bs) fault fine e =
    elim (none_here (fault_at wide before b) (first_fault wide (before ++ b ∷ []) bs) fault e) [
      | inl here ↦ wrong_here wide before b bs fault fine here
      | inr later ↦
          let h = sound_at wide before b later.0 in
          let more : IsDistinct eqb (before ++ b ∷ []) = IsDistinct-push nat_eq_equiv before b fine.distinct (sym (turned b before) ∙ h.1) in
          let rest : IsFirstFault wide ((before ++ b ∷ []) ++ bs) fault = first_wrong wide (before ++ b ∷ []) bs fault (record { distinct = more; all = all_push wide before b fine.all h.0 }) later.1 in
          subst (λ text. IsFirstFault wide text fault) (append_assoc before (b ∷ []) bs) rest
    ]

pub means : (wide : Bool) (text : List ℕ) (fault : AlphabetFault) → alphabet_fault wide text ≡ Some fault → IsFirstFault wide text fault
unfolding IsDistinct
means wide [] fault e = let is : Empty ≡ fault = cc in subst (IsFirstFault wide []) is refl
means wide (b ∷ bs) fault e = first_wrong wide [] (b ∷ bs) fault (record { distinct = tt; all = λ k d p. absurd (omega arith) }) e
