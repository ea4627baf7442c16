-- What the reader makes of words with powers is what the grammar of these words says.
use Rattle.std.proofs.Common.{◌≡◌, ℕ, suc, ◌<◌, ◌≤◌, Bool, true, false, not, ◌&&◌, ◌==◌, is_none, eq-or-lt_of_le, true≢false, ◌⊎◌, IsTrue, IsFalse, nat_le, if◌then◌else◌, List, [], ◌∷◌, ◌++◌, length, take, Option, Some, None, Result, Ok, Err, IfOk, ◌↔◌, inl, inr, refl, sym, ap, ◌∙◌, subst, arith, append_assoc, append-nil, length-append}
use Rattle.std.proofs.lemmas.Bool.{cases_lt}
use Rattle.std.proofs.lemmas.Grind.{common_steps}
use Rattle.std.proofs.lemmas.Option.{get_or_from_slice_get, slice_get_past, slice_get-get_or}
use Rattle.std.proofs.Math.Seq.{get_or-append_seam, take-append_seam}
use Rattle.theory.specs.Word.{Word}
use Rattle.words.specs.Alphabet.{IsAlphabet, place_of}
use Rattle.word_powers.specs.Powers.{IsFaultAt, IsLong, IsOutcome, IsPowerFault, IsReadable, IsStrangeByte, IsStranger, IsWordText, StandsFor}
use Rattle.word_powers.specs.PowerSteps.{State, done, is_whole, outset, run, step}
use Rattle.words.specs.WordText.{is_empty_text, most_letters}
use Rattle.word_powers.specs.declared.fault.PowerFault.{PowerFault}
use Rattle.word_powers.specs.declared.fault.PowerFault.TheVariants.{EmptyWord, NotInAlphabet, BadPower, TooLong, NoMemory}
use Rattle.word_powers.proofs.PowerFaults.{fault_end, fault_here, one_word, word_end}
use Rattle.word_powers.proofs.PowerOutcomes.{filled_word, tells_empty, tells_long, tells_place, tells_stranger}
use Rattle.word_powers.proofs.PowerRuns.{run-append}
use Rattle.line_parts.specs.Faults.{IsLineFault, fault_of_powers}
use Rattle.line_parts.specs.LineWords.{with_power_cause}
use Rattle.line_parts.specs.Token.{is_digit}
use Rattle.line_parts.specs.PowerWords.{fault_of_byte, is_strange, onward, powers_at_end, powers_from, powers_of, unless_long}

less : (m n : ℕ) → nat_le m n ≡ true → m ≤ n
less m n e = grind (arith, common_steps)

more : (m n : ℕ) → nat_le m n ≡ false → n < m
more m n e = grind (arith, common_steps)

equal : (x y : ℕ) → (x == y) ≡ true → x ≡ y
equal x y e = grind (arith, common_steps)

unlike : (x y : ℕ) → (x == y) ≡ false → (x < y) ⊎ (y < x)
unlike x y e = elim (cases_lt x y) [ inl less ↦ inl less | inr more ↦ elim (eq-or-lt_of_le more) [ inl same ↦ absurd (clash same) | inr less ↦ inr less ] ]
  where
    clash : y ≡ x → ⊥
    clash same = grind (arith, common_steps)

apart : (x y : ℕ) → (x < y) ⊎ (y < x) → (x == y) ≡ false
apart x y (inl h) = grind (arith, common_steps)
apart x y (inr h) = grind (arith, common_steps)

no_place : (o : Option ℕ) → is_none o ≡ true → o ≡ None
no_place None h = refl
no_place (Some k) h = cc

both : (p q : Bool) → (p && q) ≡ true → (p ≡ true) × (q ≡ true)
both true q e = (refl, e)
both false q e = cc

negated : (b : Bool) → not b ≡ true → b ≡ false
negated false e = refl
negated true e = cc

outside : (b : ℕ) → is_digit b ≡ false → (b < 48) ⊎ (57 < b)
outside b e = grind (arith, common_steps)

no_digit : (b : ℕ) → (b < 48) ⊎ (57 < b) → is_digit b ≡ false
no_digit b (inl h) = grind (arith, common_steps)
no_digit b (inr h) = grind (arith, common_steps)

-- whether a byte is strange is told for what it is
strange_byte : (alphabet : List ℕ) (b : ℕ) → is_strange alphabet b ≡ true → IsStrangeByte alphabet b
strange_byte alphabet b e =
    let l = both _ _ e in
    let d = both _ _ l.1 in
    let o = both _ _ d.1 in
    let c = both _ _ o.1 in
    record {
      no_letter = no_place (place_of alphabet b) l.0;
      no_digit = outside b (negated _ d.0);
      no_sign = signs b (negated _ o.0) (negated _ c.0) (negated _ c.1);
    }
  where
    signs : (b : ℕ) → (b == 40) ≡ false → (b == 41) ≡ false → (b == 94) ≡ false → (b < 40) ⊎ ((41 < b) × ((b < 94) ⊎ (94 < b)))
    signs b p q r = elim (unlike b 40 p) [
      | inl h ↦ inl h
      | inr h ↦ elim (unlike b 41 q) [
        | inl k ↦ absurd (omega (arith, h, k))
        | inr k ↦ inr (k, unlike b 94 r)
      ]
    ]

byte_strange : (alphabet : List ℕ) (b : ℕ) → IsStrangeByte alphabet b → is_strange alphabet b ≡ true
byte_strange alphabet b s =
    ap (λ o. is_none o && (not (is_digit b) && (not (b == 40) && (not (b == 41) && not (b == 94))))) s.no_letter
    ∙ ap (λ d. not d && (not (b == 40) && (not (b == 41) && not (b == 94)))) (no_digit b s.no_digit)
    ∙ signs s.no_sign
  where
    all_apart : (p q r : Bool) → p ≡ false → q ≡ false → r ≡ false → (not p && (not q && not r)) ≡ true
    all_apart p q r e f g = rw (e, f, g) refl

    signs : (b < 40) ⊎ ((41 < b) × ((b < 94) ⊎ (94 < b))) → (not (b == 40) && (not (b == 41) && not (b == 94))) ≡ true
    signs (inl h) = all_apart (b == 40) (b == 41) (b == 94) (apart b 40 (inl h)) (apart b 41 (inl (omega (arith, h)))) (apart b 94 (inl (omega (arith, h))))
    signs (inr h) = all_apart (b == 40) (b == 41) (b == 94) (apart b 40 (inr (omega (arith, h.0)))) (apart b 41 (inr h.0)) (apart b 94 h.1)

-- a byte that no word has at the place, and one that words have
strange : (alphabet before bytes : List ℕ) (b : ℕ) → is_strange alphabet b ≡ true → IsStranger alphabet (before ++ b ∷ bytes) (length before)
strange alphabet before bytes b e =
    let within : length before < length (before ++ b ∷ bytes) = omega (arith, length-append before (b ∷ bytes)) in
    (b, slice_get-get_or (before ++ b ∷ bytes) (length before) 0 within ∙ ap (λ x. Some x) (get_or-append_seam before b bytes 0), strange_byte alphabet b e)

usual : (alphabet before bytes : List ℕ) (b : ℕ) → is_strange alphabet b ≡ false → ¬ IsStranger alphabet (before ++ b ∷ bytes) (length before)
usual alphabet before bytes b e found =
    let same : b ≡ found.0 = sym (get_or-append_seam before b bytes 0) ∙ get_or_from_slice_get (before ++ b ∷ bytes) (length before) found.0 0 found.1 in
    true≢false (sym (byte_strange alphabet found.0 found.2) ∙ ap (is_strange alphabet) (sym same) ∙ e)

module _ (alphabet : List ℕ) (a : IsAlphabet alphabet) (allow : Bool) where
  -- a byte with which the text begins no word
  stuck : (before bytes : List ℕ) (b : ℕ) → IsFaultAt alphabet (before ++ b ∷ bytes) (length before)
      → IsOutcome alphabet allow (before ++ b ∷ bytes) (Err (fault_of_byte alphabet b (length before)))
  stuck before bytes b at = by (is_strange alphabet b) refl
    where
      by : (t : Bool) → is_strange alphabet b ≡ t → IsOutcome alphabet allow (before ++ b ∷ bytes) (Err (if t then NotInAlphabet (length before) else BadPower (length before)))
      by true e = (at, strange alphabet before bytes b e)
      by false e = (at, usual alphabet before bytes b e)

  -- the text's end, where it is a word or not
  word_or_long : (text : List ℕ) (u : Word) → is_empty_text text ≡ false → IsWordText alphabet text u → IsOutcome alphabet allow text (unless_long u)
  word_or_long text u e is = by (nat_le (length u) most_letters) refl
    where
      by : (b : Bool) → nat_le (length u) most_letters ≡ b → IsOutcome alphabet allow text (if b then Ok u else Err TooLong)
      by true h = (is, record { short = less (length u) most_letters h; allowed = λ none. absurd (filled_word alphabet text u e is none) })
      by false h = (u, is, more (length u) most_letters h)

  at_end : (text : List ℕ) (s : State) → is_empty_text text ≡ false → run alphabet (Some outset) text ≡ Some s → IsOutcome alphabet allow text (powers_at_end (length text) s)
  at_end text s e runs = by (is_whole (length s.outer) s.last) refl
    where
      none : ¬ IsStranger alphabet text (length text)
      none found = let h : None ≡ Some found.0 = sym (slice_get_past text (length text) (omega arith)) ∙ found.1 in cc

      by : (b : Bool) → is_whole (length s.outer) s.last ≡ b → IsOutcome alphabet allow text (if b then unless_long (done s) else Err (BadPower (length text)))
      by true h = word_or_long text (done s) e (word_end alphabet text s runs h)
      by false h = (fault_end alphabet a text s runs h, none)

  outcome_from : (before bytes : List ℕ) (s : State) → is_empty_text (before ++ bytes) ≡ false → run alphabet (Some outset) before ≡ Some s
      → IsOutcome alphabet allow (before ++ bytes) (powers_from alphabet (length before) s bytes)
  outcome_from before [] s e runs =
      subst (λ text. IsOutcome alphabet allow text (powers_at_end (length before) s)) (sym (append-nil before))
      (at_end before s (ap is_empty_text (sym (append-nil before)) ∙ e) runs)
  outcome_from before (b ∷ bytes) s e runs = by (λ t. outcome_from (before ++ b ∷ []) bytes t) (step alphabet s b) refl
    where
      front : take (length before) (before ++ b ∷ bytes) ≡ before
      front = take-append_seam before (b ∷ bytes)

      longer : (before ++ b ∷ []) ++ bytes ≡ before ++ b ∷ bytes
      longer = append_assoc before (b ∷ []) bytes

      count : length (before ++ b ∷ []) ≡ suc (length before)
      count = omega (arith, length-append before (b ∷ []))

      by : ((t : State) → is_empty_text ((before ++ b ∷ []) ++ bytes) ≡ false → run alphabet (Some outset) (before ++ b ∷ []) ≡ Some t
          → IsOutcome alphabet allow ((before ++ b ∷ []) ++ bytes) (powers_from alphabet (length (before ++ b ∷ [])) t bytes))
          → (o : Option State) → step alphabet s b ≡ o
          → IsOutcome alphabet allow (before ++ b ∷ bytes) (onward o (fault_of_byte alphabet b (length before)) (λ t. powers_from alphabet (suc (length before)) t bytes))
      by further None h =
          stuck before bytes b
          (fault_here alphabet a (before ++ b ∷ bytes) (length before) 0 s (omega (arith, length-append before (b ∷ bytes))) (ap (run alphabet (Some outset)) front ∙ runs)
          (ap (step alphabet s) (get_or-append_seam before b bytes 0) ∙ h))
      by further (Some t) h =
          let here : run alphabet (Some outset) (before ++ b ∷ []) ≡ Some t = run-append alphabet (Some outset) before (b ∷ []) ∙ ap (λ o. run alphabet o (b ∷ [])) runs ∙ h in
          let rest = further t (ap is_empty_text longer ∙ e) here in
          subst (λ text. IsOutcome alphabet allow text (powers_from alphabet (suc (length before)) t bytes)) longer
          (subst (λ n. IsOutcome alphabet allow ((before ++ b ∷ []) ++ bytes) (powers_from alphabet n t bytes)) count rest)

  -- what is made of a text is what reading it gives
  pub outcome : (text : List ℕ) → IsOutcome alphabet allow text (powers_of alphabet allow text)
  outcome text = by (is_empty_text text) refl
    where
      empty : (b : Bool) → allow ≡ b → IsTrue (is_empty_text text) → IsOutcome alphabet allow text (if b then Ok [] else Err EmptyWord)
      empty true h e = (inl (e, refl), record { short = omega arith; allowed = λ _. h })
      empty false h e = (e, h)

      by : (b : Bool) → is_empty_text text ≡ b → IsOutcome alphabet allow text (if b then (if allow then Ok [] else Err EmptyWord) else powers_from alphabet 0 outset text)
      by true e = empty allow refl e
      by false e = outcome_from [] text outset e refl

  -- a text has one outcome, but for want of memory
  pub one_outcome : (text : List ℕ) (r other : Result Word PowerFault) → IsOutcome alphabet allow text r → IsOutcome alphabet allow text other
      → (r ≡ Err NoMemory → ⊥) → (other ≡ Err NoMemory → ⊥) → r ≡ other
  one_outcome text r (Err EmptyWord) o p h k = tells_empty alphabet text allow r a o p
  one_outcome text r (Err (NotInAlphabet place)) o p h k = tells_stranger alphabet text allow r place o p
  one_outcome text r (Err (BadPower place)) o p h k = tells_place alphabet text allow r place o p
  one_outcome text r (Err TooLong) o p h k = tells_long alphabet text allow r a o p
  one_outcome text r (Err NoMemory) o p h k = absurd (k refl)
  one_outcome text (Ok u) (Ok v) o p h k = ap (λ w. Ok w) (one_word alphabet a text u v o.0 p.0)
  one_outcome text (Err EmptyWord) (Ok v) o p h k = sym (tells_empty alphabet text allow (Ok v) a p o)
  one_outcome text (Err (NotInAlphabet place)) (Ok v) o p h k = sym (tells_stranger alphabet text allow (Ok v) place p o)
  one_outcome text (Err (BadPower place)) (Ok v) o p h k = sym (tells_place alphabet text allow (Ok v) place p o)
  one_outcome text (Err TooLong) (Ok v) o p h k = sym (tells_long alphabet text allow (Ok v) a p o)
  one_outcome text (Err NoMemory) (Ok v) o p h k = absurd (h refl)

  -- memory is never wanting to what is made of a text
  byte_known : (b place : ℕ) → fault_of_byte alphabet b place ≡ NoMemory → ⊥
  byte_known b place h = by (is_strange alphabet b) h
    where
      by : (t : Bool) → ◌≡◌ {A = PowerFault} (if t then NotInAlphabet place else BadPower place) NoMemory → ⊥
      by true h = cc
      by false h = cc

  end_known : (place : ℕ) (s : State) → powers_at_end place s ≡ Err NoMemory → ⊥
  end_known place s h = by (is_whole (length s.outer) s.last) (nat_le (length (done s)) most_letters) h
    where
      by : (b c : Bool) → ◌≡◌ {A = Result Word PowerFault} (if b then (if c then Ok (done s) else Err TooLong) else Err (BadPower place)) (Err NoMemory) → ⊥
      by true true h = cc
      by true false h = cc
      by false c h = cc

  from_known : (place : ℕ) (s : State) (bytes : List ℕ) → powers_from alphabet place s bytes ≡ Err NoMemory → ⊥
  from_known place s [] h = end_known place s h
  from_known place s (b ∷ bytes) h = by (λ t. from_known (suc place) t bytes) (step alphabet s b) h
    where
      by : ((t : State) → powers_from alphabet (suc place) t bytes ≡ Err NoMemory → ⊥)
          → (o : Option State) → onward o (fault_of_byte alphabet b place) (λ t. powers_from alphabet (suc place) t bytes) ≡ Err NoMemory → ⊥
      by further None h = byte_known b place (let same : fault_of_byte alphabet b place ≡ NoMemory = cc in same)
      by further (Some t) h = further t h

  known : (text : List ℕ) → powers_of alphabet allow text ≡ Err NoMemory → ⊥
  known text h = by (is_empty_text text) allow h
    where
      by : (b c : Bool) → ◌≡◌ {A = Result Word PowerFault} (if b then (if c then Ok [] else Err EmptyWord) else powers_from alphabet 0 outset text) (Err NoMemory) → ⊥
      by true true h = cc
      by true false h = cc
      by false c h = from_known 0 outset text h

  -- a word that is read is what is made of the text, and a fault is told for what it is
  pub powers_read : (text : List ℕ) (u : Word) → IsWordText alphabet text u → IsReadable allow u → powers_of alphabet allow text ≡ Ok u
  powers_read text u is readable = one_outcome text (powers_of alphabet allow text) (Ok u) (outcome text) (is, readable) (known text) (λ h. let no : ⊥ = cc in no)

  pub powers_refused : (text : List ℕ) (fault : PowerFault) → IsPowerFault alphabet allow text fault → IsLineFault (with_power_cause (powers_of alphabet allow text)) (fault_of_powers fault)
  powers_refused text EmptyWord o = ap with_power_cause (one_outcome text (powers_of alphabet allow text) (Err EmptyWord) (outcome text) o (known text) (λ h. let no : ⊥ = cc in no))
  powers_refused text (NotInAlphabet place) o = ap with_power_cause (one_outcome text (powers_of alphabet allow text) (Err (NotInAlphabet place)) (outcome text) o (known text) (λ h. let no : ⊥ = cc in no))
  powers_refused text (BadPower place) o = ap with_power_cause (one_outcome text (powers_of alphabet allow text) (Err (BadPower place)) (outcome text) o (known text) (λ h. let no : ⊥ = cc in no))
  powers_refused text TooLong o = ap with_power_cause (one_outcome text (powers_of alphabet allow text) (Err TooLong) (outcome text) o (known text) (λ h. let no : ⊥ = cc in no))
  powers_refused text NoMemory o = tt

-- what the clauses of a reading say together
pub outcome_told : (alphabet : List ℕ) (allow : Bool) (text : List ℕ) (r : Result Word PowerFault) → IfOk r (IsWordText alphabet text) → IfOk r (IsReadable allow)
    → (r ≡ Err EmptyWord) ↔ (IsTrue (is_empty_text text) × IsFalse allow)
    → ((place : ℕ) → (r ≡ Err (NotInAlphabet place)) ↔ (IsFaultAt alphabet text place × IsStranger alphabet text place))
    → ((place : ℕ) → (r ≡ Err (BadPower place)) ↔ (IsFaultAt alphabet text place × ¬ IsStranger alphabet text place))
    → (r ≡ Err TooLong) ↔ StandsFor alphabet text IsLong → (r ≡ Err NoMemory → StandsFor alphabet text (IsReadable allow)) → IsOutcome alphabet allow text r
outcome_told alphabet allow text (Ok u) is readable empty stranger bad long memory = (is, readable)
outcome_told alphabet allow text (Err EmptyWord) is readable empty stranger bad long memory = empty.0 refl
outcome_told alphabet allow text (Err (NotInAlphabet place)) is readable empty stranger bad long memory = (stranger place).0 refl
outcome_told alphabet allow text (Err (BadPower place)) is readable empty stranger bad long memory = (bad place).0 refl
outcome_told alphabet allow text (Err TooLong) is readable empty stranger bad long memory = long.0 refl
outcome_told alphabet allow text (Err NoMemory) is readable empty stranger bad long memory = memory refl
