-- Where a text goes wrong.
use Rattle.std.proofs.Common.{◌≡◌, ℕ, zero, suc, ◌+◌, ◌<◌, ◌≤◌, Bool, true, false, List, [], ◌∷◌, ◌++◌, length, take, drop, get_or, Option, Some, None, ◌⊎◌, inl, inr, refl, sym, ap, ◌∙◌, subst, arith}
use Rattle.std.proofs.lemmas.List.{take_more, take_all}
use Rattle.theory.specs.Word.{Word}
use Rattle.words.specs.Alphabet.{IsAlphabet}
use Rattle.word_powers.specs.Powers.{IsWordText, IsStart, IsFaultAt}
use Rattle.word_powers.specs.PowerSteps.{State, value, done, outset, step, run, is_full, is_whole}
use Rattle.word_powers.specs.declared.powers.Sign.TheVariants as sign
use Rattle.word_powers.specs.declared.powers.Last.{Last}
use Rattle.word_powers.specs.declared.powers.Last.TheVariants as last
use Rattle.word_powers.proofs.PowerSigns.{some_letter}
use Rattle.word_powers.proofs.PowerReads.{no_run, reads_none, reads_run, reads_whole}
use Rattle.word_powers.proofs.PowerRuns.{run-append, runs_word, step_letter, step_close, stepped, sign_digit, full_ended}

-- ---- what was read can be completed

-- these bytes complete the word
record Completes (alphabet : List ℕ) (s : State) : Type 0 where
  rest : List ℕ
  after : State
  runs : run alphabet (Some s) rest ≡ Some after
  whole : is_whole (length after.outer) after.last ≡ true

closes : (alphabet : List ℕ) → IsAlphabet alphabet → (outer : List Word) (before base : Word) (was : Last) → is_full was ≡ true → Completes alphabet (record { outer = outer; before = before; base = base; last = was })
closes alphabet a [] before base was full =
    record { rest = []; after = record { outer = []; before = before; base = base; last = was }; runs = refl; whole = full_ended was full }
closes alphabet a (u ∷ us) before base was full =
    let ih = closes alphabet a us u (before ++ value was base) last.Base refl in
    record {
      rest = 41 ∷ ih.rest;
      after = ih.after;
      runs = ap (λ o. run alphabet o ih.rest) (step_close alphabet (record { outer = u ∷ us; before = before; base = base; last = was }) a (omega arith) full) ∙ ih.runs;
      whole = ih.whole;
    }

completes : (alphabet : List ℕ) → IsAlphabet alphabet → (outer : List Word) (before base : Word) (was : Last) → (was ≡ last.One → outer ≡ []) → Completes alphabet (record { outer = outer; before = before; base = base; last = was })
completes alphabet a outer before base last.Start one =
    let letter = some_letter alphabet a.filled in
    let ih = closes alphabet a outer (before ++ []) (0 ∷ []) last.Base refl in
    record {
      rest = letter.0 ∷ ih.rest;
      after = ih.after;
      runs = ap (λ o. run alphabet o ih.rest) (step_letter alphabet (record { outer = outer; before = before; base = base; last = last.Start }) letter.0 0 letter.1 refl) ∙ ih.runs;
      whole = ih.whole;
    }
completes alphabet a outer before base last.One one =
    record { rest = []; after = record { outer = outer; before = before; base = base; last = last.One }; runs = refl; whole = let e = one refl in rw e refl }
completes alphabet a outer before base last.Base one = closes alphabet a outer before base last.Base refl
completes alphabet a outer before base last.Caret one =
    let ih = closes alphabet a outer before base (last.Digits 1) refl in
    record {
      rest = 49 ∷ ih.rest;
      after = ih.after;
      runs = ap (λ o. run alphabet o ih.rest) (stepped alphabet (record { outer = outer; before = before; base = base; last = last.Caret }) 49 (sign.Digit 1) (last.Digits 1) (sign_digit alphabet 49 a (omega arith) (omega arith)) refl) ∙ ih.runs;
      whole = ih.whole;
    }
completes alphabet a outer before base (last.Digits n) one = closes alphabet a outer before base (last.Digits n) refl

-- what can be read begins a word
pub started : (alphabet : List ℕ) → IsAlphabet alphabet → (text : List ℕ) (s : State) → run alphabet (Some outset) text ≡ Some s → IsStart alphabet text
started alphabet a text s e =
    let r = reads_run alphabet [] text outset s (reads_none alphabet) e in
    let c = completes alphabet a s.outer s.before s.base s.last r.one in
    let runs : run alphabet (Some s) c.rest ≡ Some c.after = c.runs in
    let all = reads_run alphabet text c.rest s c.after r runs in
    record { rest = c.rest; word = done c.after; whole = reads_whole alphabet (text ++ c.rest) c.after all c.whole }

pub unstarted : (alphabet : List ℕ) → IsAlphabet alphabet → (text : List ℕ) → run alphabet (Some outset) text ≡ None → ¬ IsStart alphabet text
unstarted alphabet a text e start =
    let r = runs_word alphabet a (text ++ start.rest) start.word start.whole in
    no_run alphabet start.rest r.after (sym (ap (λ o. run alphabet o start.rest) e) ∙ sym (run-append alphabet (Some outset) text start.rest) ∙ r.runs)

-- a text stands for one word
pub one_word : (alphabet : List ℕ) → IsAlphabet alphabet → (text : List ℕ) (u v : Word) → IsWordText alphabet text u → IsWordText alphabet text v → u ≡ v
one_word alphabet a text u v p q =
    let r = runs_word alphabet a text u p in
    let s = runs_word alphabet a text v q in
    let e : r.after ≡ s.after = some (sym r.runs ∙ s.runs) in
    sym r.is ∙ ap (λ t. done t) e ∙ s.is
  where
    some : {x y : State} → Some x ≡ Some y → x ≡ y
    some e = cc

-- ---- the place

pub front_runs : (alphabet xs ys : List ℕ) (o : Option State) (s : State) → run alphabet o (xs ++ ys) ≡ Some s → (u : State) × (run alphabet o xs ≡ Some u)
front_runs alphabet xs ys o s e = by (run alphabet o xs) refl (sym (run-append alphabet o xs ys) ∙ e)
  where
    by : (p : Option State) → run alphabet o xs ≡ p → run alphabet p ys ≡ Some s → (u : State) × (run alphabet o xs ≡ Some u)
    by None q e = absurd (no_run alphabet ys s e)
    by (Some u) q e = (u, q)

split : (n : ℕ) (xs : List ℕ) → take n xs ++ drop n xs ≡ xs
split zero xs = refl
split (suc n) [] = refl
split (suc n) (x ∷ xs) = ap (λ ys. x ∷ ys) (split n xs)

take_front : (n i : ℕ) (xs : List ℕ) → n ≤ i → take n (take i xs) ≡ take n xs
take_front zero i xs h = refl
take_front (suc n) zero xs h = absurd (omega arith)
take_front (suc n) (suc i) [] h = refl
take_front (suc n) (suc i) (x ∷ xs) h = ap (λ ys. x ∷ ys) (take_front n i xs (omega arith))

fronts : (alphabet : List ℕ) → IsAlphabet alphabet → (text : List ℕ) (i : ℕ) (s : State) → run alphabet (Some outset) (take i text) ≡ Some s → (n : ℕ) → n ≤ i → IsStart alphabet (take n text)
fronts alphabet a text i s e n h =
    let u = front_runs alphabet (take n text) (drop n (take i text)) (Some outset) s (ap (run alphabet (Some outset)) (ap (λ t. t ++ drop n (take i text)) (sym (take_front n i text h)) ∙ split n (take i text)) ∙ e) in
    started alphabet a (take n text) u.0 u.1

pub runs_more_bytes : (alphabet text : List ℕ) (i d : ℕ) (s : State) → i < length text → run alphabet (Some outset) (take i text) ≡ Some s → run alphabet (Some outset) (take (i + 1) text) ≡ step alphabet s (get_or text i d)
runs_more_bytes alphabet text i d s h e =
    ap (run alphabet (Some outset)) (take_more text i d h)
    ∙ run-append alphabet (Some outset) (take i text) (get_or text i d ∷ [])
    ∙ ap (λ o. run alphabet o (get_or text i d ∷ [])) e

-- no word goes on with the byte
pub fault_here : (alphabet : List ℕ) → IsAlphabet alphabet → (text : List ℕ) (i d : ℕ) (s : State) → i < length text → run alphabet (Some outset) (take i text) ≡ Some s → step alphabet s (get_or text i d) ≡ None → IsFaultAt alphabet text i
fault_here alphabet a text i d s h e stuck =
    let ends : ¬ IsStart alphabet (take (i + 1) text) = unstarted alphabet a (take (i + 1) text) (runs_more_bytes alphabet text i d s h e ∙ stuck) in
    record {
      within = omega arith;
      starts = fronts alphabet a text i s e;
      ends = λ _. ends;
      no_word = λ word w. ends (record { rest = drop (i + 1) text; word = word; whole = subst (λ t. IsWordText alphabet t word) (sym (split (i + 1) text)) w });
    }

-- the text ends too early
pub fault_end : (alphabet : List ℕ) → IsAlphabet alphabet → (text : List ℕ) (s : State) → run alphabet (Some outset) text ≡ Some s → is_whole (length s.outer) s.last ≡ false → IsFaultAt alphabet text (length text)
fault_end alphabet a text s e open_end =
    record {
      within = omega arith;
      starts = fronts alphabet a text (length text) s (ap (run alphabet (Some outset)) (take_all (length text) text (omega arith)) ∙ e);
      ends = λ h. absurd (omega arith);
      no_word = λ word w.
          let r = runs_word alphabet a text word w in
          let is : r.after ≡ s = some (sym r.runs ∙ e) in
          clash (is_whole (length r.after.outer) r.after.last) r.whole (ap (λ (t : State). is_whole (length t.outer) t.last) is ∙ open_end);
    }
  where
    some : {x y : State} → Some x ≡ Some y → x ≡ y
    some e = cc

    clash : (b : Bool) → b ≡ true → b ≡ false → ⊥
    clash b p q = cc

-- the text is a word's
pub word_end : (alphabet : List ℕ) (text : List ℕ) (s : State) → run alphabet (Some outset) text ≡ Some s → is_whole (length s.outer) s.last ≡ true → IsWordText alphabet text (done s)
word_end alphabet text s e whole = reads_whole alphabet text s (reads_run alphabet [] text outset s (reads_none alphabet) e) whole

-- there is one such place
pub one_place : (alphabet text : List ℕ) (p q : ℕ) → IsFaultAt alphabet text p → IsFaultAt alphabet text q → p ≡ q
one_place alphabet text p q f g = by (order p q)
  where
    order : (p q : ℕ) → (p ≡ q) ⊎ ((p < q) ⊎ (q < p))
    order p q = grind arith

    by : (p ≡ q) ⊎ ((p < q) ⊎ (q < p)) → p ≡ q
    by (inl e) = e
    by (inr (inl h)) = absurd (f.ends (let w = g.within in omega arith) (g.starts (p + 1) (omega arith)))
    by (inr (inr h)) = absurd (g.ends (let w = f.within in omega arith) (f.starts (q + 1) (omega arith)))
