-- Where the words of what was read lie.
use Rattle.std.proofs.Common.{◌≡◌, ℕ, zero, suc, ◌+◌, ◌*◌, ◌-◌, ◌<◌, ◌≤◌, Bool, true, false, ◌==◌, ◌&&◌, nat_lt, List, [], ◌∷◌, ◌++◌, length, slice_index, slice_set, Option, Some, None, refl, sym, ap, ◌∙◌, subst, arith, cond, append_assoc, append-nil, length-append, zero-add}
use Rattle.std.proofs.lemmas.Grind.{common_steps}
use Rattle.theory.specs.Word.{Word}
use Rattle.word_powers.specs.Powers.{power}
use Rattle.word_powers.specs.PowerSteps.{State, value, done, outset, enter, entered, next, after_digit, after_caret, copies_of_digit, joined, written, head_word, tail_words, step, run, sign_of, is_ready, is_full}
use Rattle.word_powers.specs.PowerMarks.{outset_marks, marks_of}
use Rattle.word_powers.specs.declared.powers.Marks.{Marks}
use Rattle.word_powers.specs.declared.powers.Sign.{Sign}
use Rattle.word_powers.specs.declared.powers.Sign.TheVariants as sign
use Rattle.word_powers.specs.declared.powers.Last.{Last}
use Rattle.word_powers.specs.declared.powers.Last.TheVariants as last
use Rattle.word_powers.proofs.PowerReads.{both, cond_some, less, no_run}

-- ---- powers

pub power_add : (m n : ℕ) (u : Word) → power (n + m) u ≡ power m u ++ power n u
power_add m zero u = rw (zero-add, append-nil) refl
power_add m (suc n) u =
    let e : suc n + m ≡ suc (n + m) = omega arith in
    rw e (ap (λ v. v ++ u) (power_add m n u) ∙ append_assoc (power m u) (power n u) u)

pub length-power : (n : ℕ) (u : Word) → length (power n u) ≡ n * length u
length-power zero u = omega arith
length-power (suc n) u = let ih = length-power n u in let e = length-append (power n u) u in let m : suc n * length u ≡ n * length u + length u = grind arith in omega arith

-- ---- what a byte adds

-- what a byte writes
unfoldable pub grown : State → Sign → Word
grown s (sign.Letter letter) = letter ∷ []
grown s sign.Open = []
grown s sign.Close = []
grown s sign.Caret = []
grown s (sign.Digit digit) = power (copies_of_digit s.last digit) s.base
grown s sign.Stranger = []

caret_value : (was w : Last) (u : Word) → after_caret was ≡ Some w → value w u ≡ value was u
caret_value last.Start w u e = absurd (cc)
caret_value last.One w u e = absurd (cc)
caret_value last.Base w u e = let is : last.Caret ≡ w = cc in subst (λ v. value v u ≡ u) is refl
caret_value last.Caret w u e = absurd (cc)
caret_value (last.Digits n) w u e = absurd (cc)

digit_value : (depth : ℕ) (was w : Last) (digit : ℕ) (u : Word) → after_digit depth was digit ≡ Some w → value w u ≡ value was u ++ power (copies_of_digit was digit) u
digit_value depth last.Start w digit u e = let is = (cond_some (depth == 0 && digit == 1) last.One w e).1 in subst (λ v. value v u ≡ []) is refl
digit_value depth last.One w digit u e = absurd (cc)
digit_value depth last.Base w digit u e = absurd (cc)
digit_value depth last.Caret w digit u e = by (digit == 0) refl e
  where
    more : (digit : ℕ) → (digit == 0) ≡ false → digit ≡ (digit - 1) + 1
    more digit z = grind (arith, common_steps)

    by : (z : Bool) → (digit == 0) ≡ z → cond z None (Some (last.Digits digit)) ≡ Some w → value w u ≡ u ++ power (digit - 1) u
    by true z e = absurd (cc)
    by false z e =
        let is : last.Digits digit ≡ w = cc in
        subst (λ v. value v u ≡ u ++ power (digit - 1) u) is (ap (λ n. power n u) (more digit z) ∙ power_add 1 (digit - 1) u)
digit_value depth (last.Digits n) w digit u e =
    let is = (cond_some (nat_lt n 1000) (last.Digits (10 * n + digit)) w e).1 in
    let more : 10 * n + digit ≡ (9 * n + digit) + n = omega arith in
    subst (λ v. value v u ≡ power n u ++ power (9 * n + digit) u) is (ap (λ k. power k u) more ∙ power_add n (9 * n + digit) u)

close_written : (outer : List Word) (u : Word) → 0 < length outer → joined ((head_word outer ++ u) ∷ tail_words outer) ≡ joined (u ∷ outer)
close_written [] u h = absurd (omega arith)
close_written (v ∷ outer) u h = sym (append_assoc (joined outer) v u)

-- what was read, one byte further
pub written_next : (s : State) (sg : Sign) (w : Last) → next (length s.outer) s.last sg ≡ Some w → written (enter s sg w) ≡ written s ++ grown s sg
unfolding grown
written_next s (sign.Letter a) w e =
    let is = (cond_some (is_ready s.last) last.Base w e).1 in
    subst (λ v. joined s.outer ++ (done s ++ value v (a ∷ [])) ≡ (joined s.outer ++ done s) ++ a ∷ []) is (sym (append_assoc (joined s.outer) (done s) (a ∷ [])))
written_next s sign.Open w e =
    let is = (cond_some (is_ready s.last && nat_lt (length s.outer) 8) last.Start w e).1 in
    subst (λ v. (joined s.outer ++ done s) ++ value v [] ≡ (joined s.outer ++ done s) ++ []) is refl
written_next s sign.Close w e =
    let h = cond_some (is_full s.last && nat_lt 0 (length s.outer)) last.Base w e in
    let l = less 0 (length s.outer) (both (is_full s.last) (nat_lt 0 (length s.outer)) h.0).1 in
    subst (λ v. joined ((head_word s.outer ++ value v (done s)) ∷ tail_words s.outer) ≡ joined (done s ∷ s.outer) ++ []) h.1 (close_written s.outer (done s) l ∙ sym (append-nil (joined (done s ∷ s.outer))))
written_next s sign.Caret w e =
    ap (λ u. joined s.outer ++ (s.before ++ u)) (caret_value s.last w s.base e) ∙ sym (append-nil (joined s.outer ++ done s))
written_next s (sign.Digit d) w e =
    ap (λ u. joined s.outer ++ (s.before ++ u)) (digit_value (length s.outer) s.last w d s.base e) ∙ simp append_assoc
written_next s sign.Stranger w e = absurd (cc)

pub written_step : (alphabet : List ℕ) (s : State) (byte : ℕ) (s' : State) → step alphabet s byte ≡ Some s' → written s' ≡ written s ++ grown s (sign_of alphabet byte)
written_step alphabet s byte s' e = by (next (length s.outer) s.last (sign_of alphabet byte)) refl e
  where
    by : (o : Option Last) → next (length s.outer) s.last (sign_of alphabet byte) ≡ o → entered s (sign_of alphabet byte) o ≡ Some s' → written s' ≡ written s ++ grown s (sign_of alphabet byte)
    by None n e = absurd (cc)
    by (Some w) n e =
        let is : enter s (sign_of alphabet byte) w ≡ s' = cc in
        subst (λ (t : State). written t ≡ written s ++ grown s (sign_of alphabet byte)) is (written_next s (sign_of alphabet byte) w n)

-- nothing that is read makes it shorter
pub never_shorter : (alphabet text : List ℕ) (s s' : State) → run alphabet (Some s) text ≡ Some s' → length (written s) ≤ length (written s')
never_shorter alphabet [] s s' e = let is : s ≡ s' = cc in subst (λ (t : State). length (written s) ≤ length (written t)) is (omega arith)
never_shorter alphabet (b ∷ bs) s s' e = by (step alphabet s b) refl e (λ u. never_shorter alphabet bs u s')
  where
    by : (o : Option State) → step alphabet s b ≡ o → run alphabet o bs ≡ Some s' → ((u : State) → run alphabet (Some u) bs ≡ Some s' → length (written u) ≤ length (written s')) → length (written s) ≤ length (written s')
    by None n e rest = absurd (no_run alphabet bs s' e)
    by (Some u) n e rest =
        let more = ap length (written_step alphabet s b u n) in
        let l = length-append (written s) (grown s (sign_of alphabet b)) in
        let r = rest u e in
        omega arith

-- ---- the marks

-- each open group begins where the words in front of it end
pub Held : List Word → List ℕ → Type 0
Held [] starts = Unit {0}
Held (u ∷ us) starts = (slice_index starts (length us) ≡ length (joined (u ∷ us))) × Held us starts

pub record IsMarked (m : Marks) (s : State) : Type 0 where
  pub depth : m.depth ≡ length s.outer
  pub last : m.last ≡ s.last
  pub size : length m.starts ≡ 8
  pub starts : Held s.outer m.starts
  pub base : m.base ≡ length (joined (s.before ∷ s.outer))
  pub width : m.width ≡ length s.base

pub marked_outset : IsMarked outset_marks outset
unfolding Held
marked_outset = record { depth = refl; last = refl; size = refl; starts = tt; base = refl; width = refl }

set_here : (xs : List ℕ) (i x : ℕ) → i < length xs → slice_index (slice_set xs i x) i ≡ x
set_here [] i x h = absurd (omega arith)
set_here (y ∷ ys) zero x h = refl
set_here (y ∷ ys) (suc i) x h = set_here ys i x (omega arith)

set_there : (xs : List ℕ) (i j x : ℕ) → j < i → slice_index (slice_set xs i x) j ≡ slice_index xs j
set_there [] i j x h = refl
set_there (y ∷ ys) zero j x h = absurd (omega arith)
set_there (y ∷ ys) (suc i) zero x h = refl
set_there (y ∷ ys) (suc i) (suc j) x h = set_there ys i j x (omega arith)

set_length : (xs : List ℕ) (i x : ℕ) → length (slice_set xs i x) ≡ length xs
set_length [] i x = refl
set_length (y ∷ ys) zero x = refl
set_length (y ∷ ys) (suc i) x = ap suc (set_length ys i x)

held_set : (outer : List Word) (starts : List ℕ) (i x : ℕ) → length outer ≤ i → Held outer starts → Held outer (slice_set starts i x)
unfolding Held
held_set [] starts i x h held = tt
held_set (u ∷ us) starts i x h held = (set_there starts i (length us) x (omega arith) ∙ held.0, held_set us starts i x (omega arith) held.1)

held_open : (outer : List Word) (u : Word) (starts : List ℕ) (depth len : ℕ) → depth ≡ length outer → length outer < length starts → len ≡ length (joined (u ∷ outer)) → Held outer starts → Held (u ∷ outer) (slice_set starts depth len)
unfolding Held
held_open outer u starts depth len d h l held =
    (ap (λ i. slice_index (slice_set starts i len) (length outer)) d ∙ set_here starts (length outer) len h ∙ l, held_set outer starts depth len (omega arith) held)

held_close : (outer : List Word) (starts : List ℕ) (depth : ℕ) → depth ≡ length outer → 0 < length outer → Held outer starts → (slice_index starts (depth - 1) ≡ length (joined (head_word outer ∷ tail_words outer))) × Held (tail_words outer) starts × (depth - 1 ≡ length (tail_words outer))
unfolding Held
held_close [] starts depth d h held = absurd (omega arith)
held_close (u ∷ us) starts depth d h held = let e : depth - 1 ≡ length us = omega arith in (ap (slice_index starts) e ∙ held.0, held.1, e)

joined_length : (u v : Word) (outer : List Word) → length (joined ((u ++ v) ∷ outer)) ≡ length (joined (u ∷ outer)) + length v
joined_length u v outer = let a = length-append (joined outer) (u ++ v) in let b = length-append u v in let d = length-append (joined outer) u in omega arith

head_joined : (outer : List Word) → 0 < length outer → joined (head_word outer ∷ tail_words outer) ≡ joined outer
head_joined [] h = absurd (omega arith)
head_joined (u ∷ us) h = refl

-- one byte further
pub marked_next : (m : Marks) (s : State) (sg : Sign) (w : Last) (len : ℕ) → IsMarked m s → len ≡ length (written s) → next (length s.outer) s.last sg ≡ Some w → IsMarked (marks_of m len sg w) (enter s sg w)
marked_next m s (sign.Letter a) w len k l e =
    record { depth = k.depth; last = refl; size = k.size; starts = k.starts; base = l; width = refl }
marked_next m s sign.Open w len k l e =
    let h = cond_some (is_ready s.last && nat_lt (length s.outer) 8) last.Start w e in
    let room = less (length s.outer) 8 (both (is_ready s.last) (nat_lt (length s.outer) 8) h.0).1 in
    let size = k.size in
    let deep = k.depth in
    record {
      depth = omega arith;
      last = h.1;
      size = set_length m.starts m.depth len ∙ k.size;
      starts = held_open s.outer (done s) m.starts m.depth len k.depth (omega arith) l k.starts;
      base = l ∙ ap length (sym (append-nil (joined (done s ∷ s.outer))));
      width = refl;
    }
marked_next m s sign.Close w len k l e =
    let h = cond_some (is_full s.last && nat_lt 0 (length s.outer)) last.Base w e in
    let some = less 0 (length s.outer) (both (is_full s.last) (nat_lt 0 (length s.outer)) h.0).1 in
    let c = held_close s.outer m.starts m.depth k.depth some k.starts in
    let total = length-append (joined s.outer) (done s) in
    let front = ap length (head_joined s.outer some) in
    let start = c.0 in
    record {
      depth = c.2;
      last = h.1;
      size = k.size;
      starts = c.1;
      base = c.0;
      width = omega arith;
    }
marked_next m s sign.Caret w len k l e = record { depth = k.depth; last = refl; size = k.size; starts = k.starts; base = k.base; width = k.width }
marked_next m s (sign.Digit d) w len k l e = record { depth = k.depth; last = refl; size = k.size; starts = k.starts; base = k.base; width = k.width }
marked_next m s sign.Stranger w len k l e = absurd (cc)
