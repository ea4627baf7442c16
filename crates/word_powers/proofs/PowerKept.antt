-- The length and the word of what was read, byte by byte.
use Rattle.std.proofs.Common.{◌≡◌, ℕ, zero, suc, ◌+◌, ◌*◌, ◌-◌, ◌<◌, ◌≤◌, true, ◌==◌, List, [], ◌∷◌, ◌++◌, length, take, drop, get_or, slice_range, Option, Some, None, ◌⊎◌, inl, inr, refl, sym, ap, ◌∙◌, subst, arith, append_assoc, append-nil, length-append}
use Rattle.std.proofs.lemmas.List.{take-append-drop, take_all}
use Rattle.std.proofs.Math.Seq.{drop-append_seam, take-append_seam}
use Rattle.theory.specs.Word.{Word}
use Rattle.words.specs.Alphabet.{IsAlphabet}
use Rattle.word_powers.specs.Powers.{IsExponent, IsWordText, HasWord, IsLong, IsShort, StandsFor, power}
use Rattle.word_powers.specs.PowerSteps.{State, value, done, outset, enter, entered, next, copies_of_digit, joined, written, is_ended, is_whole, step, run, sign_of}
use Rattle.word_powers.specs.PowerMarks.{outset_marks, marks_after, growth, grown_behind, IsSmall}
use Rattle.word_powers.specs.declared.powers.Marks.{Marks}
use Rattle.word_powers.specs.declared.powers.Sign.{Sign}
use Rattle.word_powers.specs.declared.powers.Sign.TheVariants as sign
use Rattle.word_powers.specs.declared.powers.Last.{Last}
use Rattle.word_powers.proofs.PowerTexts.{IsLast, Begun, Unit_word, Whole, Raised, Counted, exponent_short}
use Rattle.word_powers.proofs.PowerReads.{both, same, no_outer}
use Rattle.word_powers.proofs.PowerRuns.{run-append, runs_word}
use Rattle.word_powers.proofs.PowerFaults.{front_runs, runs_more_bytes}
use Rattle.word_powers.proofs.PowerPlaces.{is_read, few_groups, step_is}
use Rattle.word_powers.proofs.PowerMarked.{IsMarked, grown, marked_next, marked_outset, written_next, never_shorter, power_add, length-power}

-- ---- the last item

pub exponent_bounds : (count : ℕ) (text : List ℕ) (number : ℕ) → IsExponent count text number → (1 ≤ number) × (number < 10000)
exponent_bounds count text number e = by (exponent_short count text number e)
  where
    by : ((count ≡ 1) × (1 ≤ number) × (number ≤ 9)) ⊎ (((count ≡ 2) × (10 ≤ number) × (number ≤ 99)) ⊎ (((count ≡ 3) × (100 ≤ number) × (number ≤ 999)) ⊎ ((count ≡ 4) × (1000 ≤ number) × (number ≤ 9999)))) → (1 ≤ number) × (number < 10000)
    by (inl p) = (p.1, omega (arith, p.2))
    by (inr (inl p)) = (omega (arith, p.1), omega (arith, p.2))
    by (inr (inr (inl p))) = (omega (arith, p.1), omega (arith, p.2))
    by (inr (inr (inr p))) = (omega (arith, p.1), omega (arith, p.2))

-- what the last item stands for begins with its base
base_front : (alphabet : List ℕ) (room : ℕ) (was : Last) (rest : List ℕ) (before base : Word) → IsLast alphabet room was rest before base → (more : Word) × (value was base ≡ base ++ more)
base_front alphabet room was rest before base Begun = ([], refl)
base_front alphabet room was rest before base Unit_word = ([], refl)
base_front alphabet room was rest before base (Whole text more _ _ seq b) = ([], sym (append-nil base))
base_front alphabet room was rest before base (Raised text more _ _ seq b) = ([], sym (append-nil base))
base_front alphabet room was rest before base (Counted text more _ _ count digits number seq b e) =
    let one = (exponent_bounds count digits number e).0 in
    let split : number ≡ (number - 1) + 1 = omega arith in
    (power (number - 1) base, ap (λ n. power n base) split ∙ power_add 1 (number - 1) base)

small_last : (alphabet : List ℕ) (room : ℕ) (was : Last) (rest : List ℕ) (before base : Word) → IsLast alphabet room was rest before base → IsSmall was
small_last alphabet room was rest before base Begun = tt
small_last alphabet room was rest before base Unit_word = tt
small_last alphabet room was rest before base (Whole text more _ _ seq b) = tt
small_last alphabet room was rest before base (Raised text more _ _ seq b) = tt
small_last alphabet room was rest before base (Counted text more _ _ count digits number seq b e) = (exponent_bounds count digits number e).1

-- ---- what is known at each byte

-- so many bytes were read, and stand for so many letters
pub record IsKept (alphabet text : List ℕ) (i len : ℕ) (m : Marks) : Type 0 where
  pub state : State
  pub runs : run alphabet (Some outset) (take i text) ≡ Some state
  pub marked : IsMarked m state
  pub len_is : len ≡ length (written state)

pub kept_start : (alphabet text : List ℕ) → IsKept alphabet text 0 0 outset_marks
kept_start alphabet text = record { state = outset; runs = refl; marked = marked_outset; len_is = refl }

pub kept_depth : (alphabet text : List ℕ) (i len : ℕ) (m : Marks) → IsKept alphabet text i len m → m.depth ≤ 8
kept_depth alphabet text i len m k =
    let few = few_groups alphabet (take i text) k.state (is_read alphabet (take i text) k.state k.runs) in
    let e = k.marked.depth in
    omega arith

pub kept_small : (alphabet text : List ℕ) (i len : ℕ) (m : Marks) → IsKept alphabet text i len m → IsSmall m.last
kept_small alphabet text i len m k =
    let r = is_read alphabet (take i text) k.state k.runs in
    subst IsSmall (sym k.marked.last) (small_last alphabet r.room k.state.last r.rest k.state.before k.state.base r.at)

-- the last base stands where the marks say
base_stands : (alphabet text : List ℕ) (i len : ℕ) (m : Marks) (k : IsKept alphabet text i len m) → (more : Word) × (written k.state ≡ joined (k.state.before ∷ k.state.outer) ++ (k.state.base ++ more))
base_stands alphabet text i len m k =
    let r = is_read alphabet (take i text) k.state k.runs in
    let f = base_front alphabet r.room k.state.last r.rest k.state.before k.state.base r.at in
    (f.0, ap (λ u. joined k.state.outer ++ (k.state.before ++ u)) f.1 ∙ sym (append_assoc (joined k.state.outer) k.state.before (k.state.base ++ f.0)))

pub kept_base : (alphabet text : List ℕ) (i len : ℕ) (m : Marks) → IsKept alphabet text i len m → m.base + m.width ≤ len
kept_base alphabet text i len m k =
    let b = base_stands alphabet text i len m k in
    let e = ap length b.1 in
    let f = length-append (joined (k.state.before ∷ k.state.outer)) (k.state.base ++ b.0) in
    let g = length-append k.state.base b.0 in
    let p = k.marked.base in
    let q = k.marked.width in
    let l = k.len_is in
    omega arith

grown_length : (m : Marks) (s : State) (sg : Sign) → IsMarked m s → length (grown s sg) ≡ growth m sg
unfolding grown
grown_length m s (sign.Letter a) k = refl
grown_length m s sign.Open k = refl
grown_length m s sign.Close k = refl
grown_length m s sign.Caret k = refl
grown_length m s (sign.Digit d) k =
    length-power (copies_of_digit s.last d) s.base ∙ ap (λ v. copies_of_digit v d * length s.base) (sym k.last) ∙ ap (λ n. copies_of_digit m.last d * n) (sym k.width)
grown_length m s sign.Stranger k = refl

-- a byte of a word's text may stand where it stands
step_in_word : (alphabet text : List ℕ) (i d : ℕ) (s : State) → IsAlphabet alphabet → HasWord alphabet text → i < length text → run alphabet (Some outset) (take i text) ≡ Some s → (u : State) × (step alphabet s (get_or text i d) ≡ Some u)
step_in_word alphabet text i d s a w h e =
    let r = runs_word alphabet a text w.0 w.1 in
    let f = front_runs alphabet (take (i + 1) text) (drop (i + 1) text) (Some outset) r.after (ap (run alphabet (Some outset)) (take-append-drop (i + 1) text) ∙ r.runs) in
    (f.0, sym (runs_more_bytes alphabet text i d s h e) ∙ f.1)

pub kept_next : (alphabet text : List ℕ) (i d len : ℕ) (m : Marks) (sg : Sign) (len' : ℕ) (m' : Marks) → IsAlphabet alphabet → HasWord alphabet text → i < length text → IsKept alphabet text i len m → sg ≡ sign_of alphabet (get_or text i d) → len' ≡ len + growth m sg → m' ≡ marks_after m len sg (next m.depth m.last sg) → IsKept alphabet text (i + 1) len' m'
kept_next alphabet text i d len m sg len' m' a w h k e l is =
    let u = step_in_word alphabet text i d k.state a w h k.runs in
    by (next m.depth m.last sg) refl (sym (step_is alphabet k.state (get_or text i d) m.depth m.last sg (next m.depth m.last sg) k.marked.depth k.marked.last e refl) ∙ u.1) is
  where
    by : {u : State} (o : Option Last) → next m.depth m.last sg ≡ o → entered k.state sg o ≡ Some u → m' ≡ marks_after m len sg o → IsKept alphabet text (i + 1) len' m'
    by None n f is = absurd (cc)
    by (Some v) n f is =
        let at : next (length k.state.outer) k.state.last sg ≡ Some v =
        sym (ap (λ x. next x m.last sg) k.marked.depth ∙ ap (λ x. next (length k.state.outer) x sg) k.marked.last) ∙ n in
        let longer = ap length (written_next k.state sg v at) in
        let sum = length-append (written k.state) (grown k.state sg) in
        let more = grown_length m k.state sg k.marked in
        let old = k.len_is in
        record {
          state = enter k.state sg v;
          runs = runs_more_bytes alphabet text i d k.state h k.runs ∙ step_is alphabet k.state (get_or text i d) m.depth m.last sg (Some v) k.marked.depth k.marked.last e (sym n);
          marked = subst (λ x. IsMarked x (enter k.state sg v)) (sym is) (marked_next m k.state sg v len k.marked k.len_is at);
          len_is = omega arith;
        }

-- ---- the end

whole_written : (s : State) → is_whole (length s.outer) s.last ≡ true → written s ≡ done s
whole_written s e =
    let top = no_outer s.outer (same (length s.outer) 0 (both (length s.outer == 0) (is_ended s.last) e).0) in
    ap (λ us. joined us ++ done s) top

-- what was read is no longer than the word
pub kept_below : (alphabet text : List ℕ) (i len : ℕ) (m : Marks) (word : Word) → IsAlphabet alphabet → IsKept alphabet text i len m → IsWordText alphabet text word → len ≤ length word
kept_below alphabet text i len m word a k w =
    let r = runs_word alphabet a text word w in
    let rest : run alphabet (Some k.state) (drop i text) ≡ Some r.after =
    ap (λ o. run alphabet o (drop i text)) (sym k.runs) ∙ sym (run-append alphabet (Some outset) (take i text) (drop i text)) ∙ ap (run alphabet (Some outset)) (take-append-drop i text) ∙ r.runs in
    let longer = never_shorter alphabet (drop i text) k.state r.after rest in
    let same = ap length (whole_written r.after r.whole ∙ r.is) in
    let l = k.len_is in
    omega arith

pub kept_long : (alphabet text : List ℕ) (i d len : ℕ) (m : Marks) (sg : Sign) → IsAlphabet alphabet → HasWord alphabet text → i < length text → IsKept alphabet text i len m → sg ≡ sign_of alphabet (get_or text i d) → 4096 < len + growth m sg → StandsFor alphabet text IsLong
kept_long alphabet text i d len m sg a w h k e long =
    let below = kept_below alphabet text (i + 1) (len + growth m sg) (marks_after m len sg (next m.depth m.last sg)) w.0 a (kept_next alphabet text i d len m sg (len + growth m sg) (marks_after m len sg (next m.depth m.last sg)) a w h k e refl refl) w.1 in
    (w.0, w.1, omega arith)

-- all was read
kept_end : (alphabet text : List ℕ) (i len : ℕ) (m : Marks) (word : Word) → IsAlphabet alphabet → length text ≤ i → (k : IsKept alphabet text i len m) → IsWordText alphabet text word → written k.state ≡ word
kept_end alphabet text i len m word a h k w =
    let r = runs_word alphabet a text word w in
    let e : run alphabet (Some outset) text ≡ Some k.state = ap (run alphabet (Some outset)) (sym (take_all i text h)) ∙ k.runs in
    let is : k.state ≡ r.after = some (sym e ∙ r.runs) in
    ap (λ (s : State). written s) is ∙ whole_written r.after r.whole ∙ r.is
  where
    some : {x y : State} → Some x ≡ Some y → x ≡ y
    some e = cc

pub kept_short : (alphabet text : List ℕ) (i len : ℕ) (m : Marks) → IsAlphabet alphabet → HasWord alphabet text → length text ≤ i → IsKept alphabet text i len m → len ≤ 4096 → StandsFor alphabet text IsShort
kept_short alphabet text i len m a w h k short =
    let e = ap length (kept_end alphabet text i len m w.0 a h k w.1) in
    let l = k.len_is in
    (w.0, w.1, omega arith)

-- ---- the word

-- so many bytes were read, and stand for the word
pub record IsBuilt (alphabet text : List ℕ) (i : ℕ) (word : Word) (m : Marks) : Type 0 where
  pub kept : IsKept alphabet text i (length word) m
  pub word_is : word ≡ written kept.state

pub built_start : (alphabet text : List ℕ) → IsBuilt alphabet text 0 [] outset_marks
unfolding kept_start
built_start alphabet text = record { kept = kept_start alphabet text; word_is = refl }

middle : (xs ys zs : Word) (i j : ℕ) → i ≡ length xs → j ≡ length ys → slice_range (xs ++ (ys ++ zs)) i (i + j) ≡ ys
middle xs ys zs i j e f =
    let n : i + j - i ≡ length ys = omega arith in
    ap (λ k. take k (drop i (xs ++ (ys ++ zs)))) n ∙ ap (λ k. take (length ys) (drop k (xs ++ (ys ++ zs)))) e ∙ ap (take (length ys)) (drop-append_seam xs (ys ++ zs)) ∙ take-append_seam ys zs

base_piece : (alphabet text : List ℕ) (i : ℕ) (word : Word) (m : Marks) (b : IsBuilt alphabet text i word m) → slice_range word m.base (m.base + m.width) ≡ b.kept.state.base
base_piece alphabet text i word m b =
    let s = base_stands alphabet text i (length word) m b.kept in
    ap (λ u. slice_range u m.base (m.base + m.width)) (b.word_is ∙ s.1) ∙ middle (joined (b.kept.state.before ∷ b.kept.state.outer)) b.kept.state.base s.0 m.base m.width b.kept.marked.base b.kept.marked.width

grown_is : (alphabet text : List ℕ) (i : ℕ) (word : Word) (m : Marks) (sg : Sign) (b : IsBuilt alphabet text i word m) → grown_behind m word sg ≡ grown b.kept.state sg
unfolding grown
grown_is alphabet text i word m (sign.Letter a) b = refl
grown_is alphabet text i word m sign.Open b = refl
grown_is alphabet text i word m sign.Close b = refl
grown_is alphabet text i word m sign.Caret b = refl
grown_is alphabet text i word m (sign.Digit d) b =
    ap (power (copies_of_digit m.last d)) (base_piece alphabet text i word m b) ∙ ap (λ v. power (copies_of_digit v d) b.kept.state.base) b.kept.marked.last
grown_is alphabet text i word m sign.Stranger b = refl

pub built_few : (alphabet text : List ℕ) (i : ℕ) (word : Word) (m : Marks) → IsAlphabet alphabet → IsBuilt alphabet text i word m → StandsFor alphabet text IsShort → length word ≤ 4096
built_few alphabet text i word m a b w = let h = kept_below alphabet text i (length word) m w.0 a b.kept w.1 in let s : length w.0 ≤ 4096 = w.2 in omega arith

pub built_next : (alphabet text : List ℕ) (i d : ℕ) (word : Word) (m : Marks) (sg : Sign) (word' : Word) (m' : Marks) → IsAlphabet alphabet → StandsFor alphabet text IsShort → i < length text → IsBuilt alphabet text i word m → sg ≡ sign_of alphabet (get_or text i d) → word' ≡ word ++ grown_behind m word sg → m' ≡ marks_after m (length word) sg (next m.depth m.last sg) → IsBuilt alphabet text (i + 1) word' m'
built_next alphabet text i d word m sg word' m' a w h b e is marks =
    let u = step_in_word alphabet text i d b.kept.state a (w.0, w.1) h b.kept.runs in
    by (next m.depth m.last sg) refl (sym (step_is alphabet b.kept.state (get_or text i d) m.depth m.last sg (next m.depth m.last sg) b.kept.marked.depth b.kept.marked.last e refl) ∙ u.1)
  where
    by : {u : State} (o : Option Last) → next m.depth m.last sg ≡ o → entered b.kept.state sg o ≡ Some u → IsBuilt alphabet text (i + 1) word' m'
    by None n f = absurd (cc)
    by (Some v) n f =
        let k = b.kept in
        let at : next (length k.state.outer) k.state.last sg ≡ Some v =
        sym (ap (λ x. next x m.last sg) k.marked.depth ∙ ap (λ x. next (length k.state.outer) x sg) k.marked.last) ∙ n in
        let whole : word' ≡ written (enter k.state sg v) = is ∙ ap (λ x. word ++ x) (grown_is alphabet text i word m sg b) ∙ ap (λ x. x ++ grown k.state sg) b.word_is ∙ sym (written_next k.state sg v at) in
        record {
          kept = record {
            state = enter k.state sg v;
            runs = runs_more_bytes alphabet text i d k.state h k.runs ∙ step_is alphabet k.state (get_or text i d) m.depth m.last sg (Some v) k.marked.depth k.marked.last e (sym n);
            marked = subst (λ x. IsMarked x (enter k.state sg v)) (sym (marks ∙ ap (marks_after m (length word) sg) n)) (marked_next m k.state sg v (length word) k.marked k.len_is at);
            len_is = ap length whole;
          };
          word_is = whole;
        }

pub built_end : (alphabet text : List ℕ) (i : ℕ) (word : Word) (m : Marks) → IsAlphabet alphabet → StandsFor alphabet text IsShort → length text ≤ i → IsBuilt alphabet text i word m → IsWordText alphabet text word
built_end alphabet text i word m a w h b =
    subst (IsWordText alphabet text) (sym (b.word_is ∙ kept_end alphabet text i (length word) m w.0 a h b.kept w.1)) w.1

-- ---- copies

take_back : (n : ℕ) (xs ys : Word) → n ≤ length xs → take n (xs ++ ys) ≡ take n xs
take_back zero xs ys h = refl
take_back (suc n) [] ys h = absurd (omega arith)
take_back (suc n) (x ∷ xs) ys h = ap (λ zs. x ∷ zs) (take_back n xs ys (omega arith))

range_back : (xs ys : Word) (i j : ℕ) → i ≤ j → j ≤ length xs → slice_range (xs ++ ys) i j ≡ slice_range xs i j
range_back xs ys zero j l h = take_back (j - 0) xs ys (omega arith)
range_back [] ys (suc i) j l h = absurd (omega arith)
range_back (x ∷ xs) ys (suc i) zero l h = absurd (omega arith)
range_back (x ∷ xs) ys (suc i) (suc j) l h =
    let e : suc j - suc i ≡ j - i = omega arith in
    ap (λ n. take n (drop i (xs ++ ys))) e ∙ range_back xs ys i j (omega arith) (omega arith) ∙ sym (ap (λ n. take n (drop i xs)) e)

pub one_copy_more : (old now new : Word) (i j n : ℕ) → i ≤ j → j ≤ length old → now ≡ old ++ power n (slice_range old i j) → new ≡ now ++ slice_range now i j → new ≡ old ++ power (n + 1) (slice_range old i j)
one_copy_more old now new i j n l h e is =
    let piece : slice_range now i j ≡ slice_range old i j = ap (λ u. slice_range u i j) e ∙ range_back old (power n (slice_range old i j)) i j l h in
    let more : n + 1 ≡ suc n = omega arith in
    is ∙ ap (λ u. now ++ u) piece ∙ ap (λ u. u ++ slice_range old i j) e ∙ append_assoc old (power n (slice_range old i j)) (slice_range old i j) ∙ ap (λ k. old ++ power k (slice_range old i j)) (sym more)
