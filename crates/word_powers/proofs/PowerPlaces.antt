-- What the reader knows at each byte.
use Rattle.std.proofs.Common.{◌≡◌, ℕ, ◌+◌, ◌-◌, ◌<◌, ◌≤◌, true, false, List, [], ◌∷◌, length, take, get_or, Option, Some, None, refl, sym, ap, ◌∙◌, arith}
use Rattle.std.proofs.lemmas.List.{take_all}
use Rattle.theory.specs.Word.{Word}
use Rattle.words.specs.Alphabet.{IsAlphabet}
use Rattle.word_powers.specs.Powers.{IsWordText, IsFaultAt}
use Rattle.word_powers.specs.PowerSteps.{State, done, outset, enter, entered, next, depth_after, tail_words, step, run, sign_of, is_whole}
use Rattle.word_powers.specs.declared.powers.Sign.{Sign}
use Rattle.word_powers.specs.declared.powers.Sign.TheVariants as sign
use Rattle.word_powers.specs.declared.powers.Last.{Last}
use Rattle.word_powers.specs.declared.powers.Last.TheVariants as last
use Rattle.word_powers.proofs.PowerTexts.{IsRead, front_room}
use Rattle.word_powers.proofs.PowerReads.{reads_none, reads_run}
use Rattle.word_powers.proofs.PowerFaults.{runs_more_bytes, fault_here, fault_end, word_end}

pub is_read : (alphabet text : List ℕ) (s : State) → run alphabet (Some outset) text ≡ Some s → IsRead alphabet text s
is_read alphabet text s e = reads_run alphabet [] text outset s (reads_none alphabet) e

pub few_groups : (alphabet text : List ℕ) (s : State) → IsRead alphabet text s → length s.outer ≤ 8
few_groups alphabet text s r = let e = front_room alphabet r.room s.outer r.front r.behind in omega arith

-- so many bytes were read, to this depth
pub record IsAtPlace (alphabet text : List ℕ) (i depth : ℕ) (was : Last) : Type 0 where
  pub state : State
  pub runs : run alphabet (Some outset) (take i text) ≡ Some state
  pub depth_is : depth ≡ length state.outer
  pub last_is : was ≡ state.last

pub at_start : (alphabet text : List ℕ) → IsAtPlace alphabet text 0 0 last.Start
at_start alphabet text = record { state = outset; runs = refl; depth_is = refl; last_is = refl }

pub at_few : (alphabet text : List ℕ) (i depth : ℕ) (was : Last) → IsAtPlace alphabet text i depth was → depth ≤ 8
at_few alphabet text i depth was at =
    let few = few_groups alphabet (take i text) at.state (is_read alphabet (take i text) at.state at.runs) in
    let e = at.depth_is in
    omega arith

tail_length : (us : List Word) → length (tail_words us) ≡ length us - 1
tail_length [] = refl
tail_length (u ∷ us) = omega arith

entered_depth : (s : State) (sg : Sign) (w : Last) → length (enter s sg w).outer ≡ depth_after (length s.outer) sg
entered_depth s (sign.Letter a) w = refl
entered_depth s sign.Open w = omega arith
entered_depth s sign.Close w = tail_length s.outer
entered_depth s sign.Caret w = refl
entered_depth s (sign.Digit d) w = refl
entered_depth s sign.Stranger w = refl

entered_last : (s : State) (sg : Sign) (w : Last) → (enter s sg w).last ≡ w
entered_last s (sign.Letter a) w = refl
entered_last s sign.Open w = refl
entered_last s sign.Close w = refl
entered_last s sign.Caret w = refl
entered_last s (sign.Digit d) w = refl
entered_last s sign.Stranger w = refl

-- the byte's step, as the reader's
pub step_is : (alphabet : List ℕ) (s : State) (byte depth : ℕ) (was : Last) (sg : Sign) (o : Option Last) → depth ≡ length s.outer → was ≡ s.last → sg ≡ sign_of alphabet byte → o ≡ next depth was sg → step alphabet s byte ≡ entered s sg o
step_is alphabet s byte depth was sg o d l e n =
    sym (ap (entered s sg) (n ∙ ap (λ k. next k was sg) d ∙ ap (λ v. next (length s.outer) v sg) l) ∙ ap (λ g. entered s g (next (length s.outer) s.last g)) e)

pub at_next : (alphabet text : List ℕ) (i d depth : ℕ) (was : Last) (sg : Sign) (w : Last) (depth' : ℕ) → i < length text → IsAtPlace alphabet text i depth was → sg ≡ sign_of alphabet (get_or text i d) → Some w ≡ next depth was sg → depth' ≡ depth_after depth sg → IsAtPlace alphabet text (i + 1) depth' w
at_next alphabet text i d depth was sg w depth' h at e n de =
    record {
      state = enter at.state sg w;
      runs = runs_more_bytes alphabet text i d at.state h at.runs ∙ step_is alphabet at.state (get_or text i d) depth was sg (Some w) at.depth_is at.last_is e n;
      depth_is = de ∙ ap (λ k. depth_after k sg) at.depth_is ∙ sym (entered_depth at.state sg w);
      last_is = sym (entered_last at.state sg w);
    }

pub at_fault : (alphabet text : List ℕ) (i d depth : ℕ) (was : Last) (sg : Sign) → IsAlphabet alphabet → i < length text → IsAtPlace alphabet text i depth was → sg ≡ sign_of alphabet (get_or text i d) → None ≡ next depth was sg → IsFaultAt alphabet text i
at_fault alphabet text i d depth was sg a h at e n =
    fault_here alphabet a text i d at.state h at.runs (step_is alphabet at.state (get_or text i d) depth was sg None at.depth_is at.last_is e n)

at_end : (alphabet text : List ℕ) (i : ℕ) (s : State) → length text ≤ i → run alphabet (Some outset) (take i text) ≡ Some s → run alphabet (Some outset) text ≡ Some s
at_end alphabet text i s h e = ap (run alphabet (Some outset)) (sym (take_all i text h)) ∙ e

pub at_word : (alphabet text : List ℕ) (i depth : ℕ) (was : Last) → length text ≤ i → IsAtPlace alphabet text i depth was → is_whole depth was ≡ true → (word : Word) × IsWordText alphabet text word
at_word alphabet text i depth was h at e =
    (done at.state, word_end alphabet text at.state (at_end alphabet text i at.state h at.runs) (sym (ap (λ k. is_whole k was) at.depth_is ∙ ap (is_whole (length at.state.outer)) at.last_is) ∙ e))

pub at_open_end : (alphabet text : List ℕ) (i depth : ℕ) (was : Last) → IsAlphabet alphabet → length text ≤ i → IsAtPlace alphabet text i depth was → is_whole depth was ≡ false → IsFaultAt alphabet text (length text)
at_open_end alphabet text i depth was a h at e =
    fault_end alphabet a text at.state (at_end alphabet text i at.state h at.runs) (sym (ap (λ k. is_whole k was) at.depth_is ∙ ap (is_whole (length at.state.outer)) at.last_is) ∙ e)
