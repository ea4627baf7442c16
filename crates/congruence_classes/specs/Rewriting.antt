-- Congruences that the rules of a completion decide.
use Rattle.std.specs.Prelude.{◌≡◌, ◌↔◌, ℕ, suc, ◌++◌, true, false, List}
use Rattle.theory.specs.Word.{Word}
use Rattle.theory.specs.Congruence.{Congruence, IsWellFormed, of_presentation, is_two_sided}
use Rattle.theory.specs.Class.{SameClass, IsRuleList}
use Rattle.theory.specs.Completion.{CompletionEnds, Listed, Rule}
use Rattle.theory.specs.Marked.{completed, marker_before, marker_behind}
use Rattle.reduced_automaton.specs.Automaton.{IsReducedWord}
use Rattle.reduced_automaton.specs.Frames.{IsFramed}
use Rattle.reduced_automaton.specs.declared.frames.Frame.{Frame}
use Rattle.congruence_classes.specs.declared.reducers.Reducer.{Reducer}
use Rattle.congruence_classes.specs.declared.reducers.Reducer.TheVariants.{Plain, Marked}

-- the rules of a completion that ends for the congruence, in order
pub record AreRulesOf (c : Congruence) (rules : List (Word × Word)) : Type 0 where
  pub length : ℕ
  pub ends : CompletionEnds (completed c) length
  pub reduced : (u v : Word) → Listed rules u v ↔ Rule (completed c) length u v
  pub list : IsRuleList (SameClass (of_presentation (completed c))) rules

-- the word between the prefix and the suffix
abbrev pub within_frame : Frame → Word → Word
within_frame frame u = frame.prefix ++ (u ++ frame.suffix)

-- the marker before the words over the letters for right pairs, behind them for left pairs
abbrev pub marker_frame : Congruence → Frame
marker_frame c = record {
  prefix = marker_before c.kind c.presentation.letters;
  letters = c.presentation.letters;
  suffix = marker_behind c.kind c.presentation.letters;
}

-- the rules of a reducer
abbrev pub rules_in : Reducer → List (Word × Word)
rules_in (Plain a) = a.rules
rules_in (Marked f) = f.automaton.rules

-- the word that is reduced for a word
abbrev pub word_in : Reducer → Word → Word
word_in (Plain a) u = u
word_in (Marked f) u = within_frame f.frame u

-- a word over the letters to which, as it is reduced, no rule applies
abbrev pub IsReducedIn : Reducer → Word → Type 0
IsReducedIn (Plain a) = IsReducedWord a
IsReducedIn (Marked f) = IsFramed f.automaton f.frame

-- words are reduced as they are where pairs are two-sided, and else with the marker
abbrev pub ReducesFor : Congruence → Reducer → Type 0
ReducesFor c (Plain a) = (is_two_sided c ≡ true) × (a.letters ≡ c.presentation.letters)
ReducesFor c (Marked f) = (is_two_sided c ≡ false) × (f.frame ≡ marker_frame c)
    × (f.automaton.letters ≡ suc c.presentation.letters)

-- the reducer has the rules of a completion that ends for the congruence
pub record IsReducerOf (c : Congruence) (r : Reducer) : Type 0 where
  pub well_formed : IsWellFormed c
  pub words : ReducesFor c r
  pub rules : AreRulesOf c (rules_in r)
