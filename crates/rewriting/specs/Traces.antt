-- Where rules are applied while a word is reduced.
use Rattle.std.specs.Prelude.{true, List, ◌∷◌, [], ◌++◌, map, reverse, ℕ, Option}
use Rattle.std.specs.Option.{option_to_list}
use Rattle.theory.specs.Word.{Word}
use Rattle.theory.specs.Congruence.{Presentation}
use Rattle.theory.specs.PlacedStep.{PlacedStep, LeadTo}
use Rattle.rewriting.specs.declared.reductions.Reduction.{Reduction}
use Rattle.rewriting.specs.declared.traces.Applied.{Applied}

-- the step of a rule that is applied
abbrev pub step_of : Applied → PlacedStep
step_of at = record { place = at.place; relation = at.rule; forward = true }

-- rules as relations
abbrev pub as_relations : List (Word × Word) → Presentation
as_relations rules = record { letters = 0; is_monoid = true; relations = rules }

-- the rules lead from u to v, each applied forward at its place
abbrev pub LeadBy : List (Word × Word) → Word → List Applied → Word → Type 0
LeadBy rules u trace v = LeadTo (as_relations rules) u (map step_of trace) v

-- the word that is reduced so far
abbrev pub word_so_far : Reduction → Word
word_so_far r = r.done.items ++ reverse r.rest.items

-- the same, with the letter that is read next
abbrev pub word_at : ℕ → Reduction → Word
word_at letter r = r.done.items ++ reverse (r.rest.items ++ letter ∷ [])

-- rules that lead to the word before the letter is read lead to the word behind it, with the one
-- that is applied there, if one is
abbrev pub LeadsOn : List (Word × Word) → ℕ → Reduction → Option Applied → Reduction → Type 0
LeadsOn rules letter old applied new = (u : Word) (trace : List Applied)
    → LeadBy rules u trace (word_at letter old)
    → LeadBy rules u (trace ++ option_to_list applied) (word_so_far new)
