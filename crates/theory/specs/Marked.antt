-- One-sided congruences by a presentation with one letter more (Sims 1994, ch. 2; libsemigroups:
-- KnuthBendix).
use Rattle.std.specs.Prelude.{ℕ, suc, true, false, List, [], ◌∷◌, ◌++◌, map}
use Rattle.theory.specs.Word.{Word, IsElement}
use Rattle.theory.specs.Congruence.{Presentation, Congruence, with_relations, is_two_sided}
use Rattle.theory.specs.Completion.{Rule, IsReduced}
use Rattle.theory.specs.declared.Kind.{Kind}
use Rattle.theory.specs.declared.Kind.TheVariants.{TwoSided, Right, Left}

-- the marker m before a word for right pairs, behind it for left pairs; two-sided pairs need none
abbrev pub marked_word : Kind → ℕ → Word → Word
marked_word TwoSided m u = u
marked_word Right m u = m ∷ u
marked_word Left m u = u ++ m ∷ []

-- what stands before the word, and what stands behind it
abbrev pub marker_before : Kind → ℕ → Word
marker_before kind m = elim kind [ Right ↦ m ∷ [] | _ ↦ [] ]

abbrev pub marker_behind : Kind → ℕ → Word
marker_behind kind m = elim kind [ Left ↦ m ∷ [] | _ ↦ [] ]

-- both words of each pair with the marker
abbrev pub marked_pairs : Kind → ℕ → List (Word × Word) → List (Word × Word)
marked_pairs kind m = map (λ p. (marked_word kind m p.0, marked_word kind m p.1))

-- the presentation with one further last letter, the marker, in which the pairs with markers are
-- relations
abbrev pub with_marker : Presentation → Presentation
with_marker p = record { letters = suc p.letters; is_monoid = p.is_monoid; relations = p.relations }

-- the presentation that stands for c: two-sided pairs are relations as they are, others with the
-- marker
abbrev pub marked : Congruence → Presentation
marked c =
    elim c.kind [
      | TwoSided ↦ with_relations c.presentation c.pairs
      | _ ↦ with_relations (with_marker c.presentation)
          (marked_pairs c.kind c.presentation.letters c.pairs)
    ]

-- the word that stands for u there
abbrev pub as_marked_word : Congruence → Word → Word
as_marked_word c u = marked_word c.kind c.presentation.letters u

-- c, of kind TwoSided where it is generated as a two-sided congruence
abbrev pub as_two_sided : Congruence → Congruence
as_two_sided c = record c { kind = elim (is_two_sided c) [ true ↦ TwoSided | false ↦ c.kind ] }

-- the presentation that is completed for c: the marker is used only where it is needed
abbrev pub completed : Congruence → Presentation
completed c = marked (as_two_sided c)

-- the word that stands for u there
abbrev pub completed_word : Congruence → Word → Word
completed_word c u = as_marked_word (as_two_sided c) u

-- an element to which no rule applies, with the marker, once the marked presentation is completed
-- within the bound
pub record IsMarkedReduced (c : Congruence) (L : ℕ) (u : Word) : Type 0 where
  pub element : IsElement c.presentation.is_monoid c.presentation.letters u
  pub reduced : IsReduced (Rule (marked c) L) (as_marked_word c u)
