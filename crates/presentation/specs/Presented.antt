-- Presentations over an alphabet, as contracts see them.
use Rattle.std.specs.Prelude.{◌≡◌, ℕ, ◌≤◌, Bool, true, false, List, [], ◌∷◌, ◌⊎◌, length}
use Rattle.theory.specs.Word.{Word}
use Rattle.theory.specs.Congruence.{Presentation, Congruence, AreElements, IsWellFormed, with_relations, reversed}

-- the bytes of the alphabet, and the presentation on their places
pub record Presented : Type 0 where
  pub alphabet : List ℕ
  pub presentation : Presentation

-- there is a letter for each byte, the sides of relations are elements, and there are at most 8,192
pub record IsPresented (p : Presented) : Type 0 where
  pub letters : p.presentation.letters ≡ length p.alphabet
  pub elements : AreElements p.presentation.is_monoid p.presentation.letters
      p.presentation.relations
  pub few : length p.presentation.relations ≤ 8192

-- a side is the empty word, which is no element
abbrev pub HasEmptySide : Bool → Word → Word → Type 0
HasEmptySide true u v = ⊥
HasEmptySide false u v = (u ≡ []) ⊎ (v ≡ [])

-- p with more relations, behind the others
abbrev pub with_more : Presented → List (Word × Word) → Presented
with_more p more = record {
  alphabet = p.alphabet;
  presentation = with_relations p.presentation more;
}

-- p with one relation more
abbrev pub with_relation : Presented → Word → Word → Presented
with_relation p u v = with_more p ((u, v) ∷ [])

-- p read from right to left
abbrev pub backwards : Presented → Presented
backwards p = record { alphabet = p.alphabet; presentation = reversed p.presentation }

-- the bytes of the alphabet, and a congruence on the presentation
pub record Posed : Type 0 where
  pub alphabet : List ℕ
  pub congruence : Congruence

-- there is a letter for each byte, and the sides of relations and pairs are elements
pub record IsPosed (c : Posed) : Type 0 where
  pub letters : c.congruence.presentation.letters ≡ length c.alphabet
  pub well_formed : IsWellFormed c.congruence
  pub few : length c.congruence.presentation.relations ≤ 8192
