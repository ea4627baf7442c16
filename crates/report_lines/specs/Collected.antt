-- The lines of classes, as they grow.
use Rattle.std.specs.Prelude.{◌≡◌, ◌≢◌, ℕ, ◌<◌, List, [], length, map, slice_index_or}
use Rattle.theory.specs.Word.{Word}
use Rattle.report_lines.specs.Lines.{class_text}
use Rattle.report_lines.specs.Texts.{AreTexts, JoinedTexts}

-- texts, and the lines that are put together of them
pub record TextLines : Type 0 where
  pub texts : JoinedTexts
  pub lines : List (List ℕ)

-- they are the texts of some words
abbrev pub AreOfWords : JoinedTexts → Type 0
AreOfWords t = (letters : List ℕ) × (words : List Word) × AreTexts letters words t

-- the lines are the texts of these classes, and none of these is empty
pub record AreLinesOf (s : TextLines) (classes : List (List ℕ)) : Type 0 where
  pub count : length s.lines ≡ length classes
  pub some : (p : ℕ) → p < length classes → slice_index_or classes p [] ≢ []
  pub lines : (letters : List ℕ) (words : List Word) → AreTexts letters words s.texts
      → s.lines ≡ map (class_text letters words) classes
