-- The texts of words, each behind a space.
use Rattle.std.specs.Prelude.{◌≡◌, ◌≢◌, ℕ, ◌+◌, ◌<◌, ◌≤◌, List, [], ◌++◌, length, slice_index_or, codes}
use Rattle.std.specs.List.{slice_range}
use Rattle.theory.specs.Word.{Word}
use Rattle.words.specs.WordText.{text_of}
use Rattle.report_lines.specs.declared.blocks.Block.{Block}
use Rattle.report_lines.specs.Blocks.{AreInOrder, IsBlockOf, block_at, place_in}

-- the bytes of texts, each behind a space, the blocks that they stand in, and how many they are
pub record JoinedTexts : Type 0 where
  pub bytes : List ℕ
  pub blocks : List Block
  pub count : ℕ

-- there is a text of this number, and the block at a place of the list is its block
pub record IsInBlock (t : JoinedTexts) (k i : ℕ) : Type 0 where
  pub counted : i < t.count
  pub block : IsBlockOf t.blocks k i

-- a block may be sought from this place of the list on, if there is any text
abbrev pub MayBeginAt : JoinedTexts → ℕ → Type 0
MayBeginAt t k = 0 < t.count → k < length t.blocks

-- the text of a number of a block stands in the bytes, behind a space
pub record HasText (bytes : List ℕ) (b : Block) (i : ℕ) (letters : List ℕ) : Type 0 where
  pub wide : 0 < b.width
  pub within : place_in b i + b.width ≤ length bytes
  pub text : slice_range bytes (place_in b i) (place_in b i + b.width) ≡ codes " " ++ letters

-- they are those of the first words, as many as are counted; none of these is empty. Blocks stand
-- in order, the first begins with the first word, none after the last, and the last ends the bytes
pub record AreTexts (alphabet : List ℕ) (words : List Word) (t : JoinedTexts) : Type 0 where
  pub text : (k i : ℕ) → IsInBlock t k i
      → HasText t.bytes (block_at t.blocks k) i (text_of alphabet (slice_index_or words i []))
  pub some : (i : ℕ) → i < t.count → slice_index_or words i [] ≢ []
  pub found : 0 < t.count → 0 < length t.blocks
  pub order : AreInOrder t.blocks
  pub first : (block_at t.blocks 0).first ≡ 0
  pub begun : (k : ℕ) → k < length t.blocks → (block_at t.blocks k).first ≤ t.count
  pub last : (k : ℕ) → k + 1 ≡ length t.blocks
      → place_in (block_at t.blocks k) t.count ≡ length t.bytes
