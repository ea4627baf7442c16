-- Blocks of texts of one width, each behind a space.
use Rattle.std.specs.Prelude.{ℕ, ◌+◌, ◌-◌, ◌*◌, ◌<◌, ◌≤◌, ◌==◌, List, [], ◌∷◌, ◌++◌, length, slice_index_or, if◌then◌else◌}
use Rattle.std.specs.List.Sorted.{IsNonDecreasingBy}
use Rattle.report_lines.specs.declared.blocks.Block.{Block}

-- the block that stands for none
abbrev pub no_block : Block
no_block = record { first = 0; place = 0; width = 0 }

-- the block at a place of the list
abbrev pub block_at : List Block → ℕ → Block
block_at blocks k = slice_index_or blocks k no_block

-- the first numbers of blocks do not fall
abbrev pub AreInOrder : List Block → Type 0
AreInOrder blocks = IsNonDecreasingBy (λ b. b.first) blocks

-- where the space before the text of a number of a block stands
abbrev pub place_in : Block → ℕ → ℕ
place_in b i = b.place + (i - b.first) * b.width

-- the block at a place of the list is that of a number: it begins there or before, and the next one
-- does not
pub record IsBlockOf (blocks : List Block) (k i : ℕ) : Type 0 where
  pub place : k < length blocks
  pub from : (block_at blocks k).first ≤ i
  pub next : k + 1 < length blocks → i < (block_at blocks (k + 1)).first

-- the width of the texts of the last block, or 0 where there is none
abbrev pub last_width : List Block → ℕ
last_width blocks = (block_at blocks (length blocks - 1)).width

-- a block more, unless the texts of the last one have its width
abbrev pub with_block : List Block → Block → List Block
with_block blocks b = if last_width blocks == b.width then blocks else blocks ++ b ∷ []
