-- Lists of images as they are kept: bytes where they are at most 256.
use Rattle.std.specs.Prelude.{ℕ, ◌<◌, ◌≤◌, List, length}
use Rattle.elements.specs.declared.transf.images.Kept.{Kept}
use Rattle.elements.specs.declared.transf.images.Kept.TheVariants.{Bytes, Wide}

-- the images that are kept
abbrev pub list_of : Kept → List ℕ
list_of (Bytes images) = images.items
list_of (Wide images) = images.items

-- at most 256 images are bytes, and more are not
abbrev pub IsKept : Kept → Type 0
IsKept (Bytes images) = length images.items ≤ 256
IsKept (Wide images) = 256 < length images.items
