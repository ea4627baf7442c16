-- Transformations as they are kept: up to sixteen images as one number.
use Rattle.std.specs.Prelude.{ℕ, ◌*◌, ◌<◌, ◌≤◌, ◌^◌, List, length}
use Rattle.elements.specs.declared.transf.Form.{Form}
use Rattle.elements.specs.declared.transf.Form.TheVariants.{Packed, Long}
use Rattle.elements.specs.Digits.{digits}
use Rattle.elements.specs.Transf.{AreImages}

-- the images that are kept
abbrev pub images_of : Form → List ℕ
images_of (Packed n x) = digits n x
images_of (Long images) = images.value

-- what is packed has up to sixteen images and no digit beyond them, and what is not has more
abbrev pub IsForm : Form → Type 0
IsForm (Packed n x) = (n ≤ 16) × (x < 2 ^ (4 * n)) × AreImages (digits n x)
IsForm (Long images) = (16 < length images.value) × AreImages images.value
