-- Partial permutations as they are kept: up to fifteen images as one number.
use Rattle.std.specs.Prelude.{ℕ, ◌*◌, ◌<◌, ◌≤◌, ◌^◌, List, length, Option}
use Rattle.elements.specs.declared.pperm.Form.{Form}
use Rattle.elements.specs.declared.pperm.Form.TheVariants.{Packed, Long}
use Rattle.elements.specs.Digits.{optional_digits}
use Rattle.elements.specs.PPerm.{ArePartialImages}

-- the images that are kept
abbrev pub images_of : Form → List (Option ℕ)
images_of (Packed n x) = optional_digits n x
images_of (Long images) = images.value.items

-- what is packed has up to fifteen images and no digit beyond them, and what is not has more
abbrev pub IsForm : Form → Type 0
IsForm (Packed n x) = (n ≤ 15) × (x < 2 ^ (4 * n)) × ArePartialImages (optional_digits n x)
IsForm (Long images) = (15 < length images.value.items) × ArePartialImages images.value.items
