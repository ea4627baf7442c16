-- Transformations, as lists of images (libsemigroups, Transf).
use Rattle.std.specs.Prelude.{ℕ, ◌<◌, List, length, map, All, slice_index_or}

-- the images of the points 0 to n - 1, n the length of the list
abbrev pub AreImages : List ℕ → Type 0
AreImages x = All (λ y. y < length x) x

-- the image of k under x, which moves nothing past its end
abbrev pub image : List ℕ → ℕ → ℕ
image x k = slice_index_or x k k

-- x first and then y
abbrev pub composed : List ℕ → List ℕ → List ℕ
composed x y = map (image y) x
