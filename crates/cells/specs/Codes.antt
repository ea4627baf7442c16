-- Numbers that stand for a number or none.
use Rattle.std.specs.Prelude.{◌≡◌, ℕ, zero, suc, refl, Option, Some, None}

-- none is 0, and a number stands with one added
abbrev pub coded : ℕ → Option ℕ
coded zero = None
coded (suc n) = Some n

-- what stands there for a number or none
abbrev pub code_of : Option ℕ → ℕ
code_of None = 0
code_of (Some n) = suc n

pub code_back : (n : ℕ) → code_of (coded n) ≡ n
code_back zero = refl
code_back (suc n) = refl
