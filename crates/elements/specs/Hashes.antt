-- What a hasher is fed for an element: a few numbers. The elements of a set have one shape, so it
-- is left out.
use Rattle.std.specs.Prelude.{ℕ, ◌+◌, ◌*◌, ◌%◌, ◌^◌, min, bit_or, Bool, List, length, nat_le, map, fold, Option, Some, None}
use Rattle.std.specs.Hash as fed
use Rattle.std.specs.Int.{div_ceil}
use Rattle.std.specs.Int.Digits.{number_from_digits}
use Rattle.std.specs.Bool.{if◌then◌else◌}
use Rattle.std.specs.List.{between, flat_map, range_with_len}

-- one write for each number
abbrev pub numbers_hash : List ℕ → fed.HashWrites
numbers_hash xs = flat_map fed.u64 xs

-- 0 for none, and else the entry plus one
abbrev pub entry_number : Option ℕ → ℕ
entry_number None = 0
entry_number (Some y) = y + 1

-- one number for each entry
abbrev pub entries_hash : List (Option ℕ) → fed.HashWrites
entries_hash x = numbers_hash (map entry_number x)

-- up to fifteen entries as the digits of one number in base 16, and else one number for each
abbrev pub partial_hash : List (Option ℕ) → fed.HashWrites
partial_hash x =
    if nat_le (length x) 15 then fed.u64 (number_from_digits 16 (map entry_number x))
    else entries_hash x

-- the images from i on as one number, eight at most
abbrev pub octet : List ℕ → ℕ → ℕ
octet x i = fold (λ n y. bit_or (n * 2 ^ 8 % 2 ^ 64) y) 0 (between i (min (i + 8) (length x)) x)

-- one number for each eight images
abbrev pub octets_hash : List ℕ → fed.HashWrites
octets_hash x =
    numbers_hash (map (λ k. octet x (8 * k)) (range_with_len 0 (div_ceil (length x) 8)))

-- up to sixteen images as the digits of one number in base 16, and else one number for each eight
abbrev pub images_hash : List ℕ → fed.HashWrites
images_hash x = if nat_le (length x) 16 then fed.u64 (number_from_digits 16 x) else octets_hash x

-- the last 64 of these bits as a number
abbrev pub bits_number : List Bool → ℕ
bits_number bits = fold (λ n b. bit_or (n * 2 % 2 ^ 64) (if b then 1 else 0)) 0 bits

-- the bits from i on as a number, 64 at most
abbrev pub block_number : List Bool → ℕ → ℕ
block_number bits i = bits_number (between i (min (i + 64) (length bits)) bits)

-- one number for each 64 bits
abbrev pub bits_hash : List Bool → fed.HashWrites
bits_hash bits = numbers_hash
    (map (λ k. block_number bits (64 * k)) (range_with_len 0 (div_ceil (length bits) 64)))
