-- Tables as texts.
use Rattle.std.specs.Prelude.{◌≡◌, ◌≢◌, ℕ, ◌+◌, ◌-◌, ◌*◌, ◌<◌, ◌≤◌, ◌==◌, nat_lt, nat_le, min, Bool, ◌&&◌, not, List, [], length, map, fold, slice_get, slice_index, if◌then◌else◌, Option, Some, None, option_and_then, ◌⊎◌, codes, decimal}
use Rattle.std.specs.List.{slice_split, list_all, join_by}
use Rattle.std.specs.Borrow.{Bor}
use Rattle.theory.specs.Graph.{Graph}

-- the number of the node that an edge leads to; no byte where there is no edge
abbrev pub target_text : Option ℕ → List ℕ
target_text (Some n) = decimal n
target_text None = []

-- the targets of a row, parted by commas
abbrev pub row_text : List (Option ℕ) → List ℕ
row_text = join_by target_text (codes ",")

-- the rows, parted by slashes
abbrev pub table_text : Graph → List ℕ
table_text = join_by row_text (codes "/")

-- one of the bytes `0` to `9`
abbrev pub is_digit : ℕ → Bool
is_digit b = nat_le 48 b && nat_le b 57

-- it begins with a zero and goes on
abbrev pub has_leading_zero : List ℕ → Bool
has_leading_zero field = nat_le 2 (length field) && (slice_index field 0 == 48)

-- one to four decimal digits without a leading zero
abbrev pub number_of : List ℕ → Option ℕ
number_of field =
    if nat_le 1 (length field) && (nat_le (length field) 4
    && (not (has_leading_zero field) && list_all is_digit field))
    then Some (fold (λ n b. n * 10 + (b - 48)) 0 field)
    else None

-- the node of a table of so many rows that a field names
abbrev pub target_read : ℕ → List ℕ → Option ℕ
target_read nodes field =
    option_and_then (λ n. if nat_lt n nodes then Some n else None) (number_of field)

-- the texts of the rows
abbrev pub rows_cut : List ℕ → List (List ℕ)
rows_cut = slice_split (λ b. b == 47)

-- the fields of a row
abbrev pub fields_cut : List ℕ → List (List ℕ)
fields_cut = slice_split (λ b. b == 44)

-- the bytes of texts that are lent
abbrev pub texts : List (Bor (List ℕ)) → List (List ℕ)
texts = map (λ t. t.now)

-- what the fields of a row name
abbrev pub row_read : ℕ → List ℕ → List (Option ℕ)
row_read nodes text = map (target_read nodes) (fields_cut text)

-- what the fields of each row name
abbrev pub table_read : List ℕ → Graph
table_read text = map (row_read (length (rows_cut text))) (rows_cut text)

-- a field of a table with k letters names no node, and has this place
pub record IsBadField (k : ℕ) (table : Graph) (place : ℕ) : Type 0 where
  pub row : ℕ
  pub column : ℕ
  pub fields : List (Option ℕ)
  pub row_is : slice_get table row ≡ Some fields
  pub within : column < k
  pub bad : slice_get fields column ≡ Some None
  pub place_is : place ≡ row * k + column

-- a row has not k fields, and the first that is wanting, or one too many, has this place
pub record IsBadRow (k : ℕ) (table : Graph) (place : ℕ) : Type 0 where
  pub row : ℕ
  pub fields : List (Option ℕ)
  pub row_is : slice_get table row ≡ Some fields
  pub bad : length fields ≢ k
  pub place_is : place ≡ row * k + min (length fields) k

-- there are more than 1,024 rows
pub record IsTooLong (k : ℕ) (table : Graph) (place : ℕ) : Type 0 where
  pub long : 1024 < length table
  pub place_is : place ≡ 1024 * k

-- something is wrong at the place
abbrev pub IsFaultAt : ℕ → Graph → ℕ → Type 0
IsFaultAt k table place =
    IsBadField k table place ⊎ (IsBadRow k table place ⊎ IsTooLong k table place)

-- nothing is wrong
abbrev pub IsFaultless : ℕ → Graph → Type 0
IsFaultless k table = (place : ℕ) → IsFaultAt k table place → ⊥

-- the least place at which something is wrong
pub record IsLeastFault (k : ℕ) (table : Graph) (place : ℕ) : Type 0 where
  pub is : IsFaultAt k table place
  pub least : (other : ℕ) → IsFaultAt k table other → place ≤ other

-- k fields that each name a node
pub record IsGoodRow (k : ℕ) (fields : List (Option ℕ)) : Type 0 where
  pub width : length fields ≡ k
  pub good : (j : ℕ) → slice_get fields j ≢ Some None

-- the first place in a row at which something is wrong
pub record IsFirstInRow (k : ℕ) (fields : List (Option ℕ)) (j : ℕ) : Type 0 where
  pub before : (i : ℕ) → i < j → (i < length fields) × (slice_get fields i ≢ Some None)
  pub at : ((j < k) × (slice_get fields j ≡ Some None))
      ⊎ ((length fields ≢ k) × (j ≡ min (length fields) k))
