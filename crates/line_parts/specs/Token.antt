-- The lines of a script and their tokens.
use Rattle.std.specs.Prelude.{◌≡◌, ◌≢◌, ◌⊎◌, ℕ, ◌+◌, ◌-◌, ◌*◌, ◌^◌, ◌<◌, ◌≤◌, ◌++◌, All, decimal, replicate, Bool, true, false, not, ◌&&◌, ◌||◌, ◌==◌, nat_le, List, [], ◌∷◌, length, codes, filter, fold, if◌then◌else◌, Option, Some, None, option_and_then}
use Rattle.std.specs.List.{slice_split, list_all}
use Rattle.std.specs.Cmp.Lexicographic.{pointwise}
use Rattle.words.specs.Alphabet.{is_letter}
use Rattle.theory.specs.declared.Relation.{Relation}
use Rattle.theory.specs.declared.Relation.TheVariants.{R, L, H, J}

abbrev pub Token : Type 0
Token = List ℕ

abbrev pub Line : Type 0
Line = List Token

-- space, tab and carriage return part tokens
abbrev pub is_blank : ℕ → Bool
is_blank b = (b == 32) || ((b == 9) || (b == 13))

-- the first byte is blank
abbrev pub StartsBlank : List ℕ → Type 0
StartsBlank [] = ⊥
StartsBlank (b ∷ bytes) = is_blank b ≡ true

-- the longest runs of bytes that are not blank
abbrev pub tokens_of : List ℕ → Line
tokens_of bytes = filter (λ t. not (length t == 0)) (slice_split is_blank bytes)

-- behind blanks the token stands first, and goes on to the next blank or to the end
pub record IsFirstToken (bytes t rest : List ℕ) : Type 0 where
  pub gap : List ℕ
  pub blank : All (λ b. is_blank b ≡ true) gap
  pub parts : bytes ≡ gap ++ (t ++ rest)
  pub some : t ≢ []
  pub dense : All (λ b. is_blank b ≡ false) t
  pub ends : rest ≡ [] ⊎ StartsBlank rest

-- the tokens stand one behind another, each a longest run of bytes that are not blank
abbrev pub AreTokens : List ℕ → Line → Type 0
AreTokens bytes [] = All (λ b. is_blank b ≡ true) bytes
AreTokens bytes (t ∷ tokens) = (rest : List ℕ) × IsFirstToken bytes t rest × AreTokens rest tokens

-- a line with no token is skipped, and so is one whose first token begins with `#`
abbrev pub is_kept : Line → Bool
is_kept [] = false
is_kept ([] ∷ tokens) = true
is_kept ((b ∷ bs) ∷ tokens) = not (b == 35)

-- the bytes of each line: lines end at a line feed, and the rest is a line too
abbrev pub cut_lines : List ℕ → List (List ℕ)
cut_lines = slice_split (λ b. b == 10)

-- the token reads so
abbrev pub is_word : List ℕ → Token → Bool
is_word text t = pointwise ◌==◌ t text

abbrev pub is_digit : ℕ → Bool
is_digit b = nat_le 48 b && nat_le b 57

-- one to seven decimal digits
abbrev pub number_of : Token → Option ℕ
number_of t =
    if nat_le 1 (length t) && (nat_le (length t) 7 && list_all is_digit t)
    then Some (fold (λ n b. n * 10 + (b - 48)) 0 t)
    else None

-- the text is the number in decimal, behind leading zeros, and has at most seven digits
abbrev pub IsNumberText : ℕ → Token → Type 0
IsNumberText n t = (n < 10 ^ 7) × (length t ≤ 7)
    × ((zeros : ℕ) × (t ≡ replicate zeros 48 ++ decimal n))

-- a number in its range
abbrev pub number_within : ℕ → ℕ → Token → Option ℕ
number_within low high t = option_and_then
    (λ n. if nat_le low n && nat_le n high then Some n else None) (number_of t)

-- one letter; of both cases where they are wide
abbrev pub letter_of : (wide : Bool) → Token → Option ℕ
letter_of wide (b ∷ []) = if is_letter wide b then Some b else None
letter_of wide (b ∷ c ∷ t) = None
letter_of wide [] = None

-- one of Green's relations, by its letter
abbrev pub relation_of : Token → Option Relation
relation_of t =
    if is_word (codes "r") t then Some R
    else if is_word (codes "l") t then Some L
    else if is_word (codes "h") t then Some H
    else if is_word (codes "j") t then Some J
    else None
