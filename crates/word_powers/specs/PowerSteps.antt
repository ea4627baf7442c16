-- How the reader of words with powers goes from byte to byte.
use Rattle.std.specs.Prelude.{ℕ, ◌+◌, ◌*◌, ◌-◌, Bool, true, false, ◌&&◌, nat_le, nat_lt, ◌==◌, List, [], ◌∷◌, ◌++◌, length, if◌then◌else◌, Option, Some, None}
use Rattle.theory.specs.Word.{Word}
use Rattle.words.specs.Alphabet.{place_of}
use Rattle.word_powers.specs.Powers.{power}
use Rattle.word_powers.specs.declared.powers.Sign.{Sign}
use Rattle.word_powers.specs.declared.powers.Sign.TheVariants as sign
use Rattle.word_powers.specs.declared.powers.Last.{Last}
use Rattle.word_powers.specs.declared.powers.Last.TheVariants as last

-- ---- what may follow

-- what a byte that is no letter means
abbrev pub plain_sign : ℕ → Sign
plain_sign byte =
    if byte == 40
    then sign.Open
    else (if byte == 41
    then sign.Close
    else (if byte == 94
    then sign.Caret
    else (if nat_le 48 byte && nat_le byte 57 then sign.Digit (byte - 48) else sign.Stranger)))

abbrev pub letter_sign : Option ℕ → Sign → Sign
letter_sign (Some letter) other = sign.Letter letter
letter_sign None other = other

-- what a byte means
abbrev pub sign_of : List ℕ → ℕ → Sign
sign_of alphabet byte = letter_sign (place_of alphabet byte) (plain_sign byte)

-- an item may begin
abbrev pub is_ready : Last → Bool
is_ready last.Start = true
is_ready last.One = false
is_ready last.Base = true
is_ready last.Caret = false
is_ready (last.Digits n) = true

-- an item has ended, or may have
abbrev pub is_full : Last → Bool
is_full last.Start = false
is_full last.One = false
is_full last.Base = true
is_full last.Caret = false
is_full (last.Digits n) = true

-- what stands behind a digit
abbrev pub after_digit : ℕ → Last → ℕ → Option Last
after_digit depth last.Start digit =
    if depth == 0 && digit == 1 then Some last.One else None
after_digit depth last.One digit = None
after_digit depth last.Base digit = None
after_digit depth last.Caret digit = if digit == 0 then None else Some (last.Digits digit)
after_digit depth (last.Digits n) digit =
    if nat_lt n 1000 then Some (last.Digits (10 * n + digit)) else None

-- what stands behind `^`
abbrev pub after_caret : Last → Option Last
after_caret last.Start = None
after_caret last.One = None
after_caret last.Base = Some last.Caret
after_caret last.Caret = None
after_caret (last.Digits n) = None

-- what was read last, one byte further, where that may be: inside so many groups, and behind what
-- was read last
abbrev pub next : ℕ → Last → Sign → Option Last
next depth was (sign.Letter letter) = if is_ready was then Some last.Base else None
next depth was sign.Open = if is_ready was && nat_lt depth 8 then Some last.Start else None
next depth was sign.Close = if is_full was && nat_lt 0 depth then Some last.Base else None
next depth was sign.Caret = after_caret was
next depth was (sign.Digit digit) = after_digit depth was digit
next depth was sign.Stranger = None

-- inside how many groups the next byte stands
abbrev pub depth_after : ℕ → Sign → ℕ
depth_after depth (sign.Letter letter) = depth
depth_after depth sign.Open = depth + 1
depth_after depth sign.Close = depth - 1
depth_after depth sign.Caret = depth
depth_after depth (sign.Digit digit) = depth
depth_after depth sign.Stranger = depth

-- nothing is wanting
abbrev pub is_ended : Last → Bool
is_ended last.Start = true
is_ended last.One = true
is_ended last.Base = true
is_ended last.Caret = false
is_ended (last.Digits n) = true

abbrev pub is_whole : ℕ → Last → Bool
is_whole depth was = depth == 0 && is_ended was

-- ---- the words of what was read

-- the words in front of the open groups, from the innermost; the word in front of the last base,
-- in its group; the base's word; and what was read last
pub record State : Type 0 where
  pub outer : List Word
  pub before : Word
  pub base : Word
  pub last : Last

-- what the last item stands for as it is
abbrev pub value : Last → Word → Word
value last.Start u = []
value last.One u = []
value last.Base u = u
value last.Caret u = u
value (last.Digits n) u = power n u

-- the word of the innermost group
abbrev pub done : State → Word
done s = s.before ++ value s.last s.base

abbrev pub head_word : List Word → Word
head_word [] = []
head_word (u ∷ us) = u

abbrev pub tail_words : List Word → List Word
tail_words [] = []
tail_words (u ∷ us) = us

-- one byte further
abbrev pub enter : State → Sign → Last → State
enter s (sign.Letter letter) after =
    record { outer = s.outer; before = done s; base = letter ∷ []; last = after }
enter s sign.Open after =
    record { outer = done s ∷ s.outer; before = []; base = []; last = after }
enter s sign.Close after =
    record { outer = tail_words s.outer; before = head_word s.outer; base = done s; last = after }
enter s sign.Caret after = record s { last = after }
enter s (sign.Digit digit) after = record s { last = after }
enter s sign.Stranger after = record s { last = after }

abbrev pub entered : State → Sign → Option Last → Option State
entered s byte None = None
entered s byte (Some after) = Some (enter s byte after)

abbrev pub step : List ℕ → State → ℕ → Option State
step alphabet s byte =
    entered s (sign_of alphabet byte) (next (length s.outer) s.last (sign_of alphabet byte))

abbrev pub go : List ℕ → Option State → ℕ → Option State
go alphabet None byte = None
go alphabet (Some s) byte = step alphabet s byte

abbrev pub run : List ℕ → Option State → List ℕ → Option State
run alphabet s [] = s
run alphabet s (byte ∷ bytes) = run alphabet (go alphabet s byte) bytes

-- nothing was read
abbrev pub outset : State
outset = record { outer = []; before = []; base = []; last = last.Start }

-- all words so far, written together
abbrev pub joined : List Word → Word
joined [] = []
joined (u ∷ us) = joined us ++ u

-- what was read stands for this much
abbrev pub written : State → Word
written s = joined (done s ∷ s.outer)

-- how many more copies of the base a byte asks for
abbrev pub copies_of_digit : Last → ℕ → ℕ
copies_of_digit last.Start digit = 0
copies_of_digit last.One digit = 0
copies_of_digit last.Base digit = 0
copies_of_digit last.Caret digit = digit - 1
copies_of_digit (last.Digits n) digit = 9 * n + digit

abbrev pub copies : Last → Sign → ℕ
copies was (sign.Letter letter) = 0
copies was sign.Open = 0
copies was sign.Close = 0
copies was sign.Caret = 0
copies was (sign.Digit digit) = copies_of_digit was digit
copies was sign.Stranger = 0
