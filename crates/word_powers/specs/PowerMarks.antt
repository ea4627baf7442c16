-- Where the words lie that the reader of words with powers writes.
use Rattle.std.specs.Prelude.{ℕ, ◌+◌, ◌*◌, ◌-◌, ◌<◌, [], ◌∷◌, slice_index, slice_range, slice_set, Option, Some, None}
use Rattle.theory.specs.Word.{Word}
use Rattle.word_powers.specs.Powers.{power}
use Rattle.word_powers.specs.PowerSteps.{copies_of_digit}
use Rattle.word_powers.specs.declared.powers.Marks.{Marks}
use Rattle.word_powers.specs.declared.powers.Sign.{Sign}
use Rattle.word_powers.specs.declared.powers.Sign.TheVariants as sign
use Rattle.word_powers.specs.declared.powers.Last.{Last}
use Rattle.word_powers.specs.declared.powers.Last.TheVariants as last

-- nothing was read
abbrev pub outset_marks : Marks
outset_marks = record {
  depth = 0;
  last = last.Start;
  starts = 0 ∷ 0 ∷ 0 ∷ 0 ∷ 0 ∷ 0 ∷ 0 ∷ 0 ∷ [];
  base = 0;
  width = 0;
}

-- a group begins
abbrev pub opened_marks : Marks → ℕ → Marks
opened_marks m len = record {
  depth = m.depth + 1;
  last = last.Start;
  starts = slice_set m.starts m.depth len;
  base = len;
  width = 0;
}

-- a group ends
abbrev pub closed_marks : Marks → ℕ → Marks
closed_marks m len = record {
  depth = m.depth - 1;
  last = last.Base;
  starts = m.starts;
  base = slice_index m.starts (m.depth - 1);
  width = len - slice_index m.starts (m.depth - 1);
}

-- one byte further, behind so many letters
abbrev pub marks_of : Marks → ℕ → Sign → Last → Marks
marks_of m len (sign.Letter letter) after = record m { last = after; base = len; width = 1 }
marks_of m len sign.Open after = opened_marks m len
marks_of m len sign.Close after = closed_marks m len
marks_of m len sign.Caret after = record m { last = after }
marks_of m len (sign.Digit digit) after = record m { last = after }
marks_of m len sign.Stranger after = record m { last = after }

abbrev pub marks_after : Marks → ℕ → Sign → Option Last → Marks
marks_after m len byte None = m
marks_after m len byte (Some after) = marks_of m len byte after

-- an exponent that was read is no number too great
abbrev pub IsSmall : Last → Type 0
IsSmall last.Start = Unit {0}
IsSmall last.One = Unit {0}
IsSmall last.Base = Unit {0}
IsSmall last.Caret = Unit {0}
IsSmall (last.Digits n) = n < 10000

-- how many letters a byte adds
abbrev pub growth : Marks → Sign → ℕ
growth m (sign.Letter letter) = 1
growth m sign.Open = 0
growth m sign.Close = 0
growth m sign.Caret = 0
growth m (sign.Digit digit) = copies_of_digit m.last digit * m.width
growth m sign.Stranger = 0

-- the letters that a byte adds, behind these
abbrev pub grown_behind : Marks → Word → Sign → Word
grown_behind m word (sign.Letter letter) = letter ∷ []
grown_behind m word sign.Open = []
grown_behind m word sign.Close = []
grown_behind m word sign.Caret = []
grown_behind m word (sign.Digit digit) =
    power (copies_of_digit m.last digit) (slice_range word m.base (m.base + m.width))
grown_behind m word sign.Stranger = []
