-- The numbers and the texts of the causes of refusal.
use Rattle.std.specs.Prelude.{ℕ, List, [], codes, ◌==◌, if◌then◌else◌}
use Rattle.line_parts.specs.declared.cause.Cause.{Cause}
use Rattle.line_parts.specs.declared.cause.Cause.TheVariants.{HeaderMissing, UnknownHeader, WrongNumberOfWords, BadNumber, NotALetter, RepeatedLetter, UnknownLine, LineOutOfOrder, NoGenerator, WrongNumberOfEntries, BadEntry, NotInjective, NotInAlphabet, WordTooLong, EmptyWord, TooManyRelations, TooManyPairs, MixedKinds, QueryNotAllowed, BadTable, AfterExpected, UnknownRelation, TableBreaksRelation, UnknownVersion, BadPower}

abbrev pub number_of_cause : Cause → ℕ
number_of_cause HeaderMissing = 1
number_of_cause UnknownHeader = 2
number_of_cause WrongNumberOfWords = 3
number_of_cause BadNumber = 4
number_of_cause NotALetter = 5
number_of_cause RepeatedLetter = 6
number_of_cause UnknownLine = 7
number_of_cause LineOutOfOrder = 8
number_of_cause NoGenerator = 9
number_of_cause WrongNumberOfEntries = 10
number_of_cause BadEntry = 11
number_of_cause NotInjective = 12
number_of_cause NotInAlphabet = 13
number_of_cause WordTooLong = 14
number_of_cause EmptyWord = 15
number_of_cause TooManyRelations = 16
number_of_cause TooManyPairs = 17
number_of_cause MixedKinds = 18
number_of_cause QueryNotAllowed = 19
number_of_cause BadTable = 20
number_of_cause AfterExpected = 21
number_of_cause UnknownVersion = 22
number_of_cause BadPower = 23
number_of_cause UnknownRelation = 24
number_of_cause TableBreaksRelation = 25

-- the text of the cause of this number
abbrev pub cause_text : ℕ → List ℕ
cause_text n =
    if n == 1 then codes "header missing"
    else if n == 2 then codes "unknown header"
    else if n == 3 then codes "wrong number of words"
    else if n == 4 then codes "bad number"
    else if n == 5 then codes "not a letter"
    else if n == 6 then codes "repeated letter"
    else if n == 7 then codes "unknown line"
    else if n == 8 then codes "line out of order"
    else if n == 9 then codes "no generator"
    else if n == 10 then codes "wrong number of entries"
    else if n == 11 then codes "bad entry"
    else if n == 12 then codes "not injective"
    else if n == 13 then codes "letter not in alphabet"
    else if n == 14 then codes "word too long"
    else if n == 15 then codes "empty word not allowed"
    else if n == 16 then codes "too many relations"
    else if n == 17 then codes "too many pairs"
    else if n == 18 then codes "mixed kinds of pairs"
    else if n == 19 then codes "query not allowed with pairs"
    else if n == 20 then codes "bad table"
    else if n == 21 then codes "after expected"
    else if n == 22 then codes "unknown version"
    else if n == 23 then codes "bad power"
    else if n == 24 then codes "unknown relation"
    else if n == 25 then codes "table breaks a relation"
    else []
