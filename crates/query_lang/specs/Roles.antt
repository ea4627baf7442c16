-- Letters that are an identity or a zero, or inverse, as lines say of them.
use Rattle.std.specs.Prelude.{◌≡◌, ◌<◌, ◌≤◌, ℕ, ◌+◌, ◌*◌, ◌-◌, Bool, true, List, [], ◌∷◌, length, nat_lt, if◌then◌else◌, is_none, IfSome, Option, None, Result, Ok, Err}
use Rattle.std.specs.Option.{ok_or}
use Rattle.words.specs.Alphabet.{place_of}
use Rattle.presentation.specs.Presented.{Posed}
use Rattle.presentation.specs.Added.{inverse_relations}
use Rattle.line_parts.specs.declared.cause.Cause.{Cause}
use Rattle.line_parts.specs.declared.cause.Cause.TheVariants as cause
use Rattle.line_parts.specs.declared.version.Version.{Version}
use Rattle.line_parts.specs.LineWords.{one_token}
use Rattle.line_parts.specs.Outcome.{and_then}
use Rattle.line_parts.specs.Token.{Token, is_word, letter_of}
use Rattle.line_parts.specs.Versions.{is_wide}
use Rattle.query_lang.specs.Relations.{most_relations}

-- the place of the letter that the token is
abbrev pub place_named : List ℕ → Token → Option ℕ
place_named letters (b ∷ []) = place_of letters b
place_named letters (b ∷ c ∷ t) = None
place_named letters [] = None

-- a letter of the alphabet, or why the token is none
abbrev pub letter_in : Version → List ℕ → Token → Result ℕ Cause
letter_in version letters t =
    and_then (λ b. ok_or (place_of letters b) cause.NotInAlphabet)
    (ok_or (letter_of (is_wide version) t) cause.NotALetter)

-- how many relations give the token one of these roles, by texts: two for each letter, and one for
-- the letter that it is
abbrev pub count_for : List ℕ → Token → ℕ
count_for letters t = 2 * length letters - (if is_none (place_named letters t) then 0 else 1)

-- how many relations make two tokens inverse, by texts
abbrev pub count_for_both : Token → Token → ℕ
count_for_both x y = if is_word x y then 1 else 2

-- whether so many relations more are too many
abbrev pub is_too_many : Posed → ℕ → Bool
is_too_many o count =
    nat_lt most_relations (length o.congruence.presentation.relations + count)

-- the letter that the tokens name, where its relations in a role are not too many
abbrev pub letter_for : Version → Posed → List Token → Result ℕ Cause
letter_for version o tokens = and_then
    (λ t. if is_too_many o (count_for o.alphabet t) then Err cause.TooManyRelations
    else letter_in version o.alphabet t) (one_token tokens)

-- two letters, of which the first is read first, where relations that make them inverse are not
-- too many
abbrev pub both_letters : Version → Posed → Token → Token → Result (ℕ × ℕ) Cause
both_letters version o x y =
    if is_too_many o (count_for_both x y) then Err cause.TooManyRelations
    else and_then (λ x. and_then (λ y. Ok (x, y)) (letter_in version o.alphabet y))
    (letter_in version o.alphabet x)

-- the letters may be made inverse: the third one is there unless this is a monoid, and the
-- relations are not too many
pub record AreInverses (o : Posed) (x y : ℕ) (e : Option ℕ) : Type 0 where
  pub left : x < length o.alphabet
  pub right : y < length o.alphabet
  pub unit : IfSome e (λ e. e < length o.alphabet)
  pub some : e ≡ None → o.congruence.presentation.is_monoid ≡ true
  pub few : length o.congruence.presentation.relations + length (inverse_relations x y e)
      ≤ most_relations
