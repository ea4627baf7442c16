-- The command `semi`, and the settings that clap's specification reads from its words.
use Rattle.std.specs.Prelude.{◌≡◌, ℕ, true, false, List, [], ◌∷◌, Option, Some, codes, option_map}
use Rattle.std.specs.Str.Parse.{digits_value, without_leading_plus}
use Rattle.clap.specs.Words.{App, IsUnsignedIn, Row, Rule, Text, matches_of, new_app, new_rule, one_of, takes}
use Rattle.clap.specs.Words.{with_rule}
use Rattle.clap.specs.declared.builder.action.ArgAction.TheVariants.{Set}
use Rattle.clap.specs.declared.builder.value_parser.ValueParser.TheVariants.{Unsigned}
use Rattle.settings.specs.declared.Settings.{Settings}

-- the option `--name`, of one number from `least` to `most`, with no default
abbrev pub optional_rule : Text → ℕ → ℕ → Rule
optional_rule name least most = record (new_rule name) {
  long = Some name;
  action = Some Set;
  parser = Some (Unsigned least most);
}

-- the option `--name`, of one number from `least` to `most`, with a default
abbrev pub number_rule : Text → ℕ → ℕ → Text → Rule
number_rule name least most preset = record (optional_rule name least most) {
  defaults = preset ∷ [];
}

abbrev pub rows_rule : Rule
rows_rule = number_rule (codes "rows") 0 1000000 (codes "1000")

abbrev pub defs_rule : Rule
defs_rule = number_rule (codes "defs") 0 1000000 (codes "10000")

abbrev pub length_rule : Rule
length_rule = number_rule (codes "length") 0 64 (codes "12")

abbrev pub elements_rule : Rule
elements_rule = number_rule (codes "elements") 0 10000000 (codes "100000")

abbrev pub classes_rule : Rule
classes_rule = number_rule (codes "classes") 0 1000000 (codes "10000")

abbrev pub workers_rule : Rule
workers_rule = number_rule (codes "workers") 1 64 (codes "3")

abbrev pub make_rule : Rule
make_rule = optional_rule (codes "make") 1 200

-- the command
unfoldable pub semi_app : App
semi_app =
    with_rule (with_rule (with_rule (with_rule (with_rule (with_rule (with_rule
    (new_app (codes "semi")) rows_rule) defs_rule) length_rule) elements_rule) classes_rule)
    workers_rule) make_rule

-- a list with no word stands for the program's name alone
abbrev pub or_name : List Text → List Text
or_name [] = codes "semi" ∷ []
or_name (word ∷ rest) = word ∷ rest

-- clap takes these words
abbrev pub AreAccepted : List Text → Type 0
AreAccepted words = takes semi_app (or_name words) ≡ true

-- clap does not take these words
abbrev pub AreRefused : List Text → Type 0
AreRefused words = takes semi_app (or_name words) ≡ false

-- the number that the matches have for an option, given or by default, if any
abbrev pub number_in : Text → List Row → Option ℕ
number_in id rows =
    option_map (λ text. digits_value 10 (without_leading_plus text)) (one_of id rows)

-- clap takes the words, and finds these settings in them
pub record Reads (words : List Text) (settings : Settings) : Type 0 where
  pub taken : takes semi_app words ≡ true
  pub rows : number_in (codes "rows") (matches_of semi_app words) ≡ Some settings.rows
  pub defs : number_in (codes "defs") (matches_of semi_app words) ≡ Some settings.defs
  pub length : number_in (codes "length") (matches_of semi_app words) ≡ Some settings.length
  pub elements : number_in (codes "elements") (matches_of semi_app words) ≡ Some settings.elements
  pub classes : number_in (codes "classes") (matches_of semi_app words) ≡ Some settings.classes
  pub workers : number_in (codes "workers") (matches_of semi_app words) ≡ Some settings.workers
  pub make : number_in (codes "make") (matches_of semi_app words) ≡ settings.make

-- the matches have a number from `least` to `most` for an option
pub record HasNumber (least most : ℕ) (id : Text) (rows : List Row) : Type 0 where
  pub text : Text
  pub given : one_of id rows ≡ Some text
  pub number : IsUnsignedIn least most text

-- the number that the matches have for an option, if it is given, is from `least` to `most`
pub record HasNumberIfGiven (least most : ℕ) (id : Text) (rows : List Row) : Type 0 where
  pub number : (text : Text) → one_of id rows ≡ Some text → IsUnsignedIn least most text

-- and so for each option of the command
pub record HasNumbers (found : List Row) : Type 0 where
  pub rows : HasNumber 0 1000000 (codes "rows") found
  pub defs : HasNumber 0 1000000 (codes "defs") found
  pub length : HasNumber 0 64 (codes "length") found
  pub elements : HasNumber 0 10000000 (codes "elements") found
  pub classes : HasNumber 0 1000000 (codes "classes") found
  pub workers : HasNumber 1 64 (codes "workers") found
  pub make : HasNumberIfGiven 1 200 (codes "make") found
