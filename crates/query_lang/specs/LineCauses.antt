-- The causes of refusal of each line, in the order in which they are looked at.
use Rattle.std.specs.Prelude.{◌≡◌, ℕ, suc, Bool, true, false, not, ◌==◌, nat_lt, ◌⊎◌, List, [], ◌∷◌, ◌++◌, length, map, codes, if◌then◌else◌, is_none, option_and_then, Option, Some, None, Result, Ok, Err}
use Rattle.std.specs.List.{list_any}
use Rattle.problem.specs.declared.kinds.Problem.{Problem}
use Rattle.problem.specs.declared.kinds.Problem.TheVariants.{Presented, Transf, PPerm, BMat, MaxPlus}
use Rattle.problem.specs.Problem.{is_presented, letters_of}
use Rattle.elements.specs.declared.field.Field.{Field}
use Rattle.line_parts.specs.declared.cause.Cause.{Cause}
use Rattle.line_parts.specs.declared.cause.Cause.TheVariants as cause
use Rattle.line_parts.specs.declared.version.Version.{Version}
use Rattle.line_parts.specs.declared.version.Version.TheVariants.{One}
use Rattle.line_parts.specs.Elements.{boolean_matrix_of, partial_permutation_of, transformation_of, truncated_matrix_of}
use Rattle.line_parts.specs.Fields.{field_of}
use Rattle.line_parts.specs.Token.{Token, Line, is_kept, is_word, letter_of, number_of}
use Rattle.line_parts.specs.Versions.{is_wide, version_numbered}
use Rattle.query_lang.specs.Asked.{ScriptOf}
use Rattle.query_lang.specs.declared.form.Form.{Form}
use Rattle.query_lang.specs.Forms.{Place, Way, form_named, section_of}
use Rattle.query_lang.specs.Header.{Start, header_named, no_letters}
use Rattle.query_lang.specs.Values.{Scope, as_many, fits, is_barred, is_pair_too_many, is_relation_too_many, mixes_kinds, scope_of, value_of, way_for, ways_in}
use Rattle.query_lang.specs.Grammar.{Partial, Said, Nothing, OfVersion, Begun, lacks_generator, section_reached, is_generator_line, Reads, script_in}

-- the cause, where it applies
abbrev pub when : Cause → Bool → Option Cause
when cause applies = if applies then Some cause else None

-- the first of the causes that applies
abbrev pub first_of : List (Option Cause) → Option Cause
first_of [] = None
first_of (None ∷ causes) = first_of causes
first_of (Some cause ∷ causes) = Some cause

-- the cause of a result without a value
abbrev pub cause_in : {A : Type 0} → Result A Cause → Option Cause
cause_in (Ok x) = None
cause_in (Err cause) = Some cause

-- the causes of the tokens in their places, from the left, where these are all
abbrev pub token_causes : Scope → List Token → List Place → List Token → List (Option Cause)
token_causes s all [] tokens = []
token_causes s all (place ∷ places) [] = []
token_causes s all (place ∷ places) (t ∷ tokens) =
    cause_in (value_of s all place t) ∷ token_causes s all places tokens

-- the causes of the tokens that are written this way
abbrev pub way_causes : {A : Type 0} → Partial → Option (Way A) → List Token
    → List (Option Cause)
way_causes p None tokens = []
way_causes p (Some way) tokens =
    token_causes (scope_of p.head.version p.problem) tokens way.places tokens

-- a line of this form: 8, 9, 3, 16, 17, 18, 19, then its tokens from the left
abbrev pub form_causes : Partial → Form → List Token → List (Option Cause)
form_causes p form tokens =
    when cause.LineOutOfOrder (nat_lt (section_of form) (section_reached p))
    ∷ when cause.NoGenerator (lacks_generator p)
    ∷ when cause.WrongNumberOfWords (not (fits p.problem form tokens))
    ∷ when cause.TooManyRelations (is_relation_too_many p.problem form tokens)
    ∷ when cause.TooManyPairs (is_pair_too_many p.problem form)
    ∷ when cause.MixedKinds (mixes_kinds p.problem form)
    ∷ when cause.QueryNotAllowed (is_barred p.problem form)
    ∷ way_causes p (way_for tokens (ways_in p.problem form)) tokens

-- a line with a name: 7, then as its form asks
abbrev pub named_causes : Partial → Option Form → List Token → List (Option Cause)
named_causes p None tokens = Some cause.UnknownLine ∷ []
named_causes p (Some form) tokens = form_causes p form tokens

-- why the fields give no element of the problem's kind: 10, 11, 12
abbrev pub entries_cause : ℕ × ℕ → Problem → List Field → Option Cause
entries_cause sizes (Presented p) fields = None
entries_cause sizes (Transf p) fields = cause_in (transformation_of sizes fields)
entries_cause sizes (PPerm p) fields = cause_in (partial_permutation_of sizes fields)
entries_cause sizes (BMat p) fields = cause_in (boolean_matrix_of sizes fields)
entries_cause sizes (MaxPlus p) fields = cause_in (truncated_matrix_of sizes fields)

-- the letter was a generator's before
abbrev pub is_taken : Partial → Option ℕ → Bool
is_taken p None = false
is_taken p (Some x) = list_any (λ y. y == x) (letters_of p.problem)

-- a generator line: 8, then the name (5, then 6), then 10, 11, 12
abbrev pub generator_causes : Partial → Token → List Field → List (Option Cause)
generator_causes p name fields =
    when cause.LineOutOfOrder (nat_lt 2 (section_reached p))
    ∷ when cause.NotALetter (is_none (letter_of (is_wide p.head.version) name))
    ∷ when cause.RepeatedLetter (is_taken p (letter_of (is_wide p.head.version) name))
    ∷ entries_cause p.head.sizes p.problem fields ∷ []

-- a line behind the header
abbrev pub line_causes : Partial → Line → List (Option Cause)
line_causes p [] = Some cause.UnknownLine ∷ []
line_causes p (first ∷ []) =
    named_causes p (form_named p.head.version (is_presented p.problem) first) []
line_causes p (first ∷ second ∷ tokens) =
    if is_generator_line p (first ∷ second ∷ tokens)
    then generator_causes p first (map field_of tokens)
    else named_causes p (form_named p.head.version (is_presented p.problem) first)
    (second ∷ tokens)

-- the header: 2, 3, then its tokens from the left
abbrev pub start_causes : Option (Way Start) → List Token → List (Option Cause)
start_causes None tokens = Some cause.UnknownHeader ∷ []
start_causes (Some way) tokens =
    when cause.WrongNumberOfWords (not (as_many way.places tokens))
    ∷ token_causes no_letters tokens way.places tokens

abbrev pub header_causes : Version → Line → List (Option Cause)
header_causes version [] = Some cause.UnknownHeader ∷ []
header_causes version (name ∷ tokens) = start_causes (header_named (is_wide version) name) tokens

abbrev pub is_one : List Token → Bool
is_one [] = false
is_one (t ∷ []) = true
is_one (t ∷ u ∷ tokens) = false

-- the number of a version: 4, then 22
abbrev pub version_number_causes : List Token → List (Option Cause)
version_number_causes [] = []
version_number_causes (t ∷ tokens) =
    when cause.BadNumber (is_none (number_of t))
    ∷ when cause.UnknownVersion (is_none (option_and_then version_numbered (number_of t))) ∷ []

-- a version line: 3, then its number
abbrev pub version_causes : List Token → List (Option Cause)
version_causes tokens =
    when cause.WrongNumberOfWords (not (is_one tokens)) ∷ version_number_causes tokens

-- the first line that is not skipped: of the version, or else the header
abbrev pub first_line_causes : Line → List (Option Cause)
first_line_causes [] = Some cause.UnknownHeader ∷ []
first_line_causes (name ∷ tokens) =
    if is_word (codes "version") name then version_causes tokens
    else header_causes One (name ∷ tokens)

-- the causes of a line that is not skipped, after what the lines before it say
abbrev pub causes_after : Said → Line → List (Option Cause)
causes_after Nothing line = first_line_causes line
causes_after (OfVersion version) line = header_causes version line
causes_after (Begun p) line = line_causes p line

-- the cause of a line after what the lines before it say; a line that is skipped has none
abbrev pub cause_of_line : Said → Line → Option Cause
cause_of_line s line = if is_kept line then first_of (causes_after s line) else None

-- what may be missing at the end: the header, or every generator
abbrev pub cause_at_end : Said → Option Cause
cause_at_end Nothing = Some cause.HeaderMissing
cause_at_end (OfVersion version) = Some cause.HeaderMissing
cause_at_end (Begun p) = when cause.NoGenerator (lacks_generator p)

-- the lines before this one are read, and it has the cause; so it is the first line with one, since
-- a line that is read has none
pub record IsFaultOfLine (lines : List Line) (n : ℕ) (cause : Cause) : Type 0 where
  pub before : List Line
  pub line : Line
  pub after : List Line
  pub said : Said
  pub whole : lines ≡ before ++ line ∷ after
  pub number : n ≡ suc (length before)
  pub reads : Reads Nothing before said
  pub faulty : cause_of_line said line ≡ Some cause

-- all lines are read, and something is missing at the end, at the last line
pub record IsFaultAtEnd (lines : List Line) (n : ℕ) (cause : Cause) : Type 0 where
  pub said : Said
  pub number : n ≡ length lines
  pub reads : Reads Nothing lines said
  pub missing : cause_at_end said ≡ Some cause

-- the first fault of the lines
abbrev pub IsFirstFault : List Line → ℕ → Cause → Type 0
IsFirstFault lines n cause = IsFaultOfLine lines n cause ⊎ IsFaultAtEnd lines n cause

-- all lines are read to this script, and nothing is missing
pub record AreScript (lines : List Line) (script : ScriptOf) : Type 0 where
  pub said : Partial
  pub reads : Reads Nothing lines (Begun said)
  pub whole : cause_at_end (Begun said) ≡ None
  pub is : script_in said ≡ script
