-- Versions of the script language.
use Rattle.std.specs.Prelude.{ℕ, ◌==◌, Bool, true, false, List, if◌then◌else◌, Option, Some, None, Result}
use Rattle.std.specs.Option.{ok_or}
use Rattle.line_parts.specs.declared.cause.Cause.{Cause}
use Rattle.line_parts.specs.declared.cause.Cause.TheVariants.{BadNumber, UnknownVersion}
use Rattle.line_parts.specs.declared.version.Version.{Version}
use Rattle.line_parts.specs.declared.version.Version.TheVariants.{One, Two}
use Rattle.line_parts.specs.LineWords.{one_token}
use Rattle.line_parts.specs.Outcome.{and_then}
use Rattle.line_parts.specs.Token.{Token, number_of}

-- whether letters are of both cases
abbrev pub is_wide : Version → Bool
is_wide One = false
is_wide Two = true

-- lines that give letters a role came with the second version
abbrev pub has_roles : Version → Bool
has_roles One = false
has_roles Two = true

abbrev pub version_numbered : ℕ → Option Version
version_numbered n = if n == 1 then Some One else if n == 2 then Some Two else None

-- the version that the tokens behind `version` say
abbrev pub version_of : List Token → Result Version Cause
version_of tokens =
    and_then (λ t. and_then (λ n. ok_or (version_numbered n) UnknownVersion)
    (ok_or (number_of t) BadNumber)) (one_token tokens)
