-- Tokens as entries.
use Rattle.std.specs.Prelude.{ℕ, Option, Some, None, codes, if◌then◌else◌}
use Rattle.elements.specs.declared.field.Field.{Field}
use Rattle.elements.specs.declared.field.Field.TheVariants.{Number, Dash, Bad}
use Rattle.line_parts.specs.Token.{Token, number_of, is_word}

abbrev pub field_from : Option ℕ → Token → Field
field_from (Some n) t = Number n
field_from None t = if is_word (codes "-") t then Dash else Bad

-- the entry that a token is
abbrev pub field_of : Token → Field
field_of t = field_from (number_of t) t
