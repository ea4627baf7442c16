-- What lines say after those before them, as the reader's steps have it.
use Rattle.std.specs.Prelude.{◌≡◌, ℕ, Bool, false, List, [], Option, Result, Ok}
use Rattle.problem.specs.Problem.{is_presented, letters_of, pairs_of}
use Rattle.problem.specs.declared.kinds.Problem.{Problem}
use Rattle.elements.specs.declared.field.Field.{Field}
use Rattle.line_parts.specs.declared.cause.Cause.{Cause}
use Rattle.line_parts.specs.declared.version.Version.{Version}
use Rattle.line_parts.specs.Outcome.{and_then}
use Rattle.line_parts.specs.Token.{Token}
use Rattle.line_parts.specs.Versions.{is_wide}
use Rattle.query_lang.specs.declared.form.Form.{Form}
use Rattle.query_lang.specs.Asked.{ScriptOf}
use Rattle.query_lang.specs.Draft.{new_letter_of}
use Rattle.query_lang.specs.Generators.{generator_more}
use Rattle.query_lang.specs.Forms.{Way}
use Rattle.query_lang.specs.Grammar.{Partial, begin_with, with_added}
use Rattle.query_lang.specs.Header.{Start, header_named, started}
use Rattle.query_lang.specs.Values.{added_of}

-- what lines say that have come to this script
abbrev pub come_to : Version → ℕ × ℕ → ScriptOf → Partial
come_to version sizes script = record {
  head = record { version = version; sizes = sizes };
  problem = script.problem;
  queries = script.queries;
}

-- what is posed by generators, before the first pair
abbrev pub AreGenerators : Problem → Type 0
AreGenerators p = (is_presented p ≡ false) × (pairs_of p ≡ [])

-- what this header says, or why it is refused
abbrev pub said_by : Version → Option (Way Start) → List Token → Result Partial Cause
said_by version named tokens =
    and_then (λ s. Ok (begin_with version s.0 s.1)) (started named tokens)

-- what a header of this name says, or why it is refused
abbrev pub headed : Version → Token → List Token → Result Partial Cause
headed version name tokens = said_by version (header_named (is_wide version) name) tokens

-- the problem with the generator of this name and these entries
abbrev pub with_generator : (wide : Bool) → Start → Token → List Field → Result Problem Cause
with_generator wide s name fields = and_then (λ x. generator_more s.0 s.1 x fields)
    (new_letter_of wide (letters_of s.1) name)

-- what the lines say with a line of this form, where it may stand
abbrev pub added_to : Partial → Form → List Token → Result Partial Cause
added_to p form tokens = and_then (λ x. Ok (with_added p form x))
    (added_of p.head.version p.problem form tokens)
