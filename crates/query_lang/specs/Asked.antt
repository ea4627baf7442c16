-- What a script poses and asks.
use Rattle.std.specs.Prelude.{List, [], ◌∷◌, ◌++◌, Result, Ok}
use Rattle.problem.specs.declared.kinds.Problem.{Problem}
use Rattle.line_parts.specs.declared.cause.Cause.{Cause}
use Rattle.line_parts.specs.declared.version.Version.{Version}
use Rattle.line_parts.specs.Outcome.{and_then}
use Rattle.line_parts.specs.Token.{Token}
use Rattle.query_lang.specs.declared.form.Form.TheVariants.{Asks}
use Rattle.query_lang.specs.declared.form.QueryForm.{QueryForm}
use Rattle.query_lang.specs.declared.script.Query.{Query}
use Rattle.query_lang.specs.Values.{added_of}

pub record ScriptOf : Type 0 where
  pub problem : Problem
  pub queries : List Query

-- the query behind the others
abbrev pub with_asked : ScriptOf → Query → ScriptOf
with_asked s query = record s { queries = s.queries ++ query ∷ [] }

-- one query more
abbrev pub asked : Version → ScriptOf → QueryForm → List Token → Result ScriptOf Cause
asked version s form tokens =
    and_then (λ query. Ok (with_asked s query)) (added_of version s.problem (Asks form) tokens)
