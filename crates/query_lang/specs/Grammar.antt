-- The grammar: what a script may have, line by line, and what each line adds to what the lines
-- before it say.
use Rattle.std.specs.Prelude.{◌≡◌, ℕ, ◌≤◌, Bool, true, false, not, ◌&&◌, ◌==◌, List, [], ◌∷◌, ◌++◌, length, map, codes, if◌then◌else◌, Some, Ok}
use Rattle.std.specs.List.{list_any}
use Rattle.theory.specs.Word.{Word}
use Rattle.problem.specs.declared.kinds.Problem.{Problem}
use Rattle.problem.specs.declared.kinds.Problem.TheVariants.{Presented}
use Rattle.problem.specs.Problem.{is_presented, letters_of, pairs_of, with_pair}
use Rattle.line_parts.specs.declared.version.Version.{Version}
use Rattle.line_parts.specs.declared.version.Version.TheVariants.{One}
use Rattle.line_parts.specs.Fields.{field_of}
use Rattle.line_parts.specs.Token.{Token, Line, cut_lines, is_kept, is_word, letter_of, number_of, tokens_of}
use Rattle.line_parts.specs.Versions.{is_wide, version_numbered}
use Rattle.query_lang.specs.declared.script.Query.{Query}
use Rattle.query_lang.specs.Asked.{ScriptOf}
use Rattle.query_lang.specs.Generators.{generator_more}
use Rattle.query_lang.specs.declared.form.Form.{Form}
use Rattle.query_lang.specs.declared.form.Form.TheVariants.{Relation, OfRole, Pair, Asks}
use Rattle.query_lang.specs.Forms.{AllGiven, Gives, Way, form_named, section_of}
use Rattle.query_lang.specs.Header.{Start, header_named, no_letters}
use Rattle.query_lang.specs.Relations.{add_relations}
use Rattle.query_lang.specs.Values.{as_many, is_barred, is_pair_too_many, is_relation_too_many, mixes_kinds, scope_of, values_of, way_for, ways_in}

-- what is said at the head of a script: the version, and the numbers of the header, 0 in the place
-- of one that it has not
pub record Head : Type 0 where
  pub version : Version
  pub sizes : ℕ × ℕ

-- what the lines so far say: the head, what is posed so far, and the queries
pub record Partial : Type 0 where
  pub head : Head
  pub problem : Problem
  pub queries : List Query

abbrev pub is_empty : {A : Type 0} → List A → Bool
is_empty [] = true
is_empty (x ∷ xs) = false

-- the section that the lines have reached: 2 generators and relations, 3 pairs, 4 queries
abbrev pub section_reached : Partial → ℕ
section_reached p =
    if is_empty p.queries then (if length (pairs_of p.problem) == 0 then 2 else 3) else 4

-- whether the second token is `=`
abbrev pub has_sign : Line → Bool
has_sign [] = false
has_sign (first ∷ []) = false
has_sign (first ∷ second ∷ tokens) = is_word (codes "=") second

-- a line of an element script is a generator line exactly where its second token is `=`
abbrev pub is_generator_line : Partial → Line → Bool
is_generator_line p line = not (is_presented p.problem) && has_sign line

-- an element script that has no generator yet, and so neither a pair nor a query
abbrev pub lacks_generator : Partial → Bool
lacks_generator p = not (is_presented p.problem)
    && ((length (letters_of p.problem) == 0)
    && ((length (pairs_of p.problem) == 0) && is_empty p.queries))

-- more relations; generators have none
abbrev pub more_relations : Problem → List (Word × Word) → Problem
more_relations (Presented o) relations = Presented (add_relations o relations)
more_relations p relations = p

-- what the lines say with what a line of this form adds
abbrev pub with_added : Partial → (form : Form) → Gives form → Partial
with_added p Relation relations = record p { problem = more_relations p.problem relations }
with_added p (OfRole role) relations = record p { problem = more_relations p.problem relations }
with_added p (Pair kind) pair = record p { problem = with_pair p.problem kind pair }
with_added p (Asks form) query = record p { queries = p.queries ++ query ∷ [] }

-- the line is of this form: its first token names it, there is room for what it adds, pairs allow
-- it, and the tokens behind the name give, each in its place, what is added
pub record IsOfForm (p : Partial) (line : Line) (form : Form) (added : Gives form)
    : Type 0 where
  pub name : Token
  pub tokens : List Token
  pub way : Way (Gives form)
  pub given : AllGiven way.places
  pub is : line ≡ name ∷ tokens
  pub named : form_named p.head.version (is_presented p.problem) name ≡ Some form
  pub few_relations : is_relation_too_many p.problem form tokens ≡ false
  pub few_pairs : is_pair_too_many p.problem form ≡ false
  pub one_kind : mixes_kinds p.problem form ≡ false
  pub allowed : is_barred p.problem form ≡ false
  pub written : way_for tokens (ways_in p.problem form) ≡ Some way
  pub read : values_of (scope_of p.head.version p.problem) tokens way.places tokens ≡ Ok given
  pub made : way.makes given ≡ added

-- a line behind the header, and what the lines say with it
pub data LineReads (p : Partial) (line : Line) : Partial → Type 0 where
  generator : {name : Token} {x : ℕ} {entries : List Token} {problem : Problem}
      → line ≡ name ∷ codes "=" ∷ entries → section_reached p ≤ 2
      → letter_of (is_wide p.head.version) name ≡ Some x
      → list_any (λ y. y == x) (letters_of p.problem) ≡ false
      → generator_more p.head.sizes p.problem x (map field_of entries) ≡ Ok problem
      → LineReads p line (record p { problem = problem })
  of_form : {form : Form} {added : Gives form} → lacks_generator p ≡ false
      → is_generator_line p line ≡ false → section_reached p ≤ section_of form
      → IsOfForm p line form added → LineReads p line (with_added p form added)

-- what the header says
abbrev pub begin_with : Version → ℕ × ℕ → Problem → Partial
begin_with version sizes problem = record {
  head = record { version = version; sizes = sizes };
  problem = problem;
  queries = [];
}

-- the line is a header in a script of this version: its first token names it, and the tokens
-- behind the name give, each in its place, what it says
pub record HeaderReads (version : Version) (line : Line) (said : Partial) : Type 0 where
  pub name : Token
  pub tokens : List Token
  pub way : Way Start
  pub given : AllGiven way.places
  pub is : line ≡ name ∷ tokens
  pub named : header_named (is_wide version) name ≡ Some way
  pub written : as_many way.places tokens ≡ true
  pub read : values_of no_letters tokens way.places tokens ≡ Ok given
  pub made : begin_with version (way.makes given).0 (way.makes given).1 ≡ said

-- what the lines so far say: nothing, the version alone, or more
pub data Said : Type 0 where
  Nothing : Said
  OfVersion : Version → Said
  Begun : Partial → Said

-- one line after what the lines before it say; without a version line the version is the first one
pub data Step : Said → Line → Said → Type 0 where
  skipped : {s : Said} {line : Line} → is_kept line ≡ false → Step s line s
  version : {line : Line} {N : Token} {n : ℕ} {v : Version} → is_kept line ≡ true
      → line ≡ codes "version" ∷ N ∷ [] → number_of N ≡ Some n → version_numbered n ≡ Some v
      → Step Nothing line (OfVersion v)
  header : {line : Line} {q : Partial} → is_kept line ≡ true → HeaderReads One line q
      → Step Nothing line (Begun q)
  header_behind : {v : Version} {line : Line} {q : Partial} → is_kept line ≡ true
      → HeaderReads v line q → Step (OfVersion v) line (Begun q)
  further : {p q : Partial} {line : Line} → is_kept line ≡ true → LineReads p line q
      → Step (Begun p) line (Begun q)

-- lines, one after another
pub data Reads : Said → List Line → Said → Type 0 where
  none : {s : Said} → Reads s [] s
  more : {s t u : Said} {line : Line} {lines : List Line} → Step s line t
      → Reads t lines u → Reads s (line ∷ lines) u

-- the lines of bytes, each as its tokens
abbrev pub lines_of : List ℕ → List Line
lines_of bytes = map tokens_of (cut_lines bytes)

-- the script that a partial one is, where nothing is missing
abbrev pub script_in : Partial → ScriptOf
script_in p = record { problem = p.problem; queries = p.queries }
