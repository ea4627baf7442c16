-- The forms of lines behind the header that begin with a name. Each is told once: the grammar, the
-- causes of refusal and the reader are read from here.
use Rattle.std.specs.Prelude.{ℕ, Bool, true, false, not, ◌&&◌, List, [], ◌∷◌, codes, if◌then◌else◌, Option, Some, None}
use Rattle.theory.specs.declared.Kind.TheVariants.{TwoSided, Right, Left}
use Rattle.theory.specs.declared.Relation.{Relation as GreenRelation}
use Rattle.theory.specs.Graph.{Graph}
use Rattle.theory.specs.Word.{Word}
use Rattle.presentation.specs.Added.{identity_relations, zero_relations, inverse_relations}
use Rattle.line_parts.specs.declared.version.Version.{Version}
use Rattle.line_parts.specs.Token.{Token, is_word}
use Rattle.line_parts.specs.Versions.{has_roles}
use Rattle.query_lang.specs.declared.form.Form.{Form}
use Rattle.query_lang.specs.declared.form.Form.TheVariants.{Relation, OfRole, Pair, Asks}
use Rattle.query_lang.specs.declared.form.QueryForm.{QueryForm}
use Rattle.query_lang.specs.declared.form.QueryForm.TheVariants as query_form
use Rattle.query_lang.specs.declared.role.Role.TheVariants.{Identity, Zero, Inverse}
use Rattle.query_lang.specs.declared.script.Query.{Query}
use Rattle.query_lang.specs.declared.script.Query.TheVariants as ask

-- what may stand in the place of a token
pub data Place : Type 0 where
  AWord : Place
  ALetter : Place
  ANumber : (low high : ℕ) → Place
  After : Place
  ALowTable : Place
  ACongruenceTable : Place
  ARelation : Place
  ALetters : (wide : Bool) → Place

-- what a token in this place gives
abbrev pub Given : Place → Type 0
Given AWord = Word
Given ALetter = ℕ
Given (ANumber low high) = ℕ
Given After = Unit {0}
Given ALowTable = Graph
Given ACongruenceTable = Graph
Given ARelation = GreenRelation
Given (ALetters wide) = List ℕ

-- what tokens in these places give
abbrev pub AllGiven : List Place → Type 0
AllGiven [] = Unit {0}
AllGiven (place ∷ places) = Given place × AllGiven places

-- a way to write a line: what stands behind its name, and what is made of that
pub record Way (A : Type 0) : Type 0 where
  pub places : List Place
  pub makes : AllGiven places → A

abbrev pub way : {A : Type 0} → (places : List Place) → (AllGiven places → A) → Way A
way places makes = record { places = places; makes = makes }

-- which scripts have a form of query
pub data Scripts : Type 0 where
  AllScripts : Scripts
  OfRelations : Scripts
  OfGenerators : Scripts

-- which pairs of a problem allow a form of query
pub data Pairs : Type 0 where
  AnyPairs : Pairs
  TwoSidedPairs : Pairs
  NoPairs : Pairs

-- a form of query: its name, where it may be asked, and how it is written
pub record Row : Type 0 where
  pub name : Token
  pub scripts : Scripts
  pub pairs : Pairs
  pub ways : List (Way Query)

abbrev pub row : Token → Scripts → Pairs → List (Way Query) → Row
row name scripts pairs ways =
    record { name = name; scripts = scripts; pairs = pairs; ways = ways }

abbrev pub low_index_name : (two_sided : Bool) → Token
low_index_name false = codes "lowindex"
low_index_name true = codes "lowindex2"

-- the table of queries
abbrev pub row_of : QueryForm → Row
row_of query_form.Index = row (codes "index") AllScripts AnyPairs (way [] (λ v. ask.Index) ∷ [])
row_of query_form.Equal = row (codes "equal") AllScripts AnyPairs
    (way (AWord ∷ AWord ∷ []) (λ v. ask.Equal v.0 v.1.0) ∷ [])
row_of query_form.Normal = row (codes "normal") AllScripts AnyPairs
    (way (AWord ∷ []) (λ v. ask.Normal v.0) ∷ [])
row_of query_form.Classes = row (codes "classes") AllScripts AnyPairs
    (way (ANumber 0 1000000 ∷ []) (λ v. ask.Classes v.0 None)
    ∷ way (ANumber 0 1000000 ∷ After ∷ AWord ∷ []) (λ v. ask.Classes v.0 (Some v.1.1.0)) ∷ [])
row_of query_form.Rules = row (codes "rules") AllScripts TwoSidedPairs
    (way [] (λ v. ask.RuleList) ∷ [])
row_of query_form.Element = row (codes "element") OfGenerators AnyPairs
    (way (AWord ∷ []) (λ v. ask.ElementOf v.0) ∷ [])
row_of query_form.Cayley = row (codes "cayley") OfGenerators NoPairs (way [] (λ v. ask.Cayley) ∷ [])
row_of (query_form.LowIndex two_sided) = row (low_index_name two_sided) OfRelations NoPairs
    (way (ANumber 1 16 ∷ ANumber 0 1000000 ∷ [])
    (λ v. ask.LowIndex two_sided v.0 v.1.0 None)
    ∷ way (ANumber 1 16 ∷ ANumber 0 1000000 ∷ After ∷ ALowTable ∷ [])
    (λ v. ask.LowIndex two_sided v.0 v.1.0 (Some v.1.1.1.0)) ∷ [])
row_of query_form.Meet = row (codes "meet") OfRelations NoPairs
    (way (ACongruenceTable ∷ ACongruenceTable ∷ []) (λ v. ask.Meet v.0 v.1.0) ∷ [])
row_of query_form.Join = row (codes "join") OfRelations NoPairs
    (way (ACongruenceTable ∷ ACongruenceTable ∷ []) (λ v. ask.Join v.0 v.1.0) ∷ [])
row_of query_form.Chain = row (codes "chain") OfRelations TwoSidedPairs
    (way (AWord ∷ AWord ∷ []) (λ v. ask.Chain v.0 v.1.0) ∷ [])
row_of query_form.Green = row (codes "green") OfGenerators NoPairs
    (way (ARelation ∷ []) (λ v. ask.Green v.0) ∷ [])
row_of query_form.Idempotents = row (codes "idempotents") OfGenerators NoPairs
    (way [] (λ v. ask.Idempotents) ∷ [])

-- the name of the form
abbrev pub name_of : Form → Token
name_of Relation = codes "rel"
name_of (OfRole Identity) = codes "identity"
name_of (OfRole Zero) = codes "zero"
name_of (OfRole Inverse) = codes "inverse"
name_of (Pair TwoSided) = codes "twosided"
name_of (Pair Right) = codes "right"
name_of (Pair Left) = codes "left"
name_of (Asks query) = (row_of query).name

-- what a line of this form adds: relations, a pair, or a query
abbrev pub Gives : Form → Type 0
Gives Relation = List (Word × Word)
Gives (OfRole role) = List (Word × Word)
Gives (Pair kind) = Word × Word
Gives (Asks query) = Query

-- letters that are inverse: in a semigroup the third one is the identity by which they are
abbrev pub inverse_way : (is_monoid : Bool) → Way (List (Word × Word))
inverse_way true = way (ALetter ∷ ALetter ∷ []) (λ v. inverse_relations v.0 v.1.0 None)
inverse_way false = way (ALetter ∷ ALetter ∷ ALetter ∷ [])
    (λ v. inverse_relations v.0 v.1.0 (Some v.1.1.0))

-- the ways to write a line of this form, in a monoid or not, over so many letters
abbrev pub ways_of : (is_monoid : Bool) → ℕ → (form : Form) → List (Way (Gives form))
ways_of is_monoid k Relation = way (AWord ∷ AWord ∷ []) (λ v. (v.0, v.1.0) ∷ []) ∷ []
ways_of is_monoid k (OfRole Identity) =
    way (ALetter ∷ []) (λ v. identity_relations k v.0) ∷ []
ways_of is_monoid k (OfRole Zero) = way (ALetter ∷ []) (λ v. zero_relations k v.0) ∷ []
ways_of is_monoid k (OfRole Inverse) = inverse_way is_monoid ∷ []
ways_of is_monoid k (Pair kind) = way (AWord ∷ AWord ∷ []) (λ v. (v.0, v.1.0)) ∷ []
ways_of is_monoid k (Asks query) = (row_of query).ways

-- the section of the form
abbrev pub section_of : Form → ℕ
section_of Relation = 2
section_of (OfRole role) = 2
section_of (Pair kind) = 3
section_of (Asks query) = 4

-- whether a presentation is among these scripts, or a script of generators
abbrev pub are_scripts : Scripts → (is_presentation : Bool) → Bool
are_scripts AllScripts is_presentation = true
are_scripts OfRelations is_presentation = is_presentation
are_scripts OfGenerators is_presentation = not is_presentation

-- whether a presentation has this form of query, or a script of generators
abbrev pub has_query : (is_presentation : Bool) → QueryForm → Bool
has_query is_presentation query = are_scripts (row_of query).scripts is_presentation

-- whether a script of this version and kind has the form
abbrev pub has_form : Version → (is_presentation : Bool) → Form → Bool
has_form version is_presentation Relation = is_presentation
has_form version is_presentation (OfRole role) = is_presentation && has_roles version
has_form version is_presentation (Pair kind) = true
has_form version is_presentation (Asks query) = has_query is_presentation query

-- all forms
abbrev pub all_forms : List Form
all_forms = Relation ∷ OfRole Identity ∷ OfRole Zero ∷ OfRole Inverse
    ∷ Pair TwoSided ∷ Pair Right ∷ Pair Left
    ∷ Asks query_form.Index ∷ Asks query_form.Equal ∷ Asks query_form.Normal
    ∷ Asks query_form.Classes ∷ Asks query_form.Rules
    ∷ Asks query_form.Element ∷ Asks query_form.Cayley
    ∷ Asks (query_form.LowIndex false) ∷ Asks (query_form.LowIndex true)
    ∷ Asks query_form.Meet ∷ Asks query_form.Join ∷ Asks query_form.Chain
    ∷ Asks query_form.Green ∷ Asks query_form.Idempotents ∷ []

-- the first of these forms that the script has, and that has this name
abbrev pub form_among : Version → (is_presentation : Bool) → List Form → Token → Option Form
form_among version is_presentation [] t = None
form_among version is_presentation (form ∷ forms) t =
    if is_word (name_of form) t && has_form version is_presentation form then Some form
    else form_among version is_presentation forms t

-- the form that the token names in a script of this version: a presentation, or of generators
abbrev pub form_named : Version → (is_presentation : Bool) → Token → Option Form
form_named version is_presentation t = form_among version is_presentation all_forms t
