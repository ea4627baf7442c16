-- A line that has no cause is read, after whatever the lines before it say.
use Rattle.std.proofs.Common.{◌≡◌, ℕ, nat_lt, Bool, true, false, not, ◌&&◌, if◌then◌else◌, List, [], ◌∷◌, map, codes, Option, Some, None, Ok, option_and_then, is_none, refl, sym, ap, ◌∙◌, true≢false}
use Rattle.std.proofs.lemmas.Bool.{ltb-false}
use Rattle.std.specs.Cmp.Lexicographic.{same_text}
use Rattle.elements.specs.declared.field.Field.{Field}
use Rattle.problem.specs.Problem.{is_presented}
use Rattle.problem.specs.declared.kinds.Problem.{Problem}
use Rattle.problem.specs.declared.kinds.Problem.TheVariants as problem
use Rattle.line_parts.specs.Token.{Token, Line, is_kept, is_word, letter_of, number_of}
use Rattle.line_parts.specs.Fields.{field_of}
use Rattle.line_parts.specs.Elements.{boolean_matrix_of, partial_permutation_of, transformation_of, truncated_matrix_of}
use Rattle.line_parts.specs.Outcome.{and_then}
use Rattle.line_parts.specs.Versions.{is_wide, version_numbered}
use Rattle.line_parts.specs.declared.version.Version.{Version}
use Rattle.line_parts.specs.declared.version.Version.TheVariants.{One}
use Rattle.line_parts.specs.declared.cause.Cause.{Cause}
use Rattle.line_parts.specs.declared.cause.Cause.TheVariants as cause
use Rattle.query_lang.specs.declared.script.Query.{Query}
use Rattle.query_lang.specs.Generators.{generator_more, one_more}
use Rattle.query_lang.specs.Grammar as grammar
use Rattle.query_lang.specs.Grammar.{Head, Partial, Said, Nothing, OfVersion, Begun, section_reached, HeaderReads, Step, is_generator_line}
use Rattle.query_lang.specs.Forms.{Way, form_named}
use Rattle.query_lang.specs.Header.{Start, header_named, no_letters}
use Rattle.query_lang.specs.Values.{values_of}
use Rattle.query_lang.specs.LineCauses.{first_of, named_causes, entries_cause, is_taken, generator_causes, line_causes, start_causes, header_causes, causes_after, cause_of_line, first_line_causes, version_causes, version_number_causes, when}
use Rattle.query_lang.proofs.TotalForms.{IsRead, some-is-none, passed, not-applies, is-some, branch, named-read, no-cause}
use Rattle.query_lang.proofs.QueryLemmas.{values_cause}

-- a generator line

-- no cause of a generator line applies
record Generates (p : Partial) (name : Token) (fields : List Field) : Type 0 where
  in_order : nat_lt 2 (section_reached p) ≡ false
  named : is_none (letter_of (is_wide p.head.version) name) ≡ false
  new : is_taken p (letter_of (is_wide p.head.version) name) ≡ false
  good : entries_cause p.head.sizes p.problem fields ≡ None

last : (cause : Option Cause) → first_of (cause ∷ []) ≡ None → cause ≡ None
last None h = refl
last (Some c) h = absurd (some-is-none h)

generates : (p : Partial) (name : Token) (fields : List Field) → first_of (generator_causes p name fields) ≡ None → Generates p name fields
generates p name fields h =
    let a = passed _ _ _ h in
    let b = passed _ _ _ a.1 in
    let c = passed _ _ _ b.1 in
    record { in_order = a.0; named = b.0; new = c.0; good = last _ c.1 }

-- the problem has the generator
has-generator : (sizes : ℕ × ℕ) (p : Problem) (x : ℕ) (fields : List Field) → is_presented p ≡ false → entries_cause sizes p fields ≡ None → (q : Problem) × (generator_more sizes p x fields ≡ Ok q)
has-generator sizes (problem.Presented o) x fields k h = absurd (true≢false k)
has-generator sizes (problem.Transf g) x fields k h =
    let e = no-cause (transformation_of sizes fields) h in (problem.Transf (one_more g x e.0), ap (and_then (λ e. Ok (problem.Transf (one_more g x e)))) e.1)
has-generator sizes (problem.PPerm g) x fields k h =
    let e = no-cause (partial_permutation_of sizes fields) h in (problem.PPerm (one_more g x e.0), ap (and_then (λ e. Ok (problem.PPerm (one_more g x e)))) e.1)
has-generator sizes (problem.BMat g) x fields k h =
    let e = no-cause (boolean_matrix_of sizes fields) h in (problem.BMat (one_more g x e.0), ap (and_then (λ e. Ok (problem.BMat (one_more g x e)))) e.1)
has-generator sizes (problem.MaxPlus g) x fields k h =
    let e = no-cause (truncated_matrix_of sizes fields) h in (problem.MaxPlus (one_more g x e.0), ap (and_then (λ e. Ok (problem.MaxPlus (one_more g x e)))) e.1)

generator-read : (p : Partial) (name sign : Token) (entries : List Token) → is_presented p.problem ≡ false → sign ≡ codes "="
    → first_of (generator_causes p name (map field_of entries)) ≡ None → IsRead p (name ∷ sign ∷ entries)
generator-read p name sign entries k e h =
    let c = generates p name (map field_of entries) h in
    let x = is-some (letter_of (is_wide p.head.version) name) c.named in
    let g = has-generator p.head.sizes p.problem x.0 (map field_of entries) k c.good in
    (_, grammar.generator (ap (λ s. name ∷ s ∷ entries) e) (ltb-false _ _ c.in_order) x.1 (ap (is_taken p) (sym x.1) ∙ c.new) g.1)

-- a line of an element script

both-so : (a b : Bool) → (a && b) ≡ true → b ≡ true
both-so true b h = h
both-so false b h = absurd (true≢false (sym h))

elements-read : (p : Partial) (first : Token) (tokens : List Token) → is_presented p.problem ≡ false → first_of (line_causes p (first ∷ tokens)) ≡ None → IsRead p (first ∷ tokens)
elements-read p first [] k h = named-read p first [] (ap (λ b. not b && false) k) h
elements-read p first (second ∷ tokens) k h = split (is_generator_line p (first ∷ second ∷ tokens)) refl h
  where
    split : (b : Bool) → is_generator_line p (first ∷ second ∷ tokens) ≡ b
        → first_of (if b then generator_causes p first (map field_of tokens) else named_causes p (form_named p.head.version (is_presented p.problem) first) (second ∷ tokens)) ≡ None
        → IsRead p (first ∷ second ∷ tokens)
    split true e h =
        let sign : second ≡ codes "=" = same_text second (codes "=") (sym (both-so (not (is_presented p.problem)) (is_word (codes "=") second) e)) in
        generator-read p first second tokens k sign h
    split false e h = named-read p first (second ∷ tokens) e h

-- a line behind the header
line-read : (head : Head) (p : Problem) (queries : List Query) (line : Line) →
    let s : Partial = record { head = head; problem = p; queries = queries } in first_of (line_causes s line) ≡ None → IsRead s line
line-read head p queries [] h = absurd (some-is-none h)
line-read head (problem.Presented o) queries (first ∷ []) h = named-read (record { head = head; problem = problem.Presented o; queries = queries }) first [] refl h
line-read head (problem.Presented o) queries (first ∷ second ∷ tokens) h = named-read (record { head = head; problem = problem.Presented o; queries = queries }) first (second ∷ tokens) refl h
line-read head (problem.Transf g) queries (first ∷ tokens) h = elements-read (record { head = head; problem = problem.Transf g; queries = queries }) first tokens refl h
line-read head (problem.PPerm g) queries (first ∷ tokens) h = elements-read (record { head = head; problem = problem.PPerm g; queries = queries }) first tokens refl h
line-read head (problem.BMat g) queries (first ∷ tokens) h = elements-read (record { head = head; problem = problem.BMat g; queries = queries }) first tokens refl h
line-read head (problem.MaxPlus g) queries (first ∷ tokens) h = elements-read (record { head = head; problem = problem.MaxPlus g; queries = queries }) first tokens refl h

-- a header

abbrev IsHeader : Version → Line → Type 0
IsHeader version line = (q : Partial) × HeaderReads version line q

pub header-read : (version : Version) (name : Token) (tokens : List Token) → first_of (header_causes version (name ∷ tokens)) ≡ None → IsHeader version (name ∷ tokens)
header-read version name tokens h = by (header_named (is_wide version) name) refl h
  where
    by : (named : Option (Way Start)) → header_named (is_wide version) name ≡ named → first_of (start_causes named tokens) ≡ None → IsHeader version (name ∷ tokens)
    by None e h = absurd (some-is-none h)
    by (Some w) e h =
        let c = passed _ _ _ h in
        let fit = not-applies _ c.0 in
        let given = no-cause (values_of no_letters tokens w.places tokens) (values_cause no_letters tokens w.places tokens fit ∙ c.1) in
        (_, record { name = name; tokens = tokens; way = w; given = given.0; is = refl; named = e; written = fit; read = given.1; made = refl })

-- the number of a version
version-number : (t : Token) → first_of (version_number_causes (t ∷ [])) ≡ None → (n : ℕ) × (v : Version) × (number_of t ≡ Some n) × (version_numbered n ≡ Some v)
version-number t h = by (number_of t) refl h
  where
    by : (number : Option ℕ) → number_of t ≡ number
        → first_of (when cause.BadNumber (is_none number) ∷ when cause.UnknownVersion (is_none (option_and_then version_numbered number)) ∷ []) ≡ None
        → (n : ℕ) × (v : Version) × (number_of t ≡ Some n) × (version_numbered n ≡ Some v)
    by None e h = absurd (some-is-none h)
    by (Some n) e h = let v = is-some (version_numbered n) (passed _ _ _ h).0 in (n, v.0, e, v.1)

version-read : (name : Token) (tokens : List Token) → is_kept (name ∷ tokens) ≡ true → name ≡ codes "version" → first_of (version_causes tokens) ≡ None → (t : Said) × Step Nothing (name ∷ tokens) t
version-read name [] k e h = absurd (some-is-none h)
version-read name (t ∷ []) k e h = let n = version-number t h in (OfVersion n.1, grammar.version k (ap (λ x. x ∷ t ∷ []) e) n.2 n.3)
version-read name (t ∷ u ∷ tokens) k e h = absurd (some-is-none h)

first-read : (name : Token) (tokens : List Token) → is_kept (name ∷ tokens) ≡ true → first_of (first_line_causes (name ∷ tokens)) ≡ None → (t : Said) × Step Nothing (name ∷ tokens) t
first-read name tokens k =
    branch (λ causes. first_of causes ≡ None) ((t : Said) × Step Nothing (name ∷ tokens) t) (codes "version") name (version_causes tokens) (header_causes One (name ∷ tokens))
    (λ e h. version-read name tokens k e h) (λ h. let q = header-read One name tokens h in (Begun q.0, grammar.header k q.1))

-- a line that is not skipped
kept-read : (s : Said) (line : Line) → is_kept line ≡ true → first_of (causes_after s line) ≡ None → (t : Said) × Step s line t
kept-read Nothing [] k h = absurd (some-is-none h)
kept-read Nothing (name ∷ tokens) k h = first-read name tokens k h
kept-read (OfVersion version) [] k h = absurd (some-is-none h)
kept-read (OfVersion version) (name ∷ tokens) k h = let q = header-read version name tokens h in (Begun q.0, grammar.header_behind k q.1)
kept-read (Begun p) line k h = let q = line-read p.head p.problem p.queries line h in (Begun q.0, grammar.further k q.1)

-- each line without a cause is read, after whatever the lines before it say
pub total : (s : Said) (line : Line) → cause_of_line s line ≡ None → (t : Said) × Step s line t
total s line = split (is_kept line) refl
  where
    split : (kept : Bool) → is_kept line ≡ kept → (if kept then first_of (causes_after s line) else None) ≡ None → (t : Said) × Step s line t
    split true k h = kept-read s line k h
    split false k h = (s, grammar.skipped k)
