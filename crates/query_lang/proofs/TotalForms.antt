-- A line behind the header that begins with a name is read, where it has no cause.
use Rattle.std.proofs.Common.{◌≡◌, nat_lt, Bool, true, false, not, if◌then◌else◌, List, ◌∷◌, Option, Some, None, Result, Ok, Err, is_none, refl, sym, ◌∙◌, subst, true≢false}
use Rattle.std.proofs.lemmas.Bool.{ltb-false}
use Rattle.std.specs.Cmp.Lexicographic.{same_text}
use Rattle.problem.specs.Problem.{is_presented}
use Rattle.line_parts.specs.declared.cause.Cause.{Cause}
use Rattle.line_parts.specs.Token.{Token, Line, is_word}
use Rattle.query_lang.specs.declared.form.Form.{Form}
use Rattle.query_lang.specs.Forms.{Gives, Way, form_named, section_of}
use Rattle.query_lang.specs.Values.{fits, is_barred, is_pair_too_many, is_relation_too_many, mixes_kinds, scope_of, values_of, way_for, ways_in}
use Rattle.query_lang.specs.Grammar as grammar
use Rattle.query_lang.specs.Grammar.{IsOfForm, Partial, section_reached, LineReads, is_generator_line, lacks_generator}
use Rattle.query_lang.specs.LineCauses.{when, first_of, cause_in, form_causes, named_causes, way_causes}
use Rattle.query_lang.proofs.QueryLemmas.{values_cause, way_fits}

-- the line is read after what the lines before it say
abbrev pub IsRead : Partial → Line → Type 0
IsRead p line = (q : Partial) × LineReads p line q

pub some-is-none : {A : Type 0} {x : A} → Some x ≡ None → ⊥
some-is-none h = subst {0, 0} (λ o. elim o [ None ↦ ⊥ | Some x ↦ Unit {0} ]) h tt

-- causes that do not apply

-- a cause that does not apply, and those behind it
pub passed : (c : Cause) (b : Bool) (cs : List (Option Cause)) → first_of (when c b ∷ cs) ≡ None → (b ≡ false) × (first_of cs ≡ None)
passed c true cs h = absurd (some-is-none h)
passed c false cs h = (refl, h)

pub not-applies : (b : Bool) → not b ≡ false → b ≡ true
not-applies true h = refl
not-applies false h = absurd (true≢false h)

pub is-some : {A : Type 0} (o : Option A) → is_none o ≡ false → (x : A) × (o ≡ Some x)
is-some None h = absurd (true≢false h)
is-some (Some x) h = (x, refl)

-- a name picks one of two, and the line has the name or has it not
pub branch : {A : Type 0} (P : A → Type 0) (G : Type 0) (text name : Token) (x y : A) → (name ≡ text → P x → G) → (P y → G) → P (if is_word text name then x else y) → G
branch P G text name x y same otherwise = split (is_word text name) refl
  where
    split : (b : Bool) → is_word text name ≡ b → P (if b then x else y) → G
    split true e h = same (same_text name text (sym e)) h
    split false e h = otherwise h

-- a form of line

-- no cause of the form applies
pub record Passes (p : Partial) (form : Form) (tokens : List Token) : Type 0 where
  in_order : nat_lt (section_of form) (section_reached p) ≡ false
  has_generator : lacks_generator p ≡ false
  shaped : not (fits p.problem form tokens) ≡ false
  few_relations : is_relation_too_many p.problem form tokens ≡ false
  few_pairs : is_pair_too_many p.problem form ≡ false
  one_kind : mixes_kinds p.problem form ≡ false
  allowed : is_barred p.problem form ≡ false
  tokens_read : first_of (way_causes p (way_for tokens (ways_in p.problem form)) tokens) ≡ None

pub passes : (p : Partial) (form : Form) (tokens : List Token) → first_of (form_causes p form tokens) ≡ None → Passes p form tokens
passes p form tokens h =
    let a = passed _ _ _ h in
    let b = passed _ _ _ a.1 in
    let c = passed _ _ _ b.1 in
    let d = passed _ _ _ c.1 in
    let e = passed _ _ _ d.1 in
    let f = passed _ _ _ e.1 in
    let g = passed _ _ _ f.1 in
    record {
      in_order = a.0;
      has_generator = b.0;
      shaped = c.0;
      few_relations = d.0;
      few_pairs = e.0;
      one_kind = f.0;
      allowed = g.0;
      tokens_read = g.1;
    }

-- what has no cause has a value
pub no-cause : {A : Type 0} (r : Result A Cause) → cause_in r ≡ None → (x : A) × (r ≡ Ok x)
no-cause (Ok x) h = (x, refl)
no-cause (Err c) h = absurd (some-is-none h)

-- what a line of a form adds that the script has
pub form-read : (p : Partial) (form : Form) (name : Token) (tokens : List Token) → form_named p.head.version (is_presented p.problem) name ≡ Some form → Passes p form tokens
    → (added : Gives form) × IsOfForm p (name ∷ tokens) form added
form-read p form name tokens named c = by (way_for tokens (ways_in p.problem form)) refl c.shaped c.tokens_read
  where
    by : (o : Option (Way (Gives form))) → way_for tokens (ways_in p.problem form) ≡ o → not (not (is_none o)) ≡ false → first_of (way_causes p o tokens) ≡ None
        → (added : Gives form) × IsOfForm p (name ∷ tokens) form added
    by None e shaped read = absurd (true≢false shaped)
    by (Some w) e shaped read =
        let given = no-cause (values_of (scope_of p.head.version p.problem) tokens w.places tokens) (values_cause (scope_of p.head.version p.problem) tokens w.places tokens (way_fits tokens (ways_in p.problem form) w e) ∙ read) in (
          w.makes given.0,
          record {
            name = name;
            tokens = tokens;
            way = w;
            given = given.0;
            is = refl;
            named = named;
            few_relations = c.few_relations;
            few_pairs = c.few_pairs;
            one_kind = c.one_kind;
            allowed = c.allowed;
            written = e;
            read = given.1;
            made = refl;
          },
        )

-- a line that begins with a name
pub named-read : (p : Partial) (first : Token) (tokens : List Token) → is_generator_line p (first ∷ tokens) ≡ false
    → first_of (named_causes p (form_named p.head.version (is_presented p.problem) first) tokens) ≡ None → IsRead p (first ∷ tokens)
named-read p first tokens sign h = by (form_named p.head.version (is_presented p.problem) first) refl h
  where
    by : (o : Option Form) → form_named p.head.version (is_presented p.problem) first ≡ o → first_of (named_causes p o tokens) ≡ None → IsRead p (first ∷ tokens)
    by None e h = absurd (some-is-none h)
    by (Some form) e h =
        let c = passes p form tokens h in
        let read = form-read p form first tokens e c in
        (_, grammar.of_form {form = form} {added = read.0} c.has_generator sign (ltb-false _ _ c.in_order) read.1)
