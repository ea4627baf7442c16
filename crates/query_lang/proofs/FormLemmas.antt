-- What comes of lines of a form: what the lines say then, or the cause.
use Rattle.std.proofs.Common.{◌≡◌, ◌<◌, ◌≤◌, Bool, true, false, not, if◌then◌else◌, List, [], ◌∷◌, map, Option, Some, None, Result, Ok, Err, IfErr, IsErrAnd, is_none, refl, sym, ap, ap₂, ◌∙◌, subst}
use Rattle.std.proofs.lemmas.Bool.{le-ltb, lt-ltb}
use Rattle.std.specs.Option.{ok_or}
use Rattle.problem.specs.Problem.{is_presented}
use Rattle.line_parts.specs.declared.cause.Cause.{Cause}
use Rattle.line_parts.specs.declared.cause.Cause.TheVariants as cause
use Rattle.line_parts.specs.Faults.{IsLineFault}
use Rattle.line_parts.specs.Outcome.{and_then}
use Rattle.line_parts.specs.Token.{Token, Line}
use Rattle.line_parts.specs.Fields.{field_of}
use Rattle.query_lang.specs.declared.form.Form.{Form}
use Rattle.query_lang.specs.Faults.{IsFaultFor}
use Rattle.query_lang.specs.Forms.{Gives, Way, form_named, section_of}
use Rattle.query_lang.specs.Values.{Scope, added_of, as_many, fits, is_barred, is_pair_too_many, is_relation_too_many, made_by, mixes_kinds, scope_of, values_of, way_for, ways_in}
use Rattle.query_lang.specs.Grammar.{IsOfForm, Partial, is_generator_line, lacks_generator, section_reached, with_added}
use Rattle.query_lang.specs.LineCauses.{when, first_of, cause_in, form_causes, generator_causes, line_causes, named_causes, way_causes}
use Rattle.query_lang.specs.Reading.{added_to}
use Rattle.query_lang.proofs.QueryLemmas.{values_cause, way_fits}

-- what a line adds

pub same-cause : {A B : Type 0} (f : A → B) (r : Result A Cause) → cause_in (and_then (λ x. Ok (f x)) r) ≡ cause_in r
same-cause f (Ok x) = refl
same-cause f (Err c) = refl

-- the causes of a line from the number of its tokens on
abbrev causes_behind : Partial → Form → List Token → List (Option Cause)
causes_behind p form tokens =
    when cause.WrongNumberOfWords (not (fits p.problem form tokens)) ∷ when cause.TooManyRelations (is_relation_too_many p.problem form tokens)
    ∷ when cause.TooManyPairs (is_pair_too_many p.problem form) ∷ when cause.MixedKinds (mixes_kinds p.problem form) ∷ when cause.QueryNotAllowed (is_barred p.problem form)
    ∷ way_causes p (way_for tokens (ways_in p.problem form)) tokens

-- the causes that stand before those of the tokens
tests_cause : {A : Type 0} (many full mixed barred : Bool) (r : Result A Cause) (cs : List (Option Cause)) → cause_in r ≡ first_of cs
    → cause_in (if many then Err cause.TooManyRelations else if full then Err cause.TooManyPairs else if mixed then Err cause.MixedKinds else if barred then Err cause.QueryNotAllowed else r)
    ≡ first_of (when cause.TooManyRelations many ∷ when cause.TooManyPairs full ∷ when cause.MixedKinds mixed ∷ when cause.QueryNotAllowed barred ∷ cs)
tests_cause true full mixed barred r cs h = refl
tests_cause false true mixed barred r cs h = refl
tests_cause false false true barred r cs h = refl
tests_cause false false false true r cs h = refl
tests_cause false false false false r cs h = h

-- what is written in this way, if there is one that fits the tokens
written_cause : {A : Type 0} (p : Partial) (many full mixed barred : Bool) (tokens : List Token) (o : Option (Way A)) → ((w : Way A) → o ≡ Some w → as_many w.places tokens ≡ true)
    → cause_in (if not (not (is_none o)) then Err cause.WrongNumberOfWords else if many then Err cause.TooManyRelations else if full then Err cause.TooManyPairs else if mixed then Err cause.MixedKinds else if barred then Err cause.QueryNotAllowed
    else and_then (made_by (scope_of p.head.version p.problem) tokens) (ok_or o cause.WrongNumberOfWords))
    ≡ first_of (when cause.WrongNumberOfWords (not (not (is_none o))) ∷ when cause.TooManyRelations many ∷ when cause.TooManyPairs full ∷ when cause.MixedKinds mixed ∷ when cause.QueryNotAllowed barred ∷ way_causes p o tokens)
written_cause p many full mixed barred tokens None suits = refl
written_cause p many full mixed barred tokens (Some w) suits =
    let s : Scope = scope_of p.head.version p.problem in
    tests_cause many full mixed barred (made_by s tokens w) (way_causes p (Some w) tokens) (same-cause w.makes (values_of s tokens w.places tokens) ∙ values_cause s tokens w.places tokens (suits w refl))

-- what a line of the form adds, or its cause
added_cause : (p : Partial) (form : Form) (tokens : List Token) → cause_in (added_of p.head.version p.problem form tokens) ≡ first_of (causes_behind p form tokens)
added_cause p form tokens =
    written_cause p (is_relation_too_many p.problem form tokens) (is_pair_too_many p.problem form) (mixes_kinds p.problem form) (is_barred p.problem form) tokens (way_for tokens (ways_in p.problem form))
    (way_fits tokens (ways_in p.problem form))

-- what a line of the form adds, if it is one

tests_passed : {A : Type 0} (many full mixed barred : Bool) (r : Result A Cause) → many ≡ false → full ≡ false → mixed ≡ false → barred ≡ false
    → (if many then Err cause.TooManyRelations else if full then Err cause.TooManyPairs else if mixed then Err cause.MixedKinds else if barred then Err cause.QueryNotAllowed else r) ≡ r
tests_passed many full mixed barred r a b c d = rw (a, b, c, d) refl

added_read : (p : Partial) (line : Line) (form : Form) (added : Gives form) (is : IsOfForm p line form added) → added_of p.head.version p.problem form is.tokens ≡ Ok added
added_read p line form added is =
    let s : Scope = scope_of p.head.version p.problem in
    let many : Bool = is_relation_too_many p.problem form is.tokens in
    let full : Bool = is_pair_too_many p.problem form in
    let mixed : Bool = mixes_kinds p.problem form in
    let barred : Bool = is_barred p.problem form in
    ap (λ (o : Option (Way (Gives form))). if not (not (is_none o)) then Err cause.WrongNumberOfWords else if many then Err cause.TooManyRelations else if full then Err cause.TooManyPairs else if mixed then Err cause.MixedKinds
    else if barred then Err cause.QueryNotAllowed else and_then (made_by s is.tokens) (ok_or o cause.WrongNumberOfWords)) is.written
    ∙ tests_passed many full mixed barred (made_by s is.tokens is.way) is.few_relations is.few_pairs is.one_kind is.allowed
    ∙ ap (and_then (λ vs. Ok (is.way.makes vs))) is.read
    ∙ ap (λ x. Ok x) is.made

pub form_added : (p : Partial) (line : Line) (form : Form) (added : Gives form) (is : IsOfForm p line form added) → added_to p form is.tokens ≡ Ok (with_added p form added)
form_added p line form added is = ap (and_then (λ x. Ok (with_added p form x))) (added_read p line form added is)

-- the cause of a line of the form, where it may stand
pub form_cause : (p : Partial) (form : Form) (tokens : List Token) → lacks_generator p ≡ false → section_reached p ≤ section_of form → first_of (form_causes p form tokens) ≡ cause_in (added_to p form tokens)
form_cause p form tokens some early =
    ap₂ (λ late lacks. first_of (when cause.LineOutOfOrder late ∷ when cause.NoGenerator lacks ∷ causes_behind p form tokens)) (le-ltb (section_of form) (section_reached p) early) some
    ∙ sym (added_cause p form tokens)
    ∙ sym (same-cause (with_added p form) (added_of p.head.version p.problem form tokens))

-- or where it may not stand
pub form_late : (p : Partial) (form : Form) (tokens : List Token) → section_of form < section_reached p → first_of (form_causes p form tokens) ≡ Some cause.LineOutOfOrder
form_late p form tokens late =
    ap (λ late. first_of (when cause.LineOutOfOrder late ∷ when cause.NoGenerator (lacks_generator p) ∷ causes_behind p form tokens)) (lt-ltb (section_of form) (section_reached p) late)

pub form_lacks : (p : Partial) (form : Form) (tokens : List Token) → section_reached p ≤ section_of form → lacks_generator p ≡ true → first_of (form_causes p form tokens) ≡ Some cause.NoGenerator
form_lacks p form tokens early lacks =
    ap₂ (λ late lacks. first_of (when cause.LineOutOfOrder late ∷ when cause.NoGenerator lacks ∷ causes_behind p form tokens)) (le-ltb (section_of form) (section_reached p) early) lacks

-- a line that is no generator line goes by its name
named_is : (p : Partial) (name : Token) (tokens : List Token) → is_generator_line p (name ∷ tokens) ≡ false → line_causes p (name ∷ tokens) ≡ named_causes p (form_named p.head.version (is_presented p.problem) name) tokens
named_is p name [] h = refl
named_is p name (second ∷ tokens) h =
    ap (λ b. if b then generator_causes p name (map field_of tokens) else named_causes p (form_named p.head.version (is_presented p.problem) name) (second ∷ tokens)) h

pub named_cause : (p : Partial) (name : Token) (tokens : List Token) (named : Option Form) → is_generator_line p (name ∷ tokens) ≡ false → form_named p.head.version (is_presented p.problem) name ≡ named
    → first_of (line_causes p (name ∷ tokens)) ≡ first_of (named_causes p named tokens)
named_cause p name tokens named sign e = ap first_of (named_is p name tokens sign) ∙ ap (λ o. first_of (named_causes p o tokens)) e

-- a fault of what has the first cause
pub in_fault : {A : Type 0} (r : Result A Cause) (first : Option Cause) (fault : Option Cause) → first ≡ cause_in r → IsLineFault r fault → IsFaultFor first fault
in_fault r first None e h = tt
in_fault r first (Some c) e h = e ∙ ap cause_in h

-- a fault for the first cause that is handed on
pub fault_handed : {B : Type 0} (r : Result B (Option Cause)) (fault : Option Cause) (first : Option Cause) → IsErrAnd r (λ e. e ≡ fault) → IsFaultFor first fault → IfErr r (IsFaultFor first)
fault_handed (Ok x) fault first h p = tt
fault_handed (Err e) fault first h p = subst (IsFaultFor first) (sym h) p
