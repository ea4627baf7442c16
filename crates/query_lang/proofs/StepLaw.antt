-- A line is read to one partial script, and only where it has no cause.
use Rattle.std.proofs.Common.{◌≡◌, ◌&&◌, not, Bool, true, false, if◌then◌else◌, List, [], ◌∷◌, map, codes, Option, Some, None, Result, Ok, refl, sym, ap, ap₂, ◌∙◌, true≢false}
use Rattle.std.proofs.lemmas.Bool.{le-ltb}
use Rattle.std.specs.Cmp.Lexicographic.{same_text}
use Rattle.problem.specs.Problem.{is_presented}
use Rattle.line_parts.specs.declared.cause.Cause.{Cause}
use Rattle.line_parts.specs.declared.version.Version.{Version}
use Rattle.line_parts.specs.declared.version.Version.TheVariants.{One}
use Rattle.line_parts.specs.Fields.{field_of}
use Rattle.line_parts.specs.Token.{Line, Token, is_kept, is_word}
use Rattle.query_lang.specs.Forms.{Way, form_named}
use Rattle.query_lang.specs.Grammar.{HeaderReads, LineReads, Partial, Said, Nothing, OfVersion, Begun, Step, is_generator_line, section_reached, with_added}
use Rattle.query_lang.specs.Grammar as grammar
use Rattle.query_lang.specs.Header.{Start, header_named}
use Rattle.query_lang.specs.LineCauses.{cause_in, cause_of_line, causes_after, first_of, header_causes, line_causes}
use Rattle.query_lang.specs.Reading.{added_to}
use Rattle.query_lang.proofs.FormLemmas.{form_added, form_cause, named_cause}
use Rattle.query_lang.proofs.GeneratorLemmas.{generator_is, more_cause, more_generated}
use Rattle.query_lang.proofs.HeaderLemmas.{header_cause, header_said, one_header}

-- a line that is read has no cause

line_has_no_cause : (p q : Partial) (line : Line) → LineReads p line q → first_of (line_causes p line) ≡ None
line_has_no_cause p q line (grammar.generator {name} {x} {entries} {problem} is early named new made) =
    let generated = more_generated p.head.sizes p.problem x (map field_of entries) problem made in
    ap (λ l. first_of (line_causes p l)) is
    ∙ ap first_of (generator_is p name entries generated)
    ∙ rw (le-ltb 2 (section_reached p) early, named, new) (sym (more_cause p.head.sizes p.problem x (map field_of entries) generated) ∙ ap cause_in made)
line_has_no_cause p q line (grammar.of_form {form} {added} some sign early is) =
    ap (λ l. first_of (line_causes p l)) is.is
    ∙ named_cause p is.name is.tokens (Some form) (sym (ap (is_generator_line p) is.is) ∙ sign) is.named
    ∙ form_cause p form is.tokens some early
    ∙ ap cause_in (form_added p line form added is)

header_has_no_cause : (version : Version) (line : Line) (q : Partial) → HeaderReads version line q → first_of (header_causes version line) ≡ None
header_has_no_cause version line q h =
    ap (λ l. first_of (header_causes version l)) h.is ∙ header_cause version h.name h.tokens ∙ ap cause_in (header_said version line q h)

-- no header is a version line
no_version : {A : Type 0} (name : Token) (w : Way Start) → header_named false name ≡ Some w → name ≡ codes "version" → A
no_version name w named is = let none : ◌≡◌ {A = Option (Way Start)} None (Some w) = ap (header_named false) (sym is) ∙ named in absurd (cc)

first_is_header : (line : Line) (q : Partial) → HeaderReads One line q → causes_after Nothing line ≡ header_causes One line
first_is_header line q h = ap (causes_after Nothing) h.is ∙ by (is_word (codes "version") h.name) refl ∙ ap (header_causes One) (sym h.is)
  where
    by : (b : Bool) → is_word (codes "version") h.name ≡ b → causes_after Nothing (h.name ∷ h.tokens) ≡ header_causes One (h.name ∷ h.tokens)
    by false e = rw e refl
    by true e = no_version h.name h.way h.named (same_text h.name (codes "version") (sym e))

kept_has_none : (s : Said) (line : Line) → is_kept line ≡ true → first_of (causes_after s line) ≡ None → cause_of_line s line ≡ None
kept_has_none s line k h = ap (λ b. if b then first_of (causes_after s line) else None) k ∙ h

pub step_has_no_cause : (s t : Said) (line : Line) → Step s line t → cause_of_line s line ≡ None
step_has_no_cause s t line (grammar.skipped h) = ap (λ b. if b then first_of (causes_after s line) else None) h
step_has_no_cause s t line (grammar.version {N} {n} {v} k is h i) = kept_has_none Nothing line k (ap (λ l. first_of (causes_after Nothing l)) is ∙ rw (h, i) refl)
step_has_no_cause s t line (grammar.header {q} k h) = kept_has_none Nothing line k (ap first_of (first_is_header line q h) ∙ header_has_no_cause One line q h)
step_has_no_cause s t line (grammar.header_behind {v} {q} k h) = kept_has_none (OfVersion v) line k (header_has_no_cause v line q h)
step_has_no_cause s t line (grammar.further {p} {q} k h) = kept_has_none (Begun p) line k (line_has_no_cause p q line h)

-- a line is read to one partial script

never_kept : {A : Type 0} (line : Line) → is_kept line ≡ false → is_kept line ≡ true → A
never_kept line h k = absurd (true≢false (sym k ∙ h))

-- a generator line is of no form
never_of_form : {A : Type 0} (p : Partial) (line : Line) (name : Token) (entries : List Token) → line ≡ name ∷ codes "=" ∷ entries → is_presented p.problem ≡ false → is_generator_line p line ≡ false → A
never_of_form p line name entries is generated sign =
    let yes : is_generator_line p (name ∷ codes "=" ∷ entries) ≡ true = ap (λ b. not b && true) generated in
    absurd (true≢false (sym yes ∙ sym (ap (is_generator_line p) is) ∙ sign))

one_line : (p q r : Partial) (line : Line) → LineReads p line q → LineReads p line r → q ≡ r
one_line p q r line (grammar.generator {name} {x} {entries} {problem} is early named new made) (grammar.generator {name = other} {x = y} {entries = others} {problem = next} js later letter fresh more) =
    let e : name ∷ codes "=" ∷ entries ≡ other ∷ codes "=" ∷ others = sym is ∙ js in
    let names : name ≡ other = cc in
    let behind : entries ≡ others = cc in
    let same : x ≡ y = cc in
    let problems : problem ≡ next = cc in
    ap (λ q. record p { problem = q }) problems
one_line p q r line (grammar.generator {name} {x} {entries} {problem} is early named new made) (grammar.of_form some sign later js) =
    never_of_form p line name entries is (more_generated p.head.sizes p.problem x (map field_of entries) problem made) sign
one_line p q r line (grammar.of_form some sign later js) (grammar.generator {name} {x} {entries} {problem} is early named new made) =
    never_of_form p line name entries is (more_generated p.head.sizes p.problem x (map field_of entries) problem made) sign
one_line p q r line (grammar.of_form {form} {added} some sign early is) (grammar.of_form {form = other} {added = more} some2 sign2 early2 js) =
    let e : is.name ∷ is.tokens ≡ js.name ∷ js.tokens = sym is.is ∙ js.is in
    let names : is.name ≡ js.name = cc in
    let behind : is.tokens ≡ js.tokens = cc in
    let named : Some form ≡ Some other = sym is.named ∙ ap (form_named p.head.version (is_presented p.problem)) names ∙ js.named in
    let forms : form ≡ other = cc in
    let both : ◌≡◌ {A = Result Partial Cause} (Ok (with_added p form added)) (Ok (with_added p other more)) =
    sym (form_added p line form added is) ∙ ap₂ (added_to p) forms behind ∙ form_added p line other more js in
    cc

pub one_step : (s t u : Said) (line : Line) → Step s line t → Step s line u → t ≡ u
one_step s t u line (grammar.skipped h) (grammar.skipped k) = refl
one_step s t u line (grammar.skipped h) (grammar.version k is n v) = never_kept line h k
one_step s t u line (grammar.skipped h) (grammar.header k x) = never_kept line h k
one_step s t u line (grammar.skipped h) (grammar.header_behind k x) = never_kept line h k
one_step s t u line (grammar.skipped h) (grammar.further k x) = never_kept line h k
one_step s t u line (grammar.version k is n v) (grammar.skipped h) = never_kept line h k
one_step s t u line (grammar.header k x) (grammar.skipped h) = never_kept line h k
one_step s t u line (grammar.header_behind k x) (grammar.skipped h) = never_kept line h k
one_step s t u line (grammar.further k x) (grammar.skipped h) = never_kept line h k
one_step s t u line (grammar.version {N} {n} {v} k is h i) (grammar.version {N = M} {n = m} {v = w} l js j o) =
    let e : codes "version" ∷ N ∷ [] ≡ codes "version" ∷ M ∷ [] = sym is ∙ js in
    let texts : N ≡ M = cc in
    let numbers : n ≡ m = cc in
    let same : v ≡ w = cc in
    ap (λ v. OfVersion v) same
one_step s t u line (grammar.version {N} k is h i) (grammar.header l x) =
    let e : codes "version" ∷ N ∷ [] ≡ x.name ∷ x.tokens = sym is ∙ x.is in
    let names : x.name ≡ codes "version" = cc in
    no_version x.name x.way x.named names
one_step s t u line (grammar.header l x) (grammar.version {N} k is h i) =
    let e : codes "version" ∷ N ∷ [] ≡ x.name ∷ x.tokens = sym is ∙ x.is in
    let names : x.name ≡ codes "version" = cc in
    no_version x.name x.way x.named names
one_step s t u line (grammar.header {q} k x) (grammar.header {q = r} l y) = ap (λ p. Begun p) (one_header One line q r x y)
one_step s t u line (grammar.header_behind {v} {q} k x) (grammar.header_behind {q = r} l y) = ap (λ p. Begun p) (one_header v line q r x y)
one_step s t u line (grammar.further {p} {q} k x) (grammar.further {q = r} l y) = ap (λ p. Begun p) (one_line p q r line x y)
