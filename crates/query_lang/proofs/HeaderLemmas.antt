-- What comes of headers and version lines: what they say, or the cause.
use Rattle.std.proofs.Common.{◌≡◌, ℕ, Bool, true, false, not, if◌then◌else◌, is_none, option_and_then, List, [], ◌∷◌, codes, Option, Some, None, Result, Ok, Err, IfErr, IsErrAnd, refl, sym, ap, ap₂, ◌∙◌, subst, arith, inl, inr, Contains}
use Rattle.std.specs.Option.{ok_or}
use Rattle.std.proofs.lemmas.List.Elements.{All-contains}
use Rattle.presentation.specs.Presented.{Posed}
use Rattle.problem.specs.declared.kinds.Problem.{Problem}
use Rattle.problem.specs.declared.kinds.Problem.TheVariants.{Presented}
use Rattle.words.specs.Alphabet.{IsAlphabetFault, IsAlphabetOf, IsLetterByte, alphabet_fault, marker}
use Rattle.words.specs.declared.fault.AlphabetFault.{AlphabetFault}
use Rattle.words.specs.declared.fault.AlphabetFault.TheVariants as letter_fault
use Rattle.line_parts.specs.declared.cause.Cause.{Cause}
use Rattle.line_parts.specs.declared.cause.Cause.TheVariants as cause
use Rattle.line_parts.specs.declared.version.Version.{Version}
use Rattle.line_parts.specs.Versions.{is_wide, version_numbered, version_of}
use Rattle.line_parts.specs.Faults.{IsLineFault, fault_of_alphabet}
use Rattle.line_parts.specs.LineWords.{one_token, two_tokens}
use Rattle.line_parts.specs.Outcome.{and_then}
use Rattle.line_parts.specs.Token.{Line, Token, is_kept, is_word, number_of, number_within}
use Rattle.line_parts.proofs.FaultLemmas.{handed_on}
use Rattle.query_lang.specs.Faults.{IsFaultFor}
use Rattle.query_lang.specs.Forms.{ANumber, AllGiven, Place, Way}
use Rattle.query_lang.specs.declared.draft.GeneratorKind.{GeneratorKind}
use Rattle.query_lang.specs.declared.draft.GeneratorKind.TheVariants as kind
use Rattle.query_lang.specs.Header.{Start, free_way, generators_named, given_by, header_for, header_named, named_kind, no_letters, none_of, one_size, started, told, two_sizes}
use Rattle.query_lang.specs.Grammar.{HeaderReads, Nothing, OfVersion, Partial, Step, begin_with}
use Rattle.query_lang.specs.Grammar as grammar
use Rattle.query_lang.specs.Outline.{alphabet_of, unless_fault}
use Rattle.query_lang.specs.Reading.{AreGenerators, headed, said_by}
use Rattle.query_lang.specs.Relations.{free_over}
use Rattle.query_lang.specs.Values.{as_many, values_of}
use Rattle.query_lang.specs.LineCauses.{when, first_of, cause_in, first_line_causes, header_causes, start_causes, token_causes, version_causes}
use Rattle.query_lang.proofs.FormLemmas.{in_fault, same-cause}
use Rattle.query_lang.proofs.QueryLemmas.{carried, one_in, same_fault, values_cause}
use Rattle.query_lang.proofs.TotalLaw.{header-read}

-- the marker is none of the letters of a text
pub letters_unmarked : (wide : Bool) (letters : List ℕ) → IsAlphabetOf (IsLetterByte wide) letters → Contains letters marker → ⊥
letters_unmarked wide letters is has = elim (All-contains (IsLetterByte wide) letters marker is.sound.all has) [
  | inl h ↦ omega (arith, h.0)
  | inr h ↦ omega (arith, h.1)
]

-- a header by its name

pub monoid_named : (wide : Bool) (t : Token) → is_word (codes "monoid") t ≡ true → header_named wide t ≡ Some (free_way wide true)
monoid_named wide t h = rw h refl

pub semigroup_named : (wide : Bool) (t : Token) → is_word (codes "monoid") t ≡ false → is_word (codes "semigroup") t ≡ true → header_named wide t ≡ Some (free_way wide false)
semigroup_named wide t h k = rw (h, k) refl

pub kind_named : (wide : Bool) (t : Token) → is_word (codes "monoid") t ≡ false → is_word (codes "semigroup") t ≡ false → header_named wide t ≡ generators_named t
kind_named wide t h k = rw (h, k) refl

-- a header of generators says what its kind does
kind_said : (t : Token) (tokens : List Token) → started (generators_named t) tokens ≡ and_then (λ k. told (header_for k) tokens) (ok_or (named_kind t) cause.UnknownHeader)
kind_said t tokens = by (is_word (codes "trans") t) (is_word (codes "pperm") t) (is_word (codes "bmat") t) (is_word (codes "mpt") t)
  where
    by : (a b c d : Bool)
        → started (if a then Some (header_for kind.Transf) else if b then Some (header_for kind.PPerm) else if c then Some (header_for kind.BMat) else if d then Some (header_for kind.MaxPlus) else None) tokens
        ≡ and_then (λ k. told (header_for k) tokens) (ok_or (if a then Some kind.Transf else if b then Some kind.PPerm else if c then Some kind.BMat else if d then Some kind.MaxPlus else None) cause.UnknownHeader)
    by true b c d = refl
    by false true c d = refl
    by false false true d = refl
    by false false false true = refl
    by false false false false = refl

pub kind_told : (t : Token) (tokens : List Token) (o : Option GeneratorKind) (r : Result GeneratorKind Cause) → o ≡ named_kind t → r ≡ ok_or o cause.UnknownHeader → started (generators_named t) tokens ≡ and_then (λ k. told (header_for k) tokens) r
kind_told t tokens o r e h = kind_said t tokens ∙ ap (and_then (λ k. told (header_for k) tokens)) (sym (h ∙ ap (λ o. ok_or o cause.UnknownHeader) e))

-- before the first generator there are generators alone
pub none_generated : (k : GeneratorKind) → AreGenerators (none_of k)
none_generated kind.Transf = (refl, refl)
none_generated kind.PPerm = (refl, refl)
none_generated kind.BMat = (refl, refl)
none_generated kind.MaxPlus = (refl, refl)

-- the numbers of a header

size_in : (greatest : ℕ) (tokens : List Token) (t : Token) → one_token tokens ≡ Ok t → given_by (ANumber 1 greatest ∷ []) tokens ≡ and_then (λ n. Ok (n, tt)) (ok_or (number_within 1 greatest t) cause.BadNumber)
size_in greatest [] t h = absurd (cc)
size_in greatest (s ∷ u ∷ tokens) t h = absurd (cc)
size_in greatest (s ∷ []) t h = let same : s ≡ t = cc in ap (λ t. and_then (λ n. Ok (n, tt)) (ok_or (number_within 1 greatest t) cause.BadNumber)) same

pub size_told : (greatest : ℕ) (problem : Problem) (tokens : List Token) (t : Token) (r : Result ℕ Cause) → one_token tokens ≡ Ok t → r ≡ ok_or (number_within 1 greatest t) cause.BadNumber
    → told (one_size greatest problem) tokens ≡ and_then (λ n. Ok ((n, 0), problem)) r
size_told greatest problem tokens t r h e = ap (and_then {B = Start} (λ (v : ℕ × Unit {0}). Ok ((v.0, 0), problem))) (size_in greatest tokens t h ∙ ap (and_then (λ n. Ok (n, tt))) (sym e)) ∙ one_in (λ v. ((v.0, 0), problem)) r

pub size_missing : (greatest : ℕ) (problem : Problem) (tokens : List Token) (c : Cause) → one_token tokens ≡ Err c → told (one_size greatest problem) tokens ≡ Err c
size_missing greatest problem [] c h = let same : cause.WrongNumberOfWords ≡ c = cc in ap (λ c. Err c) same
size_missing greatest problem (s ∷ u ∷ tokens) c h = let same : cause.WrongNumberOfWords ≡ c = cc in ap (λ c. Err c) same
size_missing greatest problem (s ∷ []) c h = absurd (cc)

-- of both numbers, by what the tokens are
abbrev both_sizes : Result ℕ Cause → Result ℕ Cause → Result (ℕ × (ℕ × Unit {0})) Cause
both_sizes u v = and_then (λ n. and_then (λ m. Ok (n, (m, tt))) v) u

sizes_in : (tokens : List Token) (s t : Token) → two_tokens tokens ≡ Ok (s, t) → given_by (ANumber 1 16 ∷ ANumber 0 65535 ∷ []) tokens ≡ both_sizes (ok_or (number_within 1 16 s) cause.BadNumber) (ok_or (number_within 0 65535 t) cause.BadNumber)
sizes_in [] s t h = absurd (cc)
sizes_in (x ∷ []) s t h = absurd (cc)
sizes_in (x ∷ y ∷ z ∷ tokens) s t h = absurd (cc)
sizes_in (x ∷ y ∷ []) s t h =
    let both : ◌≡◌ {A = Token × Token} (x, y) (s, t) = cc in
    by (ok_or (number_within 1 16 x) cause.BadNumber) (ok_or (number_within 0 65535 y) cause.BadNumber)
    ∙ ap (λ (p : Token × Token). both_sizes (ok_or (number_within 1 16 p.0) cause.BadNumber) (ok_or (number_within 0 65535 p.1) cause.BadNumber)) both
  where
    by : (u v : Result ℕ Cause) → and_then (λ n. and_then (λ ms. Ok (n, ms)) (and_then (λ m. Ok (m, tt)) v)) u ≡ both_sizes u v
    by (Err c) v = refl
    by (Ok n) (Err c) = refl
    by (Ok n) (Ok m) = refl

pub sizes_told : (problem : Problem) (tokens : List Token) (s t : Token) (u v : Result ℕ Cause) → two_tokens tokens ≡ Ok (s, t) → u ≡ ok_or (number_within 1 16 s) cause.BadNumber → v ≡ ok_or (number_within 0 65535 t) cause.BadNumber
    → told (two_sizes problem) tokens ≡ and_then (λ n. and_then (λ m. Ok ((n, m), problem)) v) u
sizes_told problem tokens s t u v h e f = ap (and_then {B = Start} (λ (w : ℕ × (ℕ × Unit {0})). Ok ((w.0, w.1.0), problem))) (sizes_in tokens s t h ∙ ap₂ both_sizes (sym e) (sym f)) ∙ by u v
  where
    by : (u v : Result ℕ Cause) → and_then {B = Start} (λ (w : ℕ × (ℕ × Unit {0})). Ok ((w.0, w.1.0), problem)) (both_sizes u v) ≡ and_then {B = Start} (λ n. and_then {B = Start} (λ m. Ok ((n, m), problem)) v) u
    by (Err c) v = refl
    by (Ok n) (Err c) = refl
    by (Ok n) (Ok m) = refl

pub sizes_missing : (problem : Problem) (tokens : List Token) (c : Cause) → two_tokens tokens ≡ Err c → told (two_sizes problem) tokens ≡ Err c
sizes_missing problem [] c h = let same : cause.WrongNumberOfWords ≡ c = cc in ap (λ c. Err c) same
sizes_missing problem (s ∷ []) c h = let same : cause.WrongNumberOfWords ≡ c = cc in ap (λ c. Err c) same
sizes_missing problem (s ∷ t ∷ []) c h = absurd (cc)
sizes_missing problem (s ∷ t ∷ u ∷ tokens) c h = let same : cause.WrongNumberOfWords ≡ c = cc in ap (λ c. Err c) same

-- the letters of a header

abbrev free_start : (monoid : Bool) → List ℕ → Start
free_start monoid letters = ((0, 0), Presented (free_over monoid letters))

abbrev free_said : Posed → Result Start Cause
free_said o = Ok ((0, 0), Presented o)

letters_in : (wide monoid : Bool) (tokens : List Token) (t : Token) → one_token tokens ≡ Ok t → started (Some (free_way wide monoid)) tokens ≡ and_then (λ letters. Ok (free_start monoid letters)) (alphabet_of wide t)
letters_in wide monoid [] t h = absurd (cc)
letters_in wide monoid (s ∷ u ∷ tokens) t h = absurd (cc)
letters_in wide monoid (s ∷ []) t h =
    let same : s ≡ t = cc in
    one_in (λ v. free_start monoid v.0) (alphabet_of wide s) ∙ ap (λ t. and_then (λ letters. Ok (free_start monoid letters)) (alphabet_of wide t)) same

-- what they give
pub letters_told : (wide monoid : Bool) (tokens : List Token) (t : Token) (letters : List ℕ) (o : Posed) → one_token tokens ≡ Ok t → letters ≡ t → alphabet_fault wide t ≡ None → o ≡ free_over monoid letters → started (Some (free_way wide monoid)) tokens ≡ Ok ((0, 0), Presented o)
letters_told wide monoid tokens t letters o h e f g =
    letters_in wide monoid tokens t h
    ∙ ap (λ fault. and_then (λ letters. Ok (free_start monoid letters)) (unless_fault fault t)) f
    ∙ ap (λ letters. free_said (free_over monoid letters)) (sym e)
    ∙ ap free_said (sym g)

-- why they are refused
alphabet_refused : (wide : Bool) (t : Token) (fault : AlphabetFault) → IsAlphabetFault (alphabet_fault wide t) fault → IsLineFault (alphabet_of wide t) (fault_of_alphabet fault)
alphabet_refused wide t letter_fault.NoMemory h = tt
alphabet_refused wide t letter_fault.Empty h = ap (λ fault. unless_fault fault t) h
alphabet_refused wide t (letter_fault.NotALetter place) h = ap (λ fault. unless_fault fault t) h
alphabet_refused wide t (letter_fault.Repeated place) h = ap (λ fault. unless_fault fault t) h

pub letters_refused : {B : Type 0} (wide monoid : Bool) (tokens : List Token) (t : Token) (r : Result B (Option Cause)) (fault : AlphabetFault) → IsErrAnd r (λ e. e ≡ fault_of_alphabet fault) → one_token tokens ≡ Ok t → IsAlphabetFault (alphabet_fault wide t) fault
    → IfErr r (IsLineFault (started (Some (free_way wide monoid)) tokens))
letters_refused wide monoid tokens t r fault h e k =
    handed_on r (fault_of_alphabet fault) (started (Some (free_way wide monoid)) tokens) h
    (same_fault _ _ (fault_of_alphabet fault) (letters_in wide monoid tokens t e) (carried (free_start monoid) (alphabet_of wide t) (fault_of_alphabet fault) (alphabet_refused wide t fault k)))

-- or that they are not one token
pub letters_missing : (wide monoid : Bool) (tokens : List Token) (c : Cause) → one_token tokens ≡ Err c → started (Some (free_way wide monoid)) tokens ≡ Err c
letters_missing wide monoid [] c h = let same : cause.WrongNumberOfWords ≡ c = cc in ap (λ c. Err c) same
letters_missing wide monoid (s ∷ u ∷ tokens) c h = let same : cause.WrongNumberOfWords ≡ c = cc in ap (λ c. Err c) same
letters_missing wide monoid (s ∷ []) c h = absurd (cc)

-- what a header of a monoid or a semigroup says, or why it is refused

pub letters_said : (version : Version) (wide monoid : Bool) (tokens : List Token) (o : Posed) (p : Partial) → wide ≡ is_wide version → started (Some (free_way wide monoid)) tokens ≡ Ok ((0, 0), Presented o) → p ≡ begin_with version (0, 0) (Presented o)
    → said_by version (Some (free_way (is_wide version) monoid)) tokens ≡ Ok p
letters_said version wide monoid tokens o p e h k =
    ap (λ wide. said_by version (Some (free_way wide monoid)) tokens) (sym e)
    ∙ ap (and_then (λ (s : Start). Ok (begin_with version s.0 s.1))) h
    ∙ ap (λ (p : Partial). Ok p) (sym k)

pub said_refused : {B : Type 0} (version : Version) (wide monoid : Bool) (tokens : List Token) (r : Result B (Option Cause)) (fault : Option Cause) → IsErrAnd r (λ e. e ≡ fault) → wide ≡ is_wide version → IsLineFault (started (Some (free_way wide monoid)) tokens) fault
    → IfErr r (IsLineFault (said_by version (Some (free_way (is_wide version) monoid)) tokens))
said_refused version wide monoid tokens r fault h e k =
    handed_on r fault (said_by version (Some (free_way (is_wide version) monoid)) tokens) h
    (subst (λ wide. IsLineFault (said_by version (Some (free_way wide monoid)) tokens) fault) e (carried (λ (s : Start). begin_with version s.0 s.1) (started (Some (free_way wide monoid)) tokens) fault k))

-- what the tokens of a header give in their places
given_cause : (places : List Place) (tokens : List Token) → cause_in (given_by places tokens) ≡ first_of (when cause.WrongNumberOfWords (not (as_many places tokens)) ∷ token_causes no_letters tokens places tokens)
given_cause places tokens = by (as_many places tokens) refl
  where
    by : (fit : Bool) → as_many places tokens ≡ fit
        → cause_in (if not fit then Err cause.WrongNumberOfWords else values_of no_letters tokens places tokens) ≡ first_of (when cause.WrongNumberOfWords (not fit) ∷ token_causes no_letters tokens places tokens)
    by true e = values_cause no_letters tokens places tokens e
    by false e = refl

pub header_cause : (version : Version) (name : Token) (tokens : List Token) → first_of (header_causes version (name ∷ tokens)) ≡ cause_in (headed version name tokens)
header_cause version name tokens = by (header_named (is_wide version) name)
  where
    by : (named : Option (Way Start)) → first_of (start_causes named tokens) ≡ cause_in (and_then (λ s. Ok (begin_with version s.0 s.1)) (started named tokens))
    by None = refl
    by (Some w) =
        sym (same-cause (λ (s : Start). begin_with version s.0 s.1) (started (Some w) tokens) ∙ same-cause w.makes (given_by w.places tokens) ∙ given_cause w.places tokens)

-- what a header says
pub header_said : (version : Version) (line : Line) (q : Partial) (h : HeaderReads version line q) → headed version h.name h.tokens ≡ Ok q
header_said version line q h =
    let by : Result Start Cause → Result Partial Cause = and_then (λ (s : Start). Ok (begin_with version s.0 s.1)) in
    ap (λ (o : Option (Way Start)). by (started o h.tokens)) h.named
    ∙ ap (λ b. by (and_then (λ vs. Ok (h.way.makes vs)) (if not b then Err cause.WrongNumberOfWords else values_of no_letters h.tokens h.way.places h.tokens))) h.written
    ∙ ap (λ r. by (and_then (λ vs. Ok (h.way.makes vs)) r)) h.read
    ∙ ap (λ (p : Partial). Ok p) h.made

same_said : (p q : Partial) → ◌≡◌ {A = Result Partial Cause} (Ok p) (Ok q) → p ≡ q
same_said p q e = cc

-- one header says one thing
pub one_header : (version : Version) (line : Line) (q r : Partial) → HeaderReads version line q → HeaderReads version line r → q ≡ r
one_header version line q r x y =
    let names : x.name ≡ y.name = let e : x.name ∷ x.tokens ≡ y.name ∷ y.tokens = sym x.is ∙ y.is in cc in
    let tokens : x.tokens ≡ y.tokens = let e : x.name ∷ x.tokens ≡ y.name ∷ y.tokens = sym x.is ∙ y.is in cc in
    same_said q r (sym (header_said version line q x) ∙ ap₂ (headed version) names tokens ∙ header_said version line r y)

-- what the tokens say is a header
pub header_reads : (version : Version) (name : Token) (tokens : List Token) (q : Partial) → headed version name tokens ≡ Ok q → HeaderReads version (name ∷ tokens) q
header_reads version name tokens q h =
    let found = header-read version name tokens (header_cause version name tokens ∙ ap cause_in h) in
    let read = found.1 in
    let names : read.name ≡ name = let e : name ∷ tokens ≡ read.name ∷ read.tokens = read.is in cc in
    let behind : read.tokens ≡ tokens = let e : name ∷ tokens ≡ read.name ∷ read.tokens = read.is in cc in
    let same : found.0 ≡ q = same_said found.0 q (sym (header_said version (name ∷ tokens) found.0 read) ∙ ap₂ (headed version) names behind ∙ h) in
    subst (HeaderReads version (name ∷ tokens)) same read

-- what the tokens say is a version line
number_reads : (t : Token) (v : Version) → is_kept (codes "version" ∷ t ∷ []) ≡ true → version_of (t ∷ []) ≡ Ok v → Step Nothing (codes "version" ∷ t ∷ []) (OfVersion v)
number_reads t v k h = by (number_of t) refl h
  where
    known : (n : ℕ) → number_of t ≡ Some n → (version : Option Version) → version_numbered n ≡ version → ok_or version cause.UnknownVersion ≡ Ok v → Step Nothing (codes "version" ∷ t ∷ []) (OfVersion v)
    known n e None f h = absurd (cc)
    known n e (Some w) f h = let same : w ≡ v = cc in grammar.version k refl e (f ∙ ap (λ w. Some w) same)

    by : (number : Option ℕ) → number_of t ≡ number → and_then (λ n. ok_or (version_numbered n) cause.UnknownVersion) (ok_or number cause.BadNumber) ≡ Ok v → Step Nothing (codes "version" ∷ t ∷ []) (OfVersion v)
    by None e h = absurd (cc)
    by (Some n) e h = known n e (version_numbered n) refl h

tokens_read : (tokens : List Token) (v : Version) → is_kept (codes "version" ∷ tokens) ≡ true → version_of tokens ≡ Ok v → Step Nothing (codes "version" ∷ tokens) (OfVersion v)
tokens_read [] v k h = absurd (cc)
tokens_read (t ∷ []) v k h = number_reads t v k h
tokens_read (t ∷ u ∷ tokens) v k h = absurd (cc)

pub version_reads : (line : Line) (name : Token) (tokens : List Token) (v : Version) → name ∷ tokens ≡ line → name ≡ codes "version" → is_kept line ≡ true → version_of tokens ≡ Ok v → Step Nothing line (OfVersion v)
version_reads line name tokens v is named k h =
    let whole : codes "version" ∷ tokens ≡ line = ap (λ name. name ∷ tokens) (sym named) ∙ is in
    subst (λ line. Step Nothing line (OfVersion v)) whole (tokens_read tokens v (ap is_kept whole ∙ k) h)

-- why the first line says no version
version_cause : (tokens : List Token) (c : Cause) → version_of tokens ≡ Err c → first_of (version_causes tokens) ≡ Some c
version_cause [] c h = let same : cause.WrongNumberOfWords ≡ c = cc in ap (λ c. Some c) same
version_cause (t ∷ u ∷ tokens) c h = let same : cause.WrongNumberOfWords ≡ c = cc in ap (λ c. Some c) same
version_cause (t ∷ []) c h = by (number_of t) h
  where
    known : (v : Option Version) → ok_or v cause.UnknownVersion ≡ Err c → first_of (when cause.UnknownVersion (is_none v) ∷ []) ≡ Some c
    known None h = let same : cause.UnknownVersion ≡ c = cc in ap (λ c. Some c) same
    known (Some v) h = absurd (cc)

    by : (o : Option ℕ) → and_then (λ n. ok_or (version_numbered n) cause.UnknownVersion) (ok_or o cause.BadNumber) ≡ Err c
        → first_of (when cause.BadNumber (is_none o) ∷ when cause.UnknownVersion (is_none (option_and_then version_numbered o)) ∷ []) ≡ Some c
    by None h = let same : cause.BadNumber ≡ c = cc in ap (λ c. Some c) same
    by (Some n) h = known (version_numbered n) h

pub version_fault : (line : Line) (name : Token) (tokens : List Token) (c : Cause) → name ∷ tokens ≡ line → name ≡ codes "version" → version_of tokens ≡ Err c → first_of (first_line_causes line) ≡ Some c
version_fault line name tokens c is named h =
    subst (λ line. first_of (first_line_causes line) ≡ Some c) (ap (λ name. name ∷ tokens) (sym named) ∙ is) (version_cause tokens c h)

-- why a line is no header
pub header_fault : (version : Version) (line : Line) (name : Token) (tokens : List Token) (fault : Option Cause) → name ∷ tokens ≡ line → IsLineFault (headed version name tokens) fault → IsFaultFor (first_of (header_causes version line)) fault
header_fault version line name tokens fault is h =
    subst (λ line. IsFaultFor (first_of (header_causes version line)) fault) is (in_fault (headed version name tokens) _ fault (header_cause version name tokens) h)
