-- What the steps of the reader make of what the lines said before.
use Rattle.std.proofs.Common.{◌≡◌, ℕ, ◌==◌, ◌≤◌, ◌&&◌, Bool, true, false, List, [], ◌∷◌, ◌++◌, length, Some, Result, Ok, Err, IfOk, OnOk, Bor, ◌-◌, map, not, true≢false, take, drop, get_or, codes, refl, sym, ap, ap₂, ◌∙◌, subst, arith, Option}
use Rattle.std.proofs.lemmas.List.{take_all}
use Rattle.std.specs.Cmp.Lexicographic.{same_text}
use Rattle.presentation.specs.Presented.{Posed}
use Rattle.theory.specs.Word.{Word}
use Rattle.theory.specs.declared.Kind.{Kind}
use Rattle.problem.specs.Problem.{is_presented, pairs_of, with_pair}
use Rattle.problem.specs.declared.kinds.Problem.{Problem}
use Rattle.problem.specs.declared.kinds.Problem.TheVariants.{Presented}
use Rattle.line_parts.specs.declared.cause.Cause.{Cause}
use Rattle.line_parts.specs.declared.cause.Cause.TheVariants.{UnknownLine}
use Rattle.line_parts.specs.declared.version.Version.{Version}
use Rattle.line_parts.specs.Fields.{field_of}
use Rattle.line_parts.specs.Outcome.{and_then}
use Rattle.line_parts.specs.Texts.{texts}
use Rattle.line_parts.specs.Token.{Token, is_word}
use Rattle.query_lang.specs.declared.form.Form.{Form}
use Rattle.query_lang.specs.declared.form.Form.TheVariants.{Relation, OfRole, Pair, Asks}
use Rattle.query_lang.specs.declared.form.QueryForm.{QueryForm}
use Rattle.query_lang.specs.declared.role.Role.{Role}
use Rattle.query_lang.specs.Asked.{ScriptOf, asked, with_asked}
use Rattle.query_lang.specs.Faults.{IsFaultFor}
use Rattle.query_lang.specs.Forms.{form_named, section_of}
use Rattle.query_lang.specs.Outline.{related}
use Rattle.query_lang.specs.Pairing.{paired}
use Rattle.query_lang.specs.Relations.{add_relations}
use Rattle.query_lang.specs.Values.{added_of}
use Rattle.query_lang.specs.Grammar.{LineReads, Partial, begin_with, is_empty, is_generator_line, lacks_generator, script_in, section_reached, with_added}
use Rattle.query_lang.specs.Grammar as grammar
use Rattle.query_lang.specs.LineCauses.{cause_in, first_of, generator_causes, line_causes}
use Rattle.query_lang.specs.Reading.{added_to, come_to}
use Rattle.query_lang.proofs.FormLemmas.{form_added, form_cause}
use Rattle.query_lang.proofs.GeneratorLemmas.{generator_is}
use Rattle.query_lang.proofs.PairingLemmas.{has_pairs}
use Rattle.query_lang.proofs.QueryLemmas.{both_so}
use Rattle.query_lang.proofs.TotalForms.{form-read, passes}

-- what is made of what is added, in two steps
fused : {A B C : Type 0} (f : A → B) (g : B → C) (h : A → C) (r : Result A Cause) → ((x : A) → h x ≡ g (f x)) → and_then (λ x. Ok (h x)) r ≡ and_then (λ y. Ok (g y)) (and_then (λ x. Ok (f x)) r)
fused f g h (Ok x) e = ap (λ z. Ok z) (e x)
fused f g h (Err c) e = refl

-- the version and the numbers of the header, as they were read before
come : (p : Partial) (v : Version) (s : ℕ × ℕ) (problem : Problem) → v ≡ p.head.version → s ≡ p.head.sizes → p ≡ begin_with p.head.version p.head.sizes problem → p ≡ begin_with v s problem
come p v s problem e k h = h ∙ ap₂ (λ v s. begin_with v s problem) (sym e) (sym k)

-- relations that are added leave the pairs as they are
pub still_unpaired : (o new : Posed) (r : Result (List (Word × Word)) Cause) → o.congruence.pairs ≡ [] → related o r ≡ Ok new → new.congruence.pairs ≡ []
still_unpaired o new (Ok relations) none h = let same : add_relations o relations ≡ new = cc in ap (λ (p : Posed). p.congruence.pairs) (sym same) ∙ none
still_unpaired o new (Err c) none h = absurd (cc)

pub relation_is : (p : Partial) (o : Posed) (tokens : List Token) (v : Version) → v ≡ p.head.version → p ≡ begin_with p.head.version (0, 0) (Presented o)
    → added_to p Relation tokens ≡ and_then (λ n. Ok (begin_with v (0, 0) (Presented n))) (related o (added_of v (Presented o) Relation tokens))
relation_is p o tokens v e h =
    ap (λ p. added_to p Relation tokens) (h ∙ ap (λ v. begin_with v (0, 0) (Presented o)) (sym e))
    ∙ fused (add_relations o) (λ n. begin_with v (0, 0) (Presented n)) (with_added (begin_with v (0, 0) (Presented o)) Relation) (added_of v (Presented o) Relation tokens) (λ x. refl)

pub role_is : (p : Partial) (o : Posed) (role : Role) (tokens : List Token) (v : Version) → v ≡ p.head.version → p ≡ begin_with p.head.version (0, 0) (Presented o)
    → added_to p (OfRole role) tokens ≡ and_then (λ n. Ok (begin_with v (0, 0) (Presented n))) (related o (added_of v (Presented o) (OfRole role) tokens))
role_is p o role tokens v e h =
    ap (λ p. added_to p (OfRole role) tokens) (h ∙ ap (λ v. begin_with v (0, 0) (Presented o)) (sym e))
    ∙ fused (add_relations o) (λ n. begin_with v (0, 0) (Presented n)) (with_added (begin_with v (0, 0) (Presented o)) (OfRole role)) (added_of v (Presented o) (OfRole role) tokens) (λ x. refl)

pub pair_is : (p : Partial) (problem : Problem) (kind : Kind) (tokens : List Token) (v : Version) (s : ℕ × ℕ) → v ≡ p.head.version → s ≡ p.head.sizes → p ≡ begin_with p.head.version p.head.sizes problem
    → added_to p (Pair kind) tokens ≡ and_then (λ n. Ok (begin_with v s n)) (paired problem kind (added_of v problem (Pair kind) tokens))
pair_is p problem kind tokens v s e k h =
    ap (λ p. added_to p (Pair kind) tokens) (come p v s problem e k h)
    ∙ fused (with_pair problem kind) (λ n. begin_with v s n) (with_added (begin_with v s problem) (Pair kind)) (added_of v problem (Pair kind) tokens) (λ x. refl)

pub query_is : (p : Partial) (script : ScriptOf) (form : QueryForm) (tokens : List Token) (v : Version) (s : ℕ × ℕ) → v ≡ p.head.version → s ≡ p.head.sizes → script ≡ script_in p
    → added_to p (Asks form) tokens ≡ and_then (λ n. Ok (come_to v s n)) (asked v script form tokens)
query_is p script form tokens v s e k h =
    ap (λ p. added_to p (Asks form) tokens) (sym (ap (λ script. come_to v s script) h ∙ ap₂ (λ v s. come_to v s (script_in p)) e k))
    ∙ fused (with_asked script) (λ n. come_to v s n) (with_added (come_to v s script) (Asks form)) (added_of v script.problem (Asks form) tokens) (λ x. refl)

-- a pair is there once one is added
pub pair_there : (p next : Problem) (kind : Kind) (r : Result (Word × Word) Cause) → paired p kind r ≡ Ok next → (length (pairs_of next) == 0) ≡ false
pair_there p next kind (Ok s) h = let same : with_pair p kind s ≡ next = cc in ap (λ q. length (pairs_of q) == 0) (sym same) ∙ has_pairs p kind s
pair_there p next kind (Err c) h = absurd (cc)

some_there : {A : Type 0} (xs : List A) (x : A) → is_empty (xs ++ x ∷ []) ≡ false
some_there [] x = refl
some_there (y ∷ xs) x = refl

-- a query is there once one is asked
pub query_there : (v : Version) (s next : ScriptOf) (form : QueryForm) (tokens : List Token) → asked v s form tokens ≡ Ok next → is_empty next.queries ≡ false
query_there v s next form tokens h = by (added_of v s.problem (Asks form) tokens) h
  where
    by : (r : Result _ Cause) → and_then (λ q. Ok (with_asked s q)) r ≡ Ok next → is_empty next.queries ≡ false
    by (Ok q) h = let same : with_asked s q ≡ next = cc in ap (λ (s : ScriptOf). is_empty s.queries) (sym same) ∙ some_there s.queries q
    by (Err c) h = absurd (cc)

-- a line of a form is read
pub form_reads : (p : Partial) (form : Form) (name : Token) (tokens : List Token) (q : Partial) → lacks_generator p ≡ false → section_reached p ≤ section_of form → is_generator_line p (name ∷ tokens) ≡ false
    → form_named p.head.version (is_presented p.problem) name ≡ Some form → added_to p form tokens ≡ Ok q → LineReads p (name ∷ tokens) q
form_reads p form name tokens q some early sign named h =
    let read = form-read p form name tokens named (passes p form tokens (form_cause p form tokens some early ∙ ap cause_in h)) in
    let is = read.1 in
    let behind : is.tokens ≡ tokens = let e : name ∷ tokens ≡ is.name ∷ is.tokens = is.is in cc in
    let both : ◌≡◌ {A = Result Partial Cause} (Ok (with_added p form read.0)) (Ok q) = sym (form_added p (name ∷ tokens) form read.0 is) ∙ ap (added_to p form) behind ∙ h in
    let same : with_added p form read.0 ≡ q = cc in
    subst (LineReads p (name ∷ tokens)) same (grammar.of_form {form = form} {added = read.0} some sign early is)

-- what is known of what is read
pub read_by : {A E : Type 0} (r : Result A E) {X Y : Type 0} {Q P : A → Type 0} → OnOk r X → OnOk r Y → IfOk r Q → ((x : A) → X → Y → Q x → P x) → IfOk r P
read_by (Ok x) a b q f = f x a b q
read_by (Err e) a b q f = tt

-- the tokens of a line with a name
pub named_texts : (line : List (Bor (List ℕ))) (a : Bor (List ℕ)) → 1 ≤ length line → (get_or line 0 a).now ∷ texts (take (length line - 1) (drop 1 line)) ≡ texts line
named_texts [] a h = absurd (omega arith)
named_texts (s ∷ ts) a h = ap (λ tokens. s.now ∷ texts tokens) (take_all (length (s ∷ ts) - 1) ts (omega arith))

-- and those of a generator line
pub generator_texts : (line : List (Bor (List ℕ))) (a b : Bor (List ℕ)) (kind : Bool) → 2 ≤ length line → (kind && is_word (codes "=") (get_or line 1 b).now) ≡ true
    → (get_or line 0 a).now ∷ codes "=" ∷ texts (take (length line - 2) (drop 2 line)) ≡ texts line
generator_texts [] a b kind h sign = absurd (omega arith)
generator_texts (s ∷ []) a b kind h sign = absurd (omega arith)
generator_texts (s ∷ t ∷ ts) a b kind h sign =
    ap (λ tokens. s.now ∷ codes "=" ∷ texts tokens) (take_all (length (s ∷ t ∷ ts) - 2) ts (omega arith))
    ∙ ap (λ sign. s.now ∷ sign ∷ texts ts) (sym (same_text t.now (codes "=") (sym (both_so kind (is_word (codes "=") t.now) sign).1)))

-- why a generator line is refused
pub generator_fault : (p : Partial) (line : List (Bor (List ℕ))) (a b : Bor (List ℕ)) (fault : Option Cause) → 2 ≤ length line → (not (is_presented p.problem) && is_word (codes "=") (get_or line 1 b).now) ≡ true
    → IsFaultFor (first_of (generator_causes p (get_or line 0 a).now (map field_of (texts (take (length line - 2) (drop 2 line)))))) fault → IsFaultFor (first_of (line_causes p (texts line))) fault
generator_fault p line a b fault h sign k =
    let tokens : List Token = texts (take (length line - 2) (drop 2 line)) in
    subst (λ line. IsFaultFor (first_of (line_causes p line)) fault) (generator_texts line a b _ h sign)
    (subst (λ causes. IsFaultFor (first_of causes) fault) (sym (generator_is p (get_or line 0 a).now tokens (denied (is_presented p.problem) (both_so _ _ sign).0))) k)
  where
    denied : (b : Bool) → not b ≡ true → b ≡ false
    denied false h = refl
    denied true h = absurd (true≢false (sym h))

-- and a line with no token
pub nothing_there : (p : Partial) (line : List (Bor (List ℕ))) → length line ≡ 0 → first_of (line_causes p (texts line)) ≡ Some UnknownLine
nothing_there p [] h = refl
nothing_there p (t ∷ ts) h = absurd (omega arith)
