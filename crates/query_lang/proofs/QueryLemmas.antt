-- Forms by their names, and queries by the table of forms.
use Rattle.std.proofs.Common.{◌≡◌, ◌≢◌, ℕ, suc, ◌<◌, ◌≤◌, Bool, true, false, ◌&&◌, if◌then◌else◌, List, [], ◌∷◌, length, drop, get_or, drop-cons, Option, Some, None, Result, Ok, Err, Bor, codes, refl, sym, ap, ◌∙◌, subst, arith, true≢false}
use Rattle.std.specs.Option.{ok_or}
use Rattle.std.proofs.lemmas.List.{drop_all}
use Rattle.theory.specs.Graph.{Graph}
use Rattle.std.specs.Result.{IsErrAnd, IfErr}
use Rattle.line_parts.specs.declared.cause.Cause.{Cause}
use Rattle.line_parts.specs.declared.cause.Cause.TheVariants.{AfterExpected, BadNumber, WrongNumberOfWords}
use Rattle.line_parts.specs.declared.version.Version.{Version}
use Rattle.line_parts.specs.Faults.{IsLineFault}
use Rattle.line_parts.specs.Outcome.{and_then}
use Rattle.line_parts.specs.Tables.{congruence_table_of, low_table_of, two_tables}
use Rattle.line_parts.specs.Texts.{texts}
use Rattle.line_parts.specs.Token.{Token, is_word, number_within}
use Rattle.line_parts.proofs.FaultLemmas.{handed_on}
use Rattle.query_lang.specs.declared.form.Form.{Form}
use Rattle.query_lang.specs.declared.form.QueryForm.TheVariants as asks
use Rattle.query_lang.specs.declared.script.Query.{Query}
use Rattle.query_lang.specs.declared.script.Query.TheVariants.{Classes, LowIndex}
use Rattle.query_lang.specs.Forms.{Place, ACongruenceTable, AllGiven, Way, way, form_among, has_form, name_of, row_of}
use Rattle.query_lang.specs.LineCauses.{cause_in, first_of, token_causes}
use Rattle.query_lang.specs.Values.{Scope, as_many, limits_of, made_in, value_of, values_of, way_for}

-- forms by their names

-- a form that is not named is passed over
pub form_passed : (version : Version) (kind : Bool) (forms : List Form) (t : Token) (i n : ℕ) (other : Form) → n ≡ suc i → i < length forms → (is_word (name_of (get_or forms i other)) t && has_form version kind (get_or forms i other)) ≡ false
    → form_among version kind (drop n forms) t ≡ form_among version kind (drop i forms) t
form_passed version kind forms t i n other e h k =
    ap (λ n. form_among version kind (drop n forms) t) e
    ∙ ap (λ c. if c then Some (get_or forms i other) else form_among version kind (drop (suc i) forms) t) (sym k)
    ∙ ap (λ fs. form_among version kind fs t) (sym (drop-cons forms i other h))

-- and one that is named is taken
pub form_taken : (version : Version) (kind : Bool) (forms : List Form) (t : Token) (i : ℕ) (other : Form) → i < length forms → (is_word (name_of (get_or forms i other)) t && has_form version kind (get_or forms i other)) ≡ true
    → form_among version kind (drop i forms) t ≡ Some (get_or forms i other)
form_taken version kind forms t i other h k =
    ap (λ fs. form_among version kind fs t) (drop-cons forms i other h)
    ∙ ap (λ c. if c then Some (get_or forms i other) else form_among version kind (drop (suc i) forms) t) k

-- where no form is left, none is named
pub form_missing : (version : Version) (kind : Bool) (forms : List Form) (t : Token) (i : ℕ) → length forms ≤ i → form_among version kind (drop i forms) t ≡ None
form_missing version kind forms t i h = ap (λ forms. form_among version kind forms t) (drop_all i forms h)

-- the form that is named is one that the script has, and its name is the token
pub record IsNamed (version : Version) (kind : Bool) (t : Token) (form : Form) : Type 0 where
  pub named : is_word (name_of form) t ≡ true
  pub there : has_form version kind form ≡ true

pub both_so : (a b : Bool) → (a && b) ≡ true → (a ≡ true) × (b ≡ true)
both_so true b h = (refl, h)
both_so false b h = absurd (true≢false (sym h))

pub form_found : (version : Version) (kind : Bool) (forms : List Form) (t : Token) (form : Form) → form_among version kind forms t ≡ Some form → IsNamed version kind t form
form_found version kind [] t form h = absurd (cc)
form_found version kind (one ∷ forms) t form h = by (λ h. form_found version kind forms t form h) (is_word (name_of one) t && has_form version kind one) refl h
  where
    by : (form_among version kind forms t ≡ Some form → IsNamed version kind t form)
        → (b : Bool) → (is_word (name_of one) t && has_form version kind one) ≡ b → (if b then Some one else form_among version kind forms t) ≡ Some form → IsNamed version kind t form
    by behind true e h =
        let same : one ≡ form = cc in
        let both = both_so (is_word (name_of one) t) (has_form version kind one) e in
        subst (IsNamed version kind t) same (record { named = both.0; there = both.1 })
    by behind false e h = behind h

-- what tokens give in their places

first_value : {A B : Type 0} (v : Result A Cause) (vs : Result B Cause) (causes : List (Option Cause)) → cause_in vs ≡ first_of causes
    → cause_in {A = A × B} (and_then (λ x. and_then (λ xs. Ok (x, xs)) vs) v) ≡ first_of (cause_in v ∷ causes)
first_value (Err c) vs causes h = refl
first_value (Ok x) (Err c) causes h = h
first_value (Ok x) (Ok xs) causes h = h

-- the first of the causes of the tokens in their places is the cause of all
pub values_cause : (s : Scope) (all : List Token) (places : List Place) (tokens : List Token) → as_many places tokens ≡ true → cause_in (values_of s all places tokens) ≡ first_of (token_causes s all places tokens)
values_cause s all [] tokens h = refl
values_cause s all (place ∷ places) [] h = absurd (true≢false (sym h))
values_cause s all (place ∷ places) (t ∷ tokens) h = first_value (value_of s all place t) (values_of s all places tokens) _ (values_cause s all places tokens h)

-- the way that fits the tokens has as many places as there are tokens
pub way_fits : {A : Type 0} (tokens : List Token) (ways : List (Way A)) (w : Way A) → way_for tokens ways ≡ Some w → as_many w.places tokens ≡ true
way_fits tokens [] w h = absurd (cc)
way_fits {A} tokens (one ∷ ways) w h = by (λ h. way_fits tokens ways w h) (as_many one.places tokens) refl h
  where
    by : (way_for tokens ways ≡ Some w → as_many w.places tokens ≡ true) → (b : Bool) → as_many one.places tokens ≡ b → (if b then Some one else way_for tokens ways) ≡ Some w → as_many w.places tokens ≡ true
    by behind true e h = let same : one ≡ w = cc in ap (λ (w : Way A). as_many w.places tokens) (sym same) ∙ e
    by behind false e h = behind h

-- two tables

pub same_fault : {A : Type 0} (a b : Result A Cause) (fault : Option Cause) → a ≡ b → IsLineFault b fault → IsLineFault a fault
same_fault a b fault e h = subst (λ r. IsLineFault r fault) (sym e) h

pub carried : {A B : Type 0} (f : A → B) (r : Result A Cause) (fault : Option Cause) → IsLineFault r fault → IsLineFault (and_then (λ x. Ok (f x)) r) fault
carried f r None h = tt
carried f r (Some c) h = ap (and_then (λ x. Ok (f x))) h

pub one_in : {A B : Type 0} (makes : A × Unit {0} → B) (u : Result A Cause) → and_then (λ vs. Ok (makes vs)) (and_then (λ x. Ok (x, tt)) u) ≡ and_then (λ x. Ok (makes (x, tt))) u
one_in makes (Err c) = refl
one_in makes (Ok x) = refl

pub two_in : {A B : Type 0} (makes : A × (A × Unit {0}) → B) (u v : Result A Cause)
    → and_then (λ vs. Ok (makes vs)) (and_then (λ x. and_then (λ xs. Ok (x, xs)) (and_then (λ y. Ok (y, tt)) v)) u) ≡ and_then (λ (p : A × A). Ok (makes (p.0, (p.1, tt)))) (and_then (λ x. and_then (λ y. Ok (x, y)) v) u)
two_in makes (Err c) v = refl
two_in makes (Ok x) (Err c) = refl
two_in makes (Ok x) (Ok y) = refl

pub tables_in : (s : Scope) (makes : AllGiven (ACongruenceTable ∷ ACongruenceTable ∷ []) → Query) (tokens : List Token)
    → made_in s (way (ACongruenceTable ∷ ACongruenceTable ∷ []) makes ∷ []) tokens ≡ and_then (λ (p : Graph × Graph). Ok (makes (p.0, (p.1, tt)))) (two_tables s.allow_empty (length s.letters) s.relations tokens)
tables_in s makes [] = refl
tables_in s makes (t ∷ []) = refl
tables_in s makes (t ∷ u ∷ []) = two_in makes (congruence_table_of s.allow_empty (length s.letters) s.relations t) (congruence_table_of s.allow_empty (length s.letters) s.relations u)
tables_in s makes (t ∷ u ∷ v ∷ tokens) = refl

tables_refused : (s : Scope) (makes : AllGiven (ACongruenceTable ∷ ACongruenceTable ∷ []) → Query) (tokens : List Token) (fault : Option Cause)
    → IsLineFault (two_tables s.allow_empty (length s.letters) s.relations tokens) fault
    → IsLineFault (made_in s (way (ACongruenceTable ∷ ACongruenceTable ∷ []) makes ∷ []) tokens) fault
tables_refused s makes tokens fault h = same_fault _ _ fault (tables_in s makes tokens) (carried (λ (p : Graph × Graph). makes (p.0, (p.1, tt))) _ fault h)

-- two tables that are refused
pub tables_handed : {B : Type 0} (s : Scope) (ways : List (Way Query)) (makes : AllGiven (ACongruenceTable ∷ ACongruenceTable ∷ []) → Query) (tokens : List Token) (k : ℕ) (r : Result B (Option Cause)) (fault : Option Cause)
    → IsErrAnd r (λ e. e ≡ fault) → ways ≡ way (ACongruenceTable ∷ ACongruenceTable ∷ []) makes ∷ [] → k ≡ length s.letters → IsLineFault (two_tables s.allow_empty k s.relations tokens) fault
    → IfErr r (IsLineFault (made_in s ways tokens))
tables_handed s ways makes tokens k r fault h w e p =
    handed_on r fault (made_in s ways tokens) h
    (subst (λ ways. IsLineFault (made_in s ways tokens) fault) (sym w) (tables_refused s makes tokens fault (subst (λ k. IsLineFault (two_tables s.allow_empty k s.relations tokens) fault) e p)))

-- the tokens of a page or a search

pub three_texts : (tokens : List (Bor (List ℕ))) (a b c : Bor (List ℕ)) → length tokens ≡ 3 → (get_or tokens 0 a).now ∷ (get_or tokens 1 b).now ∷ (get_or tokens 2 c).now ∷ [] ≡ texts tokens
three_texts (t ∷ u ∷ v ∷ []) a b c h = refl
three_texts [] a b c h = absurd (omega arith)
three_texts (t ∷ []) a b c h = absurd (omega arith)
three_texts (t ∷ u ∷ []) a b c h = absurd (omega arith)
three_texts (t ∷ u ∷ v ∷ w ∷ tokens) a b c h = absurd (omega arith)

pub four_texts : (tokens : List (Bor (List ℕ))) (a b c d : Bor (List ℕ)) → length tokens ≡ 4 → (get_or tokens 0 a).now ∷ (get_or tokens 1 b).now ∷ (get_or tokens 2 c).now ∷ (get_or tokens 3 d).now ∷ [] ≡ texts tokens
four_texts (t ∷ u ∷ v ∷ w ∷ []) a b c d h = refl
four_texts [] a b c d h = absurd (omega arith)
four_texts (t ∷ []) a b c d h = absurd (omega arith)
four_texts (t ∷ u ∷ []) a b c d h = absurd (omega arith)
four_texts (t ∷ u ∷ v ∷ []) a b c d h = absurd (omega arith)
four_texts (t ∷ u ∷ v ∷ w ∷ x ∷ tokens) a b c d h = absurd (omega arith)

-- the count of a page, where no word is behind it
pub count_in : (s : Scope) (tokens : List (Bor (List ℕ))) (a : Bor (List ℕ)) → length tokens ≡ 1
    → made_in s (row_of asks.Classes).ways (texts tokens) ≡ and_then (λ n. Ok (Classes n None)) (ok_or (number_within 0 1000000 (get_or tokens 0 a).now) BadNumber)
count_in s (t ∷ []) a h = one_in (λ v. Classes v.0 None) (ok_or (number_within 0 1000000 t.now) BadNumber)
count_in s [] a h = absurd (omega arith)
count_in s (t ∷ u ∷ tokens) a h = absurd (omega arith)

-- a page with another number of tokens
pub page_missing : (s : Scope) (tokens : List (Bor (List ℕ))) → length tokens ≢ 1 → length tokens ≢ 3 → made_in s (row_of asks.Classes).ways (texts tokens) ≡ Err WrongNumberOfWords
page_missing s [] h k = refl
page_missing s (t ∷ []) h k = absurd (h refl)
page_missing s (t ∷ u ∷ []) h k = refl
page_missing s (t ∷ u ∷ v ∷ []) h k = absurd (k refl)
page_missing s (t ∷ u ∷ v ∷ w ∷ tokens) h k = refl

-- the limits of a search

limits_are : (o p : Option ℕ) (n m : ℕ) → ◌≡◌ {A = Result (ℕ × ℕ) Cause} (and_then (λ n. and_then (λ m. Ok (n, m)) (ok_or p BadNumber)) (ok_or o BadNumber)) (Ok (n, m)) → (o ≡ Some n) × (p ≡ Some m)
limits_are None p n m h = absurd (cc)
limits_are (Some a) None n m h = absurd (cc)
limits_are (Some a) (Some b) n m h =
    let both : ◌≡◌ {A = ℕ × ℕ} (a, b) (n, m) = cc in
    (ap (λ (q : ℕ × ℕ). Some q.0) both, ap (λ (q : ℕ × ℕ). Some q.1) both)

table_causes : (s : Scope) (two_sided : Bool) (classes count after token : Token) (n m : ℕ) (c : Cause) → number_within 1 16 classes ≡ Some n → number_within 0 1000000 count ≡ Some m → is_word (codes "after") after ≡ true
    → low_table_of s.allow_empty (length s.letters) n token ≡ Err c → made_in s (row_of (asks.LowIndex two_sided)).ways (classes ∷ count ∷ after ∷ token ∷ []) ≡ Err c
table_causes s two_sided classes count after token n m c h k a e = rw (h, k, a, e) refl

table_refused : (s : Scope) (two_sided : Bool) (classes count after token : Token) (n m : ℕ) (fault : Option Cause) → limits_of classes count ≡ Ok (n, m) → is_word (codes "after") after ≡ true
    → IsLineFault (low_table_of s.allow_empty (length s.letters) n token) fault → IsLineFault (made_in s (row_of (asks.LowIndex two_sided)).ways (classes ∷ count ∷ after ∷ token ∷ [])) fault
table_refused s two_sided classes count after token n m None h a e = tt
table_refused s two_sided classes count after token n m (Some c) h a e =
    let both = limits_are (number_within 1 16 classes) (number_within 0 1000000 count) n m h in
    table_causes s two_sided classes count after token n m c both.0 both.1 a e

-- a search behind a table that is refused
pub table_handed : {B : Type 0} (s : Scope) (two_sided : Bool) (classes count after token : Token) (n m k : ℕ) (r : Result B (Option Cause)) (fault : Option Cause) → IsErrAnd r (λ e. e ≡ fault) → limits_of classes count ≡ Ok (n, m)
    → is_word (codes "after") after ≡ true → k ≡ length s.letters → IsLineFault (low_table_of s.allow_empty k n token) fault
    → IfErr r (IsLineFault (made_in s (row_of (asks.LowIndex two_sided)).ways (classes ∷ count ∷ after ∷ token ∷ [])))
table_handed s two_sided classes count after token n m k r fault h l a e p =
    handed_on r fault (made_in s (row_of (asks.LowIndex two_sided)).ways (classes ∷ count ∷ after ∷ token ∷ [])) h
    (table_refused s two_sided classes count after token n m fault l a (subst (λ k. IsLineFault (low_table_of s.allow_empty k n token) fault) e p))

limits_faulty : (s : Scope) (two_sided : Bool) (t u : Token) (o p : Option ℕ) (c : Cause) → number_within 1 16 t ≡ o → number_within 0 1000000 u ≡ p
    → ◌≡◌ {A = Result (ℕ × ℕ) Cause} (and_then (λ n. and_then (λ m. Ok (n, m)) (ok_or p BadNumber)) (ok_or o BadNumber)) (Err c) → made_in s (row_of (asks.LowIndex two_sided)).ways (t ∷ u ∷ []) ≡ Err c
limits_faulty s two_sided t u None p c h k e = rw h (let same : BadNumber ≡ c = cc in ap (λ c. Err c) same)
limits_faulty s two_sided t u (Some n) None c h k e = rw (h, k) (let same : BadNumber ≡ c = cc in ap (λ c. Err c) same)
limits_faulty s two_sided t u (Some n) (Some m) c h k e = absurd (cc)

-- a search whose limits are refused
pub limits_refused : (s : Scope) (two_sided : Bool) (tokens : List (Bor (List ℕ))) (a b : Bor (List ℕ)) (c : Cause) → length tokens ≡ 2 → limits_of (get_or tokens 0 a).now (get_or tokens 1 b).now ≡ Err c
    → made_in s (row_of (asks.LowIndex two_sided)).ways (texts tokens) ≡ Err c
limits_refused s two_sided (t ∷ u ∷ []) a b c n h = limits_faulty s two_sided t.now u.now (number_within 1 16 t.now) (number_within 0 1000000 u.now) c refl refl h
limits_refused s two_sided [] a b c n h = absurd (omega arith)
limits_refused s two_sided (t ∷ []) a b c n h = absurd (omega arith)
limits_refused s two_sided (t ∷ u ∷ v ∷ tokens) a b c n h = absurd (omega arith)

limits_known : (s : Scope) (two_sided : Bool) (t u : Token) (n m : ℕ) → number_within 1 16 t ≡ Some n → number_within 0 1000000 u ≡ Some m → made_in s (row_of (asks.LowIndex two_sided)).ways (t ∷ u ∷ []) ≡ Ok (LowIndex two_sided n m None)
limits_known s two_sided t u n m h k = rw (h, k) refl

-- a search with its limits alone
pub limits_made : (s : Scope) (two_sided : Bool) (tokens : List (Bor (List ℕ))) (a b : Bor (List ℕ)) (n m : ℕ) → length tokens ≡ 2 → limits_of (get_or tokens 0 a).now (get_or tokens 1 b).now ≡ Ok (n, m)
    → made_in s (row_of (asks.LowIndex two_sided)).ways (texts tokens) ≡ Ok (LowIndex two_sided n m None)
limits_made s two_sided (t ∷ u ∷ []) a b n m e h =
    let both = limits_are (number_within 1 16 t.now) (number_within 0 1000000 u.now) n m h in
    limits_known s two_sided t.now u.now n m both.0 both.1
limits_made s two_sided [] a b n m e h = absurd (omega arith)
limits_made s two_sided (t ∷ []) a b n m e h = absurd (omega arith)
limits_made s two_sided (t ∷ u ∷ v ∷ tokens) a b n m e h = absurd (omega arith)

-- a search with another number of tokens
pub search_missing : (s : Scope) (two_sided : Bool) (tokens : List (Bor (List ℕ))) → length tokens ≢ 2 → length tokens ≢ 4 → made_in s (row_of (asks.LowIndex two_sided)).ways (texts tokens) ≡ Err WrongNumberOfWords
search_missing s two_sided [] h k = refl
search_missing s two_sided (t ∷ []) h k = refl
search_missing s two_sided (t ∷ u ∷ []) h k = absurd (h refl)
search_missing s two_sided (t ∷ u ∷ v ∷ []) h k = refl
search_missing s two_sided (t ∷ u ∷ v ∷ w ∷ []) h k = absurd (k refl)
search_missing s two_sided (t ∷ u ∷ v ∷ w ∷ x ∷ tokens) h k = refl

-- a search behind a table: its limits, the word before the table, and the table

after_faulty : (s : Scope) (two_sided : Bool) (t u after token : Token) (o p : Option ℕ) (c : Cause) → number_within 1 16 t ≡ o → number_within 0 1000000 u ≡ p
    → ◌≡◌ {A = Result (ℕ × ℕ) Cause} (and_then (λ n. and_then (λ m. Ok (n, m)) (ok_or p BadNumber)) (ok_or o BadNumber)) (Err c) → made_in s (row_of (asks.LowIndex two_sided)).ways (t ∷ u ∷ after ∷ token ∷ []) ≡ Err c
after_faulty s two_sided t u after token None p c h k e = rw h (let same : BadNumber ≡ c = cc in ap (λ c. Err c) same)
after_faulty s two_sided t u after token (Some n) None c h k e = rw (h, k) (let same : BadNumber ≡ c = cc in ap (λ c. Err c) same)
after_faulty s two_sided t u after token (Some n) (Some m) c h k e = absurd (cc)

pub after_refused : (s : Scope) (two_sided : Bool) (classes count after token : Token) (c : Cause) → limits_of classes count ≡ Err c → made_in s (row_of (asks.LowIndex two_sided)).ways (classes ∷ count ∷ after ∷ token ∷ []) ≡ Err c
after_refused s two_sided classes count after token c h = after_faulty s two_sided classes count after token (number_within 1 16 classes) (number_within 0 1000000 count) c refl refl h

expected : (s : Scope) (two_sided : Bool) (classes count after token : Token) (n m : ℕ) → number_within 1 16 classes ≡ Some n → number_within 0 1000000 count ≡ Some m → is_word (codes "after") after ≡ false
    → made_in s (row_of (asks.LowIndex two_sided)).ways (classes ∷ count ∷ after ∷ token ∷ []) ≡ Err AfterExpected
expected s two_sided classes count after token n m h k a = rw (h, k, a) refl

pub after_expected : (s : Scope) (two_sided : Bool) (classes count after token : Token) (n m : ℕ) → limits_of classes count ≡ Ok (n, m) → is_word (codes "after") after ≡ false
    → made_in s (row_of (asks.LowIndex two_sided)).ways (classes ∷ count ∷ after ∷ token ∷ []) ≡ Err AfterExpected
after_expected s two_sided classes count after token n m h a =
    let both = limits_are (number_within 1 16 classes) (number_within 0 1000000 count) n m h in
    expected s two_sided classes count after token n m both.0 both.1 a

table_known : (s : Scope) (two_sided : Bool) (classes count after token : Token) (n m : ℕ) (g : Graph) → number_within 1 16 classes ≡ Some n → number_within 0 1000000 count ≡ Some m → is_word (codes "after") after ≡ true
    → low_table_of s.allow_empty (length s.letters) n token ≡ Ok g → made_in s (row_of (asks.LowIndex two_sided)).ways (classes ∷ count ∷ after ∷ token ∷ []) ≡ Ok (LowIndex two_sided n m (Some g))
table_known s two_sided classes count after token n m g h k a e = rw (h, k, a, e) refl

pub table_made : (s : Scope) (two_sided : Bool) (classes count after token : Token) (n m k : ℕ) (g : Graph) → limits_of classes count ≡ Ok (n, m) → is_word (codes "after") after ≡ true → k ≡ length s.letters
    → low_table_of s.allow_empty k n token ≡ Ok g → made_in s (row_of (asks.LowIndex two_sided)).ways (classes ∷ count ∷ after ∷ token ∷ []) ≡ Ok (LowIndex two_sided n m (Some g))
table_made s two_sided classes count after token n m k g h a e p =
    let both = limits_are (number_within 1 16 classes) (number_within 0 1000000 count) n m h in
    table_known s two_sided classes count after token n m g both.0 both.1 a (ap (λ k. low_table_of s.allow_empty k n token) (sym e) ∙ p)
