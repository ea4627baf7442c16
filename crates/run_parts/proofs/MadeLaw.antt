-- The made script is a script.
use Rattle.std.proofs.Common.{◌≡◌, ◌∙◌, ℕ, zero, suc, ◌≤◌, ◌==◌, Bool, true, false, not, cond, List, [], ◌∷◌, ◌++◌, length, replicate, take, map, Some, None, Result, Ok, codes, if◌then◌else◌, refl, sym, ap, subst, arith, append-nil, ne_eqb}
use Rattle.std.specs.Prelude.{filter, slice_index}
use Rattle.std.specs.List.{onto_first, slice_split}
use Rattle.std.proofs.lemmas.Bool.Decides.{nat_tests}
use Rattle.std.proofs.lemmas.List.{length-append, length-replicate}
use Rattle.theory.specs.Word.{IsOver, Word}
use Rattle.words.specs.WordText.{word_of}
use Rattle.words.proofs.AlphabetLemmas.{faultless}
use Rattle.words.proofs.Symbols.{letters_alphabet}
use Rattle.words.proofs.TextLaws.{prints_back}
use Rattle.presentation.specs.Presented.{Posed}
use Rattle.problem.specs.declared.kinds.Problem.TheVariants.{Presented}
use Rattle.problem.specs.Problem.{is_presented}
use Rattle.line_parts.specs.declared.cause.Cause.{Cause}
use Rattle.line_parts.specs.declared.version.Version.TheVariants.{One}
use Rattle.line_parts.specs.LineWords.{element_of, with_cause}
use Rattle.line_parts.specs.Outcome.{and_then}
use Rattle.line_parts.specs.Token.{Line, Token, cut_lines, is_blank, tokens_of}
use Rattle.query_lang.specs.declared.form.Form.TheVariants.{Relation, Asks}
use Rattle.query_lang.specs.declared.form.QueryForm.{QueryForm}
use Rattle.query_lang.specs.declared.form.QueryForm.TheVariants as query_form
use Rattle.query_lang.specs.declared.script.Query.{Query}
use Rattle.query_lang.specs.declared.script.Query.TheVariants as ask
use Rattle.query_lang.specs.Asked.{ScriptOf}
use Rattle.query_lang.specs.Forms.{ANumber, AWord, AllGiven, Way, form_named, row_of, way}
use Rattle.query_lang.specs.Grammar as grammar
use Rattle.query_lang.specs.Grammar.{Begun, HeaderReads, IsOfForm, Nothing, Partial, Reads, Step, begin_with, lines_of, script_in}
use Rattle.query_lang.specs.Header.{free_way}
use Rattle.query_lang.specs.Relations.{add_relation, free_over}
use Rattle.query_lang.specs.Values.{is_barred, scope_of, values_of, way_for}
use Rattle.run_parts.specs.Limits.{most_bytes}
use Rattle.run_parts.specs.Made.{made_script}
use Rattle.run_parts.specs.Input.{IsScript}

-- ---- bytes

-- a run of a byte that parts nothing stands before the first part
split_run : (p : ℕ → Bool) (x n : ℕ) (rest first : List ℕ) (others : List (List ℕ)) → p x ≡ false → slice_split p rest ≡ first ∷ others
    → slice_split p (replicate n x ++ rest) ≡ (replicate n x ++ first) ∷ others
split_run p x zero rest first others e h = h
split_run p x (suc n) rest first others e h = rw e (ap (onto_first x) (split_run p x n rest first others e h))

-- what stands before the letters, and behind them
abbrev head : List ℕ
head = codes "rel "

abbrev queries : List ℕ
queries = codes "rel abab 1\nindex\nequal ab ba\nnormal aba\nclasses 3\n"

abbrev power_line : ℕ → List ℕ
power_line k = head ++ (replicate k 98 ++ codes " 1")

cut_made : (k : ℕ) → cut_lines (made_script k) ≡ codes "monoid ab" ∷ codes "rel aa 1" ∷ power_line k ∷ cut_lines queries
cut_made k =
    ap (λ pieces. codes "monoid ab" ∷ codes "rel aa 1" ∷ onto_first 114 (onto_first 101 (onto_first 108 (onto_first 32 pieces))))
    (split_run (λ b. b == 10) 98 k (codes " 1\nrel abab 1\nindex\nequal ab ba\nnormal aba\nclasses 3\n") (codes " 1") (cut_lines queries) refl refl)

not_zero : (n : ℕ) → (suc n == 0) ≡ false
not_zero n = grind (arith, nat_tests)

-- the tokens of the line with the letters
tokens_power : (k : ℕ) → 1 ≤ k → tokens_of (power_line k) ≡ codes "rel" ∷ replicate k 98 ∷ codes "1" ∷ []
tokens_power zero lt = absurd (omega arith)
tokens_power (suc k) lt =
    ap (λ pieces. codes "rel" ∷ filter (λ t. not (length t == 0)) (onto_first 98 pieces)) (split_run is_blank 98 k (codes " 1") [] (codes "1" ∷ []) refl refl)
    ∙ ap (λ (tokens : Line). codes "rel" ∷ tokens) (both_kept (replicate k 98 ++ []))
    ∙ ap (λ (t : List ℕ). codes "rel" ∷ (98 ∷ t) ∷ codes "1" ∷ []) (append-nil (replicate k 98))
  where
    both_kept : (t : List ℕ) → filter (λ t. not (length t == 0)) ((98 ∷ t) ∷ codes "1" ∷ []) ≡ (98 ∷ t) ∷ codes "1" ∷ []
    both_kept t = ap (λ (b : Bool). cond (not b) ((98 ∷ t) ∷ codes "1" ∷ []) (codes "1" ∷ [])) (not_zero (length t))

-- the tokens of each line
lines_made : (k : ℕ) → 1 ≤ k
    → lines_of (made_script k) ≡ (codes "monoid" ∷ codes "ab" ∷ []) ∷ (codes "rel" ∷ codes "aa" ∷ codes "1" ∷ []) ∷ (codes "rel" ∷ replicate k 98 ∷ codes "1" ∷ []) ∷ map tokens_of (cut_lines queries)
lines_made k least =
    ap (map tokens_of) (cut_made k)
    ∙ ap (λ line. (codes "monoid" ∷ codes "ab" ∷ []) ∷ (codes "rel" ∷ codes "aa" ∷ codes "1" ∷ []) ∷ line ∷ map tokens_of (cut_lines queries)) (tokens_power k least)

-- ---- the word of the letters

over_power : (k : ℕ) → IsOver 2 (replicate k 1)
over_power zero = tt
over_power (suc k) = (omega arith, over_power k)

bytes_power : (k : ℕ) → map (λ a. slice_index (codes "ab") a) (replicate k 1) ≡ replicate k 98
bytes_power zero = refl
bytes_power (suc k) = ap (λ t. 98 ∷ t) (bytes_power k)

word_power : (k : ℕ) → 1 ≤ k → k ≤ 200 → word_of (codes "ab") true (replicate k 98) ≡ Ok (replicate k 1)
word_power zero least most = absurd (omega arith)
word_power (suc k) least most =
    subst (λ (t : List ℕ). word_of (codes "ab") true t ≡ Ok (replicate (suc k) 1)) (bytes_power (suc k))
    (prints_back (codes "ab") (replicate (suc k) 1) (letters_alphabet false (codes "ab") (faultless false (codes "ab") refl)) (over_power (suc k)) true
    (let n : length {A = ℕ} (replicate k 1) ≡ k = length-replicate k 1 in omega arith) (λ e. cc))

-- ---- line by line

abbrev begun : Partial
begun = begin_with One (0, 0) (Presented (free_over true (codes "ab")))

header_read : HeaderReads One (codes "monoid" ∷ codes "ab" ∷ []) begun
header_read = record {
  name = codes "monoid";
  tokens = codes "ab" ∷ [];
  way = free_way false true;
  given = (codes "ab", tt);
  is = refl;
  named = refl;
  written = refl;
  read = refl;
  made = refl;
}

-- one relation more
abbrev related : Posed → Word → Posed
related o u = add_relation o (u, [])

abbrev posed : ℕ → Posed
posed k = related (related (related (free_over true (codes "ab")) (0 ∷ 0 ∷ [])) (replicate k 1)) (0 ∷ 1 ∷ 0 ∷ 1 ∷ [])

abbrev said_of : Posed → List Query → Partial
said_of o queries = record { head = record { version = One; sizes = (0, 0) }; problem = Presented o; queries = queries }

-- a relation to the empty word, after no more than two
relation_line : (o : Posed) (U : List ℕ) (u : Word) → o.alphabet ≡ codes "ab" → o.congruence.presentation.is_monoid ≡ true → o.congruence.pairs ≡ []
    → length o.congruence.presentation.relations ≤ 2 → word_of (codes "ab") true U ≡ Ok u
    → Step (Begun (said_of o [])) (codes "rel" ∷ U ∷ codes "1" ∷ []) (Begun (said_of (related o u) []))
relation_line o U u letters is_monoid no_pairs few reads =
    let first : element_of One o.alphabet o.congruence.presentation.is_monoid U ≡ Ok u = rw (letters, is_monoid) (ap with_cause reads) in
    let second : element_of One o.alphabet o.congruence.presentation.is_monoid (codes "1") ≡ Ok [] = rw is_monoid refl in
    grammar.further refl
    (grammar.of_form {form = Relation} {added = (u, []) ∷ []} refl refl (reached o.congruence.pairs no_pairs)
    (record {
      name = codes "rel";
      tokens = U ∷ codes "1" ∷ [];
      way = way (AWord ∷ AWord ∷ []) (λ v. (v.0, v.1.0) ∷ []);
      given = (u, ([], tt));
      is = refl;
      named = refl;
      few_relations = ne_eqb (length o.congruence.presentation.relations) 4096 (λ e. absurd (omega arith));
      few_pairs = refl;
      one_kind = refl;
      allowed = refl;
      written = refl;
      read = ap (λ (r : Result Word Cause). and_then (λ v. and_then (λ vs. Ok (v, vs)) (and_then (λ v. Ok (v, tt)) (element_of One o.alphabet o.congruence.presentation.is_monoid (codes "1")))) r) first
          ∙ ap (λ (r : Result Word Cause). and_then (λ vs. Ok (u, vs)) (and_then (λ v. Ok (v, tt)) r)) second;
      made = refl;
    }))
  where
    reached : {A : Type 0} (pairs : List A) → pairs ≡ [] → (if length pairs == 0 then 2 else 3) ≤ 2
    reached [] e = omega arith
    reached (x ∷ xs) e = cc

abbrev asked : ℕ → List Query
asked n = take n (ask.Index ∷ ask.Equal (0 ∷ 1 ∷ []) (1 ∷ 0 ∷ []) ∷ ask.Normal (0 ∷ 1 ∷ 0 ∷ []) ∷ ask.Classes 3 None ∷ [])

-- a query that the tokens give
asks : (p : Partial) (form : QueryForm) (name : Token) (tokens : List Token) (w : Way Query) (given : AllGiven w.places) → form_named p.head.version (is_presented p.problem) name ≡ Some (Asks form)
    → is_barred p.problem (Asks form) ≡ false → way_for tokens (row_of form).ways ≡ Some w → values_of (scope_of p.head.version p.problem) tokens w.places tokens ≡ Ok given
    → IsOfForm p (name ∷ tokens) (Asks form) (w.makes given)
asks p form name tokens w given named allowed written read = record {
  name = name;
  tokens = tokens;
  way = w;
  given = given;
  is = refl;
  named = named;
  few_relations = refl;
  few_pairs = refl;
  one_kind = refl;
  allowed = allowed;
  written = written;
  read = read;
  made = refl;
}

-- the queries
queries_read : (k : ℕ) → Reads (Begun (said_of (posed k) [])) (map tokens_of (cut_lines (codes "index\nequal ab ba\nnormal aba\nclasses 3\n"))) (Begun (said_of (posed k) (asked 4)))
queries_read k =
    grammar.more {t = Begun (said_of (posed k) (asked 1))} (grammar.further refl (grammar.of_form {form = Asks query_form.Index} {added = ask.Index} refl refl (omega arith) index_read))
    (grammar.more {t = Begun (said_of (posed k) (asked 2))} (grammar.further refl (grammar.of_form {form = Asks query_form.Equal} {added = ask.Equal (0 ∷ 1 ∷ []) (1 ∷ 0 ∷ [])} refl refl (omega arith) equal_read))
    (grammar.more {t = Begun (said_of (posed k) (asked 3))} (grammar.further refl (grammar.of_form {form = Asks query_form.Normal} {added = ask.Normal (0 ∷ 1 ∷ 0 ∷ [])} refl refl (omega arith) normal_read))
    (grammar.more {t = Begun (said_of (posed k) (asked 4))} (grammar.further refl (grammar.of_form {form = Asks query_form.Classes} {added = ask.Classes 3 None} refl refl (omega arith) classes_read))
    (grammar.more (grammar.skipped refl) grammar.none))))
  where
    index_read : IsOfForm (said_of (posed k) []) (codes "index" ∷ []) (Asks query_form.Index) ask.Index
    index_read = asks _ query_form.Index (codes "index") [] (way [] (λ v. ask.Index)) tt refl refl refl refl

    equal_read : IsOfForm (said_of (posed k) (asked 1)) (codes "equal" ∷ codes "ab" ∷ codes "ba" ∷ []) (Asks query_form.Equal) (ask.Equal (0 ∷ 1 ∷ []) (1 ∷ 0 ∷ []))
    equal_read =
        asks _ query_form.Equal (codes "equal") (codes "ab" ∷ codes "ba" ∷ []) (way (AWord ∷ AWord ∷ []) (λ v. ask.Equal v.0 v.1.0)) (0 ∷ 1 ∷ [], (1 ∷ 0 ∷ [], tt)) refl refl refl refl

    normal_read : IsOfForm (said_of (posed k) (asked 2)) (codes "normal" ∷ codes "aba" ∷ []) (Asks query_form.Normal) (ask.Normal (0 ∷ 1 ∷ 0 ∷ []))
    normal_read = asks _ query_form.Normal (codes "normal") (codes "aba" ∷ []) (way (AWord ∷ []) (λ v. ask.Normal v.0)) (0 ∷ 1 ∷ 0 ∷ [], tt) refl refl refl refl

    classes_read : IsOfForm (said_of (posed k) (asked 3)) (codes "classes" ∷ codes "3" ∷ []) (Asks query_form.Classes) (ask.Classes 3 None)
    classes_read = asks _ query_form.Classes (codes "classes") (codes "3" ∷ []) (way (ANumber 0 1000000 ∷ []) (λ v. ask.Classes v.0 None)) (3, tt) refl refl refl refl

lines_read : (k : ℕ) → 1 ≤ k → k ≤ 200 → Reads Nothing (lines_of (made_script k)) (Begun (said_of (posed k) (asked 4)))
lines_read k least most =
    subst (λ (lines : List Line). Reads Nothing lines (Begun (said_of (posed k) (asked 4)))) (sym (lines_made k least))
    (grammar.more (grammar.header refl header_read)
    (grammar.more (relation_line (free_over true (codes "ab")) (codes "aa") (0 ∷ 0 ∷ []) refl refl refl (omega arith) refl)
    (grammar.more (relation_line (related (free_over true (codes "ab")) (0 ∷ 0 ∷ [])) (replicate k 98) (replicate k 1) refl refl refl (omega arith) (word_power k least most))
    (grammar.more (relation_line (related (related (free_over true (codes "ab")) (0 ∷ 0 ∷ [])) (replicate k 1)) (codes "abab") (0 ∷ 1 ∷ 0 ∷ 1 ∷ []) refl refl refl (omega arith) refl)
    (queries_read k)))))

made_short : (k : ℕ) → k ≤ 200 → length (made_script k) ≤ most_bytes
made_short k most = simp (length-append, length-replicate) (omega arith)

pub made_reads : (k : ℕ) → 1 ≤ k → k ≤ 200 → (script : ScriptOf) × IsScript (made_script k) script
made_reads k least most =
    let said = said_of (posed k) (asked 4) in
    (script_in said, record { short = made_short k most; reads = record { said = said; reads = lines_read k least most; whole = refl; is = refl } })
