-- What comes of generator lines: one generator more, or the cause.
use Rattle.std.proofs.Common.{◌≡◌, ℕ, ◌==◌, ◌≤◌, Bool, true, false, if◌then◌else◌, List, [], ◌∷◌, map, codes, Option, Some, None, Result, Ok, Err, is_none, refl, sym, ap, ◌∙◌, subst, arith, true≢false}
use Rattle.std.specs.Option.{ok_or}
use Rattle.std.specs.List.{list_any}
use Rattle.std.proofs.lemmas.Bool.{le-ltb}
use Rattle.elements.specs.declared.field.Field.{Field}
use Rattle.problem.specs.Posed.{PosedOf}
use Rattle.problem.specs.Problem.{is_presented, letters_of, pairs_of}
use Rattle.problem.specs.declared.kinds.Problem.{Problem}
use Rattle.problem.specs.declared.kinds.Problem.TheVariants as problem
use Rattle.line_parts.specs.declared.cause.Cause.{Cause}
use Rattle.line_parts.specs.declared.cause.Cause.TheVariants as cause
use Rattle.line_parts.specs.Outcome.{and_then}
use Rattle.line_parts.specs.Token.{Token, letter_of}
use Rattle.line_parts.specs.Fields.{field_of}
use Rattle.line_parts.specs.Elements.{boolean_matrix_of, partial_permutation_of, transformation_of, truncated_matrix_of}
use Rattle.line_parts.specs.declared.version.Version.{Version}
use Rattle.line_parts.specs.Versions.{is_wide}
use Rattle.query_lang.specs.Draft.{DraftOf, new_letter_of, with_one}
use Rattle.query_lang.specs.Generators.{generator_more, one_more}
use Rattle.query_lang.specs.Grammar.{LineReads, Partial, begin_with, section_reached}
use Rattle.query_lang.specs.Grammar as grammar
use Rattle.query_lang.specs.Header.{Start}
use Rattle.query_lang.specs.Reading.{AreGenerators, with_generator}
use Rattle.query_lang.specs.LineCauses.{when, first_of, cause_in, entries_cause, is_taken, generator_causes, line_causes}
use Rattle.query_lang.proofs.FormLemmas.{same-cause}

-- what has one generator more is given by generators
pub more_generated : (sizes : ℕ × ℕ) (p : Problem) (x : ℕ) (fields : List Field) (q : Problem) → generator_more sizes p x fields ≡ Ok q → is_presented p ≡ false
more_generated sizes (problem.Presented o) x fields q h = absurd (cc)
more_generated sizes (problem.Transf g) x fields q h = refl
more_generated sizes (problem.PPerm g) x fields q h = refl
more_generated sizes (problem.BMat g) x fields q h = refl
more_generated sizes (problem.MaxPlus g) x fields q h = refl

only : (cause : Option Cause) → cause ≡ first_of (cause ∷ [])
only None = refl
only (Some c) = refl

-- the cause of its entries
pub more_cause : (sizes : ℕ × ℕ) (p : Problem) (x : ℕ) (fields : List Field) → is_presented p ≡ false → cause_in (generator_more sizes p x fields) ≡ first_of (entries_cause sizes p fields ∷ [])
more_cause sizes (problem.Presented o) x fields h = absurd (true≢false h)
more_cause sizes (problem.Transf g) x fields h = same-cause (λ e. problem.Transf (one_more g x e)) (transformation_of sizes fields) ∙ only (cause_in (transformation_of sizes fields))
more_cause sizes (problem.PPerm g) x fields h = same-cause (λ e. problem.PPerm (one_more g x e)) (partial_permutation_of sizes fields) ∙ only (cause_in (partial_permutation_of sizes fields))
more_cause sizes (problem.BMat g) x fields h = same-cause (λ e. problem.BMat (one_more g x e)) (boolean_matrix_of sizes fields) ∙ only (cause_in (boolean_matrix_of sizes fields))
more_cause sizes (problem.MaxPlus g) x fields h = same-cause (λ e. problem.MaxPlus (one_more g x e)) (truncated_matrix_of sizes fields) ∙ only (cause_in (truncated_matrix_of sizes fields))

-- a line with the sign is a generator line
pub generator_is : (p : Partial) (name : Token) (entries : List Token) → is_presented p.problem ≡ false → line_causes p (name ∷ codes "=" ∷ entries) ≡ generator_causes p name (map field_of entries)
generator_is p name entries h = rw h refl

letter_cause : {A : Type 0} (p : Partial) (l : Option ℕ) (more : ℕ → Result A Cause) (c : Option Cause) → ((x : ℕ) → cause_in (more x) ≡ first_of (c ∷ []))
    → first_of (when cause.NotALetter (is_none l) ∷ when cause.RepeatedLetter (is_taken p l) ∷ c ∷ [])
    ≡ cause_in (and_then more (and_then (λ x. if list_any (λ y. y == x) (letters_of p.problem) then Err cause.RepeatedLetter else Ok x) (ok_or l cause.NotALetter)))
letter_cause p None more c h = refl
letter_cause p (Some x) more c h = by (list_any (λ y. y == x) (letters_of p.problem))
  where
    by : (taken : Bool) → first_of (when cause.RepeatedLetter taken ∷ c ∷ []) ≡ cause_in (and_then more (if taken then Err cause.RepeatedLetter else Ok x))
    by true = refl
    by false = sym (h x)

-- before the first pair a generator line is in order
abbrev pub in_order : (v : Version) (s : ℕ × ℕ) (p : Problem) → AreGenerators p → section_reached (begin_with v s p) ≤ 2
in_order v s p are = rw are.1 (omega arith)

-- the cause of a generator line
pub generator_cause : (v : Version) (s : ℕ × ℕ) (p : Problem) (name : Token) (fields : List Field) → AreGenerators p → first_of (generator_causes (begin_with v s p) name fields) ≡ cause_in (with_generator (is_wide v) (s, p) name fields)
generator_cause v s p name fields are =
    ap (λ late. first_of (when cause.LineOutOfOrder late ∷ when cause.NotALetter (is_none (letter_of (is_wide v) name)) ∷ when cause.RepeatedLetter (is_taken (begin_with v s p) (letter_of (is_wide v) name)) ∷ entries_cause s p fields ∷ []))
    (le-ltb 2 (section_reached (begin_with v s p)) (in_order v s p are))
    ∙ letter_cause (begin_with v s p) (letter_of (is_wide v) name) (λ x. generator_more s p x fields) (entries_cause s p fields) (λ x. more_cause s p x fields are.0)

-- a generator line is read
pub generator_reads : (v : Version) (s : ℕ × ℕ) (p next : Problem) (name : Token) (entries : List Token) → AreGenerators p → with_generator (is_wide v) (s, p) name (map field_of entries) ≡ Ok next
    → LineReads (begin_with v s p) (name ∷ codes "=" ∷ entries) (begin_with v s next)
generator_reads v s p next name entries are h = by (letter_of (is_wide v) name) refl h
  where
    new : (x : ℕ) → letter_of (is_wide v) name ≡ Some x → (taken : Bool) → list_any (λ y. y == x) (letters_of p) ≡ taken → and_then (λ x. generator_more s p x (map field_of entries)) (if taken then Err cause.RepeatedLetter else Ok x) ≡ Ok next
        → LineReads (begin_with v s p) (name ∷ codes "=" ∷ entries) (begin_with v s next)
    new x named true e h = absurd (cc)
    new x named false e h = grammar.generator {x = x} refl (in_order v s p are) named e h

    by : (l : Option ℕ) → letter_of (is_wide v) name ≡ l
        → and_then (λ x. generator_more s p x (map field_of entries)) (and_then (λ x. if list_any (λ y. y == x) (letters_of p) then Err cause.RepeatedLetter else Ok x) (ok_or l cause.NotALetter)) ≡ Ok next
        → LineReads (begin_with v s p) (name ∷ codes "=" ∷ entries) (begin_with v s next)
    by None e h = absurd (cc)
    by (Some x) e h = new x e (list_any (λ y. y == x) (letters_of p)) refl h

-- a generator of one kind
pub kind_is : {V : Type 0} (of : ℕ × ℕ → List Field → Result V Cause) (inj : PosedOf V → Problem) (wide : Bool) (d : DraftOf V) (name : Token) (fields : List Field)
    → and_then (λ x. and_then (λ g. Ok (inj (one_more d.posed x g))) (of d.sizes fields)) (new_letter_of wide d.posed.letters name) ≡ and_then (λ p. Ok (inj p)) (with_one of wide d name fields)
kind_is of inj wide d name fields = by (new_letter_of wide d.posed.letters name) (of d.sizes fields)
  where
    by : (l : Result ℕ Cause) (r : Result _ Cause)
        → and_then (λ x. and_then (λ g. Ok (inj (one_more d.posed x g))) r) l ≡ and_then (λ p. Ok (inj p)) (and_then (λ x. and_then (λ g. Ok (one_more d.posed x g)) r) l)
    by (Err c) r = refl
    by (Ok x) (Err c) = refl
    by (Ok x) (Ok g) = refl

-- generators without pairs stay so

kept_so : {V : Type 0} (inj : PosedOf V → Problem) (p : PosedOf V) (x : ℕ) (r : Result V Cause) (q : Problem) → ((g : V) → AreGenerators (inj (one_more p x g))) → and_then (λ g. Ok (inj (one_more p x g))) r ≡ Ok q → AreGenerators q
kept_so inj p x (Ok g) q are h = let same : inj (one_more p x g) ≡ q = cc in subst AreGenerators same (are g)
kept_so inj p x (Err c) q are h = absurd (cc)

more_stay : (sizes : ℕ × ℕ) (p : Problem) (x : ℕ) (fields : List Field) (q : Problem) → pairs_of p ≡ [] → generator_more sizes p x fields ≡ Ok q → AreGenerators q
more_stay sizes (problem.Presented o) x fields q e h = absurd (cc)
more_stay sizes (problem.Transf g) x fields q e h = kept_so (λ p. problem.Transf p) g x (transformation_of sizes fields) q (λ _. (refl, e)) h
more_stay sizes (problem.PPerm g) x fields q e h = kept_so (λ p. problem.PPerm p) g x (partial_permutation_of sizes fields) q (λ _. (refl, e)) h
more_stay sizes (problem.BMat g) x fields q e h = kept_so (λ p. problem.BMat p) g x (boolean_matrix_of sizes fields) q (λ _. (refl, e)) h
more_stay sizes (problem.MaxPlus g) x fields q e h = kept_so (λ p. problem.MaxPlus p) g x (truncated_matrix_of sizes fields) q (λ _. (refl, e)) h

pub generators_stay : (wide : Bool) (s : Start) (name : Token) (fields : List Field) (q : Problem) → AreGenerators s.1 → with_generator wide s name fields ≡ Ok q → AreGenerators q
generators_stay wide s name fields q are h = by (new_letter_of wide (letters_of s.1) name) h
  where
    by : (l : Result ℕ Cause) → and_then (λ x. generator_more s.0 s.1 x fields) l ≡ Ok q → AreGenerators q
    by (Ok x) h = more_stay s.0 s.1 x fields q are.1 h
    by (Err c) h = absurd (cc)
