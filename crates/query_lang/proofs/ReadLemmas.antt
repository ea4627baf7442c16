-- Scripts that are read line by line.
use Rattle.std.proofs.Common.{◌≡◌, ℕ, suc, ◌+◌, ◌≤◌, List, [], ◌∷◌, ◌++◌, length, map, take, drop, Option, Some, None, refl, sym, ap, ◌∙◌, arith, subst, inl, inr, ◌==◌}
use Rattle.std.specs.Iterator.{Yields}
use Rattle.std.proofs.lemmas.List.{length-map, map-append, take-append-drop}
use Rattle.std.proofs.lemmas.Iterator.{YieldsList}
use Rattle.std.proofs.lemmas.Iterator.Consumers.{YieldsList-turn, YieldsList-end, YieldsList-so_far}
use Rattle.std.proofs.lemmas.List.Splits.{length-slice_split}
use Rattle.std.proofs.lemmas.List.Sums.{count_by-le-length}
use Rattle.std.proofs.Math.Seq.{drop-cons}
use Rattle.line_parts.specs.declared.cause.Cause.{Cause}
use Rattle.line_parts.specs.Token.{Line, cut_lines, tokens_of}
use Rattle.query_lang.specs.Asked.{ScriptOf}
use Rattle.query_lang.specs.Faults.{IsFaultFor, IsScriptFault, fault_at_line}
use Rattle.query_lang.specs.Grammar.{Partial, Said, Nothing, Begun, Reads, Step, more, none, lines_of, script_in}
use Rattle.query_lang.specs.LineCauses.{AreScript, cause_at_end, cause_of_line}

one_more : (s t u : Said) (lines : List Line) (line : Line) → Reads s lines t → Step t line u → Reads s (lines ++ line ∷ []) u
one_more s t u [] line none step = more step none
one_more s t u (x ∷ lines) line (more {t = v} first rest) step = more first (one_more v t u lines line rest step)

-- one line more
pub read_more : (before : List (List ℕ)) (x : List ℕ) (s t : Said) → Reads Nothing (map tokens_of before) s → Step s (tokens_of x) t → Reads Nothing (map tokens_of (before ++ x ∷ [])) t
read_more before x s t reads step =
    subst (λ lines. Reads Nothing lines t) (sym (map-append tokens_of before (x ∷ []))) (one_more Nothing s t (map tokens_of before) (tokens_of x) reads step)

-- the fault of a line is the first fault of the script
pub line_fault : (bytes : List ℕ) (before after : List (List ℕ)) (x : List ℕ) (s : Said) (fault : Option Cause) (n : ℕ) → cut_lines bytes ≡ before ++ x ∷ after → Reads Nothing (map tokens_of before) s → n ≡ length before + 1
    → IsFaultFor (cause_of_line s (tokens_of x)) fault → IsScriptFault bytes (fault_at_line n fault)
line_fault bytes before after x s None n whole reads count h = tt
line_fault bytes before after x s (Some cause) n whole reads count h = (
  cause,
  inl (record {
    before = map tokens_of before;
    line = tokens_of x;
    after = map tokens_of after;
    said = s;
    whole = ap (map tokens_of) whole ∙ map-append tokens_of before (x ∷ after);
    number = omega (arith, count, length-map before tokens_of);
    reads = reads;
    faulty = h;
  }),
  refl,
)

-- what is missing at the end is the fault of the script
pub end_fault : (bytes : List ℕ) (lines : List (List ℕ)) (s : Said) (fault : Option Cause) (n : ℕ) → lines ≡ cut_lines bytes → Reads Nothing (map tokens_of lines) s → n ≡ length lines
    → IsFaultFor (cause_at_end s) fault → IsScriptFault bytes (fault_at_line n fault)
end_fault bytes lines s None n whole reads count h = tt
end_fault bytes lines s (Some cause) n whole reads count h =
    let all : Reads Nothing (lines_of bytes) s = subst (λ lines. Reads Nothing (map tokens_of lines) s) whole reads in
    (cause, inr (record { said = s; number = count ∙ ap (λ (lines : List (List ℕ)). length lines) whole ∙ sym (length-map (cut_lines bytes) tokens_of); reads = all; missing = h }), refl)

-- the script of lines that were all read
pub whole_script : (bytes : List ℕ) (lines : List (List ℕ)) (s : Said) (p : ScriptOf) → lines ≡ cut_lines bytes → Reads Nothing (map tokens_of lines) s → cause_at_end s ≡ None
    → (said : Partial) × (s ≡ Begun said) × (script_in said ≡ p) → AreScript (lines_of bytes) p
whole_script bytes lines s p whole reads some found =
    record {
      said = found.0;
      reads = subst (λ s. Reads Nothing (lines_of bytes) s) found.1 (subst (λ lines. Reads Nothing (map tokens_of lines) s) whole reads);
      whole = sym (ap cause_at_end found.1) ∙ some;
      is = found.2;
    }

-- a `for` at one of the items of a list: those before it, and those behind it
pub items_around : {S A B : Type 0} {steps : S → Option A → S → Type 0} (s t : S) (v : A → B) (xs : List A) (yielded : Yields steps s xs t) (r : Option A) (u : S) (x : A) → r ≡ Some x → steps t r u → (all : List B) → YieldsList steps v s all
    → all ≡ map v xs ++ v x ∷ drop (suc (length xs)) all
items_around s t v xs yielded r u x is step all road =
    let n : ℕ = length xs in
    let before = YieldsList-so_far road xs _ yielded in
    let turn = YieldsList-turn road xs _ yielded r u x is step in
    sym (take-append-drop n all) ∙ ap (λ t. take n all ++ t) (drop-cons all n (v x) turn.0) ∙ ap (λ y. take n all ++ y ∷ drop (suc n) all) (sym turn.1) ∙ ap (λ t. t ++ v x ∷ drop (suc n) all) (sym before)

-- a `for` at its end
pub items_all : {S A B : Type 0} {steps : S → Option A → S → Type 0} (s t : S) (v : A → B) (xs : List A) (yielded : Yields steps s xs t) (r : Option A) (u : S) → r ≡ None → steps t r u → (all : List B) → YieldsList steps v s all → map v xs ≡ all
items_all s t v xs yielded r u is step all road = (YieldsList-end road xs _ yielded r u is step).0

-- there is at most one line more than bytes
pub few_lines : (bytes : List ℕ) → length (cut_lines bytes) ≤ length bytes + 1
few_lines bytes = omega (arith, length-slice_split (λ b. b == 10) bytes, count_by-le-length (λ b. b == 10) bytes)
