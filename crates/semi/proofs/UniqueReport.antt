-- An input has one report, and beginnings are prefixes of it.
use Rattle.std.proofs.Common.{◌≡◌, ℕ, All, Bool, ◌||◌, List, [], ◌∷◌, ◌++◌, Option, Some, None, IfSome, refl, sym, ap, ap₂, ◌∙◌, subst}
use Rattle.std.specs.Prelude.{◌≢◌}
use Rattle.std.specs.List.{flat_map, list_any}
use Rattle.std.proofs.lemmas.List.Elements.{All-head, All-tail}
use Rattle.std.proofs.lemmas.Grind.{flat_map-append}
use Rattle.ports.specs.Bytes.{TakesPrefix}
use Rattle.ports.proofs.BytesLemmas.{prefix_more}
use Rattle.problem.specs.declared.kinds.Problem.{Problem}
use Rattle.query_lang.specs.declared.script.Query.{Query}
use Rattle.query_lang.specs.Asked.{ScriptOf}
use Rattle.query_lang.proofs.ScriptLaw.{one_script}
use Rattle.query_answers.specs.declared.awaited.Awaited.TheVariants.{Log}
use Rattle.query_answers.specs.Answer.{IsAnswer, awaited_by}
use Rattle.query_answers.proofs.UniqueAnswer as unique
use Rattle.settings.specs.declared.Settings.{Settings}
use Rattle.run_parts.specs.declared.fault.Fault.{Fault}
use Rattle.report.specs.Answers.{Answer, AreAnswers, AreFirstAnswers, IsAnswerOf, answer_bytes, leaves_undecided}
use Rattle.run_parts.specs.Input.{IsRefusal, IsRefused, IsScript}
use Rattle.run_parts.proofs.InputLaws.{no_refused_script}
use Rattle.semi.specs.Report.{AsksNoChain, GainsBeginning, GainsReport, IsReport, bounds_of, budgets_of}

-- the query asks for no chain
abbrev NoChain : Query → Type 0
NoChain query = awaited_by query ≢ Log

module _ (settings : Settings) (problem : Problem) where
  one_status : (query : Query) (x y : Answer) → IsAnswerOf (bounds_of settings) problem query x → IsAnswerOf (bounds_of settings) problem query y → x.undecided ≡ y.undecided
  one_status query x y p q = unique.one_status problem (budgets_of settings) settings.classes query x.lines y.lines x.undecided y.undecided p q

  one_answer : (query : Query) → NoChain query → (x y : Answer) → IsAnswerOf (bounds_of settings) problem query x → IsAnswerOf (bounds_of settings) problem query y → x ≡ y
  one_answer query none x y p q =
      ap₂ (λ (lines : List (List ℕ)) (undecided : Bool). let a : Answer = record { lines = lines; undecided = undecided } in a)
      (unique.one_answer problem (budgets_of settings) settings.classes query x.lines y.lines x.undecided y.undecided none p q) (one_status query x y p q)

  -- all answers are alike in whether they are undecided
  one_due : (queries : List Query) (xs ys : List Answer) → AreAnswers (bounds_of settings) problem queries xs → AreAnswers (bounds_of settings) problem queries ys → list_any leaves_undecided xs ≡ list_any leaves_undecided ys
  one_due [] [] [] p q = refl
  one_due [] (x ∷ xs) ys p q = absurd p
  one_due [] [] (y ∷ ys) p q = absurd q
  one_due (r ∷ queries) [] ys p q = absurd p
  one_due (r ∷ queries) (x ∷ xs) [] p q = absurd q
  one_due (r ∷ queries) (x ∷ xs) (y ∷ ys) p q = ap₂ ◌||◌ (one_status r x y p.0 q.0) (one_due queries xs ys p.1 q.1)

  one_list : (queries : List Query) → All NoChain queries → (xs ys : List Answer) → AreAnswers (bounds_of settings) problem queries xs → AreAnswers (bounds_of settings) problem queries ys → xs ≡ ys
  one_list [] none [] [] p q = refl
  one_list [] none (x ∷ xs) ys p q = absurd p
  one_list [] none [] (y ∷ ys) p q = absurd q
  one_list (r ∷ queries) none [] ys p q = absurd p
  one_list (r ∷ queries) none (x ∷ xs) [] p q = absurd q
  one_list (r ∷ queries) none (x ∷ xs) (y ∷ ys) p q =
      ap₂ ◌∷◌ (one_answer r (All-head NoChain r queries none) x y p.0 q.0) (one_list queries (All-tail NoChain r queries none) xs ys p.1 q.1)

  -- the first answers are the beginning of all answers
  first_of_all : (queries : List Query) → All NoChain queries → (xs ys : List Answer) → AreFirstAnswers (bounds_of settings) problem queries xs → AreAnswers (bounds_of settings) problem queries ys → (zs : List Answer) × (ys ≡ xs ++ zs)
  first_of_all queries none [] ys p q = (ys, refl)
  first_of_all [] none (x ∷ xs) ys p q = absurd p
  first_of_all (r ∷ queries) none (x ∷ xs) [] p q = absurd q
  first_of_all (r ∷ queries) none (x ∷ xs) (y ∷ ys) p q =
      let rest = first_of_all queries (All-tail NoChain r queries none) xs ys p.1 q.1 in
      (rest.0, sym (ap₂ ◌∷◌ (one_answer r (All-head NoChain r queries none) x y p.0 q.0) (sym rest.1)))

-- where a script was reported, the input is not refused
pub reported_not_refused : (left : Option (List ℕ)) (settings : Settings) (undecided : Bool) (old new : Option (List ℕ)) (A : Type 0)
    → IfSome left (λ input. GainsReport settings input undecided old new) → IfSome left (λ input. IsRefused input → A)
reported_not_refused None settings undecided old new A h = tt
reported_not_refused (Some input) settings undecided old new A h = λ refused. absurd (no_refused_script input h.is_report.script h.is_report.is_script refused)

-- where the input is refused, it is no script
pub refused_no_script : (left : Option (List ℕ)) (fault : Fault) (A : Type 0) → IfSome left (λ input. IsRefusal input fault) → IfSome left (λ input. (script : ScriptOf) → IsScript input script → A)
refused_no_script None fault A h = tt
refused_no_script (Some input) fault A h = λ script s. absurd (no_refused_script input script s (fault, h))

-- where a beginning was reported, the input is not refused
pub begun_not_refused : (left : Option (List ℕ)) (settings : Settings) (old new : Option (List ℕ)) (A : Type 0)
    → IfSome left (λ input. GainsBeginning settings input old new) → IfSome left (λ input. IsRefused input → A)
begun_not_refused None settings old new A h = tt
begun_not_refused (Some input) settings old new A h = λ refused. absurd (no_refused_script input h.script h.is_script refused)

-- what is refused for a fault is refused
pub why_refused : (left : Option (List ℕ)) (fault : Fault) → IfSome left (λ input. IsRefusal input fault) → IfSome left IsRefused
why_refused None fault h = tt
why_refused (Some input) fault h = (fault, h)

pub any_refused : (left : Option (List ℕ)) (A : Type 0) → A → IfSome left (λ input. IsRefused input → A)
any_refused None A a = tt
any_refused (Some input) A a = λ refused. a

pub any_script : (left : Option (List ℕ)) (A : Type 0) → A → IfSome left (λ input. (script : ScriptOf) → IsScript input script → A)
any_script None A a = tt
any_script (Some input) A a = λ script s. a

-- settings with the same budgets and bound have the same answers
same_answers : (s t : Settings) (problem : Problem) (queries : List Query) (answers : List Answer) → budgets_of s ≡ budgets_of t → s.classes ≡ t.classes
    → AreAnswers (bounds_of t) problem queries answers → AreAnswers (bounds_of s) problem queries answers
same_answers s t problem [] [] budgets classes e = tt
same_answers s t problem [] (a ∷ answers) budgets classes e = absurd e
same_answers s t problem (q ∷ queries) [] budgets classes e = absurd e
same_answers s t problem (q ∷ queries) (a ∷ answers) budgets classes e =
    let bound = subst (λ n. IsAnswer problem (budgets_of t) n q a.lines a.undecided) (sym classes) e.0 in (
      subst (λ b. IsAnswer problem b s.classes q a.lines a.undecided) (sym budgets) bound,
      same_answers s t problem queries answers budgets classes e.1,
    )

-- the answers of one report are those of the script of the other
answers_of : (settings : Settings) (input r s : List ℕ) (u v : Bool) (others : Settings) (p : IsReport settings input r u) (q : IsReport others input s v) → AreAnswers (bounds_of settings) q.script.problem q.script.queries p.are_lines.answers
answers_of settings input r s u v others p q =
    subst (λ t. AreAnswers (bounds_of settings) t.problem t.queries p.are_lines.answers) (one_script input p.script q.script p.is_script.reads q.is_script.reads) p.are_lines.correct

pub same_status : (settings others : Settings) (input r s : List ℕ) (u v : Bool) → budgets_of settings ≡ budgets_of others → settings.classes ≡ others.classes
    → IsReport settings input r u → IsReport others input s v → u ≡ v
same_status settings others input r s u v budgets classes p q =
    let answered = same_answers settings others q.script.problem q.script.queries q.are_lines.answers budgets classes q.are_lines.correct in
    let same = one_due settings q.script.problem q.script.queries p.are_lines.answers q.are_lines.answers (answers_of settings input r s u v others p q) answered in
    p.are_lines.status ∙ same ∙ sym q.are_lines.status

pub one_report : (settings others : Settings) (input r s : List ℕ) (u v : Bool) → budgets_of settings ≡ budgets_of others → settings.classes ≡ others.classes
    → AsksNoChain input → IsReport settings input r u → IsReport others input s v → r ≡ s
one_report settings others input r s u v budgets classes none p q =
    let answered = same_answers settings others q.script.problem q.script.queries q.are_lines.answers budgets classes q.are_lines.correct in
    let same = one_list settings q.script.problem q.script.queries (none q.script q.is_script) p.are_lines.answers q.are_lines.answers (answers_of settings input r s u v others p q) answered in
    p.are_lines.lines ∙ ap (flat_map answer_bytes) same ∙ sym q.are_lines.lines

pub beginning_prefix : (settings : Settings) (input report : List ℕ) (undecided : Bool) (old new : Option (List ℕ)) → AsksNoChain input → IsReport settings input report undecided → GainsBeginning settings input old new → TakesPrefix old new report
beginning_prefix settings input report undecided old new none p q =
    let scripts : q.script ≡ p.script = one_script input q.script p.script q.is_script.reads p.is_script.reads in
    let first : AreFirstAnswers (bounds_of settings) p.script.problem p.script.queries q.are_first.answers = subst (λ t. AreFirstAnswers (bounds_of settings) t.problem t.queries q.are_first.answers) scripts q.are_first.correct in
    let rest = first_of_all settings p.script.problem p.script.queries (none p.script p.is_script) q.are_first.answers p.are_lines.answers first p.are_lines.correct in
    let whole : report ≡ flat_map answer_bytes q.are_first.answers ++ flat_map answer_bytes rest.0 = p.are_lines.lines ∙ ap (flat_map answer_bytes) rest.1 ∙ flat_map-append answer_bytes q.are_first.answers rest.0 in
    subst (TakesPrefix old new) (sym (whole ∙ ap (λ front. front ++ flat_map answer_bytes rest.0) (sym q.are_first.lines))) (prefix_more old new q.beginning (flat_map answer_bytes rest.0) q.gained)
