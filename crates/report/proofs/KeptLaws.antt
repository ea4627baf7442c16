-- What a state keeps from one call to the next.
use Rattle.std.proofs.Common.{◌≡◌, ◌∙◌, false, true, true≢false, is_some, Option, None, Some, Result, Ok, Err, IfOk, IfSome, OnOk, refl, sym, ap, subst}
use Rattle.std.specs.Result.{result_and}
use Rattle.problem.specs.declared.kinds.Problem.{Problem}
use Rattle.congruence.specs.Solution.{Solution}
use Rattle.congruence.specs.Verdicts.{IsVerdictOf}
use Rattle.congruence.specs.declared.solving.Verdict.{Verdict}
use Rattle.congruence.specs.declared.solving.Verdict.TheVariants.{Known}
use Rattle.knuth_bendix.specs.Runs.{CompletionRun}
use Rattle.ports.specs.declared.fault.WriteFault.{WriteFault}
use Rattle.query_lang.specs.declared.script.Query.{Query}
use Rattle.report_lines.specs.Known.{AreKnownOf, KeepsKnown}
use Rattle.report_lines.specs.declared.known.KnownElements.{KnownElements}
use Rattle.report.specs.declared.answers.Answered.{Answered}
use Rattle.report.specs.declared.answers.Answered.TheVariants.{Defined, Undecided}
use Rattle.report.specs.declared.state.State.{State}
use Rattle.query_answers.specs.Chains.{IsLogOf}
use Rattle.report.specs.Kept.{HasElements, KeepsFound, KeepsOf}

-- a value that is there stays
same_stays : {A : Type 0} (old new : Option A) → new ≡ old → IfSome old (λ x. new ≡ Some x)
same_stays None new e = tt
same_stays (Some x) new e = e

value_stays : {A : Type 0} (o : Option A) → IfSome o (λ x. o ≡ Some x)
value_stays o = same_stays o o refl

none_stays : {A : Type 0} (old new : Option A) → old ≡ None → IfSome old (λ x. new ≡ Some x)
none_stays old new e = subst (λ o. IfSome o (λ x. new ≡ Some x)) (sym e) tt

goes_on : {A : Type 0} (old mid new : Option A) → IfSome old (λ x. mid ≡ Some x) → IfSome mid (λ x. new ≡ Some x) → IfSome old (λ x. new ≡ Some x)
goes_on None mid new p q = tt
goes_on (Some x) mid new p q = subst (λ o. IfSome o (λ x. new ≡ Some x)) p q

-- of elements
pub known_stays : (known : KnownElements) → KeepsKnown known known
known_stays known = record {
  names = record { right = value_stays known.names.right; left = value_stays known.names.left; both = value_stays known.names.both };
  texts = value_stays known.texts;
}

known_goes_on : (old mid new : KnownElements) → KeepsKnown old mid → KeepsKnown mid new → KeepsKnown old new
known_goes_on old mid new p q = record {
  names = record {
    right = goes_on old.names.right mid.names.right new.names.right p.names.right q.names.right;
    left = goes_on old.names.left mid.names.left new.names.left p.names.left q.names.left;
    both = goes_on old.names.both mid.names.both new.names.both p.names.both q.names.both;
  };
  texts = goes_on old.texts mid.texts new.texts p.texts q.texts;
}

-- of the problem
pub found_stays : (state : State) → KeepsFound state state
found_stays state = record { verdict = value_stays state.verdict; completion = value_stays state.completion; elements = known_stays state.elements }

pub found_goes_on : (old mid new : State) → KeepsFound old mid → KeepsFound mid new → KeepsFound old new
found_goes_on old mid new p q = record {
  verdict = goes_on old.verdict mid.verdict new.verdict p.verdict q.verdict;
  completion = goes_on old.completion mid.completion new.completion p.completion q.completion;
  elements = known_goes_on old.elements mid.elements new.elements p.elements q.elements;
}

-- the state with this verdict and what is known of elements
abbrev pub with_verdict : State → Option Verdict → KnownElements → State
with_verdict old verdict elements =
    record { budgets = old.budgets; classes = old.classes; workers = old.workers; verdict = verdict; completion = old.completion; elements = elements }

-- the same verdict is of the problem, and stays
pub same_kept : (p : Problem) (old : State) (verdict : Option Verdict) (elements : KnownElements) → verdict ≡ old.verdict → KeepsOf p old → AreKnownOf p elements → KeepsOf p (with_verdict old verdict elements)
same_kept p old verdict elements same kept are = record { verdict = subst (λ v. IfSome v (IsVerdictOf p old.budgets)) (sym same) kept.verdict; completion = kept.completion; elements = are }

pub same_found : (old : State) (verdict : Option Verdict) (elements : KnownElements) → verdict ≡ old.verdict → KeepsKnown old.elements elements → KeepsFound old (with_verdict old verdict elements)
same_found old verdict elements same keeps = record { verdict = same_stays old.verdict verdict same; completion = value_stays old.completion; elements = keeps }

-- what is known of the classes is as it was
pub same_known : (found : Option Verdict) (verdict : Verdict) (solved new : Solution) → found ≡ Some verdict → verdict ≡ Known solved → new ≡ solved → Some (Known new) ≡ found
same_known found verdict solved new is known same = ap Some (ap Known same ∙ sym known) ∙ sym is

-- a first verdict
pub new_verdict : (p : Problem) (old : State) (next : Option Verdict) (verdict : Verdict) → next ≡ Some verdict → IsVerdictOf p old.budgets verdict → KeepsOf p old → KeepsOf p (with_verdict old next old.elements)
new_verdict p old next verdict e is kept = record { verdict = subst (λ v. IfSome v (IsVerdictOf p old.budgets)) (sym e) is; completion = kept.completion; elements = kept.elements }

pub verdict_found : (old : State) (next : Option Verdict) → old.verdict ≡ None → KeepsFound old (with_verdict old next old.elements)
verdict_found old next none = record { verdict = none_stays old.verdict next none; completion = value_stays old.completion; elements = known_stays old.elements }

-- the state with this completion
abbrev pub with_completion : State → Option CompletionRun → State
with_completion old completion =
    record { budgets = old.budgets; classes = old.classes; workers = old.workers; verdict = old.verdict; completion = completion; elements = old.elements }

-- a first completion
pub new_completion : (p : Problem) (old : State) (next : Option CompletionRun) (completion : CompletionRun) → next ≡ Some completion → IsLogOf p old.budgets.length completion → KeepsOf p old → KeepsOf p (with_completion old next)
new_completion p old next completion e is kept = record { verdict = kept.verdict; completion = subst (λ k. IfSome k (IsLogOf p old.budgets.length)) (sym e) is; elements = kept.elements }

pub completion_found : (old : State) (next : Option CompletionRun) → old.completion ≡ None → KeepsFound old (with_completion old next)
completion_found old next none = record { verdict = value_stays old.verdict; completion = none_stays old.completion next none; elements = known_stays old.elements }

-- what was found is there
pub now_found : {A : Type 0} (o : Option A) (x : A) → o ≡ Some x → is_some o ≡ true
now_found o x e = ap (λ o. is_some o) e

-- what was not found is none
pub not_found : {A : Type 0} (o : Option A) → is_some o ≡ false → o ≡ None
not_found None e = refl
not_found (Some x) e = absurd (true≢false e)

-- what an answer needs of elements is known where it is told
pub told_with : (r : Result (Unit {0}) WriteFault) (s : Result Answered WriteFault) (query : Query) (known : KnownElements) → s ≡ result_and r (Ok Defined) → OnOk r (HasElements query known) → IfOk s (λ answered. answered ≡ Defined → HasElements query known)
told_with r s query known is h = subst (λ s. IfOk s (λ answered. answered ≡ Defined → HasElements query known)) (sym is) (of_result r h)
  where
    of_result : (r : Result (Unit {0}) WriteFault) → OnOk r (HasElements query known) → IfOk (result_and r (Ok Defined)) (λ answered. answered ≡ Defined → HasElements query known)
    of_result (Ok value) h = λ _. h
    of_result (Err fault) h = tt

-- nothing is told of them where the query is left undecided
pub none_told : (r : Result (Unit {0}) WriteFault) (s : Result Answered WriteFault) (query : Query) (known : KnownElements) → s ≡ result_and r (Ok Undecided) → IfOk s (λ answered. answered ≡ Defined → HasElements query known)
none_told r s query known is = subst (λ s. IfOk s (λ answered. answered ≡ Defined → HasElements query known)) (sym is) (of_result r)
  where
    of_result : (r : Result (Unit {0}) WriteFault) → IfOk (result_and r (Ok Undecided)) (λ answered. answered ≡ Defined → HasElements query known)
    of_result (Ok value) = λ e. absurd (cc)
    of_result (Err fault) = tt

-- a query that needs nothing of elements has what it needs
pub none_needed : {T E : Type 0} (result : Result T E) (q r : Query) (known : KnownElements) → q ≡ r → HasElements r known → OnOk result (HasElements q known)
none_needed (Ok v) q r known is h = subst (λ q. HasElements q known) (sym is) h
none_needed (Err e) q r known is h = tt
