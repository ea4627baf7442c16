-- What the chains of a logged completion say.
use Rattle.std.proofs.Common.{◌≡◌, ℕ, true, List, [], refl, sym, ◌∙◌, ap, arith, subst, subst₂, ◌⊎◌, inl, inr, Option, None, Some, Result, Ok, Err, is_some, OnOk, MatchResult}
use Rattle.theory.specs.Word.{Word}
use Rattle.theory.specs.Congruence.{Presentation, IsWellFormed, of_presentation}
use Rattle.theory.specs.Chain.{Related}
use Rattle.theory.specs.Completion.{IsReduced, Listed, Reduces}
use Rattle.theory.proofs.Completed.{completed_reduced}
use Rattle.theory.proofs.RuleLists.{listed_reduced, listed_reduces}
use Rattle.race.specs.declared.engines.Progress.{Progress}
use Rattle.race.specs.declared.engines.Progress.TheVariants.{More, Decided, Spent, NoMemory}
use Rattle.chains.specs.Derivations.{Derived}
use Rattle.knuth_bendix.specs.Logs.{IsLogOf, KeepsLog, LogsHeld}
use Rattle.knuth_bendix.proofs.LogLaws.{log_grows, log_of_none, logged_grows, none_held}
use Rattle.knuth_bendix.proofs.SortedRules.{IsDecidedRun}

-- related words are reduced to one
module _ (p : Presentation) (L : ℕ) (rules : List (Word × Word)) (run : IsDecidedRun p L rules) where
  well_formed : IsWellFormed (of_presentation p)
  well_formed = record { relations = run.elements; pairs = λ k d less. absurd (omega arith) }

  pub reduced_alike : (u v x y : Word) → Reduces (Listed rules) u x → IsReduced (Listed rules) x → Reduces (Listed rules) v y → IsReduced (Listed rules) y
      → Related (of_presentation p) u v → x ≡ y
  reduced_alike u v x y down_u here down_v there related =
      (completed_reduced p L well_formed run.ends u v x y ((listed_reduces p L rules run.are u x).0 down_u) ((listed_reduced p L rules run.are x).0 here)
      ((listed_reduces p L rules run.are v y).0 down_v) ((listed_reduced p L rules run.are y).0 there)).0 related

-- something is logged
pub some_logged : (log : Option Derived) → is_some log ≡ true → (d : Derived) × (log ≡ Some d)
some_logged None is = let bad : ⊥ = cc in absurd bad
some_logged (Some d) is = (d, refl)

pub logged_of : (p : Presentation) (log : Option Derived) (d : Derived) → IsLogOf p log → log ≡ Some d → d.presentation ≡ p
logged_of p log d is same = subst (IsLogOf p) same is

-- what a turn leaves of the log
is_starved : (said : Progress) → (said ≡ NoMemory) ⊎ (said ≡ NoMemory → ⊥)
is_starved More = inr (λ e. cc)
is_starved Decided = inr (λ e. cc)
is_starved Spent = inr (λ e. cc)
is_starved NoMemory = inl refl

pub record IsSettled (p : Presentation) (old settled : Option Derived) (rules equations : List (Word × Word)) (said : Progress) : Type 0 where
  pub log_of : IsLogOf p settled
  pub held : LogsHeld settled rules equations
  pub same : (said ≡ NoMemory → ⊥) → is_some settled ≡ is_some old

pub settled_log : {E : Type 0} (p : Presentation) (old new settled : Option Derived) (rules equations rest : List (Word × Word))
    (turn : Result Progress E) (said : Progress)
    → IsLogOf p old → OnOk turn (KeepsLog old new rules equations)
    → MatchResult turn (λ t. (said ≡ t) × (rest ≡ rules)) (λ _. (said ≡ NoMemory) × (rest ≡ []))
    → ((said ≡ NoMemory → ⊥) → settled ≡ new) → (said ≡ NoMemory → settled ≡ None)
    → IsSettled p old settled rest equations said
settled_log p old new settled rules equations rest (Ok t) said is keeps left kept lost =
    record {
      log_of = elim (is_starved said) [
        | inl e ↦ log_of_none p settled (lost e)
        | inr n ↦ subst (IsLogOf p) (sym (kept n)) (log_grows p old new is keeps.grows)
      ];
      held = elim (is_starved said) [
        | inl e ↦ none_held settled rest equations (lost e)
        | inr n ↦
            subst₂ (λ (log : Option Derived) (rs : List (Word × Word)). LogsHeld log rs equations) (sym (kept n)) (sym left.1) keeps.held
      ];
      same = λ n. ap (λ (o : Option Derived). is_some o) (kept n) ∙ logged_grows old new keeps.grows;
    }
settled_log p old new settled rules equations rest (Err none) said is keeps left kept lost =
    record {
      log_of = log_of_none p settled (lost left.0);
      held = none_held settled rest equations (lost left.0);
      same = λ n. absurd (n left.0);
    }
