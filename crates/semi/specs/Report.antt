-- What is due for the bytes of a script, and what goes where.
use Rattle.std.specs.Prelude.{◌≢◌, ℕ, All, Bool, List, Option}
use Rattle.ports.specs.Bytes.{TakesAll, TakesPrefix}
use Rattle.problem.specs.declared.budgets.Budgets.{Budgets}
use Rattle.query_lang.specs.Asked.{ScriptOf}
use Rattle.query_answers.specs.declared.awaited.Awaited.TheVariants.{Log}
use Rattle.report.specs.declared.bounds.Bounds.{Bounds}
use Rattle.query_answers.specs.Answer.{awaited_by}
use Rattle.report.specs.Answers.{AreAllLines, AreFirstLines}
use Rattle.settings.specs.declared.Settings.{Settings}
use Rattle.run_parts.specs.Input.{IsScript}

-- what may be used up on a problem under these settings
abbrev pub budgets_of : Settings → Budgets
budgets_of settings = record {
  defs = settings.defs;
  rows = settings.rows;
  length = settings.length;
  elements = settings.elements;
}

-- what the answers may use under these settings
abbrev pub bounds_of : Settings → Bounds
bounds_of settings = record {
  budgets = budgets_of settings;
  classes = settings.classes;
  workers = settings.workers;
}

-- where the input is a script, no query of it asks for a chain
abbrev pub AsksNoChain : List ℕ → Type 0
AsksNoChain input = (script : ScriptOf) → IsScript input script
    → All (λ query. awaited_by query ≢ Log) script.queries

-- the report of the input
pub record IsReport (settings : Settings) (input report : List ℕ) (undecided : Bool) : Type 0 where
  pub script : ScriptOf
  pub is_script : IsScript input script
  pub are_lines : AreAllLines (bounds_of settings) script.problem script.queries report undecided

-- the input has a report, with an undecided answer or with none
abbrev pub HasReport : Settings → List ℕ → Bool → Type 0
HasReport settings input undecided = (report : List ℕ) × IsReport settings input report undecided

-- the sink gained the report of the input
pub record GainsReport (settings : Settings) (input : List ℕ) (undecided : Bool)
    (old new : Option (List ℕ)) : Type 0 where
  pub report : List ℕ
  pub is_report : IsReport settings input report undecided
  pub gained : TakesAll old new report

-- the sink gained a beginning of the report of the input
pub record GainsBeginning (settings : Settings) (input : List ℕ)
    (old new : Option (List ℕ)) : Type 0 where
  pub script : ScriptOf
  pub is_script : IsScript input script
  pub beginning : List ℕ
  pub are_first : AreFirstLines (bounds_of settings) script.problem script.queries beginning
  pub gained : TakesPrefix old new beginning
