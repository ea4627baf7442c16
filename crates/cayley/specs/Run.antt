-- What a search for the classes of elements has found, turn by turn.
use Rattle.std.specs.Prelude.{◌≡◌, ℕ, zero, suc, ◌<◌, ◌≤◌, Bool, false, List, length, Option, None, Some, refl}
use Rattle.std.specs.Coded.{Coded, code_by, coded×, coded_list, coded_ℕ, coded_option}
use Rattle.theory.specs.Word.{Word}
use Rattle.theory.specs.Congruence.{AreElements}
use Rattle.theory.specs.Value.{HasAtMostValues, HasMoreValues}
use Rattle.theory.specs.declared.Kind.{Kind}
use Rattle.presentation.specs.Codes.{coded_kind, coded_pairs}
use Rattle.elements.specs.Generators.{HaveOneShape, value_by}
use Rattle.froidure_pin.specs.declared.tables.CayleyTables.{CayleyTables}
use Rattle.race.specs.declared.engines.Progress.{Progress}
use Rattle.race.specs.declared.engines.Progress.TheVariants.{More, Decided, Spent, NoMemory}
use Rattle.cayley.specs.Tables.{AreClasses}
use Rattle.cayley.specs.Whole.{AreTablesOf}

-- generators, pairs of a kind, and a bound on the number of values
pub record PairsTask (V : Type 0) : Type 0 where
  pub generators : List V
  pub kind : Kind
  pub pairs : List (Word × Word)
  pub bound : ℕ

-- a task, the tables and the classes once they are found, and what the last turn gave
pub record PairsRun (V : Type 0) : Type 0 where
  pub task : PairsTask V
  pub tables : Option CayleyTables
  pub classes : Option (List ℕ)
  pub said : Progress

-- how answers, tables and runs are told apart
abbrev pub progress_number : Progress → ℕ
progress_number More = 0
progress_number Decided = 1
progress_number Spent = 2
progress_number NoMemory = 3

abbrev pub progress_of : ℕ → Progress
progress_of zero = More
progress_of (suc zero) = Decided
progress_of (suc (suc zero)) = Spent
progress_of (suc (suc (suc n))) = NoMemory

abbrev pub progress_back : (p : Progress) → progress_of (progress_number p) ≡ p
progress_back More = refl
progress_back Decided = refl
progress_back Spent = refl
progress_back NoMemory = refl

abbrev pub coded_rows : Coded (List (List ℕ))
coded_rows = coded_list (coded_list coded_ℕ)

abbrev pub tables_code : Coded CayleyTables
tables_code =
    code_by (List (List ℕ) × (List (List ℕ) × (List (List ℕ) × List ℕ)))
    (coded× coded_rows (coded× coded_rows (coded× coded_rows (coded_list coded_ℕ))))
    (λ t. (t.words, (t.right, (t.left, t.letters))))
    (λ p. record { words = p.0; right = p.1.0; left = p.1.1.0; letters = p.1.1.1 })
    (λ _. refl)

abbrev pub task_code : {V : Type 0} → Coded V → Coded (PairsTask V)
task_code {V} code =
    code_by (List V × (Kind × (List (Word × Word) × ℕ)))
    (coded× (coded_list code) (coded× coded_kind (coded× coded_pairs coded_ℕ)))
    (λ t. (t.generators, (t.kind, (t.pairs, t.bound))))
    (λ p. record { generators = p.0; kind = p.1.0; pairs = p.1.1.0; bound = p.1.1.1 })
    (λ _. refl)

abbrev pub run_code : {V : Type 0} → Coded V → Coded (PairsRun V)
run_code {V} code =
    code_by (PairsTask V × (Option CayleyTables × (Option (List ℕ) × Progress)))
    (coded× (task_code code)
    (coded× (coded_option tables_code)
    (coded× (coded_option (coded_list coded_ℕ))
    (code_by ℕ coded_ℕ progress_number progress_of progress_back))))
    (λ r. (r.task, (r.tables, (r.classes, r.said))))
    (λ p. record { task = p.0; tables = p.1.0; classes = p.1.1.0; said = p.1.1.1 })
    (λ _. refl)

-- what generators and pairs are to be
pub record IsTask {V : Type 0} (shape : V → ℕ × ℕ) (task : PairsTask V) : Type 0 where
  pub some : 0 < length task.generators
  pub few : length task.generators ≤ 256
  pub one_shape : HaveOneShape shape task.generators
  pub elements : AreElements false (length task.generators) task.pairs

-- the generators have at most so many values as the task allows
abbrev pub HasFew : {V : Type 0} → (V → V → V) → (V → V → Bool) → PairsTask V → Type 0
HasFew {V} product equal task = (unused : V)
    → HasAtMostValues (length task.generators) equal (value_by product task.generators unused)
    task.bound

-- they have more
abbrev pub HasMore : {V : Type 0} → (V → V → V) → (V → V → Bool) → PairsTask V → Type 0
HasMore {V} product equal task = (unused : V)
    → HasMoreValues (length task.generators) equal (value_by product task.generators unused)
    task.bound

-- the tables are those of the task's generators
abbrev pub AreTaskTables : {V : Type 0} → (V → V → V) → (V → V → Bool) → PairsTask V
    → CayleyTables → Type 0
AreTaskTables {V} product equal task t =
    (unused : V) → AreTablesOf product equal task.generators unused t

-- tables and classes are both found
pub record IsDone (kind : Kind) (pairs : List (Word × Word)) (tables : Option CayleyTables)
    (classes : Option (List ℕ)) : Type 0 where
  pub t : CayleyTables
  pub c : List ℕ
  pub tables_are : tables ≡ Some t
  pub classes_are : classes ≡ Some c
  pub found : AreClasses t kind pairs c

-- what was found is right, and so is what the last turn gave
pub record IsRun {V : Type 0} (shape : V → ℕ × ℕ) (product : V → V → V) (equal : V → V → Bool)
    (run : PairsRun V) : Type 0 where
  pub task : IsTask shape run.task
  pub tables : (t : CayleyTables) → run.tables ≡ Some t
      → AreTaskTables product equal run.task t
  pub few : (t : CayleyTables) → run.tables ≡ Some t → HasFew product equal run.task
  pub decided : run.said ≡ Decided → IsDone run.task.kind run.task.pairs run.tables run.classes
  pub spent : run.said ≡ Spent → HasMore product equal run.task

-- turns left, of two
abbrev pub left_in : Progress → Option CayleyTables → ℕ
left_in More None = 2
left_in More (Some t) = 1
left_in Decided tables = 0
left_in Spent tables = 0
left_in NoMemory tables = 0

abbrev pub left_of : {V : Type 0} → PairsRun V → ℕ
left_of run = left_in run.said run.tables

-- what the first turn leaves, by what it gives
abbrev pub AreListed : {V : Type 0} → (V → V → V) → (V → V → Bool) → List V → V → ℕ
    → Option CayleyTables → Progress → Type 0
AreListed product equal generators unused bound tables More =
    (t : CayleyTables) × (tables ≡ Some t)
    × HasAtMostValues (length generators) equal (value_by product generators unused) bound
    × AreTablesOf product equal generators unused t
AreListed product equal generators unused bound tables Decided = ⊥
AreListed product equal generators unused bound tables Spent =
    (tables ≡ None)
    × HasMoreValues (length generators) equal (value_by product generators unused) bound
AreListed product equal generators unused bound tables NoMemory = tables ≡ None

-- what the second turn leaves, by what it gives
abbrev pub AreSought : CayleyTables → Kind → List (Word × Word) → Option (List ℕ) → Progress
    → Type 0
AreSought t kind pairs classes More = ⊥
AreSought t kind pairs classes Decided =
    (c : List ℕ) × (classes ≡ Some c) × AreClasses t kind pairs c
AreSought t kind pairs classes Spent = ⊥
AreSought t kind pairs classes NoMemory = Unit {0}
