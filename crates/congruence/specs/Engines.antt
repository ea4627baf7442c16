-- The engines of a race for a problem, and the ends of such races.
use Rattle.std.specs.Prelude.{◌≡◌, ℕ, List, [], ◌∷◌, Option, Some, slice_get}
use Rattle.theory.specs.Congruence.{Congruence, as_right}
use Rattle.theory.specs.Felsch.{FelschEnds}
use Rattle.theory.specs.Hlt.{HltEnds}
use Rattle.theory.specs.Completion.{CompletionEnds}
use Rattle.theory.specs.Marked.{completed}
use Rattle.elements.specs.BMat.{BooleanMatrix}
use Rattle.elements.specs.MaxPlus.{TruncatedMatrix}
use Rattle.problem.specs.Posed.{PosedOf}
use Rattle.problem.specs.Problem.{ElementKind, transformations, partial_permutations, boolean_matrices, truncated_matrices}
use Rattle.problem.specs.declared.budgets.Budgets.{Budgets}
use Rattle.problem.specs.declared.kinds.Problem.{Problem}
use Rattle.problem.specs.declared.kinds.Problem.TheVariants as problem
use Rattle.race.specs.declared.engines.Progress.{Progress}
use Rattle.race.specs.declared.engines.Progress.TheVariants.{Decided, More}
use Rattle.race.specs.declared.engines.Racer.{Ghosts}
use Rattle.race.specs.declared.lanes.Lane.{Lane}
use Rattle.race.specs.declared.playing.Outcome.{Outcome}
use Rattle.race.specs.Machine.{IsEnd, IsSound, outcome_of, state_at, tasks}
use Rattle.cayley.specs.Run.{PairsTask, HasFew, HasMore}
use Rattle.cayley.specs.Run as pairs
use Rattle.coset_enumeration.specs.Enumeration.{EnumerationTask}
use Rattle.tc_felsch.specs.Stage as felsch
use Rattle.tc_hlt.specs.Stage as hlt
use Rattle.knuth_bendix.specs.Runs.{CompletionRun, CompletionTask}
use Rattle.congruence.specs.declared.engine.Engine.{Engine}
use Rattle.congruence.specs.declared.engine.Engine.TheVariants.{Felsch, Hlt, Completion, Transf, PPerm, BMat, MaxPlus}

-- the classes of at most so many elements of some kind, by their generators
pub data ElementTask : Type 0 where
  Transformations : PairsTask (List ℕ) → ElementTask
  PartialPermutations : PairsTask (List (Option ℕ)) → ElementTask
  BooleanMatrices : PairsTask BooleanMatrix → ElementTask
  TruncatedMatrices : PairsTask TruncatedMatrix → ElementTask

-- what holds of such a task, told for every kind
abbrev pub OfElements : ((V : Type 0) → ElementKind V → PairsTask V → Type 0) → ElementTask
    → Type 0
OfElements holds (Transformations t) = holds (List ℕ) transformations t
OfElements holds (PartialPermutations t) = holds (List (Option ℕ)) partial_permutations t
OfElements holds (BooleanMatrices t) = holds BooleanMatrix boolean_matrices t
OfElements holds (TruncatedMatrices t) = holds TruncatedMatrix truncated_matrices t

-- whether a strategy ends for a right congruence within a budget, or completion of a presentation
-- within a length, or generators of a kind have so many values
pub data EngineTask : Type 0 where
  Definitions : EnumerationTask → EngineTask
  Rows : EnumerationTask → EngineTask
  Rewriting : CompletionTask → EngineTask
  Search : ElementTask → EngineTask

abbrev pub ends_within : EngineTask → Type 0
ends_within (Definitions t) = FelschEnds t.congruence t.budget
ends_within (Rows t) = HltEnds t.congruence t.budget
ends_within (Rewriting t) = CompletionEnds t.presentation t.length
ends_within (Search t) = OfElements (λ _ kind t. HasFew kind.product kind.equal t) t

-- whether the task is a search for elements
abbrev pub SearchesElements : EngineTask → Type 0
SearchesElements (Definitions t) = ⊥
SearchesElements (Rows t) = ⊥
SearchesElements (Rewriting t) = ⊥
SearchesElements (Search t) = Unit {0}

-- the generators of a kind have more values than the bound
abbrev pub HasMoreElements : EngineTask → Type 0
HasMoreElements (Definitions t) = Unit {0}
HasMoreElements (Rows t) = Unit {0}
HasMoreElements (Rewriting t) = Unit {0}
HasMoreElements (Search t) = OfElements (λ _ kind t. HasMore kind.product kind.equal t) t

abbrev pub task_of : Engine → EngineTask
task_of (Felsch f) = Definitions (record { congruence = f.congruence; budget = f.budget })
task_of (Hlt h) = Rows (record { congruence = h.congruence; budget = h.budget })
task_of (Completion k) = Rewriting (record { presentation = k.presentation; length = k.length })
task_of (Transf r) = Search (Transformations r.task)
task_of (PPerm r) = Search (PartialPermutations r.task)
task_of (BMat r) = Search (BooleanMatrices r.task)
task_of (MaxPlus r) = Search (TruncatedMatrices r.task)

abbrev pub said_of : Engine → Progress
said_of (Felsch f) = f.said
said_of (Hlt h) = h.said
said_of (Completion k) = k.said
said_of (Transf r) = r.said
said_of (PPerm r) = r.said
said_of (BMat r) = r.said
said_of (MaxPlus r) = r.said

abbrev pub left_of : Engine → ℕ
left_of (Felsch f) = felsch.left_of f
left_of (Hlt h) = hlt.left_of h
left_of (Completion k) = k.left
left_of (Transf r) = pairs.left_of r
left_of (PPerm r) = pairs.left_of r
left_of (BMat r) = pairs.left_of r
left_of (MaxPlus r) = pairs.left_of r

abbrev pub as_racer : Ghosts Engine
as_racer = record {
  Task = EngineTask;
  task = task_of;
  condition = ends_within;
  measure = left_of;
  said = said_of;
}

-- the tasks for a congruence on a presentation: Felsch's strategy, the strategy of rows, and
-- completion, with a marker where pairs are one-sided
abbrev pub congruence_tasks : Congruence → Budgets → List EngineTask
congruence_tasks c b =
    Definitions (record { congruence = as_right c; budget = b.defs })
    ∷ Rows (record { congruence = as_right c; budget = b.rows })
    ∷ Rewriting (record { presentation = completed c; length = b.length })
    ∷ []

-- the search for the classes of at most so many elements
abbrev pub pairs_task : {V : Type 0} → PosedOf V → ℕ → PairsTask V
pairs_task p bound =
    record { generators = p.generators; kind = p.kind; pairs = p.pairs; bound = bound }

-- the tasks of the lanes for a problem
abbrev pub tasks_for : Problem → Budgets → List EngineTask
tasks_for (problem.Presented p) b = congruence_tasks p.congruence b
tasks_for (problem.Transf p) b = Search (Transformations (pairs_task p b.elements)) ∷ []
tasks_for (problem.PPerm p) b = Search (PartialPermutations (pairs_task p b.elements)) ∷ []
tasks_for (problem.BMat p) b = Search (BooleanMatrices (pairs_task p b.elements)) ∷ []
tasks_for (problem.MaxPlus p) b = Search (TruncatedMatrices (pairs_task p b.elements)) ∷ []

-- the task is one for the congruence, within some budget
abbrev pub IsCongruenceTask : Congruence → EngineTask → Type 0
IsCongruenceTask c (Definitions t) = t.congruence ≡ as_right c
IsCongruenceTask c (Rows t) = t.congruence ≡ as_right c
IsCongruenceTask c (Rewriting t) = t.presentation ≡ completed c
IsCongruenceTask c t = ⊥

-- the task is one for the problem, within some budget
abbrev pub IsTaskFor : Problem → EngineTask → Type 0
IsTaskFor (problem.Presented p) t = IsCongruenceTask p.congruence t
IsTaskFor (problem.Transf p) (Search (Transformations t)) = t ≡ pairs_task p t.bound
IsTaskFor (problem.PPerm p) (Search (PartialPermutations t)) = t ≡ pairs_task p t.bound
IsTaskFor (problem.BMat p) (Search (BooleanMatrices t)) = t ≡ pairs_task p t.bound
IsTaskFor (problem.MaxPlus p) (Search (TruncatedMatrices t)) = t ≡ pairs_task p t.bound
IsTaskFor p t = ⊥

-- a completion that has made no turn, for the congruence within a length
pub record IsCompletionFor (c : Congruence) (L : ℕ) (k : CompletionRun) : Type 0 where
  pub presentation : k.presentation ≡ completed c
  pub length : k.length ≡ L
  pub said : k.said ≡ More

-- the lanes are those for the problem, within some budgets
abbrev pub HasTasksFor : Problem → List (Lane Engine) → Type 0
HasTasksFor p lanes = (b : Budgets) × (tasks as_racer lanes ≡ tasks_for p b)

-- the lanes for a problem, at the end of a race with this outcome
pub record IsEndOf (p : Problem) (b : Budgets) (outcome : Outcome)
    (lanes : List (Lane Engine)) : Type 0 where
  pub tasks : tasks as_racer lanes ≡ tasks_for p b
  pub word : ℕ
  pub sound : IsSound as_racer (state_at word lanes)
  pub ended : IsEnd (state_at word lanes)
  pub is : outcome ≡ outcome_of (state_at word lanes)

-- the lane of this number has decided the problem
pub record HasDecided (p : Problem) (lanes : List (Lane Engine)) (number : ℕ) : Type 0 where
  pub lane : Lane Engine
  pub at : slice_get lanes number ≡ Some lane
  pub decided : said_of lane.racer ≡ Decided
  pub task : IsTaskFor p (task_of lane.racer)
