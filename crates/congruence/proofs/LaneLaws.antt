-- What the lanes of a race for a problem know at its start and at its end.
use Rattle.std.proofs.Common.{◌≡◌, ℕ, zero, suc, refl, sym, ◌∙◌, ap, ap₂, subst, inl, inr, List, [], ◌∷◌, ◌++◌, length, arith, ◌≤◌, Some, Result, Ok, Err, OnOk}
use Rattle.std.specs.Prelude.{slice_get}
use Rattle.theory.specs.Congruence.{Congruence, as_right}
use Rattle.theory.specs.Marked.{completed}
use Rattle.problem.specs.declared.budgets.Budgets.{Budgets}
use Rattle.presentation.specs.Presented.{Posed}
use Rattle.problem.specs.declared.kinds.Problem.{Problem}
use Rattle.problem.specs.declared.kinds.Problem.TheVariants as problem
use Rattle.problem.specs.Problem.{IsCongruenceDecided, IsDecided, IsUndecided, no_matrix, no_truncated_matrix}
use Rattle.race.specs.Lanes.{fresh}
use Rattle.race.specs.Machine.{EndsAs, IsSpent, LaneFits, Starts, Tells, tasks}
use Rattle.race.specs.declared.engines.Progress.TheVariants as Progress
use Rattle.race.specs.declared.lanes.Lane.{Lane}
use Rattle.race.specs.declared.lanes.LaneState.TheVariants.{Running}
use Rattle.race.specs.declared.playing.Outcome.{Outcome}
use Rattle.race.specs.declared.playing.Outcome.TheVariants.{Won, AllSpent}
use Rattle.congruence.specs.declared.engine.Engine.{Engine}
use Rattle.congruence.specs.Added.{IsAdded}
use Rattle.congruence.specs.Engines.{EngineTask, Definitions, Rows, Rewriting, Search, Transformations, PartialPermutations, BooleanMatrices, TruncatedMatrices, HasDecided, HasMoreElements, IsEndOf, IsTaskFor, as_racer, congruence_tasks, ends_within, pairs_task, said_of, task_of, tasks_for}

-- a lane that has had no turn, at its place
fresh_fits : (i : ℕ) (e : Engine) (l : Lane Engine) → fresh i e ≡ l → LaneFits as_racer 0 i l × (l.state ≡ Running)
fresh_fits i e l same =
    subst (λ (m : Lane Engine). LaneFits as_racer 0 i m × (m.state ≡ Running)) same (record { number = refl; step = λ h. cc; state = tt }, refl)

three_start : (f h k : Engine) → Starts as_racer (fresh 0 f ∷ fresh 1 h ∷ fresh 2 k ∷ [])
three_start f h k zero l at = let e : fresh 0 f ≡ l = cc in fresh_fits 0 f l e
three_start f h k (suc zero) l at = let e : fresh 1 h ≡ l = cc in fresh_fits 1 h l e
three_start f h k (suc (suc zero)) l at = let e : fresh 2 k ≡ l = cc in fresh_fits 2 k l e
three_start f h k (suc (suc (suc i))) l at = cc

-- lanes that were added one after another
abbrev added : List (Lane Engine) → Engine → List (Lane Engine)
added lanes e = lanes ++ fresh (length lanes) e ∷ []

pub three_added : (none one two three : List (Lane Engine)) (f h k : Engine) → none ≡ []
    → one ≡ none ++ fresh (length none) f ∷ [] → two ≡ one ++ fresh (length one) h ∷ [] → three ≡ two ++ fresh (length two) k ∷ []
    → three ≡ fresh 0 f ∷ fresh 1 h ∷ fresh 2 k ∷ []
three_added none one two three f h k begun first second third =
    third ∙ ap (λ ls. added ls k) (second ∙ ap (λ ls. added ls h) (first ∙ ap (λ ls. added ls f) begun))

-- a lane with a task is added where one of an engine for it is
pub with_task : {A E : Type 0} (r : Result A E) (old new : List (Lane Engine)) (e : Engine) (task : EngineTask) → task_of e ≡ task → OnOk r (new ≡ old ++ fresh (length old) e ∷ [])
    → OnOk r (IsAdded old new task)
with_task (Ok x) old new e task is added = record { engine = e; task_is = is; added = added }
with_task (Err fault) old new e task is added = tt

module _ (all : List (Lane Engine)) (f h k : Engine) (are : all ≡ fresh 0 f ∷ fresh 1 h ∷ fresh 2 k ∷ []) where
  pub three_begin : Starts as_racer all
  three_begin = subst (λ (ls : List (Lane Engine)). Starts as_racer ls) (sym are) (three_start f h k)

  pub three_few : length all ≤ 64
  three_few = omega (arith, ap length are)

  pub three_tasks : (c : Congruence) (b : Budgets) → task_of f ≡ Definitions (record { congruence = as_right c; budget = b.defs })
      → task_of h ≡ Rows (record { congruence = as_right c; budget = b.rows })
      → task_of k ≡ Rewriting (record { presentation = completed c; length = b.length }) → tasks as_racer all ≡ congruence_tasks c b
  three_tasks c b first second third =
      ap (λ (ls : List (Lane Engine)). tasks as_racer ls) are
      ∙ ap₂ (λ (x y : EngineTask). x ∷ y ∷ task_of k ∷ []) first second
      ∙ ap (λ (z : EngineTask). Definitions (record { congruence = as_right c; budget = b.defs })
      ∷ Rows (record { congruence = as_right c; budget = b.rows }) ∷ z ∷ []) third

-- a task of the problem within the budgets
record IsTaskWithin (p : Problem) (b : Budgets) (t : EngineTask) : Type 0 where
  pub task : IsTaskFor p t
  pub ends : ends_within t → IsDecided p b

congruence_task : (p : Posed) (b : Budgets) (t : EngineTask) (i : ℕ) → slice_get (congruence_tasks p.congruence b) i ≡ Some t → IsTaskWithin (problem.Presented p) b t
congruence_task p b t zero at =
    subst (λ s. IsTaskWithin (problem.Presented p) b s) (let e : Definitions (record { congruence = as_right p.congruence; budget = b.defs }) ≡ t = cc in e)
    (record { task = refl; ends = λ h. inl (inl h) })
congruence_task p b t (suc zero) at =
    subst (λ s. IsTaskWithin (problem.Presented p) b s) (let e : Rows (record { congruence = as_right p.congruence; budget = b.rows }) ≡ t = cc in e)
    (record { task = refl; ends = λ h. inl (inr h) })
congruence_task p b t (suc (suc zero)) at =
    subst (λ s. IsTaskWithin (problem.Presented p) b s) (let e : Rewriting (record { presentation = completed p.congruence; length = b.length }) ≡ t = cc in e)
    (record { task = refl; ends = λ h. inr h })
congruence_task p b t (suc (suc (suc i))) at = cc

-- the task of a list of one
one_task : (s t : EngineTask) (i : ℕ) → slice_get (s ∷ []) i ≡ Some t → s ≡ t
one_task s t zero at = cc
one_task s t (suc i) at = cc

each_task : (p : Problem) (b : Budgets) (t : EngineTask) (i : ℕ) → slice_get (tasks_for p b) i ≡ Some t → IsTaskWithin p b t
each_task (problem.Presented p) b t i at = congruence_task p b t i at
each_task (problem.Transf p) b t i at =
    subst (λ s. IsTaskWithin (problem.Transf p) b s) (one_task (Search (Transformations (pairs_task p b.elements))) t i at) (record { task = refl; ends = λ h. h [] })
each_task (problem.PPerm p) b t i at =
    subst (λ s. IsTaskWithin (problem.PPerm p) b s) (one_task (Search (PartialPermutations (pairs_task p b.elements))) t i at) (record { task = refl; ends = λ h. h [] })
each_task (problem.BMat p) b t i at =
    subst (λ s. IsTaskWithin (problem.BMat p) b s) (one_task (Search (BooleanMatrices (pairs_task p b.elements))) t i at) (record { task = refl; ends = λ h. h no_matrix })
each_task (problem.MaxPlus p) b t i at =
    subst (λ s. IsTaskWithin (problem.MaxPlus p) b s) (one_task (Search (TruncatedMatrices (pairs_task p b.elements))) t i at) (record { task = refl; ends = λ h. h no_truncated_matrix })

-- the task of a lane stands in the list of tasks
task_at : (ls : List (Lane Engine)) (i : ℕ) (l : Lane Engine) → slice_get ls i ≡ Some l → slice_get (tasks as_racer ls) i ≡ Some (task_of l.racer)
task_at [] i l at = cc
task_at (m ∷ ls) zero l at = let e : m ≡ l = cc in ap (λ (n : Lane Engine). Some (task_of n.racer)) e
task_at (m ∷ ls) (suc i) l at = task_at ls i l at

-- and where the lists of tasks are one, each task has its lane
lane_at : (ls : List (Lane Engine)) (i : ℕ) (t : EngineTask) → slice_get (tasks as_racer ls) i ≡ Some t
    → (l : Lane Engine) × (slice_get ls i ≡ Some l) × (task_of l.racer ≡ t)
lane_at [] i t at = cc
lane_at (m ∷ ls) zero t at = (m, refl, cc)
lane_at (m ∷ ls) (suc i) t at = lane_at ls i t at

-- the tasks of the lanes are those of the problem
module _ (p : Problem) (b : Budgets) (lanes : List (Lane Engine)) (same : tasks as_racer lanes ≡ tasks_for p b) where
  of_lane : (i : ℕ) (l : Lane Engine) → slice_get lanes i ≡ Some l → IsTaskWithin p b (task_of l.racer)
  of_lane i l at = each_task p b (task_of l.racer) i (subst (λ ts. slice_get ts i ≡ Some (task_of l.racer)) same (task_at lanes i l at))

  -- the lane that has won has decided the problem
  pub won_decided : (i : ℕ) → Tells as_racer (Won i) lanes → HasDecided p lanes i
  won_decided i (l, at, state, decided) = record { lane = l; at = at; decided = decided.answered; task = (of_lane i l at).task }

  pub won_ends : (i : ℕ) → Tells as_racer (Won i) lanes → IsDecided p b
  won_ends i (l, at, state, decided) = (of_lane i l at).ends decided.holds

  -- where each lane is spent, so is the one of this task
  spent_at : (i : ℕ) (t : EngineTask) → Tells as_racer AllSpent lanes → slice_get (tasks_for p b) i ≡ Some t
      → (l : Lane Engine) × (slice_get lanes i ≡ Some l) × (task_of l.racer ≡ t) × IsSpent as_racer l.racer
  spent_at i t told at =
      let found = lane_at lanes i t (subst (λ ts. slice_get ts i ≡ Some t) (sym same) at) in
      (found.0, found.1, found.2, (told i found.0 found.1).1)

  -- and no engine decides
  fails_at : (i : ℕ) (t : EngineTask) → Tells as_racer AllSpent lanes → slice_get (tasks_for p b) i ≡ Some t → ends_within t → ⊥
  fails_at i t told at ends =
      let found = spent_at i t told at in
      found.3.fails (subst ends_within (sym found.2) ends)

  -- the first lane, which lists elements, tells that there are more
  more_at : (t : EngineTask) → Tells as_racer AllSpent lanes → slice_get (tasks_for p b) 0 ≡ Some t
      → ((l : Lane Engine) → slice_get lanes 0 ≡ Some l → said_of l.racer ≡ Progress.Spent → HasMoreElements (task_of l.racer)) → HasMoreElements t
  more_at t told at more =
      let found = spent_at 0 t told at in
      subst HasMoreElements found.2 (more found.0 found.1 found.3.answered)

-- where each lane is spent, the problem is undecided
pub spent_never : (p : Problem) (b : Budgets) (lanes : List (Lane Engine)) → tasks as_racer lanes ≡ tasks_for p b → Tells as_racer AllSpent lanes
    → ((l : Lane Engine) → slice_get lanes 0 ≡ Some l → said_of l.racer ≡ Progress.Spent → HasMoreElements (task_of l.racer)) → IsUndecided p b
spent_never (problem.Presented p) b lanes same told more = no_engine
  where
    no_engine : IsCongruenceDecided p.congruence b → ⊥
    no_engine (inl (inl ends)) = fails_at (problem.Presented p) b lanes same 0 (Definitions (record { congruence = as_right p.congruence; budget = b.defs })) told refl ends
    no_engine (inl (inr ends)) = fails_at (problem.Presented p) b lanes same 1 (Rows (record { congruence = as_right p.congruence; budget = b.rows })) told refl ends
    no_engine (inr ends) = fails_at (problem.Presented p) b lanes same 2 (Rewriting (record { presentation = completed p.congruence; length = b.length })) told refl ends
spent_never (problem.Transf p) b lanes same told more =
    more_at (problem.Transf p) b lanes same (Search (Transformations (pairs_task p b.elements))) told refl more []
spent_never (problem.PPerm p) b lanes same told more =
    more_at (problem.PPerm p) b lanes same (Search (PartialPermutations (pairs_task p b.elements))) told refl more []
spent_never (problem.BMat p) b lanes same told more =
    more_at (problem.BMat p) b lanes same (Search (BooleanMatrices (pairs_task p b.elements))) told refl more no_matrix
spent_never (problem.MaxPlus p) b lanes same told more =
    more_at (problem.MaxPlus p) b lanes same (Search (TruncatedMatrices (pairs_task p b.elements))) told refl more no_truncated_matrix

-- lanes that have ended are those of the problem, at an end
pub end_of : (p : Problem) (b : Budgets) (old new : List (Lane Engine)) (outcome : Outcome) → tasks as_racer old ≡ tasks_for p b → EndsAs as_racer old outcome new
    → IsEndOf p b outcome new
end_of p b old new outcome same ends = record { tasks = ends.kept ∙ same; word = ends.word; sound = ends.sound; ended = ends.ended; is = ends.outcome_is }

-- one lane that has had no turn
pub one_start : (f : Engine) (lanes : List (Lane Engine)) → lanes ≡ fresh 0 f ∷ [] → Starts as_racer lanes
one_start f lanes are = subst (λ (ls : List (Lane Engine)). Starts as_racer ls) (sym are) start
  where
    start : Starts as_racer (fresh 0 f ∷ [])
    start zero l at = let e : fresh 0 f ≡ l = cc in fresh_fits 0 f l e
    start (suc i) l at = cc
