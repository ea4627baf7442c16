use Rattle.std.proofs.Common.{◌≡◌, ◌∙◌, ℕ, refl, sym, ap, subst, List}
use Rattle.std.proofs.lemmas.Option.{get_or_from_slice_get}
use Rattle.problem.specs.declared.budgets.Budgets.{Budgets}
use Rattle.problem.specs.declared.kinds.Problem.{Problem}
use Rattle.problem.specs.Problem.{IsDecided}
use Rattle.race.specs.Machine.{Tells}
use Rattle.race.specs.declared.lanes.Lane.{Lane}
use Rattle.race.specs.declared.playing.Outcome.{Outcome}
use Rattle.race.specs.declared.playing.Outcome.TheVariants.{Won, AllSpent}
use Rattle.congruence.specs.declared.engine.Engine.{Engine}
use Rattle.congruence.specs.Engines.{HasMoreElements, IsEndOf, as_racer, said_of, task_of}
use Rattle.congruence.specs.Solution.{Solution}
use Rattle.congruence.proofs.LaneLaws.{won_decided, won_ends, spent_never}
use Rattle.congruence.proofs.solving.verdict_at.Goals as goal

-- what is told of an outcome, and an end with it, where the outcome is known to be this one
told_of : (lanes : List (Lane Engine)) (outcome one : Outcome) → outcome ≡ one → Tells as_racer outcome lanes → Tells as_racer one lanes
told_of lanes outcome one is told = subst (λ (o : Outcome). Tells as_racer o lanes) is told

end_with : (p : Problem) (b : Budgets) (lanes : List (Lane Engine)) (outcome one : Outcome) → outcome ≡ one → IsEndOf p b outcome lanes → IsEndOf p b one lanes
end_with p b lanes outcome one is end = subst (λ (o : Outcome). IsEndOf p b o lanes) is end

pub known-requires : goal.known-requires
known-requires c =
    won_decided c.args.problem.now c.requires.tasks.0 c.args.lanes.items c.requires.tasks.1 c.in-Won.winner
    (told_of c.args.lanes.items c.args.outcome (Won c.in-Won.winner) c.in-Won.is c.requires.told)

pub returns-in_ok-solved-in-Won : goal.returns-in_ok-solved-in-Won
returns-in_ok-solved-in-Won c = λ b end.
    subst (λ (s : Solution). IsDecided c.args.problem.now b × (s.problem ≡ c.args.problem.now)
    × ((winner : ℕ) × IsEndOf c.args.problem.now b (Won winner) s.lanes)) (sym c.in_ok-solved-in-Won.ensures) (
      won_ends c.args.problem.now b c.args.lanes.items end.tasks c.in-Won.winner
          (told_of c.args.lanes.items c.args.outcome (Won c.in-Won.winner) c.in-Won.is c.requires.told),
      refl,
      (c.in-Won.winner, end_with c.args.problem.now b c.args.lanes.items c.args.outcome (Won c.in-Won.winner) c.in-Won.is end),
    )

pub returns-in-AllSpent : goal.returns-in-AllSpent
returns-in-AllSpent c = λ b end. (
  spent_never c.args.problem.now b c.args.lanes.items end.tasks
      (told_of c.args.lanes.items c.args.outcome AllSpent c.in-AllSpent.is c.requires.told)
      (λ l at spent.
      let first : c.racer.result.now ≡ l.racer = c.racer.ensures ∙ ap (λ (m : Lane Engine). m.racer) (c.index.ensures ∙ get_or_from_slice_get c.args.lanes.items 0 l c.index.result.now at) in
      subst (λ (e : Engine). HasMoreElements (task_of e)) first
      (c.has_more_elements-more.ensures.more (ap said_of first ∙ spent))),
  subst (IsEndOf c.args.problem.now b AllSpent) (sym c.new.ensures)
      (end_with c.args.problem.now b c.args.lanes.items c.args.outcome AllSpent c.in-AllSpent.is end),
)
