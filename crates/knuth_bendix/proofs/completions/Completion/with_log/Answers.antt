use Rattle.std.proofs.Common.{List, [], subst, sym}
use Rattle.theory.specs.Word.{Word}
use Rattle.theory.specs.Congruence.{Presentation}
use Rattle.presentation.specs.Presented.{Presented}
use Rattle.race.specs.declared.engines.Progress.TheVariants.{More}
use Rattle.knuth_bendix.specs.Logs.{IsLogOf, LogsHeld}
use Rattle.knuth_bendix.specs.Runs.{AreShortRelations, IsCompletion}
use Rattle.knuth_bendix.proofs.LogLaws.{start_held}
use Rattle.knuth_bendix.proofs.Turns.{fresh_completion}
use Rattle.knuth_bendix.proofs.completions.Completion.with_log.Goals as goal

pub invariant_of-result : goal.invariant_of-result
invariant_of-result c =
    let p : Presentation = c.args.presentation.now.presentation in
    let short : AreShortRelations c.args.length p.relations c.in_ok-equations.equations =
    subst (λ (rs : List (Word × Word)). AreShortRelations c.args.length rs c.in_ok-equations.equations) c.relations.ensures.relations c.in_ok-equations.ensures in
    let fresh : IsCompletion p c.args.length [] c.in_ok-equations.equations More = fresh_completion p c.args.length c.in_ok-equations.equations c.relations.ensures.presented.elements short in
    let ruled : IsCompletion p c.args.length c.new.result c.in_ok-equations.equations More =
    subst (λ (rs : List (Word × Word)). IsCompletion p c.args.length rs c.in_ok-equations.equations More) (sym c.new.ensures) fresh in
    let held : LogsHeld c.args.log c.new.result c.in_ok-equations.equations =
    subst (λ (rs : List (Word × Word)). LogsHeld c.args.log rs c.in_ok-equations.equations) (sym c.new.ensures)
    (start_held p c.args.length c.args.log c.in_ok-equations.equations c.requires short) in
    rw (c.new-2.ensures.equations, c.new-2.ensures.log) (
      subst (λ (q : Presented). IsCompletion q.presentation c.args.length c.new.result c.in_ok-equations.equations More) (sym c.in_ok-copy.ensures) ruled,
      subst (λ (q : Presented). IsLogOf q.presentation c.args.log) (sym c.in_ok-copy.ensures) c.requires,
      held,
    )
