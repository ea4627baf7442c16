use Rattle.std.proofs.Common.{◌≡◌, ◌↔◌, List, subst}
use Rattle.theory.specs.Word.{Word}
use Rattle.theory.specs.Congruence.{Presentation, Congruence, of_presentation}
use Rattle.theory.specs.Class.{SameClass, IsRuleList}
use Rattle.theory.specs.Completion.{CompletionEnds, Listed, Rule}
use Rattle.theory.specs.Marked.{completed}
use Rattle.knuth_bendix.specs.Runs.{CompletionRun}
use Rattle.problem.specs.declared.kinds.Problem.{Problem}
use Rattle.congruence_classes.specs.Rewriting.{AreRulesOf}
use Rattle.congruence.specs.declared.engine.Engine.TheVariants.{Completion}
use Rattle.congruence.specs.Engines.{IsTaskFor, task_of}
use Rattle.congruence.proofs.engine.by_rules.Goals as goal

-- the rules that completion ends with
rules_of : (c : Congruence) (k : CompletionRun) (rules : List (Word × Word)) → k.presentation ≡ completed c
    → CompletionEnds k.presentation k.length → ((u v : Word) → Listed rules u v ↔ Rule k.presentation k.length u v)
    → IsRuleList (SameClass (of_presentation k.presentation)) rules → AreRulesOf c rules
rules_of c k rules task ends reduced list = record {
  length = k.length;
  ends = subst (λ (p : Presentation). CompletionEnds p k.length) task ends;
  reduced = subst (λ (p : Presentation). (u v : Word) → Listed rules u v ↔ Rule p k.length u v) task reduced;
  list = subst (λ (p : Presentation). IsRuleList (SameClass (of_presentation p)) rules) task list;
}

pub new-requires : goal.new-requires
new-requires c =
    rules_of c.in-Presented.congruence.congruence c.args.completion.now c.in_ok-rules.field-0
    (subst (λ (p : Problem). IsTaskFor p (task_of (Completion c.args.completion.now))) c.in-Presented.is c.requires.task)
    c.in_ok-rules.ensures.ends c.in_ok-rules.ensures.rules c.in_ok-rules.ensures.list
