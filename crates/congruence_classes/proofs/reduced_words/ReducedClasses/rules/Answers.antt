use Rattle.std.proofs.Common.{List, ◌∙◌, sym, subst}
use Rattle.std.proofs.lemmas.Result.{IfOk-weaker}
use Rattle.theory.specs.Word.{Word as Letters}
use Rattle.theory.specs.Class.{SameClass, IsRuleList}
use Rattle.presentation.specs.Presented.{Posed}
use Rattle.congruence_classes.specs.Rewriting.{IsReducerOf, rules_in}
use Rattle.congruence_classes.proofs.RewrittenRules.{DecidesBy}
use Rattle.congruence_classes.proofs.ReducerLaws.{decided_by}
use Rattle.congruence_classes.proofs.reduced_words.ReducedClasses.rules.Goals as goal

pub returns : goal.returns
returns c =
    let decided : DecidesBy c.args.self.now.congruence (rules_in c.self.inside.words) =
    decided_by c.args.self.now.congruence c.self.inside.words (subst (λ (k : Posed). IsReducerOf k.congruence c.self.inside.words) c.self.view_is c.self.invariant) in
    IfOk-weaker c.copy.result _ _
    (λ rules e. subst (λ (rs : List (Letters × Letters)). IsRuleList (SameClass c.args.self.now.congruence) rs) (sym (e ∙ c.rules.ensures)) (decided.list c.requires))
    c.copy.ensures
