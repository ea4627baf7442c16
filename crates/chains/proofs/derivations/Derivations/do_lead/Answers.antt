use Rattle.std.proofs.Common.{◌∙◌, sym, subst}
use Rattle.std.proofs.lemmas.Bool.Decides.{Decides-eqb}
use Rattle.std.proofs.lemmas.Slice.Eq.{slice_eq-Decides}
use Rattle.theory.specs.Word.{Word}
use Rattle.theory.specs.PlacedStep.{LeadTo}
use Rattle.chains.specs.Chains.{steps_of}
use Rattle.chains.specs.Derivations.{all_of}
use Rattle.chains.proofs.LighterLaws.{ended}
use Rattle.chains.proofs.derivations.Derivations.do_lead.Goals as goal

pub returns : goal.returns
returns c =
    let leads = ended (all_of c.args.self.now) c.args.from.now c.args.steps.now c.in_ok-end.field-0 c.in-Some.end c.in_ok-end.ensures c.in-Some.is in
    λ yes.
    subst (λ (to : Word). LeadTo (all_of c.args.self.now) c.args.from.now (steps_of c.args.steps.now) to)
    (sym c.letters.ensures ∙ (slice_eq-Decides Decides-eqb c.letters.result.now c.letters-2.result.now c.eq.result c.eq.ensures).0 yes ∙ c.letters-2.ensures) leads
