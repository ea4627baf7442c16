use Rattle.std.proofs.Common.{◌≡◌, Some, refl, rules, subst, arith}
use Rattle.std.specs.Prelude.{slice_get, length}
use Rattle.std.proofs.lemmas.Option.{slice_get_read}
use Rattle.chains.proofs.steps.ChainStep.next.Goals as goal

pub returns : goal.returns
returns c =
    let known : slice_get c.args.presentation.now.presentation.relations c.args.self.relation ≡ Some c.pair-sides.result.now =
    subst (λ ps. slice_get ps c.args.self.relation ≡ Some c.pair-sides.result.now) c.relations-relations.ensures.relations
    (slice_get_read c.relations-relations.result.now (length c.relations-relations.result.now) c.args.self.relation c.pair-sides.result.now refl (omega (arith, c.if-self-len.false, c.len.ensures)) c.pair-sides.ensures) in
    search (rules, known)
