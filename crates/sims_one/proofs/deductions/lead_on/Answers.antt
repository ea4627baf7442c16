use Rattle.std.proofs.Common.{◌<◌, length, ap, sym, subst, arith}
use Rattle.theory.specs.Word.{IsOver}
use Rattle.sims_one.proofs.LowIndexLaws.{relation_words}
use Rattle.sims_one.proofs.EdgeLaws.{relation_there}
use Rattle.sims_one.proofs.deductions.lead_on.Goals as goal

pub go_on-requires-clause-word : goal.go_on-requires-clause-word
go_on-requires-clause-word c =
    let p = c.args.presentation.now.presentation in
    let q = c.pair.result.now in
    let within : c.args.place.now.relation < length p.relations = omega (arith, c.if-len-place.false, c.len.ensures, ap length c.relations-relations.ensures.relations) in
    let there = relation_there c.relations-relations.result.now p.relations c.args.place.now.relation q c.relations-relations.ensures.relations within c.pair.ensures in
    let over = relation_words p c.relations-relations.ensures.presented.elements q.0 q.1 there in
    subst (λ z. IsOver z c.side_of-word.result.now) (sym c.letters-letters.ensures.letters) (c.side_of-word.ensures p.letters over.0 over.1)
