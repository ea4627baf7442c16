use Rattle.std.proofs.Common.{◌≡◌, subst, sym, ◌∙◌, length, vec_len}
use Rattle.std.proofs.lemmas.Bool.{eqb-true}
use Rattle.sims_one.specs.Asked.{asked}
use Rattle.sims_one.specs.Fronts.{lists_in, AreJoined}
use Rattle.sims_one.proofs.CutLaws.{joined_end, no_lists}
use Rattle.sims_one.proofs.batches.Sweep.is_over.Goals as goal

pub returns-then-is_empty-clause-over : goal.returns-then-is_empty-clause-over
returns-then-is_empty-clause-over c = λ _ j.
    let a = asked c.args.request.now in
    let us = lists_in c.args.self.now.tables.items in
    let none : length c.args.self.now.fronts.items ≡ 0 = sym c.args.self.now.fronts.ok.0 ∙ eqb-true (vec_len c.args.self.now.fronts) 0 (sym (c.if-is_empty.ensures)) in
    joined_end a us (subst (λ ts. AreJoined a ts us) (no_lists c.args.self.now.fronts.items none) j)
