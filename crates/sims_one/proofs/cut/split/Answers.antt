use Rattle.std.proofs.Common.{rules}
use Rattle.sims_one.specs.Search.{NoneWithin}
use Rattle.sims_one.specs.Asked.{asked}
use Rattle.sims_one.specs.Fronts.{lists_in}
use Rattle.sims_one.proofs.CutLaws.{adds_none}
use Rattle.sims_one.proofs.cut.split.Goals as goal

pub returns-in_default : goal.returns-in_default
returns-in_default c =
    let a = asked c.args.request.now in
    let none : NoneWithin a.presentation a.classes c.args.front.now = search rules in
    adds_none a c.args.front.now (lists_in c.args.fronts.now.items) (λ u table w after. none u table w)
