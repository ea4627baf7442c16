use Rattle.std.proofs.Common.{List, Option, Some, ℕ, set, ◌∙◌, ap}
use Rattle.sims_one.proofs.CodeLaws.{nodes_put, codes_put}
use Rattle.sims_one.proofs.known.Targets.put.Goals as goal

pub returns : goal.returns
returns c =
    nodes_put c.self.inside.codes c.args.place c.args.node c.requires.node ∙ ap (λ (ts : List (Option ℕ)). set ts c.args.place (Some c.args.node)) c.self.view_is

pub invariant_of-self : goal.invariant_of-self
invariant_of-self c = codes_put c.self.inside.codes c.args.place c.args.node c.requires.node c.self.invariant
