use Rattle.std.proofs.Common.{List, Option, None, ℕ, set, ◌∙◌, ap}
use Rattle.sims_one.proofs.CodeLaws.{nodes_clear, codes_clear}
use Rattle.sims_one.proofs.known.Targets.clear.Goals as goal

pub returns : goal.returns
returns c = nodes_clear c.self.inside.codes c.args.place ∙ ap (λ (ts : List (Option ℕ)). set ts c.args.place None) c.self.view_is

pub invariant_of-self : goal.invariant_of-self
invariant_of-self c = codes_clear c.self.inside.codes c.args.place c.self.invariant
