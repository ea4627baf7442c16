use Rattle.std.proofs.Common.{◌∙◌, sym}
use Rattle.coincidence.proofs.PlaceLaws.{none_of, stuck_first, stuck_second}
use Rattle.coincidence.proofs.crossings.leads_on.Goals as goal

pub returns-in-None : goal.returns-in-None
returns-in-None c = λ _. stuck_first c.args.edges.now.graph c.args.node c.args.letter c.args.next (sym c.target.ensures ∙ c.in-None.is)

pub returns-in-Some : goal.returns-in-Some
returns-in-Some c = λ e.
    stuck_second c.args.edges.now.graph c.args.node c.in-Some.at c.args.letter c.args.next (sym c.target.ensures ∙ c.in-Some.is) (sym c.target-in-Some.ensures ∙ none_of c.target-in-Some.result (sym c.is_some.ensures ∙ e))
