use Rattle.std.proofs.Common.{◌∙◌, sym}
use Rattle.coincidence.proofs.PlaceLaws.{no_source, none_of}
use Rattle.coincidence.proofs.crossings.has_source.Goals as goal

pub returns : goal.returns
returns c = λ e n leads.
    no_source c.letters-letters.result c.args.edges.now c.args.node c.args.letter c.letters-letters.ensures (sym c.first_source.ensures ∙ none_of c.first_source.result (sym c.is_some.ensures ∙ e)) n leads
