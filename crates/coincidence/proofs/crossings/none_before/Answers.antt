use Rattle.std.proofs.Common.{◌-◌, take, subst, sym, ◌∙◌, arith}
use Rattle.coincidence.specs.Reading.{IsDueBehind}
use Rattle.coincidence.specs.declared.due.Due.TheVariants.{Nothing}
use Rattle.coincidence.proofs.ReadLaws.{IsListing, behind_nothing, front_last, listing_start}
use Rattle.coincidence.proofs.crossings.none_before.Goals as goal

pub returns-in-None : goal.returns-in-None
returns-in-None c = λ _ other.
    let g = c.args.edges.now.graph in
    let side = c.args.side.now in
    let place = c.args.place in
    behind_nothing c.args.edges.now c.args.node c.letter.result (take (place - 1) side) (take place side) side other
    (front_last side place c.letter.result (λ e. absurd (omega (arith, e, c.requires.some))) (omega (arith, c.requires.within)) c.letter.ensures)
    (subst (λ z. IsListing c.args.edges.now c.args.node c.letter.result (λ source. IsDueBehind g source (take (place - 1) side) side other Nothing) z) (sym c.first_source.ensures ∙ c.in-None.is)
    (listing_start c.letters-letters.result c.args.edges.now c.args.node c.letter.result (λ source. IsDueBehind g source (take (place - 1) side) side other Nothing) c.letters-letters.ensures))
