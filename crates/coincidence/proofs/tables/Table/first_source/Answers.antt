use Rattle.std.proofs.Common.{◌≡◌, ℕ, List, false, ap, ◌∙◌, subst}
use Rattle.coincidence.specs.Links.{IsSources}
use Rattle.coincidence.specs.Table.{CosetTable, links_of}
use Rattle.coincidence.proofs.HeldLaws.{seen}
use Rattle.coincidence.proofs.tables.Table.first_source.Goals as goal

pub returns-clause-list : goal.returns-clause-list
returns-clause-list c =
    let while : c.self.inside.failed ≡ false = ap (λ (t : CosetTable). t.failed) c.self.view_is ∙ c.requires in
    let view = seen c.self.inside.congruence.congruence c.self.inside.cosets c.self.inside.failed c.args.self.now while c.self.view_is in
    subst (λ (t : CosetTable). (list : List ℕ) × IsSources (links_of t) c.args.node c.args.letter list) view (c.letters-letters.ensures.lists c.args.node c.args.letter)
