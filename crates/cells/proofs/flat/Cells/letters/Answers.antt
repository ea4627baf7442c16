use Rattle.std.proofs.Common.{◌≡◌, ◌<◌, ℕ, List, Option, length, ap, get_or, subst, arith}
use Rattle.theory.specs.Graph.{Graph}
use Rattle.cells.proofs.CellLaws.{width_rows, length_rows}
use Rattle.cells.proofs.flat.Cells.letters.Goals as goal

pub returns-clause-rows : goal.returns-clause-rows
returns-clause-rows c =
    let k = c.self.inside.letters in
    let n = c.self.inside.nodes in
    let xs = c.self.inside.entries.items in
    subst (λ (g : Graph). (i : ℕ) (d : List (Option ℕ)) → i < length g → length (get_or g i d) ≡ k) c.self.view_is
    (λ i d h. width_rows k n xs c.self.invariant.entries i d (omega (arith, h, length_rows k n xs)))

pub returns-clause-some : goal.returns-clause-some
returns-clause-some c = subst (λ (g : Graph). 0 < length g) c.self.view_is (omega (arith, c.self.invariant.some, length_rows c.self.inside.letters c.self.inside.nodes c.self.inside.entries.items))

pub returns-clause-few : goal.returns-clause-few
returns-clause-few c = omega (arith, c.self.invariant.few, length_rows c.self.inside.letters c.self.inside.nodes c.self.inside.entries.items, ap length c.self.view_is)
