use Rattle.std.proofs.Common.{◌≡◌, ◌+◌, length, subst, arith}
use Rattle.froidure_pin.specs.Found.{entry}
use Rattle.froidure_pin.specs.Numbering.{AreRowsBy, IsRowBy, left_number, letter_number, right_number}
use Rattle.froidure_pin.proofs.RowLists.{first_row}
use Rattle.froidure_pin.proofs.table.Table.tables.Goals as goal

pub returns-clause-right : goal.returns-clause-right
returns-clause-right g c =
    let all : c.len-count.result ≡ length c.self.inside.elements.keys = omega (arith, c.len-count.ensures, c.self.invariant.count) in
    let rows = subst (λ n. AreRowsBy n c.self.inside.letters (λ i. entry c.self.inside.letters c.self.inside.right.items (i + 1)) c.new-2.result) all c.new-2.ensures in
    subst (λ t. AreRowsBy (length t.elements) t.letters (right_number t) c.new-2.result) c.self.view_is rows

pub returns-clause-left : goal.returns-clause-left
returns-clause-left g c =
    let all : c.len-count.result ≡ length c.self.inside.elements.keys = omega (arith, c.len-count.ensures, c.self.invariant.count) in
    let rows = subst (λ n. AreRowsBy n c.self.inside.letters (λ i. entry c.self.inside.letters c.self.inside.left.items (i + 1)) c.new-3.result) all c.new-3.ensures in
    subst (λ t. AreRowsBy (length t.elements) t.letters (left_number t) c.new-3.result) c.self.view_is rows

pub returns-clause-letters : goal.returns-clause-letters
returns-clause-letters g c = subst (λ t. IsRowBy t.letters (letter_number t) c.in_ok-letters.letters) c.self.view_is (first_row c.self.inside.letters c.self.inside.right.items c.in_ok-letters.letters c.in_ok-letters.ensures)
