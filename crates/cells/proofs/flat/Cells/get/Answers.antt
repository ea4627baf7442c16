-- cells/proofs/flat/Cells/get/Answers.antt
use Rattle.std.proofs.Common.{◌≡◌, ◌<◌, ◌≤◌, ◌+◌, ◌*◌, ap, sym, ◌∙◌, get_or, None, arith}
use Rattle.std.proofs.lemmas.List.{get_or_read}
use Rattle.theory.specs.Graph.{target}
use Rattle.cells.specs.Rows.{rows_of}
use Rattle.cells.proofs.EntryLaws.{letters_past, rows_past}
use Rattle.cells.proofs.CellLaws.{place_within, read_target, rows_are}
use Rattle.cells.proofs.flat.Cells.get.Goals as goal

pub returns-then-self-node-clause-entry : goal.returns-then-self-node-clause-entry
returns-then-self-node-clause-entry c =
    let k = c.self.inside.letters in
    let n = c.self.inside.nodes in
    let xs = c.self.inside.entries.items in
    sym (rows_past n k (rows_of k n xs) (rows_are k n xs c.self.invariant.entries) c.args.node c.args.letter c.if-self-node.true) ∙ ap (λ g. target g c.args.node c.args.letter) c.self.view_is

pub returns-then-self-number-clause-entry : goal.returns-then-self-number-clause-entry
returns-then-self-number-clause-entry c =
    let k = c.self.inside.letters in
    let n = c.self.inside.nodes in
    let xs = c.self.inside.entries.items in
    let past : k ≤ c.args.letter = omega (arith, c.if-self-number.true, c.number.ensures) in
    sym (letters_past n k (rows_of k n xs) (rows_are k n xs c.self.invariant.entries) c.args.node c.args.letter past) ∙ ap (λ g. target g c.args.node c.args.letter) c.self.view_is

pub returns-clause-entry : goal.returns-clause-entry
returns-clause-entry c =
    let k = c.self.inside.letters in
    let n = c.self.inside.nodes in
    let xs = c.self.inside.entries.items in
    let node : c.args.node < n = omega (arith, c.if-self-node.false) in
    let letter : c.args.letter < k = omega (arith, c.if-self-number.false, c.number.ensures) in
    let at : c.place-place.result ≡ c.args.node * k + c.args.letter = c.place-place.ensures.place ∙ ap (λ z. c.args.node * k + z) c.number-2.ensures in
    let read : c.index.result.now ≡ get_or xs c.place-place.result None = get_or_read xs c.place-place.result c.index.result.now (omega (arith, at, place_within n k c.args.node c.args.letter node letter, c.self.invariant.entries)) c.index.ensures None in
    c.value.ensures.value ∙ read ∙ ap (λ p. get_or xs p None) at ∙ sym (read_target k n xs c.args.node c.args.letter node letter) ∙ ap (λ g. target g c.args.node c.args.letter) c.self.view_is
