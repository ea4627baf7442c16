use Rattle.std.proofs.Common.{◌≡◌, ◌<◌, ◌+◌, ℕ, suc, List, Option, [], ◌∷◌, ◌++◌, None, replicate, length, get_or, ap, sym, ◌∙◌, subst, arith}
use Rattle.std.proofs.Math.Nat.{suc-mul}
use Rattle.std.proofs.lemmas.List.{length-replicate, length-append}
use Rattle.theory.specs.Graph.{Graph}
use Rattle.cells.specs.Rows.{rows_of, with_node}
use Rattle.cells.proofs.CellLaws.{add_rows, one_width}
use Rattle.cells.proofs.flat.Cells.add_row.Goals as goal

pub invariant_of-self-2 : goal.invariant_of-self-2
invariant_of-self-2 c =
    let l = c.self.inside.letters in
    let n = c.self.inside.nodes in
    let long : length c.push_empty.new.entries.items ≡ length c.self.inside.entries.items + l = ap length c.in_ok-push_empty.ensures.ok ∙ length-append c.self.inside.entries.items (replicate l None) ∙ ap (λ z. length c.self.inside.entries.items + z) (length-replicate l None) in
    record { some = omega arith; few = omega (arith, c.if-self-ge-NUMBERS_AT_MOST.false); entries = omega (arith, long, c.self.invariant.entries, suc-mul n l) }

pub returns-clause-ok : goal.returns-clause-ok
returns-clause-ok c = λ k widths.
    let l = c.self.inside.letters in
    let n = c.self.inside.nodes in
    let xs = c.self.inside.entries.items in
    let same : l ≡ k = one_width l k n xs c.self.invariant.entries c.self.invariant.some (subst (λ (g : Graph). (i : ℕ) (d : List (Option ℕ)) → i < length g → length (get_or g i d) ≡ k) (sym c.self.view_is) widths) in
    let items : c.push_empty.new.entries.items ≡ xs ++ replicate l None = c.in_ok-push_empty.ensures.ok in
    let more : n + 1 ≡ suc n = omega arith in
    let made : rows_of l (n + 1) c.push_empty.new.entries.items ≡ rows_of l n xs ++ replicate l None ∷ [] = rw (more, items) (add_rows l n xs (replicate l None) c.self.invariant.entries (length-replicate l None)) in
    made ∙ ap (λ (z : Graph). z ++ replicate l None ∷ []) c.self.view_is ∙ ap (λ z. with_node z c.args.self.now) same
