use Rattle.std.proofs.Common.{◌≡◌, ◌<◌, ℕ, List, Option, [], ◌∷◌, None, replicate, length, get_or, ap, sym, ◌∙◌, subst, arith}
use Rattle.std.proofs.lemmas.List.{length-replicate}
use Rattle.theory.specs.Graph.{Graph}
use Rattle.cells.specs.Rows.{rows_of}
use Rattle.cells.proofs.CellLaws.{bare_rows, cleared, one_width}
use Rattle.cells.proofs.flat.Cells.clear.Goals as goal

pub invariant_of-self : goal.invariant_of-self
invariant_of-self c =
    let long = cleared c.self.inside.letters c.self.inside.nodes c.self.inside.entries.items c.self.invariant.some c.self.invariant.entries in
    let size : length c.empty.new.entries.items ≡ c.self.inside.letters = ap length c.empty.ensures ∙ length-replicate (length c.truncate.new.self.items) None ∙ ap length c.truncate.ensures.items ∙ long in
    record { some = omega arith; few = omega arith; entries = omega (arith, size) }

pub returns : goal.returns
returns c = λ k widths.
    let l = c.self.inside.letters in
    let long = cleared l c.self.inside.nodes c.self.inside.entries.items c.self.invariant.some c.self.invariant.entries in
    let same : l ≡ k = one_width l k c.self.inside.nodes c.self.inside.entries.items c.self.invariant.entries c.self.invariant.some (subst (λ (g : Graph). (i : ℕ) (d : List (Option ℕ)) → i < length g → length (get_or g i d) ≡ k) (sym c.self.view_is) widths) in
    let items : c.empty.new.entries.items ≡ replicate (length c.truncate.new.self.items) None = c.empty.ensures in
    ap (rows_of l 1) items ∙ bare_rows l 1 (length c.truncate.new.self.items) (omega (arith, ap length c.truncate.ensures.items, long)) ∙ ap (λ z. replicate z None ∷ []) same
