use Rattle.std.proofs.Common.{◌≡◌, ◌==◌, ℕ, not, ◌↔◌, IsTrue, sym, ap, ◌∙◌, subst}
use Rattle.std.specs.List.{list_any}
use Rattle.theory.specs.Lattice.{HasFreeRoot}
use Rattle.word_graph.specs.Table.{targets_of}
use Rattle.line_parts.specs.Tables.{avoids_root}
use Rattle.line_parts.proofs.TableLemmas.{root_decides, root_not_among}
use Rattle.line_parts.proofs.tables.avoids_root.Goals as goal

pub returns : goal.returns
returns c =
    let table = c.args.table.now in
    let told : not c.contains.result ≡ avoids_root table =
    ap not (c.contains.ensures.value ∙ ap (list_any (λ (m : ℕ). m == 0)) (c.deref.ensures.value ∙ c.in_ok-targets.ensures)) ∙ sym (root_not_among (targets_of table)) in
    subst (λ b. IsTrue b ↔ HasFreeRoot table) (sym told) (root_decides table)
