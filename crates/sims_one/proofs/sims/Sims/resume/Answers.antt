use Rattle.std.proofs.Common.{◌≡◌, ◌<◌, ℕ, List, Option, Some, subst, sym, ap, ◌∙◌, arith}
use Rattle.theory.specs.Graph.{Graph}
use Rattle.theory.specs.LowIndex.{Rows, entries, IsStandard}
use Rattle.word_graph.specs.Table.{targets_of}
use Rattle.word_graph.proofs.TableLaws.{targets_entries}
use Rattle.sims_one.specs.Targets.{cursor_of}
use Rattle.sims_one.specs.Search.{Search, IsCursor}
use Rattle.sims_one.proofs.LowIndexLaws.{standard_cursor, standard_after, graph_exact}
use Rattle.sims_one.proofs.sims.Sims.resume.Goals as goal

pub invariant_of-self : goal.invariant_of-self
invariant_of-self c =
    let k : ℕ = c.self.inside.presentation.presentation.letters in
    let some : 0 < k = omega (arith, c.letters-letters.ensures.letters, c.letters-letters.ensures.some) in
    let standard : IsStandard k c.requires.rows = subst (λ (s : Search). IsStandard s.presentation.letters c.requires.rows) (sym c.self.view_is) c.requires.standard in
    let flat : c.in-Ok.targets.items ≡ entries c.requires.rows = c.in-Ok.ensures ∙ ap (λ (g : Graph). targets_of g) c.requires.is ∙ targets_entries c.requires.rows in
    record { few = c.self.invariant.few; cursor = subst (λ (xs : List ℕ). IsCursor k xs) (sym flat) (standard_cursor k some c.requires.rows standard); branch = tt; same = tt }

pub returns-in-Ok-clause-ok : goal.returns-in-Ok-clause-ok
returns-in-Ok-clause-ok c = λ rows is.
    let k : ℕ = c.self.inside.presentation.presentation.letters in
    let some : 0 < k = omega (arith, c.letters-letters.ensures.letters, c.letters-letters.ensures.some) in
    let standard : IsStandard k c.requires.rows = subst (λ (s : Search). IsStandard s.presentation.letters c.requires.rows) (sym c.self.view_is) c.requires.standard in
    let flat : c.in-Ok.targets.items ≡ entries c.requires.rows = c.in-Ok.ensures ∙ ap (λ (g : Graph). targets_of g) c.requires.is ∙ targets_entries c.requires.rows in
    let one : c.requires.rows ≡ rows = graph_exact c.requires.rows rows (sym c.requires.is ∙ is) in
    let after : cursor_of k c.in-Ok.targets.items ≡ Some rows = ap (cursor_of k) flat ∙ standard_after k some c.requires.rows standard ∙ ap (λ (r : Rows). Some r) one in
    let view : Option Rows → Search = λ a. record { presentation = c.self.inside.presentation.presentation; classes = c.self.inside.classes; after = a; failed = c.self.inside.failed } in
    ap view after ∙ ap (λ (s : Search). record s { after = Some rows }) c.self.view_is
