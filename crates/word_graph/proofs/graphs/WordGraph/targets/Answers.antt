use Rattle.std.proofs.Common.{◌++◌, ap, ap₂, ◌∙◌, ℕ, List}
use Rattle.std.specs.Prelude.{Option}
use Rattle.std.specs.List.{flat_map}
use Rattle.std.specs.Option.{option_to_list}
use Rattle.cells.specs.Rows.{flat}
use Rattle.word_graph.proofs.TableLaws.{flat_targets}
use Rattle.word_graph.proofs.graphs.WordGraph.targets.Goals as goal

pub returns : goal.returns
returns c =
    c.in_ok-push_targets.ensures
    ∙ ap₂ (λ (ts : List ℕ) (xs : List (Option ℕ)). ts ++ flat_map option_to_list xs) c.in_ok-targets.ensures.items (c.entries-entries.ensures ∙ ap flat c.rows.ensures)
    ∙ flat_targets c.args.self.now
