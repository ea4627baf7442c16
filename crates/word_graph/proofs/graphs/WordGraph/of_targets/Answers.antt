use Rattle.std.proofs.Common.{◌≡◌, ◌++◌, ℕ, [], List, map, length, Some, sym, arith, ap, ◌∙◌, subst}
use Rattle.std.specs.Prelude.{Option}
use Rattle.std.proofs.lemmas.List.{length-map}
use Rattle.theory.specs.Graph.{Graph, IsGraph}
use Rattle.cells.specs.Rows.{rows_of}
use Rattle.word_graph.proofs.TableLaws.{cut_is_graph, cut_rows}
use Rattle.word_graph.proofs.graphs.WordGraph.of_targets.Goals as goal

-- the entries are those of the targets
pushed : (es : List ℕ) (old new : List (Option ℕ)) → old ≡ [] → new ≡ old ++ map Some es → new ≡ map Some es
pushed es old new e d = d ∙ ap (λ (xs : List (Option ℕ)). xs ++ map Some es) e

pub push_edges-requires : goal.push_edges-requires
push_edges-requires c = λ i d h. omega (arith, c.requires.nodes i d h, c.if-nodes-gt-NUMBERS_AT_MOST.false)

pub of_entries-requires-clause-whole : goal.of_entries-requires-clause-whole
of_entries-requires-clause-whole c =
    let items = pushed c.args.targets.now _ _ c.in_ok-entries.ensures.items c.in_ok-push_edges.ensures in
    ap length items ∙ length-map c.args.targets.now Some ∙ c.requires.full

pub of_entries-requires-clause-graph : goal.of_entries-requires-clause-graph
of_entries-requires-clause-graph c =
    let k = c.args.letters in
    let items = pushed c.args.targets.now _ _ c.in_ok-entries.ensures.items c.in_ok-push_edges.ensures in
    subst (λ (g : Graph). IsGraph k g) (sym (ap (rows_of k c.args.nodes) items ∙ cut_rows k c.args.nodes c.args.targets.now))
    (cut_is_graph k c.args.nodes c.args.targets.now c.requires.rooted c.requires.full c.requires.nodes)

pub returns : goal.returns
returns c =
    let items = pushed c.args.targets.now _ _ c.in_ok-entries.ensures.items c.in_ok-push_edges.ensures in
    c.of_entries.ensures ∙ ap (rows_of c.args.letters c.args.nodes) items ∙ cut_rows c.args.letters c.args.nodes c.args.targets.now
