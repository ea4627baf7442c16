use Rattle.std.proofs.Common.{◌≡◌, ℕ, ◌*◌, ◌<◌, ◌≤◌, All, List, [], ◌++◌, length, map, take, get_or, Option, sym, ◌∙◌, ap, ap₂, subst, subst₂, arith}
use Rattle.std.proofs.lemmas.List.{get_or_read, take_all, map_more}
use Rattle.theory.specs.Graph.{Graph, SameEnd, Shows, IsGraph}
use Rattle.cells.specs.Rows.{flat, rows_of}
use Rattle.cells.proofs.CellLaws.{flat_more}
use Rattle.word_graph.specs.Steps.{step_at, IsWalkedTo}
use Rattle.word_graph.specs.Renumber.{renumber}
use Rattle.word_graph.specs.Standard.{renumbered, IsStandardGraph}
use Rattle.word_graph.specs.declared.walks.Step.{Step}
use Rattle.word_graph.proofs.StandardLaws.{step_inside, renumbered_few, renumbered_long, renumbered_rows, renumbered_graph, renumbered_shows, renumbered_standard}
use Rattle.word_graph.proofs.graphs.WordGraph.standardise.Goals as goal

-- the walk over the steps that the loop reads
the_walk : {k : ℕ} {g : Graph} {steps xs : List Step} {places : List (Option ℕ)} → xs ≡ steps → IsWalkedTo k g steps places (length steps) 0 → IsWalkedTo k g xs places (length xs) 0
the_walk {k} {g} {steps} {xs} {places} e is = subst (λ (ys : List Step). IsWalkedTo k g ys places (length ys) 0) (sym e) is

-- the rows have one length
one_width : {k l : ℕ} {rows g : Graph} → rows ≡ g → IsGraph k g → All (λ row. length row ≡ l) rows → l ≡ k
one_width {l = l} e graph w = sym (subst (λ (g : Graph). All (λ row. length row ≡ l) g) e w 0 [] graph.rooted) ∙ graph.width 0 [] graph.rooted

-- the loop has read all steps
all_read : (g : Graph) (steps : List Step) (places entries : List (Option ℕ)) (i : ℕ) → entries ≡ flat (renumbered (take i steps) places g) → length steps ≤ i
    → entries ≡ flat (renumbered steps places g)
all_read g steps places entries i e h = e ∙ ap (λ (ys : List Step). flat (renumbered ys places g)) (take_all i steps h)

made : {k l n : ℕ} {g : Graph} {steps : List Step} {places entries : List (Option ℕ)} → IsGraph k g → IsWalkedTo k g steps places (length steps) 0
    → l ≡ k → n ≡ length steps → entries ≡ flat (renumbered steps places g) → rows_of l n entries ≡ renumbered steps places g
made {k} {l} {n} {g} {steps} {places} {entries} graph is width count read =
    ap (λ j. rows_of j n entries) width ∙ ap₂ (rows_of k) count read ∙ renumbered_rows k g steps places graph is

pub row-requires : goal.row-requires
row-requires c =
    let k = c.self.inside.letters in
    let g : Graph = c.args.self.now in
    let graph : IsGraph k g = subst (IsGraph k) c.self.view_is c.self.invariant.graph in
    let at = get_or_read _ _ _ c.loop-step-test.true c.step-item.is (record { node = 0; parent = 0; letter = 0 }) in
    let inside = step_inside k g c.deref-step-items.result.now c.in_ok-steps.field-0.places.items graph (the_walk c.deref-step-items.ensures.value (c.in_ok-steps.ensures k graph)) c.loop-step.step-index c.loop-step-test.true in
    omega (arith, subst (λ (s : Step). s.node < length g) (sym at) inside, ap (λ (g : Graph). length g) c.self.view_is)

pub push_renumbered-requires : goal.push_renumbered-requires
push_renumbered-requires c = λ target place e.
    let k = c.self.inside.letters in
    let graph : IsGraph k c.args.self.now = subst (IsGraph k) c.self.view_is c.self.invariant.graph in
    let is = the_walk c.deref-step-items.ensures.value (c.in_ok-steps.ensures k graph) in
    let less = renumbered_few k c.args.self.now c.deref-step-items.result.now c.in_ok-steps.field-0.places.items graph is target place (ap (λ (ps : List (Option ℕ)). renumber ps target) (sym c.as_slice.ensures.value) ∙ e) in
    omega (arith, less, is.left, c.letters-letters.ensures.few, ap (λ (g : Graph). length g) c.self.view_is)

pub loop-step-preserved : goal.loop-step-preserved
loop-step-preserved c =
    let g : Graph = c.args.self.now in
    let steps : List Step = c.deref-step-items.result.now in
    let places : List (Option ℕ) = c.in_ok-steps.field-0.places.items in
    let at : c.step-item.result ≡ step_at steps c.loop-step.step-index = get_or_read _ _ _ c.loop-step-test.true c.step-item.is (record { node = 0; parent = 0; letter = 0 }) in
    let row : map (renumber c.as_slice.result.now) c.row.result.now ≡ map (renumber places) (get_or g (step_at steps c.loop-step.step-index).node []) =
    ap₂ (λ (ps : List (Option ℕ)) (r : List (Option ℕ)). map (renumber ps) r) c.as_slice.ensures.value (c.row.ensures ∙ ap₂ (λ (z : Graph) (s : Step). get_or z s.node []) c.self.view_is at) in
    let more = renumbered (take c.loop-step.step-index steps) places g in
    c.in_ok-push_renumbered.ensures ∙ ap₂ (λ (xs : List (Option ℕ)) (r : List (Option ℕ)). xs ++ r) c.loop-step.invariant row
    ∙ flat_more more (map (renumber places) (get_or g (step_at steps c.loop-step.step-index).node []))
    ∙ ap flat (sym (map_more (λ (s : Step). map (renumber places) (get_or g s.node [])) steps c.loop-step.step-index (record { node = 0; parent = 0; letter = 0 }) c.loop-step-test.true))

-- where the loop has ended
graph_is : (c : goal.After-len) → IsGraph c.self.inside.letters c.args.self.now
graph_is c = subst (IsGraph c.self.inside.letters) c.self.view_is c.self.invariant.graph

walk_is : (c : goal.After-len)
    → IsWalkedTo c.self.inside.letters c.args.self.now c.deref-step-items.result.now c.in_ok-steps.field-0.places.items (length c.deref-step-items.result.now) 0
walk_is c = the_walk c.deref-step-items.ensures.value (c.in_ok-steps.ensures c.self.inside.letters (graph_is c))

width_is : (c : goal.After-len) → c.letters-letters.result ≡ c.self.inside.letters
width_is c = one_width c.self.view_is (graph_is c) c.letters-letters.ensures.rows

count_is : (c : goal.After-len) → c.len.result ≡ length c.deref-step-items.result.now
count_is c = omega (arith, c.len.ensures, c.deref-step-items.ensures.len)

read_is : (c : goal.After-len) → c.loop-step.entries.items ≡ flat (renumbered c.deref-step-items.result.now c.in_ok-steps.field-0.places.items c.args.self.now)
read_is c = all_read c.args.self.now c.deref-step-items.result.now c.in_ok-steps.field-0.places.items c.loop-step.entries.items c.loop-step.step-index c.loop-step.invariant c.loop-step-test.false

pub of_entries-requires-clause-few : goal.of_entries-requires-clause-few
of_entries-requires-clause-few c = omega (arith, width_is c, c.self.invariant.few)

pub of_entries-requires-clause-room : goal.of_entries-requires-clause-room
of_entries-requires-clause-room c = omega (arith, count_is c, (walk_is c).left, c.letters-letters.ensures.few, ap (λ (g : Graph). length g) c.self.view_is)

pub of_entries-requires-clause-whole : goal.of_entries-requires-clause-whole
of_entries-requires-clause-whole c =
    ap length (read_is c) ∙ renumbered_long c.self.inside.letters c.args.self.now c.deref-step-items.result.now c.in_ok-steps.field-0.places.items (graph_is c) (walk_is c)
    ∙ ap₂ (λ a b. a * b) (sym (count_is c)) (sym (width_is c))

pub of_entries-requires-clause-graph : goal.of_entries-requires-clause-graph
of_entries-requires-clause-graph c =
    subst₂ IsGraph (sym (width_is c)) (sym (made (graph_is c) (walk_is c) (width_is c) (count_is c) (read_is c)))
    (renumbered_graph c.self.inside.letters c.args.self.now c.deref-step-items.result.now c.in_ok-steps.field-0.places.items (graph_is c) (walk_is c))

-- and where the graph is made
last_walk : (c : goal.After-drop-steps-2) (k : ℕ) → IsGraph k c.args.self.now
    → IsWalkedTo k c.args.self.now c.deref-step-items.result.now c.in_ok-steps.field-0.places.items (length c.deref-step-items.result.now) 0
last_walk c k graph = the_walk c.deref-step-items.ensures.value (c.in_ok-steps.ensures k graph)

last_made : (c : goal.After-drop-steps-2) (k : ℕ) → IsGraph k c.args.self.now → c.of_entries.result ≡ renumbered c.deref-step-items.result.now c.in_ok-steps.field-0.places.items c.args.self.now
last_made c k graph =
    c.of_entries.ensures
    ∙ made graph (last_walk c k graph) (one_width c.self.view_is graph c.letters-letters.ensures.rows) (omega (arith, c.len.ensures, c.deref-step-items.ensures.len)) (all_read c.args.self.now c.deref-step-items.result.now c.in_ok-steps.field-0.places.items c.loop-step.entries.items c.loop-step.step-index c.loop-step.invariant c.loop-step-test.false)

pub returns-clause-shows : goal.returns-clause-shows
returns-clause-shows c =
    let k = c.self.inside.letters in
    let graph : IsGraph k c.args.self.now = subst (IsGraph k) c.self.view_is c.self.invariant.graph in
    subst (λ (h : Graph). Shows h (SameEnd c.args.self.now)) (sym (last_made c k graph))
    (renumbered_shows k c.args.self.now c.deref-step-items.result.now c.in_ok-steps.field-0.places.items graph (last_walk c k graph))

pub returns-clause-graph : goal.returns-clause-graph
returns-clause-graph c = λ k graph.
    subst (IsGraph k) (sym (last_made c k graph))
    (renumbered_graph k c.args.self.now c.deref-step-items.result.now c.in_ok-steps.field-0.places.items graph (last_walk c k graph))

pub returns-clause-standard : goal.returns-clause-standard
returns-clause-standard c = λ k graph all.
    subst (IsStandardGraph k) (sym (last_made c k graph))
    (renumbered_standard k c.args.self.now c.deref-step-items.result.now c.in_ok-steps.field-0.places.items graph (last_walk c k graph) all)
