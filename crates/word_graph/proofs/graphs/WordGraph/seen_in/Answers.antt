use Rattle.std.proofs.Common.{◌≡◌, ◌≤◌, ℕ, Option, Some, None, List, [], length, take, get_or, map, sym, ◌∙◌, ap, subst, arith, inl, inr}
use Rattle.std.specs.Option.{MatchOption}
use Rattle.std.proofs.lemmas.Bool.{cases_lt}
use Rattle.std.proofs.lemmas.List.{take_all, length-map, get_or-map, get_or_past}
use Rattle.theory.specs.Graph.{Graph, target, IsGraph}
use Rattle.theory.specs.LowIndex.{Rows, graph_of, IsNumberedFrom}
use Rattle.word_graph.specs.Numbered.{max_from, seen_at}
use Rattle.word_graph.proofs.NumberLaws.{seen_step, seen_stop}
use Rattle.word_graph.proofs.graphs.WordGraph.seen_in.Goals as goal

row_fits : (k : ℕ) (rows : Rows) (node : ℕ) → IsGraph k (graph_of rows) → length (get_or rows node []) ≤ k
row_fits k rows node graph = elim (cases_lt node (length rows)) [
  | inl h ↦
      let wide : length (get_or (graph_of rows) node []) ≡ k = graph.width node [] (omega (arith, h, length-map rows (map Some))) in
      let row : get_or (graph_of rows) node [] ≡ map Some (get_or rows node []) = get_or-map (map Some) rows node [] [] h in
      omega (arith, wide, ap (λ (r : List (Option ℕ)). length r) row, length-map (get_or rows node []) Some)
  | inr past ↦ omega (arith, ap (λ (r : List ℕ). length r) (get_or_past rows node [] past))
]

pub returns-in_err-greatest : goal.returns-in_err-greatest
returns-in_err-greatest c = λ rows e.
    let inv = c.loop-number.invariant rows e in
    let letter : c.new.result ≡ c.loop-number.number = c.new.ensures in
    let here : c.target-target.result ≡ target (graph_of rows) c.args.node c.loop-number.number =
    c.target-target.ensures ∙ ap (λ (g : Graph). target g c.args.node c.new.result) e ∙ ap (λ z. target (graph_of rows) c.args.node z) letter in
    let none : seen_at (target (graph_of rows) c.args.node c.loop-number.number) c.loop-number.greatest ≡ None =
    sym (ap (λ t. seen_at t c.loop-number.greatest) here) ∙ sym c.seen_at.ensures ∙ c.in_err-greatest.was in
    subst (λ (o : Option ℕ). MatchOption o (IsNumberedFrom c.args.seen (get_or rows c.args.node []) → ⊥) (λ next. IsNumberedFrom c.args.seen (get_or rows c.args.node []) × (next ≡ max_from c.args.seen (get_or rows c.args.node []))))
    (sym c.from_residual.ensures) (seen_stop rows c.args.node c.args.seen c.loop-number.number c.loop-number.greatest inv.0 inv.1 none)

pub loop-number-preserved : goal.loop-number-preserved
loop-number-preserved c = λ rows e.
    let inv = c.loop-number.invariant rows e in
    let letter : c.new.result ≡ c.loop-number.number = c.new.ensures in
    let here : c.target-target.result ≡ target (graph_of rows) c.args.node c.loop-number.number =
    c.target-target.ensures ∙ ap (λ (g : Graph). target g c.args.node c.new.result) e ∙ ap (λ z. target (graph_of rows) c.args.node z) letter in
    let some : seen_at (target (graph_of rows) c.args.node c.loop-number.number) c.loop-number.greatest ≡ Some c.in_ok-greatest.greatest =
    sym (ap (λ t. seen_at t c.loop-number.greatest) here) ∙ sym c.in_ok-greatest.ensures in
    seen_step rows c.args.node c.args.seen c.loop-number.number c.loop-number.greatest inv.0 inv.1 c.in_ok-greatest.greatest some

pub returns : goal.returns
returns c = λ rows e.
    let graph : IsGraph c.letters-letters.result (graph_of rows) = subst (λ (g : Graph). IsGraph c.letters-letters.result g) e c.letters-letters.ensures.graph in
    let all : take c.loop-number.number (get_or rows c.args.node []) ≡ get_or rows c.args.node [] =
    take_all c.loop-number.number (get_or rows c.args.node []) (omega (arith, row_fits c.letters-letters.result rows c.args.node graph, c.loop-number-test.false)) in
    subst (λ (xs : List ℕ). IsNumberedFrom c.args.seen xs × (c.loop-number.greatest ≡ max_from c.args.seen xs)) all (c.loop-number.invariant rows e)
