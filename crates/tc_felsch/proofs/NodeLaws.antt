-- How many nodes a definition makes.
use Rattle.std.proofs.Common.{◌≡◌, ℕ, ◌+◌, List, [], refl, ◌∙◌, ap, arith, Option, Some, None, length, cond, replicate, set, get_or, length-set}
use Rattle.std.specs.Option.{is_some, IfSome}
use Rattle.std.proofs.lemmas.List.{length_push}
use Rattle.theory.specs.Graph.{Graph}
use Rattle.word_graph.specs.Edges.{with_node}
use Rattle.coincidence.specs.Table.{CosetTable, IsDefined}

-- a definition makes one node
pub due_nodes : (old mid : CosetTable) (due : Option (ℕ × ℕ)) → (due ≡ None → mid ≡ old)
    → IfSome due (λ p. IsDefined old mid p.0 p.1 (length old.graph)) → length mid.graph ≡ length old.graph + cond (is_some due) 1 0
due_nodes old mid None same made = let e : length mid.graph ≡ length old.graph = ap (λ (t : CosetTable). length t.graph) (same refl) in omega (arith, e)
due_nodes old mid (Some p) same made =
    let k = old.congruence.presentation.letters in
    ap (λ (g : Graph). length g) made.graph ∙ length-set (with_node k old.graph) p.0 (set (get_or (with_node k old.graph) p.0 []) p.1 (Some (length old.graph)))
    ∙ length_push {X = List (Option ℕ)} old.graph (replicate k None)
