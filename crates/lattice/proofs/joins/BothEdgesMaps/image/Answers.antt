use Rattle.std.proofs.Common.{◌≡◌, ◌∙◌, ◌+◌, ◌-◌, ◌<◌, ◌≤◌, ap, arith, length, subst, sym}
use Rattle.std.specs.Option.{unwrap_or}
use Rattle.theory.specs.Graph.{Graph, target}
use Rattle.lattice.specs.Quotients.{width}
use Rattle.lattice.proofs.JoinLaws.{right_small}
use Rattle.lattice.proofs.ProductLaws.{table_of}
use Rattle.lattice.proofs.joins.BothEdgesMaps.image.Goals as goal

pub overflow_cast-map : goal.overflow_cast-map
overflow_cast-map c =
    let wide : width c.self.inside.s.now ≡ width c.args.self.now.0 = ap (λ (b : Graph × Graph). width b.0) c.self.view_is in
    omega (arith, wide, c.requires.map, c.self.invariant.letters, c.self.invariant.few)

pub overflow_add-result : goal.overflow_add-result
overflow_add-result c =
    let s = c.self.inside.s.now in
    let t = c.self.inside.t.now in
    let first : length s ≡ length c.args.self.now.0 = ap (λ (b : Graph × Graph). length b.0) c.self.view_is in
    let second : length t ≡ length c.args.self.now.1 = ap (λ (b : Graph × Graph). length b.1) c.self.view_is in
    let nodes : c.nodes-nodes.result ≡ length s = c.nodes-nodes.ensures.nodes in
    let both = c.self.invariant.tables in
    let is : c.unwrap_or-else-number-nodes.result ≡ unwrap_or (target t (c.args.number - length s) c.new-letter.result) 0 =
    c.unwrap_or-else-number-nodes.ensures ∙ ap (λ o. unwrap_or o 0) (c.target-else-number-nodes.ensures ∙ ap (λ n. target t (c.args.number - n) c.new-letter.result) nodes) in
    let small : length s + c.unwrap_or-else-number-nodes.result < length s + length t =
    right_small s t both.0 c.args.number c.new-letter.result c.unwrap_or-else-number-nodes.result (table_of both.0 s both.1.left).graph (table_of both.0 t both.1.right).graph
    (omega (arith, nodes, c.if-number-nodes.false)) (omega (arith, first, second, c.requires.number)) is in
    omega (arith, small, nodes, c.self.invariant.small)
