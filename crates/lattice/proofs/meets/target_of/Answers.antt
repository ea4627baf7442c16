use Rattle.std.proofs.Common.{◌+◌, ◌*◌, ◌/◌, ◌%◌, ◌<◌, length, ◌∙◌, ap, sym, subst, arith}
use Rattle.std.specs.Option.{unwrap_or}
use Rattle.theory.specs.Graph.{target}
use Rattle.lattice.specs.Products.{IsStep}
use Rattle.lattice.proofs.ProductLaws.{stepped}
use Rattle.lattice.proofs.meets.target_of.Goals as goal

-- the pair that is made, and its edges
made : (c : goal.After-unwrap_or-right)
    → (c.unwrap_or-left.result * c.nodes-nodes.result + c.unwrap_or-right.result < length c.args.s.now * length c.args.t.now)
    × IsStep c.args.s.now c.args.t.now c.args.pair c.args.letter (c.unwrap_or-left.result * c.nodes-nodes.result + c.unwrap_or-right.result)
made c =
    let s = c.args.s.now in
    let t = c.args.t.now in
    let pair = c.args.pair in
    let l = c.unwrap_or-left.result in
    let r = c.unwrap_or-right.result in
    let both = c.requires.tables.1 in
    let n = c.nodes-nodes.ensures.nodes in
    subst (λ m. (l * m + r < length s * length t) × IsStep s t pair c.args.letter (l * m + r)) (sym n)
    (stepped c.requires.tables.0 s t both pair c.args.letter c.requires.pair (c.requires.letter c.requires.tables.0 both) l r
    (c.unwrap_or-left.ensures ∙ ap (λ o. unwrap_or o 0) (c.target.ensures ∙ ap (λ m. target s (pair / m) c.args.letter) n))
    (c.unwrap_or-right.ensures ∙ ap (λ o. unwrap_or o 0) (c.target-2.ensures ∙ ap (λ m. target t (pair % m) c.args.letter) n)))

pub overflow_mul-result : goal.overflow_mul-result
overflow_mul-result c = omega (arith, (made c).0, c.requires.small)

pub overflow_add-result : goal.overflow_add-result
overflow_add-result c = omega (arith, (made c).0, c.requires.small)

pub returns-clause-within : goal.returns-clause-within
returns-clause-within c = (made c).0

pub returns-clause-step : goal.returns-clause-step
returns-clause-step c = (made c).1
