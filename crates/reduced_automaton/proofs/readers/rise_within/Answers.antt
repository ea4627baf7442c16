use Rattle.std.proofs.Common.{◌≡◌, ◌+◌, ◌-◌, ◌<◌, length, get_or, subst, arith}
use Rattle.reduced_automaton.specs.Paths.{IsLeastEdge, IsWithoutEdge}
use Rattle.reduced_automaton.proofs.PathLaws.{allows_less}
use Rattle.reduced_automaton.proofs.NextPaths.{IsLastBehind, rise_at, scan_end, scan_start, scan_step}
use Rattle.reduced_automaton.proofs.readers.rise_within.Goals as goal

pub loop-place-init : goal.loop-place-init
loop-place-init g c =
    let p = g.P.KnownPaths.paths c.args.paths.now in
    scan_start p c.letters-letters.ensures.graph c.args.root c.args.word.now c.args.nodes.now c.requires.nodes

pub least_edge-requires : goal.least_edge-requires
least_edge-requires g c = allows_less (g.P.KnownPaths.known c.args.paths.now) (length c.args.word.now) (c.len.result - (c.loop-place.place - 1) - 1) (omega (arith, c.len.ensures)) c.requires.known

pub returns-in-Some : goal.returns-in-Some
returns-in-Some g c =
    let p = g.P.KnownPaths.paths c.args.paths.now in
    let back : c.loop-place.place ≡ (c.loop-place.place - 1) + 1 = omega arith in
    let inside : c.loop-place.place - 1 < length c.args.nodes.now = omega arith in
    let size : c.len.result - (c.loop-place.place - 1) - 1 + (c.loop-place.place - 1) + 1 ≡ length c.args.word.now = omega (arith, c.requires.nodes.few) in
    let node = get_or c.args.nodes.now (c.loop-place.place - 1) 0 in
    rise_at p c.letters-letters.ensures.graph c.args.root c.args.word.now (c.loop-place.place - 1) node c.letter.result
    (c.requires.nodes.at (c.loop-place.place - 1) inside) c.letter.ensures
    (subst (λ z. IsLastBehind p c.args.root c.args.word.now z) back c.loop-place.invariant)
    (c.len.result - (c.loop-place.place - 1) - 1) c.in-Some.edge.0 c.in-Some.edge.1 size
    (subst (λ z. IsLeastEdge p node (c.len.result - (c.loop-place.place - 1) - 1) (z + 1) c.in-Some.edge.0 c.in-Some.edge.1) c.number-above.ensures c.in-Some.ensures)

pub loop-place-preserved : goal.loop-place-preserved
loop-place-preserved g c =
    let p = g.P.KnownPaths.paths c.args.paths.now in
    let back : c.loop-place.place ≡ (c.loop-place.place - 1) + 1 = omega arith in
    let inside : c.loop-place.place - 1 < length c.args.nodes.now = omega arith in
    let size : c.len.result - (c.loop-place.place - 1) - 1 + (c.loop-place.place - 1) + 1 ≡ length c.args.word.now = omega (arith, c.requires.nodes.few) in
    let node = get_or c.args.nodes.now (c.loop-place.place - 1) 0 in
    scan_step p c.letters-letters.ensures.graph c.args.root c.args.word.now (c.loop-place.place - 1) node c.letter.result
    (c.requires.nodes.at (c.loop-place.place - 1) inside) c.letter.ensures
    (subst (λ z. IsLastBehind p c.args.root c.args.word.now z) back c.loop-place.invariant)
    (c.len.result - (c.loop-place.place - 1) - 1) size
    (subst (λ z. IsWithoutEdge p node (c.len.result - (c.loop-place.place - 1) - 1) (z + 1)) c.number-above.ensures c.in_default.ensures)

pub returns : goal.returns
returns g c =
    let p = g.P.KnownPaths.paths c.args.paths.now in
    let none : c.loop-place.place ≡ 0 = omega arith in
    scan_end p c.letters-letters.ensures.graph c.args.root c.args.word.now c.loop-place.place none c.loop-place.invariant
