use Rattle.std.proofs.Common.{◌≡◌, ◌<◌, length, sym, ap, arith}
use Rattle.reduced_automaton.specs.Paths.{AreIn, GoesFar}
use Rattle.reduced_automaton.specs.Framings.{count_marked, frame_paths}
use Rattle.rewriting.specs.Tables.{edges}
use Rattle.reduced_automaton.proofs.MarkLaws.{far_endless, far_limit, far_start, far_step, frame_graph, layer_in, marks_end, narrowed_count, not_fewer}
use Rattle.reduced_automaton.proofs.marks.limit_of.Goals as goal

pub loop-alloc-init : goal.loop-alloc-init
loop-alloc-init c =
    let g = edges c.args.graph.now in
    let p = frame_paths g c.args.frame.now in
    let graph : AreIn p = frame_graph c.letters-letters.result c.args.graph.now.letters g c.args.frame.now c.letters-letters.ensures.letters c.letters-letters.ensures.graph c.requires.few in
    far_start p graph c.args.start (omega (arith, c.requires.start, narrowed_count c.args.frame.now.letters g)) c.args.marks.items
    (marks_end (λ node. GoesFar p node 0) (length g) (length p.graph) c.args.marks.items (sym (narrowed_count c.args.frame.now.letters g)) c.requires.marks)

pub loop-alloc-preserved : goal.loop-alloc-preserved
loop-alloc-preserved c =
    let g = edges c.args.graph.now in
    let p = frame_paths g c.args.frame.now in
    let graph : AreIn p = frame_graph c.letters-letters.result c.args.graph.now.letters g c.args.frame.now c.letters-letters.ensures.letters c.letters-letters.ensures.graph c.requires.few in
    let inside : c.args.start < length p.graph = omega (arith, c.requires.start, narrowed_count c.args.frame.now.letters g) in
    let layer = layer_in g c.args.frame.now c.loop-alloc.far.items c.as_slice.result.now c.in_ok-next.next.items c.as_slice.ensures.value c.in_ok-next.ensures in
    let less = c.has_fewer.ensures.0 c.if-not-has_fewer.false in
    let lesser : count_marked c.as_slice-in-loop-alloc.result.now ≡ count_marked c.in_ok-next.next.items = ap count_marked c.as_slice-in-loop-alloc.ensures.value in
    let greater : count_marked c.as_slice-in-loop-alloc-2.result.now ≡ count_marked c.loop-alloc.far.items = ap count_marked c.as_slice-in-loop-alloc-2.ensures.value in
    far_step p graph c.args.start inside c.loop-alloc.letters c.loop-alloc.far.items c.loop-alloc.invariant c.index.result.now c.index.ensures c.loop-alloc-test.true c.in_ok-next.next.items layer
    (omega (arith, less, lesser, greater))

pub returns-then-not-has_fewer : goal.returns-then-not-has_fewer
returns-then-not-has_fewer c =
    let g = edges c.args.graph.now in
    let p = frame_paths g c.args.frame.now in
    let graph : AreIn p = frame_graph c.letters-letters.result c.args.graph.now.letters g c.args.frame.now c.letters-letters.ensures.letters c.letters-letters.ensures.graph c.requires.few in
    let inside : c.args.start < length p.graph = omega (arith, c.requires.start, narrowed_count c.args.frame.now.letters g) in
    let layer = layer_in g c.args.frame.now c.loop-alloc.far.items c.as_slice.result.now c.in_ok-next.next.items c.as_slice.ensures.value c.in_ok-next.ensures in
    let few = not_fewer c.has_fewer.result (count_marked c.as_slice-in-loop-alloc.result.now) (count_marked c.as_slice-in-loop-alloc-2.result.now) c.has_fewer.ensures c.if-not-has_fewer.true in
    let lesser : count_marked c.as_slice-in-loop-alloc.result.now ≡ count_marked c.in_ok-next.next.items = ap count_marked c.as_slice-in-loop-alloc.ensures.value in
    let greater : count_marked c.as_slice-in-loop-alloc-2.result.now ≡ count_marked c.loop-alloc.far.items = ap count_marked c.as_slice-in-loop-alloc-2.ensures.value in
    far_endless p graph c.args.start inside c.loop-alloc.letters c.loop-alloc.far.items c.loop-alloc.invariant c.index.result.now c.index.ensures c.loop-alloc-test.true c.in_ok-next.next.items layer
    (omega (arith, few, lesser, greater))

pub returns : goal.returns
returns c =
    let g = edges c.args.graph.now in
    let p = frame_paths g c.args.frame.now in
    let graph : AreIn p = frame_graph c.letters-letters.result c.args.graph.now.letters g c.args.frame.now c.letters-letters.ensures.letters c.letters-letters.ensures.graph c.requires.few in
    let inside : c.args.start < length p.graph = omega (arith, c.requires.start, narrowed_count c.args.frame.now.letters g) in
    far_limit p graph c.args.start inside c.loop-alloc.letters c.loop-alloc.far.items c.loop-alloc.invariant c.index.result.now c.index.ensures c.loop-alloc-test.false
