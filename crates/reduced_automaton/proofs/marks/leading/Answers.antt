use Rattle.std.proofs.Common.{◌≡◌, ◌↔◌, ◌<◌, Bool, List, length, true, sym, ap, subst, arith}
use Rattle.reduced_automaton.specs.Paths.{AreIn, GoesFar}
use Rattle.reduced_automaton.specs.Framings.{AreMarks, IsGrown, count_marked, frame_paths}
use Rattle.rewriting.specs.Tables.{edges}
use Rattle.reduced_automaton.proofs.MarkLaws.{AreGrowing, count_most, count_within, ends_in, frame_graph, growing_end, growing_less, growing_more, growing_spread, growing_start, growing_within, marks_end, narrowed_count}
use Rattle.reduced_automaton.proofs.marks.leading.Goals as goal
use Rattle.reduced_automaton.proofs.marks.leading.Goals.{After-drop-marks-in-loop-growing}

pub loop-growing-init : goal.loop-growing-init
loop-growing-init c =
    let g = edges c.args.graph.now in
    let p = frame_paths g c.args.frame.now in
    let graph : AreIn p = frame_graph c.letters-letters.result c.args.graph.now.letters g c.args.frame.now c.letters-letters.ensures.letters c.letters-letters.ensures.graph c.requires.few in
    subst (λ (xs : List Bool). AreGrowing p c.args.ends.now xs 1 true) (sym c.in_ok-marks.ensures.items)
    (growing_start p graph c.args.ends.now (ends_in g c.args.frame.now c.args.ends.now c.requires.ends))

pub grown-requires-clause-count : goal.grown-requires-clause-count
grown-requires-clause-count c = omega (arith, ap (λ (xs : List Bool). length xs) c.as_slice.ensures.value, c.loop-growing.invariant.long, narrowed_count c.args.frame.now.letters (edges c.args.graph.now))

pub overflow_add-spread : goal.overflow_add-spread
overflow_add-spread c =
    let few = c.loop-growing.invariant.few c.loop-growing-test.true in
    let most = count_most c.loop-growing.marks.items in
    omega (arith, few, most)

-- the marks that the loop had, before a round
old : (c : After-drop-marks-in-loop-growing) → AreGrowing (frame_paths (edges c.args.graph.now) c.args.frame.now) c.args.ends.now c.loop-growing.marks.items c.loop-growing.spread true
old c = subst (λ (b : Bool). AreGrowing (frame_paths (edges c.args.graph.now) c.args.frame.now) c.args.ends.now c.loop-growing.marks.items c.loop-growing.spread b) c.loop-growing-test.true c.loop-growing.invariant

-- the marks after it
next : (c : After-drop-marks-in-loop-growing)
    → AreMarks (IsGrown (frame_paths (edges c.args.graph.now) c.args.frame.now).graph c.args.ends.now c.loop-growing.marks.items)
    (length (frame_paths (edges c.args.graph.now) c.args.frame.now).graph) c.in_ok-new.new.items
next c =
    let g = edges c.args.graph.now in
    let p = frame_paths g c.args.frame.now in
    let there = marks_end (IsGrown p.graph c.args.ends.now c.as_slice.result.now) (length g) (length p.graph) c.in_ok-new.new.items (sym (narrowed_count c.args.frame.now.letters g)) c.in_ok-new.ensures in
    subst (λ (xs : List Bool). AreMarks (IsGrown p.graph c.args.ends.now xs) (length p.graph) c.in_ok-new.new.items) c.as_slice.ensures.value there

test : (c : After-drop-marks-in-loop-growing) → (c.has_fewer-growing.result ≡ true) ↔ (count_marked c.loop-growing.marks.items < count_marked c.in_ok-new.new.items)
test c =
    let lesser : count_marked c.as_slice-in-loop-growing.result.now ≡ count_marked c.loop-growing.marks.items = ap count_marked c.as_slice-in-loop-growing.ensures.value in
    let greater : count_marked c.as_slice-in-loop-growing-2.result.now ≡ count_marked c.in_ok-new.new.items = ap count_marked c.as_slice-in-loop-growing-2.ensures.value in (
      λ t. let less = c.has_fewer-growing.ensures.0 t in omega (arith, less, lesser, greater),
      λ less. c.has_fewer-growing.ensures.1 (omega (arith, less, lesser, greater)),
    )

pub loop-growing-preserved : goal.loop-growing-preserved
loop-growing-preserved c =
    let g = edges c.args.graph.now in
    let p = frame_paths g c.args.frame.now in
    let graph : AreIn p = frame_graph c.letters-letters.result c.args.graph.now.letters g c.args.frame.now c.letters-letters.ensures.letters c.letters-letters.ensures.graph c.requires.few in
    growing_more p graph c.args.ends.now (ends_in g c.args.frame.now c.args.ends.now c.requires.ends) c.loop-growing.marks.items c.in_ok-new.new.items c.loop-growing.spread c.has_fewer-growing.result
    (old c) (next c) (test c)

pub loop-growing-smaller : goal.loop-growing-smaller
loop-growing-smaller c =
    let g = edges c.args.graph.now in
    let p = frame_paths g c.args.frame.now in
    let graph : AreIn p = frame_graph c.letters-letters.result c.args.graph.now.letters g c.args.frame.now c.letters-letters.ensures.letters c.letters-letters.ensures.graph c.requires.few in
    let within = growing_within p graph c.args.ends.now (ends_in g c.args.frame.now c.args.ends.now c.requires.ends) c.loop-growing.marks.items c.in_ok-new.new.items c.loop-growing.spread c.has_fewer-growing.result
    (old c) (next c) (test c) in
    growing_less (length g) (count_marked c.loop-growing.marks.items) (count_marked c.in_ok-new.new.items) c.loop-growing.growing c.has_fewer-growing.result c.loop-growing-test.true
    (count_within c.loop-growing.marks.items c.in_ok-new.new.items within)
    (omega (arith, count_most c.in_ok-new.new.items, (next c).long, narrowed_count c.args.frame.now.letters g)) (test c).0

pub returns-clause-marks : goal.returns-clause-marks
returns-clause-marks c =
    let g = edges c.args.graph.now in
    let p = frame_paths g c.args.frame.now in
    let graph : AreIn p = frame_graph c.letters-letters.result c.args.graph.now.letters g c.args.frame.now c.letters-letters.ensures.letters c.letters-letters.ensures.graph c.requires.few in
    marks_end (λ node. GoesFar p node 0) (length p.graph) (length g) c.loop-growing.marks.items (narrowed_count c.args.frame.now.letters g)
    (growing_end p graph c.args.ends.now (ends_in g c.args.frame.now c.args.ends.now c.requires.ends) c.loop-growing.marks.items c.loop-growing.spread
    (subst (λ (b : Bool). AreGrowing p c.args.ends.now c.loop-growing.marks.items c.loop-growing.spread b) c.loop-growing-test.false c.loop-growing.invariant))

pub returns-clause-spread : goal.returns-clause-spread
returns-clause-spread c =
    let g = edges c.args.graph.now in
    let p = frame_paths g c.args.frame.now in
    let graph : AreIn p = frame_graph c.letters-letters.result c.args.graph.now.letters g c.args.frame.now c.letters-letters.ensures.letters c.letters-letters.ensures.graph c.requires.few in
    growing_spread p graph c.args.ends.now (ends_in g c.args.frame.now c.args.ends.now c.requires.ends) c.loop-growing.marks.items c.loop-growing.spread
    (subst (λ (b : Bool). AreGrowing p c.args.ends.now c.loop-growing.marks.items c.loop-growing.spread b) c.loop-growing-test.false c.loop-growing.invariant)
