use Rattle.std.proofs.Common.{◌≡◌, ◌≤◌, ◌-◌, ℕ, Bool, Global, List, Vec, length, map, get_or, ap, subst, sym, arith}
use Rattle.std.proofs.lemmas.List.{length-map}
use Rattle.reduced_automaton.specs.Paths.{GoesOn}
use Rattle.reduced_automaton.specs.Framings.{AreLayers, AreMarks, frame_paths}
use Rattle.rewriting.specs.Tables.{Moves, edges}
use Rattle.reduced_automaton.specs.declared.frames.Frame.{Frame}
use Rattle.reduced_automaton.proofs.MarkLaws.{layer_at}
use Rattle.reduced_automaton.proofs.paths.FramePathsKnownPaths.goes_on.Goals as goal

-- the marks of the layer
marks : (v : Moves × Frame × List (List Bool)) (layers : List (Vec Bool Global)) (count : ℕ) (layer : Vec Bool Global) (xs : List Bool)
    → map (λ (x : Vec Bool Global). x.items) layers ≡ v.2 → AreLayers (frame_paths (edges v.0) v.1) v.2 → count ≤ length v.2 - 1
    → layer ≡ get_or layers count layer → xs ≡ layer.items
    → AreMarks (λ node. GoesOn (frame_paths (edges v.0) v.1) node count) (length (frame_paths (edges v.0) v.1).graph) xs
marks v layers count layer xs items are known e d =
    layer_at (frame_paths (edges v.0) v.1) layers count layer xs (subst (λ (ls : List (List Bool)). AreLayers (frame_paths (edges v.0) v.1) ls) (sym items) are)
    (omega (arith, known, are.some, ap (λ (ls : List (List Bool)). length ls) items, length-map layers (λ (x : Vec Bool Global). x.items))) e d

pub bounds-as_slice-node : goal.bounds-as_slice-node
bounds-as_slice-node c =
    let P : Moves × Frame × List (List Bool) → Type 0 = λ v. AreLayers (frame_paths (edges v.0) v.1) v.2 in
    let m = marks c.args.self.now c.self.inside.layers.now c.args.count c.index-layers-count.result c.as_slice.result.now
    (ap (λ (v : Moves × Frame × List (List Bool)). v.2) c.self.view_is) (subst P c.self.view_is c.self.invariant.1) c.requires.known c.index-layers-count.is c.as_slice.ensures.value in
    omega (arith, c.requires.node, m.long)

pub returns : goal.returns
returns c =
    let P : Moves × Frame × List (List Bool) → Type 0 = λ v. AreLayers (frame_paths (edges v.0) v.1) v.2 in
    let m = marks c.args.self.now c.self.inside.layers.now c.args.count c.index-layers-count.result c.as_slice.result.now
    (ap (λ (v : Moves × Frame × List (List Bool)). v.2) c.self.view_is) (subst P c.self.view_is c.self.invariant.1) c.requires.known c.index-layers-count.is c.as_slice.ensures.value in
    m.at c.args.node c.requires.node
