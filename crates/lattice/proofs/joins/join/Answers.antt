use Rattle.std.proofs.Common.{◌≡◌, ◌∙◌, ℕ, List, [], ◌∷◌, ◌++◌, ◌≤◌, ◌<◌, length, slice_index, subst, sym, ap, arith}
use Rattle.theory.specs.Graph.{Graph, IsGraph}
use Rattle.congruence_closure.specs.Maps.{AreInto, AreLeastClasses}
use Rattle.lattice.specs.Quotients.{both_edges, IsQuotient}
use Rattle.lattice.proofs.JoinLaws.{join_found, classes_down, tables_into}
use Rattle.lattice.proofs.joins.join.Goals as goal

-- the edges are those of the tables, and the pair is that of the roots
found : (s t : Graph) (edges : Graph × Graph) (roots : List (ℕ × ℕ)) (classes : List ℕ) → edges ≡ (s, t) → roots ≡ (0, length s) ∷ []
    → AreLeastClasses (both_edges edges.0 edges.1) roots classes → AreLeastClasses (both_edges s t) ((0, length s) ∷ []) classes
found s t edges roots classes e r h =
    subst (λ xs. AreLeastClasses (both_edges s t) xs classes) r (subst (λ (b : Graph × Graph). AreLeastClasses (both_edges b.0 b.1) roots classes) e h)

pub least_classes-requires-clause-maps : goal.least_classes-requires-clause-maps
least_classes-requires-clause-maps c =
    subst (λ (b : Graph × Graph). AreInto (both_edges b.0 b.1)) (sym c.new-edges.ensures) (tables_into c.requires.0 c.args.s.now c.args.t.now c.requires.1)

-- the pair of the roots
root_pair : (old new : List (ℕ × ℕ)) (s : Graph) (n : ℕ) → new ≡ old ++ (0, n) ∷ [] → old ≡ [] → n ≡ length s → new ≡ (0, length s) ∷ []
root_pair old new s n put none is = put ∙ ap (λ xs. xs ++ (0, n) ∷ []) none ∙ ap (λ (m : ℕ). (0, m) ∷ []) is

pub quotient-requires-clause-below : goal.quotient-requires-clause-below
quotient-requires-clause-below c =
    let s = c.args.s.now in
    let t = c.args.t.now in
    let h = found s t c.new-edges.result c.push.new.self.items c.in_ok-classes.classes.items c.new-edges.ensures (root_pair c.new-roots.result.items c.push.new.self.items s c.nodes-3.result c.in_ok-push.ensures.items c.new-roots.ensures.items c.nodes-3.ensures.nodes) c.in_ok-classes.ensures in
    subst (λ (xs : List ℕ). (i : ℕ) → i < length s → slice_index xs i ≤ i) (sym c.as_slice.ensures.value) (classes_down c.requires.0 s t c.in_ok-classes.classes.items c.requires.1 h)

pub returns : goal.returns
returns c =
    let s = c.args.s.now in
    let t = c.args.t.now in
    let h = found s t c.new-edges.result c.push.new.self.items c.in_ok-classes.classes.items c.new-edges.ensures (root_pair c.new-roots.result.items c.push.new.self.items s c.nodes-3.result c.in_ok-push.ensures.items c.new-roots.ensures.items c.nodes-3.ensures.nodes) c.in_ok-classes.ensures in
    join_found s t c.in_ok-quotient.field-0 c.standardise-2.result c.in_ok-classes.classes.items h
    (subst (λ (xs : List ℕ). (k : ℕ) → IsGraph k s → IsQuotient k s xs c.in_ok-quotient.field-0) c.as_slice.ensures.value c.in_ok-quotient.ensures)
    c.standardise-2.ensures.shows c.standardise-2.ensures.standard
