use Rattle.std.proofs.Common.{◌≡◌, ℕ, List, subst, sym}
use Rattle.theory.specs.Word.{Word}
use Rattle.theory.specs.declared.Kind.{Kind}
use Rattle.congruence_closure.specs.Maps.{AreLeastClasses}
use Rattle.froidure_pin.specs.declared.tables.CayleyTables.{CayleyTables}
use Rattle.cayley.specs.Placing.{AreNamed, ArePlacedClasses}
use Rattle.cayley.specs.Sides.{side_maps, numbers_of}
use Rattle.cayley.specs.Tables.{AreClasses}
use Rattle.cayley.proofs.SideLaws.{kept_classes, kept_named}
use Rattle.cayley.proofs.PlacedClasses.{seen_classes}
use Rattle.cayley.proofs.classes.by_pairs.Goals as goal

-- the sides are those of the tables, and the pairs their numbers
kept : (t : CayleyTables) (kind : Kind) (pairs : List (Word × Word)) (sides : CayleyTables × Kind) (merged : List (ℕ × ℕ)) (classes : List ℕ)
    → sides ≡ (t, kind) → merged ≡ numbers_of t pairs → AreLeastClasses (side_maps sides.0 sides.1) merged classes
    → AreLeastClasses (side_maps t kind) (numbers_of t pairs) classes
kept t kind pairs sides merged classes e n h =
    subst (λ xs. AreLeastClasses (side_maps t kind) xs classes) n (subst (λ (s : CayleyTables × Kind). AreLeastClasses (side_maps s.0 s.1) merged classes) e h)

pub placed-requires : goal.placed-requires
placed-requires c =
    subst (λ (xs : List ℕ). AreNamed xs) (sym c.as_slice.ensures.value)
    (kept_named c.args.tables.now c.args.kind c.args.pairs.now c.in_ok-numbers.numbers.items
    (kept c.args.tables.now c.args.kind c.args.pairs.now c.new-sides.result c.in_ok-merged.merged.items c.in_ok-numbers.numbers.items c.new-sides.ensures c.in_ok-merged.ensures.numbers c.in_ok-numbers.ensures))

pub returns : goal.returns
returns c =
    let t = c.args.tables.now in
    let placed = subst (λ (xs : List ℕ). ArePlacedClasses xs c.in_ok-roots.roots.items c.in_ok-roots.places.items) c.as_slice.ensures.value c.in_ok-roots.ensures in
    subst (λ xs. AreClasses t c.args.kind c.args.pairs.now xs) (seen_classes c.in_ok-numbers.numbers.items c.in_ok-roots.roots.items c.in_ok-roots.places.items placed)
    (kept_classes t c.args.kind c.args.pairs.now c.in_ok-numbers.numbers.items
    (kept t c.args.kind c.args.pairs.now c.new-sides.result c.in_ok-merged.merged.items c.in_ok-numbers.numbers.items c.new-sides.ensures c.in_ok-merged.ensures.numbers c.in_ok-numbers.ensures))
