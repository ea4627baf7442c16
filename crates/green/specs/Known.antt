-- What is known of the names of classes.
use Rattle.std.specs.Prelude.{◌≡◌, ℕ, List, length, Option, Some, IfSome, IsSome}
use Rattle.froidure_pin.specs.declared.tables.CayleyTables.{CayleyTables}
use Rattle.green.specs.Naming.{AreNames}
use Rattle.green.specs.Related.{AreRelated}
use Rattle.theory.specs.declared.Relation.{Relation}
use Rattle.theory.specs.declared.Relation.TheVariants.{R, L, H, J}

-- the names of the R-, the L- and the H-classes
pub record KnownNames : Type 0 where
  pub right : Option (List ℕ)
  pub left : Option (List ℕ)
  pub both : Option (List ℕ)

-- what is known of the names of R-, L- and H-classes is right
pub record AreNamesIn (t : CayleyTables) (known : KnownNames) : Type 0 where
  pub right : IfSome known.right (AreNames (length t.words) (AreRelated R t))
  pub left : IfSome known.left (AreNames (length t.words) (AreRelated L t))
  pub both : IfSome known.both (AreNames (length t.words) (AreRelated H t))

-- names that were known stay
abbrev pub StaysKnown : Option (List ℕ) → Option (List ℕ) → Type 0
StaysKnown old new = IfSome old (λ names. new ≡ Some names)

pub record KeepsNames (old new : KnownNames) : Type 0 where
  pub right : StaysKnown old.right new.right
  pub left : StaysKnown old.left new.left
  pub both : StaysKnown old.both new.both

-- the names by which the classes under one of Green's relations are found are known
abbrev pub HasNames : Relation → KnownNames → Type 0
HasNames R known = IsSome known.right
HasNames L known = IsSome known.left
HasNames H known = IsSome known.right × IsSome known.left × IsSome known.both
HasNames J known = IsSome known.right × IsSome known.left
