-- The index of relations: where letters stand in their sides, the periods of these, and with which
-- letters they begin.
use Rattle.std.specs.Prelude.{Bool, true, false, List, IfSome}
use Rattle.theory.specs.Word.{Word}
use Rattle.coincidence.specs.Starts.{AreFirstLetters, AreStarts}
use Rattle.coincidence.specs.Uses.{ArePeriods, AreUses}
use Rattle.coincidence.specs.declared.indexed.Index.{Index}
use Rattle.coincidence.specs.declared.indexed.SideIndex.{SideIndex}

-- of the first sides, or of the second ones
pub record IsSideIndex (second : Bool) (pairs : List (Word × Word)) (side : SideIndex) : Type 0 where
  pub uses : AreUses second pairs side.uses
  pub periods : ArePeriods second pairs side.periods

-- of both sides
pub record IsIndex (pairs : List (Word × Word)) (index : Index) : Type 0 where
  pub firsts : IsSideIndex false pairs index.firsts
  pub seconds : IsSideIndex true pairs index.seconds
  pub starts : AreStarts pairs index.starts
  pub first_letters : IfSome index.first_letters (λ f. AreFirstLetters pairs f.every f.letters.items)
