-- Relations that hold at a node, while a table grows.
use Rattle.std.proofs.Common.{◌≡◌, ℕ, ◌+◌, ◌<◌, ◌⊎◌, List, Bool, true, inl, inr, length, get_or, sym, subst, arith}
use Rattle.theory.specs.Word.{Word}
use Rattle.theory.specs.Graph.{Graph}
use Rattle.coincidence.specs.Holding.{HoldBefore, HoldFrom, MeetAt}
use Rattle.coincidence.specs.Table.{CosetTable}
use Rattle.coincidence.proofs.HoldLaws.{held_more}
use Rattle.tc_hlt.specs.Tracing.{IsGrown}

pub meets_turned : (g : Graph) (node : ℕ) (r s : Word) → MeetAt g node (r, s) → MeetAt g node (s, r)
meets_turned g node r s h = (h.0, h.2, h.1)

module _ (D : Word → Word → Type 0) (E : Word → Word → Word → Type 0) (old new : CosetTable) (from node : ℕ) (grown : IsGrown D E old new from) where
  pub meets_kept : (pair : Word × Word) → MeetAt old.graph node pair → MeetAt new.graph node pair
  meets_kept pair h = (h.0, grown.paths node h.0 pair.0 h.1, grown.paths node h.0 pair.1 h.2)

  pub held_kept : (pairs : List (Word × Word)) (i : ℕ) → HoldBefore pairs old.graph node i → HoldBefore pairs new.graph node i
  held_kept pairs i held k d h = meets_kept (get_or pairs k d) (held k d h)

  pub from_kept : (pairs : List (Word × Word)) (i known : ℕ) → HoldFrom pairs old.graph node i known → HoldFrom pairs new.graph node (i + 1) known
  from_kept pairs i known hold k d at less = meets_kept (get_or pairs k d) (hold k d (omega (arith, at)) less)

  -- and one more, if it holds
  pub held_next : (pairs : List (Word × Word)) (i held next : ℕ) (pair : Word × Word) (holds : Bool) → i < length pairs → pair ≡ get_or pairs i pair → (holds ≡ true → MeetAt new.graph node pair)
      → (next ≡ held) ⊎ ((next ≡ i + 1) × (held ≡ i) × (holds ≡ true)) → HoldBefore pairs old.graph node held → HoldBefore pairs new.graph node next
  held_next pairs i held next pair holds less read meets (inl same) before = subst (HoldBefore pairs new.graph node) (sym same) (held_kept pairs held before)
  held_next pairs i held next pair holds less read meets (inr more) before =
      subst (HoldBefore pairs new.graph node) (sym more.0) (held_more pairs new.graph node i pair less read (meets more.2) (subst (HoldBefore pairs new.graph node) more.1 (held_kept pairs held before)))
