-- Parts with their numbers, which run in groups.
use Rattle.std.specs.Prelude.{◌≡◌, true, false}
use Rattle.sims_one.specs.declared.parts.Part.{Ghosts}
use Rattle.sims_one.specs.declared.groups.Numbered.{Numbered}

module _ {A : Type 0} where
  abbrev pub part_of : Numbered A → A
  part_of n = n.part

  abbrev pub HasRun : Numbered A → Type 0
  HasRun n = n.ran ≡ true

  abbrev pub IsFresh : Numbered A → Type 0
  IsFresh n = n.ran ≡ false

module _ {A : Type 0} (kind : Ghosts A) where
  -- a part, and what it is then: its task is kept, and once it has run it is done
  pub record Runs (n m : Numbered A) : Type 0 where
    pub kept : kind.task m.part ≡ kind.task n.part
    pub done : HasRun m → kind.is_done m.part
