-- Overlaps of two rules that are joined, with the equations and the log that this leaves.
use Rattle.std.specs.Prelude.{List, length}
use Rattle.theory.specs.Word.{Word}
use Rattle.knuth_bendix.specs.declared.lengths.Lengths.{Lengths}
use Rattle.knuth_bendix.specs.declared.overlaps.Pending.{Pending}
use Rattle.knuth_bendix.specs.Logs.{KeepsLog}
use Rattle.knuth_bendix.specs.Overlaps.{AreJoined, Gains}

-- each overlap of the two rules is joined, and what became equations is logged
pub record JoinsRules (lengths : Lengths) (rules : List (Word × Word)) (p q : Word × Word)
    (old new : Pending) : Type 0 where
  pub gains : Gains lengths rules old.equations new.equations (length p.0)
  pub joined : AreJoined lengths rules new.equations p q
  pub logged : KeepsLog old.log new.log rules new.equations
