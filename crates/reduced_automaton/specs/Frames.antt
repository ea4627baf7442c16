-- The words that are reduced between a prefix and a suffix.
use Rattle.std.specs.Prelude.{◌++◌}
use Rattle.theory.specs.Word.{Word, IsOver}
use Rattle.reduced_automaton.specs.Automaton.{IsReducedWord, Reading}
use Rattle.reduced_automaton.specs.declared.frames.Frame.{Frame}

-- a word over the first letters, so many, that is reduced between the prefix and the suffix
pub record IsFramed (a : Reading) (frame : Frame) (w : Word) : Type 0 where
  pub over : IsOver frame.letters w
  pub reduced : IsReducedWord a (frame.prefix ++ (w ++ frame.suffix))

-- an automaton with a frame
pub record FramedReading : Type 0 where
  pub automaton : Reading
  pub frame : Frame
