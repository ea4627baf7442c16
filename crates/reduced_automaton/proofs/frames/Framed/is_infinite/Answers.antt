use Rattle.std.proofs.Common.{◌≡◌, ◌↔◌, true, false, subst}
use Rattle.theory.specs.ShortLex.{◌≺◌}
use Rattle.theory.specs.Listing.{AreFinite, AreInfinite}
use Rattle.reduced_automaton.specs.Frames.{FramedReading, IsFramed}
use Rattle.reduced_automaton.proofs.frames.Framed.is_infinite.Goals as goal

pub returns-clause-infinite : goal.returns-clause-infinite
returns-clause-infinite c =
    let P : FramedReading → Type 0 = λ f. (c.is_infinite_by.result ≡ true) ↔ AreInfinite (IsFramed f.automaton f.frame) ◌≺◌ in
    subst P c.self.view_is c.is_infinite_by.ensures.infinite

pub returns-clause-finite : goal.returns-clause-finite
returns-clause-finite c =
    let P : FramedReading → Type 0 = λ f. c.is_infinite_by.result ≡ false → AreFinite (IsFramed f.automaton f.frame) ◌≺◌ in
    subst P c.self.view_is c.is_infinite_by.ensures.finite
