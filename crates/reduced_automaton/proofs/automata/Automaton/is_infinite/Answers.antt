use Rattle.std.proofs.Common.{◌≡◌, ◌↔◌, true, false, subst}
use Rattle.theory.specs.ShortLex.{◌≺◌}
use Rattle.theory.specs.Listing.{AreFinite, AreInfinite}
use Rattle.reduced_automaton.specs.Automaton.{IsReducedWord, Reading, reading_of}
use Rattle.rewriting.specs.Tables.{edges}
use Rattle.reduced_automaton.proofs.ReadingLaws.{finite_tested, infinite_tested}
use Rattle.reduced_automaton.proofs.automata.Automaton.is_infinite.Goals as goal

pub returns-clause-infinite : goal.returns-clause-infinite
returns-clause-infinite c =
    let P : Reading → Type 0 = λ r. (c.is_none.result ≡ true) ↔ AreInfinite (IsReducedWord r) ◌≺◌ in
    subst P c.self.view_is
    (infinite_tested (reading_of c.self.inside.rules c.self.inside.table) (edges c.self.inside.table) c.self.invariant.reader c.self.inside.depths.items c.self.invariant.depths
    c.index.result.now c.index.ensures c.is_none.result c.is_none.ensures)

pub returns-clause-finite : goal.returns-clause-finite
returns-clause-finite c =
    let P : Reading → Type 0 = λ r. c.is_none.result ≡ false → AreFinite (IsReducedWord r) ◌≺◌ in
    subst P c.self.view_is
    (finite_tested (reading_of c.self.inside.rules c.self.inside.table) (edges c.self.inside.table) c.self.invariant.reader c.self.inside.depths.items c.self.invariant.depths
    c.index.result.now c.index.ensures c.is_none.result c.is_none.ensures)
