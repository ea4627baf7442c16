use Rattle.std.proofs.Common.{ℕ, List, Option, sym, subst}
use Rattle.std.specs.Option.{MatchOption, option_copied}
use Rattle.std.specs.Result.{IfOk}
use Rattle.std.proofs.lemmas.Result.{IfOk-weaker}
use Rattle.theory.specs.ShortLex.{◌≺◌}
use Rattle.theory.specs.Listing.{GoesOnOrEnds, IsLast, IsNext}
use Rattle.reduced_automaton.specs.Automaton.{AreDepths, IsReducedWord, Reading, reading_of}
use Rattle.rewriting.specs.Tables.{edges}
use Rattle.reduced_automaton.proofs.ReadingLaws.{goes_on, next_reduced}
use Rattle.reduced_automaton.proofs.automata.Automaton.next_after.Goals as goal

pub returns-clause-goes_on : goal.returns-clause-goes_on
returns-clause-goes_on c =
    let a : Reading = reading_of c.self.inside.rules c.self.inside.table in
    subst (λ (r : Reading). GoesOnOrEnds (IsReducedWord r) ◌≺◌) c.self.view_is (goes_on a (edges c.self.inside.table) c.self.invariant.reader c.self.inside.depths.items c.self.invariant.depths)

pub returns-clause-next : goal.returns-clause-next
returns-clause-next c =
    let a : Reading = reading_of c.self.inside.rules c.self.inside.table in
    let P : Reading → Type 0 = λ r. IfOk c.next_path.result (λ next. MatchOption next
    (IsLast (IsReducedWord r) ◌≺◌ (option_copied c.args.after))
    (IsNext (IsReducedWord r) ◌≺◌ (option_copied c.args.after))) in
    subst P c.self.view_is
    (IfOk-weaker c.next_path.result _ _
    (next_reduced a (edges c.self.inside.table) c.self.invariant.reader (option_copied c.args.after))
    c.next_path.ensures)

pub next_path-requires : goal.next_path-requires
next_path-requires c =
    subst (λ (ds : List (Option ℕ)). AreDepths c.self.inside.table.letters (edges c.self.inside.table) ds) (sym c.as_slice.ensures.value) c.self.invariant.depths
