use Rattle.std.proofs.Common.{◌≡◌, ◌↔◌, true, ◌∙◌, ap, subst}
use Rattle.std.specs.Option.{is_some}
use Rattle.theory.specs.Word.{IsOver}
use Rattle.theory.specs.Graph.{path}
use Rattle.theory.specs.Completion.{IsReduced, Listed}
use Rattle.reduced_automaton.specs.Automaton.{Reading, reading_of}
use Rattle.rewriting.specs.Tables.{edges}
use Rattle.reduced_automaton.proofs.ReadingLaws.{reduced_is}
use Rattle.reduced_automaton.proofs.automata.Automaton.is_reduced.Goals as goal

pub returns : goal.returns
returns c =
    let a : Reading = reading_of c.self.inside.rules c.self.inside.table in
    let there : c.is_some.result ≡ is_some (path (edges c.self.inside.table) 0 c.args.word.now) = c.is_some.ensures ∙ ap is_some c.path.ensures in
    let P : Reading → Type 0 = λ r. IsOver r.letters c.args.word.now → (c.is_some.result ≡ true) ↔ IsReduced (Listed r.rules) c.args.word.now in
    subst P c.self.view_is (λ over. reduced_is a (edges c.self.inside.table) c.self.invariant.reader c.args.word.now over c.is_some.result there) c.requires
