use Rattle.std.proofs.Common.{◌≡◌, sym, ap, subst}
use Rattle.std.specs.Option.{MatchOption, option_copied}
use Rattle.std.proofs.lemmas.Result.{IfOk-weaker}
use Rattle.theory.specs.ShortLex.{◌≺◌}
use Rattle.theory.specs.Graph.{Graph}
use Rattle.theory.specs.Listing.{IsLast, IsNext}
use Rattle.reduced_automaton.specs.Automaton.{IsReader, Reading}
use Rattle.reduced_automaton.specs.Framings.{IsFraming, IsPathIn}
use Rattle.rewriting.specs.Tables.{edges}
use Rattle.reduced_automaton.proofs.FrameLaws.{framed_answer, framed_goes_on}
use Rattle.reduced_automaton.proofs.automata.Automaton.next_by.Goals as goal

pub next_after-requires : goal.next_after-requires
next_after-requires c =
    let P : Reading → Type 0 = λ r. IsFraming r.letters r.graph c.args.frame.now c.args.framing.now in
    subst P (sym c.self.view_is) c.requires

pub returns-clause-framing : goal.returns-clause-framing
returns-clause-framing c =
    let P : Reading → Type 0 = λ r. IsFraming r.letters r.graph c.args.frame.now c.next_after.new.self in
    subst P c.self.view_is c.next_after.ensures.framing

pub returns-clause-goes_on : goal.returns-clause-goes_on
returns-clause-goes_on c =
    let P : Reading → Type 0 = λ r. IsReader r.letters r.rules r.graph in
    let reader = subst P c.self.view_is c.self.invariant.reader in
    framed_goes_on c.args.self.now c.args.frame.now reader c.requires.few

pub returns-clause-next : goal.returns-clause-next
returns-clause-next c =
    let P : Reading → Type 0 = λ r. IsReader r.letters r.rules r.graph in
    let reader = subst P c.self.view_is c.self.invariant.reader in
    let same : edges c.self.inside.table ≡ c.args.self.now.graph = ap (λ (r : Reading). r.graph) c.self.view_is in
    IfOk-weaker c.next_after.result _ _
    (λ next h. framed_answer c.args.self.now c.args.frame.now reader c.requires.few c.args.framing.now c.requires (option_copied c.args.after) next
    (subst (λ (g : Graph). MatchOption next (IsLast (IsPathIn g c.args.frame.now) ◌≺◌ (option_copied c.args.after)) (IsNext (IsPathIn g c.args.frame.now) ◌≺◌ (option_copied c.args.after))) same h))
    c.next_after.ensures.next
