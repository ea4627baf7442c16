use Rattle.std.proofs.Common.{◌≡◌, true, false, sym, ◌∙◌, subst}
use Rattle.reduced_automaton.specs.Automaton.{IsReader, Reading}
use Rattle.reduced_automaton.proofs.FrameLaws.{framed_finite, framed_infinite}
use Rattle.reduced_automaton.proofs.PathLaws.{none_test}
use Rattle.reduced_automaton.proofs.automata.Automaton.is_infinite_by.Goals as goal

pub returns-clause-infinite : goal.returns-clause-infinite
returns-clause-infinite c =
    let P : Reading → Type 0 = λ r. IsReader r.letters r.rules r.graph in
    let reader = subst P c.self.view_is c.self.invariant.reader in
    framed_infinite c.args.self.now c.args.frame.now reader c.requires.few c.args.framing.now c.requires c.is_none.result (none_test c.args.framing.now.limit c.is_none.result c.is_none.ensures)

pub returns-clause-finite : goal.returns-clause-finite
returns-clause-finite c = λ f.
    let P : Reading → Type 0 = λ r. IsReader r.letters r.rules r.graph in
    let reader = subst P c.self.view_is c.self.invariant.reader in
    framed_finite c.args.self.now c.args.frame.now reader c.requires.few c.args.framing.now c.requires
    (λ none. let bad : true ≡ false = sym ((none_test c.args.framing.now.limit c.is_none.result c.is_none.ensures).1 none) ∙ f in let no : ⊥ = cc in no)
