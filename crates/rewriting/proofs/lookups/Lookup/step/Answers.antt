use Rattle.std.proofs.Common.{◌++◌, ◌∷◌, [], None, sym, subst}
use Rattle.std.proofs.lemmas.List.{get_or_read}
use Rattle.rewriting.specs.States.{IsStep}
use Rattle.rewriting.specs.Lookups.{reads_to}
use Rattle.rewriting.proofs.LookupLaws.{next_none, next_placed, number_within}
use Rattle.rewriting.proofs.lookups.Lookup.step.Goals as goal

pub returns-in-Some-end : goal.returns-in-Some-end
returns-in-Some-end c = λ at.
    let reads = c.read-next.ensures at.is.letters at.is.tabled at.is.falling at.is.table in
    let within = number_within c.args.rules.now c.args.self.now c.args.done.now c.args.state c.args.letter c.read-next.result.0 c.read-next.result.1 at reads c.in-Some-end.number c.in-Some-end.is in
    subst (λ p. IsStep c.args.rules.now (reads_to at) (c.args.done.now ++ c.args.letter ∷ []) c.read-next.result.0 p)
    (sym (get_or_read c.args.self.now.places.items c.in-Some-end.number c.index.result.now within c.index.ensures None))
    (next_placed c.args.rules.now c.args.self.now c.args.done.now c.args.state c.args.letter c.read-next.result.0 c.read-next.result.1 at reads c.in_default.ensures c.in-Some-end.number c.in-Some-end.is)

pub returns-in-None : goal.returns-in-None
returns-in-None c = λ at.
    let reads = c.read-next.ensures at.is.letters at.is.tabled at.is.falling at.is.table in
    next_none c.args.rules.now c.args.self.now c.args.done.now c.args.state c.args.letter c.read-next.result.0 c.read-next.result.1 at reads c.in_default.ensures c.in-None.is
