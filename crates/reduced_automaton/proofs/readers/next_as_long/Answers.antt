use Rattle.std.proofs.Common.{◌≡◌, [], ◌∷◌, ◌++◌, length, take, subst, sym, ◌∙◌, ap, append_assoc}
use Rattle.theory.specs.Word.{Word}
use Rattle.reduced_automaton.specs.Paths.{IsNextOfLength}
use Rattle.reduced_automaton.proofs.PathLaws.{allows_less}
use Rattle.reduced_automaton.proofs.readers.next_as_long.Goals as goal

pub prefix-requires : goal.prefix-requires
prefix-requires g c = c.in-Some.ensures.within

pub extend_least-requires-clause-known : goal.extend_least-requires-clause-known
extend_least-requires-clause-known g c = allows_less (g.P.KnownPaths.known c.args.paths.now) (length c.args.word.now) c.in-Some.rise.count c.in-Some.ensures.short c.requires

pub extend_least-requires-clause-goes : goal.extend_least-requires-clause-goes
extend_least-requires-clause-goes g c = c.in-Some.ensures.goes

pub returns : goal.returns
returns g c =
    let p = g.P.KnownPaths.paths c.args.paths.now in
    let rise = c.in-Some.ensures in
    let rest = c.in_ok-extend_least.ensures in
    let front : c.push.new.self ≡ take c.in-Some.rise.place c.args.word.now ++ c.in-Some.rise.letter ∷ [] =
    c.in_ok-push.ensures.ok ∙ ap (λ (w : Word). w ++ c.in-Some.rise.letter ∷ []) c.in_ok-next.ensures in
    let whole : c.extend_least.new.word ≡ take c.in-Some.rise.place c.args.word.now ++ c.in-Some.rise.letter ∷ rest.0 =
    rest.1 ∙ ap (λ (w : Word). w ++ rest.0) front ∙ append_assoc (take c.in-Some.rise.place c.args.word.now) (c.in-Some.rise.letter ∷ []) rest.0 in
    subst (λ (w : Word). IsNextOfLength p c.args.root c.args.word.now w) (sym whole) (rise.next rest.0 rest.2)
