use Rattle.std.proofs.Common.{subst}
use Rattle.reduced_automaton.specs.Framings.{IsUnder, paths_in}
use Rattle.reduced_automaton.proofs.PathLaws.{not_then}
use Rattle.reduced_automaton.proofs.FrameLaws.{none_as_long}
use Rattle.reduced_automaton.proofs.framings.Framing.next_of_length.Goals as goal

pub returns-then-not-is_under-clause-next : goal.returns-then-not-is_under-clause-next
returns-then-not-is_under-clause-next c =
    none_as_long c.args.self.now.limit (paths_in c.args.scope.now) c.args.start c.args.word.now
    (c.requires.framing.limit c.args.start c.requires.start)
    (subst (λ n. IsUnder c.args.self.now.limit n → ⊥) c.len.ensures (not_then c.is_under.result _ c.is_under.ensures c.if-not-is_under.true))
