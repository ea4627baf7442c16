use Rattle.std.proofs.Common.{◌≡◌, length, arith}
use Rattle.std.proofs.lemmas.List.{nil_from_length}
use Rattle.chains.proofs.PendingLaws.{none_left, some_left}
use Rattle.chains.proofs.SpellLaws.{left_fit, spelled_on, spelled_out}
use Rattle.chains.proofs.derivations.Derivations.spell_by.Goals as goal

pub read_next-requires-clause-fits : goal.read_next-requires-clause-fits
read_next-requires-clause-fits c =
    left_fit c.args.self.now c.args.from.now c.args.steps.now c.loop-pending.pending.items c.loop-pending.walk c.loop-pending.invariant c.requires.fits

pub loop-pending-preserved : goal.loop-pending-preserved
loop-pending-preserved c =
    spelled_on c.args.self.now c.args.from.now c.args.steps.now c.loop-pending.pending.items c.loop-pending.walk c.loop-pending.invariant
    c.read_next.new.pending.items c.read_next.new.walk c.in_ok-read_next.ensures

pub returns : goal.returns
returns c =
    spelled_out c.args.self.now c.args.from.now c.args.steps.now c.loop-pending.pending.items c.loop-pending.walk c.loop-pending.invariant
    (let none : length c.loop-pending.pending.items ≡ 0 = omega (arith, none_left _ c.is_empty.result c.is_empty.ensures c.loop-pending-test.false, c.loop-pending.pending.ok) in nil_from_length c.loop-pending.pending.items none)

pub read_next-requires-clause-begun : goal.read_next-requires-clause-begun
read_next-requires-clause-begun c = (c.args.from.now, c.loop-pending.invariant.stands)

pub read_next-requires-clause-some : goal.read_next-requires-clause-some
read_next-requires-clause-some c = omega (arith, some_left _ c.loop-pending-test.ensures, c.loop-pending.pending.ok)
