use Rattle.std.proofs.Common.{subst₂}
use Rattle.std.proofs.lemmas.Result.{on_ok_weaker}
use Rattle.froidure_pin.specs.Kept.{HasTakenIn}
use Rattle.froidure_pin.proofs.Beginning.{copy_read}
use Rattle.froidure_pin.proofs.products.Enumerator.take_generator.Goals as goal

pub returns-clause-taken : goal.returns-clause-taken
returns-clause-taken g c =
    on_ok_weaker c.goes_over.result
    (λ taken. (c.in_ok-copy.copy, copy_read c.args.self.now.generators.now.items c.args.letter c.index.ensures c.in_ok-copy.ensures, subst₂ (λ factor tail. HasTakenIn g.E.PartialEq.eq c.args.growth.now c.goes_over.new.self c.in_ok-copy.copy factor tail) c.in_ok-factor.ensures c.in_ok-tail.ensures taken))
    c.goes_over.ensures.taken
