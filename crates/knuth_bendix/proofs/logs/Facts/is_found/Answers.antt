use Rattle.chains.specs.Derivations.{all_of}
use Rattle.knuth_bendix.proofs.LogLaws.{found_logged}
use Rattle.knuth_bendix.proofs.logs.Facts.is_found.Goals as goal

pub returns-in-Some : goal.returns-in-Some
returns-in-Some c =
    found_logged (all_of c.args.self.now.derivations).relations c.args.pair.now c.number_of-found.result c.is_some.result c.is_some.ensures
    c.number_of-found.ensures
