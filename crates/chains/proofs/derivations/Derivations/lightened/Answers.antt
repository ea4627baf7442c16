use Rattle.chains.proofs.derivations.Derivations.lightened.Goals as goal

pub loop-number-preserved : goal.loop-number-preserved
loop-number-preserved c = c.in_ok-put_lighter.ensures
