use Rattle.std.proofs.Common.{[], refl}
use Rattle.chains.specs.Derivations.{Derived}
use Rattle.knuth_bendix.proofs.LogLaws.{log_of_facts}
use Rattle.knuth_bendix.proofs.completions.Completion.logged.Goals as goal

pub with_log-requires : goal.with_log-requires
with_log-requires c =
    let none : Derived = record { presentation = c.args.presentation.now.presentation; facts = [] } in
    log_of_facts c.args.presentation.now.presentation c.in_ok-log.log none c.in_ok-log.ensures refl
