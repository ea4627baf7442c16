use Rattle.knuth_bendix.proofs.LogLaws.{log_of_none}
use Rattle.knuth_bendix.proofs.completions.Completion.new.Goals as goal

pub with_log-requires : goal.with_log-requires
with_log-requires c = log_of_none c.args.presentation.now.presentation c.none.result c.none.ensures
