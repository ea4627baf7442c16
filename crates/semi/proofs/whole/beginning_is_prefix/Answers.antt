use Rattle.semi.proofs.UniqueReport.{beginning_prefix}
use Rattle.semi.proofs.whole.beginning_is_prefix.Goals as goal

pub returns : goal.returns
returns c = beginning_prefix
