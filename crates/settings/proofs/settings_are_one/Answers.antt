use Rattle.settings.proofs.OneReading.{one_reading}
use Rattle.settings.proofs.settings_are_one.Goals as goal

pub returns : goal.returns
returns c = one_reading
