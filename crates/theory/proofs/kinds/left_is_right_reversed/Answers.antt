use Rattle.theory.proofs.KindLaws.{left_backwards}
use Rattle.theory.proofs.kinds.left_is_right_reversed.Goals as goal

pub returns : goal.returns
returns c = left_backwards
