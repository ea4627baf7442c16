use Rattle.std.proofs.Common.{rules}
use Rattle.sims_one.proofs.FrontLaws.{before_both}
use Rattle.sims_one.proofs.within.first_within.Goals as goal

pub returns-then-eq : goal.returns-then-eq
returns-then-eq c = λ u table w after. before_both u c.args.request.now.cursor.now (c.place_of-place.ensures.less (search rules) u w) after
