use Rattle.std.proofs.Common.{sym, ◌∙◌, ap, option_copied}
use Rattle.chains.proofs.WalkLaws.{last_is}
use Rattle.chains.proofs.walks.Walk.here.Goals as goal

pub returns : goal.returns
returns c = sym (last_is c.args.self.now.words.keys c.in-Some.last.now (ap (λ o. option_copied o) (sym c.in-Some.is) ∙ c.last.ensures.key))
