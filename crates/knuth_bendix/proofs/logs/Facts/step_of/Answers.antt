use Rattle.std.proofs.Common.{Some}
use Rattle.knuth_bendix.proofs.LogLaws.{rule_logged}
use Rattle.knuth_bendix.proofs.logs.Facts.step_of.Goals as goal

pub number_of-requires : goal.number_of-requires
number_of-requires c =
    rule_logged (Some c.args.self.now.derivations) c.args.rules.now c.args.at.rule c.rule.result.now c.requires.logged c.requires.within c.rule.ensures.rule
