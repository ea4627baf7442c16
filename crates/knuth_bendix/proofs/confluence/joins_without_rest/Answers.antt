use Rattle.std.proofs.Common.{List, length, subst}
use Rattle.theory.specs.Word.{Word}
use Rattle.knuth_bendix.specs.Overlaps.{Gains, rule_at}
use Rattle.knuth_bendix.proofs.LogLaws.{none_held}
use Rattle.knuth_bendix.proofs.OverlapSteps.{tested_pair}
use Rattle.knuth_bendix.proofs.confluence.joins_without_rest.Goals as goal

pub returns : goal.returns
returns c =
    let most = length (rule_at c.args.rules.now c.args.first).0 in
    let joins = c.in_ok-join_shared.ensures in
    tested_pair c.args.lengths c.args.rules.now c.join_shared.new.self.equations (rule_at c.args.rules.now c.args.first) (rule_at c.args.rules.now c.args.second) most c.is_empty.result
    c.is_empty.ensures
    (subst (λ (es : List (Word × Word)). Gains c.args.lengths c.args.rules.now es c.join_shared.new.self.equations most) c.requires.empty joins.gains)
    joins.joined

pub join_shared-requires-clause-held : goal.join_shared-requires-clause-held
join_shared-requires-clause-held c =
    none_held c.args.pending.now.log c.args.rules.now c.args.pending.now.equations c.requires.unlogged
