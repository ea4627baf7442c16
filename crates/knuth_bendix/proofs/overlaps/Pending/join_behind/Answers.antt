use Rattle.std.proofs.Common.{length, reverse, ap, sym, ◌∙◌}
use Rattle.std.proofs.lemmas.List.{length-reverse}
use Rattle.knuth_bendix.proofs.LogLaws.{keeps_none}
use Rattle.knuth_bendix.proofs.MarkLaws.{reversed_overlap}
use Rattle.knuth_bendix.proofs.OverlapSteps.{gains_none}
use Rattle.knuth_bendix.specs.Overlaps.{rule_at}
use Rattle.knuth_bendix.proofs.overlaps.Pending.join_behind.Goals as goal

pub returns-then-not-may_share : goal.returns-then-not-may_share
returns-then-not-may_share c = record {
  gains = gains_none c.args.behind.now.lengths c.args.rules.now c.args.self.now.equations (length (rule_at c.args.rules.now c.args.first).0);
  joined = λ shared o.
      let p = rule_at c.args.rules.now c.args.first in
      let q = rule_at c.args.rules.now c.args.second in
      let back = reversed_overlap c.args.behind.now.lengths p q shared o in
      absurd
      (c.may_share.ensures c.if-not-may_share.true (reverse q.0) (reverse p.0) shared
      c.requires.behind (ap (λ m. m.last) c.marks-marks.ensures) (ap (λ m. m.letters) c.marks-marks.ensures ∙ sym (length-reverse p.0)) back.some back.first back.second
      back.overlaps back.within);
  logged = keeps_none c.args.self.now.log c.args.rules.now c.args.self.now.equations c.requires.held;
}
