use Rattle.std.proofs.Common.{◌≡◌}
use Rattle.report_lines.specs.Texts.{AreTexts, MayBeginAt}
use Rattle.report_lines.proofs.texts.Texts.new.Given as goal

abbrev pub invariant-loop : goal.invariant-loop
invariant-loop l = record {
  count : l.texts.count ≡ l.counter;
  texts : AreTexts l.alphabet l.words l.texts;
  near : MayBeginAt l.texts l.block;
}
