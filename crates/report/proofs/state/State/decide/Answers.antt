use Rattle.std.proofs.Common.{refl, sym, ◌∙◌}
use Rattle.report.proofs.AnswersLaws.{settings_same}
use Rattle.report.proofs.KeptLaws.{found_stays, new_verdict, not_found, now_found, verdict_found}
use Rattle.report.proofs.state.State.decide.Goals as goal

pub returns-then-is_some : goal.returns-then-is_some
returns-then-is_some g c = record {
  kept = c.requires.kept;
  settings = settings_same c.args.self.now;
  stays = found_stays c.args.self.now;
  found = sym c.is_some.ensures ∙ c.if-is_some.true;
}

pub returns-in_err-verdict-clause-stays : goal.returns-in_err-verdict-clause-stays
returns-in_err-verdict-clause-stays g c = found_stays c.args.self.now

pub returns : goal.returns
returns g c = record {
  kept = new_verdict c.args.problem.now c.args.self.now c.replace.new.dest c.in_ok-verdict.verdict c.replace.ensures.after c.in_ok-verdict.ensures c.requires.kept;
  settings = record { budgets = refl; classes = refl; workers = refl };
  stays = verdict_found c.args.self.now c.replace.new.dest (not_found c.args.self.now.verdict (sym c.is_some.ensures ∙ c.if-is_some.false));
  found = now_found c.replace.new.dest c.in_ok-verdict.verdict c.replace.ensures.after;
}
