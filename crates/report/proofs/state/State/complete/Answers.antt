use Rattle.std.proofs.Common.{refl, sym, ◌∙◌}
use Rattle.report.proofs.AnswersLaws.{settings_same}
use Rattle.report.proofs.KeptLaws.{completion_found, found_stays, new_completion, not_found, now_found}
use Rattle.report.proofs.state.State.complete.Goals as goal

pub returns-then-is_some : goal.returns-then-is_some
returns-then-is_some c = record {
  kept = c.requires.kept;
  settings = settings_same c.args.self.now;
  stays = found_stays c.args.self.now;
  found = sym c.is_some.ensures ∙ c.if-is_some.true;
}

pub returns-in_err-completion-clause-stays : goal.returns-in_err-completion-clause-stays
returns-in_err-completion-clause-stays c = found_stays c.args.self.now

pub returns : goal.returns
returns c = record {
  kept = new_completion c.args.problem.now c.args.self.now c.replace.new.dest c.in_ok-completion.completion c.replace.ensures.after c.in_ok-completion.ensures c.requires.kept;
  settings = record { budgets = refl; classes = refl; workers = refl };
  stays = completion_found c.args.self.now c.replace.new.dest (not_found c.args.self.now.completion (sym c.is_some.ensures ∙ c.if-is_some.false));
  found = now_found c.replace.new.dest c.in_ok-completion.completion c.replace.ensures.after;
}
