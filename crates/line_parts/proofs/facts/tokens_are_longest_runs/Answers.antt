use Rattle.line_parts.proofs.TokenLaws.{tokens_are_runs}
use Rattle.line_parts.proofs.facts.tokens_are_longest_runs.Goals as goal

pub returns : goal.returns
returns c = tokens_are_runs
