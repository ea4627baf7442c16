use Rattle.theory.specs.Graph.{SameEnd}
use Rattle.theory.proofs.HltLaws.{hlt_plain, hlt_first_rows}
use Rattle.theory.proofs.TableSteps.{hlt_lookahead_between}
use Rattle.theory.proofs.facts.hlt_looks_ahead.Goals as goal

pub returns-clause-none : goal.returns-clause-none
returns-clause-none c = hlt_plain

pub returns-clause-drawn : goal.returns-clause-drawn
returns-clause-drawn c = λ law U w g. hlt_lookahead_between law U w (SameEnd g)

pub returns-clause-first : goal.returns-clause-first
returns-clause-first c = hlt_first_rows
