use Rattle.report_lines.proofs.GreenTables.{agrees, commutes, of_letters}
use Rattle.report_lines.proofs.SameTables.{known_alike}
use Rattle.report_lines.proofs.known.KnownElements.idempotents.Goals as goal

pub idempotents-requires-clause-fit : goal.idempotents-requires-clause-fit
idempotents-requires-clause-fit c = c.requires.tables.fit

pub idempotents-requires-clause-commute : goal.idempotents-requires-clause-commute
idempotents-requires-clause-commute c = commutes c.args.problem.now c.args.tables.now c.requires.shape c.requires.tables

pub idempotents-requires-clause-words : goal.idempotents-requires-clause-words
idempotents-requires-clause-words c = of_letters c.args.problem.now c.args.tables.now c.requires.tables

pub idempotents-requires-clause-agree : goal.idempotents-requires-clause-agree
idempotents-requires-clause-agree c = agrees c.args.problem.now c.args.tables.now c.requires.shape c.requires.tables

pub idempotents-requires-clause-known : goal.idempotents-requires-clause-known
idempotents-requires-clause-known c = c.requires.known.names c.args.tables.now c.requires.tables

pub returns-clause-known : goal.returns-clause-known
returns-clause-known c = record {
  names = λ s other. known_alike c.args.problem.now c.requires.shape c.requires.unpaired c.args.tables.now s c.requires.tables other c.idempotents.new.self c.idempotents.ensures.known;
  texts = c.requires.known.texts;
}
