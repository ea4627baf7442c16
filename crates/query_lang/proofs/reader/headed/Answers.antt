use Rattle.std.proofs.Common.{sym, subst}
use Rattle.line_parts.specs.Texts.{texts}
use Rattle.query_lang.specs.Grammar.{OfVersion, Step, header_behind}
use Rattle.query_lang.proofs.reader.headed.Goals as goal

pub returns-clause-ok : goal.returns-clause-ok
returns-clause-ok c = subst (Step (OfVersion c.args.version) (texts c.args.line.now)) (sym c.reading.ensures) (header_behind c.requires c.in_ok-header_line.ensures.ok)
