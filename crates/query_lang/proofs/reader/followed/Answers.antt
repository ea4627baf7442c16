use Rattle.std.proofs.Common.{sym, subst}
use Rattle.line_parts.specs.Texts.{texts}
use Rattle.query_lang.specs.Grammar.{Begun, Step, further}
use Rattle.query_lang.proofs.reader.followed.Goals as goal

pub returns-clause-ok : goal.returns-clause-ok
returns-clause-ok c = subst (Step (Begun c.args.reader) (texts c.args.line.now)) (sym c.reading.ensures) (further c.requires c.in_ok-add_line.ensures.ok)
