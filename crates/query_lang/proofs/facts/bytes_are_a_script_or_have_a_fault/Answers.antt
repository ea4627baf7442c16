use Rattle.query_lang.specs.Grammar.{lines_of}
use Rattle.query_lang.proofs.ScriptLaw.{no_script_with_fault, one_fault, one_script, verdict}
use Rattle.query_lang.proofs.facts.bytes_are_a_script_or_have_a_fault.Goals as goal

pub returns-clause-either : goal.returns-clause-either
returns-clause-either c bytes = verdict (lines_of bytes)

pub returns-clause-not_both : goal.returns-clause-not_both
returns-clause-not_both c bytes script n cause a f = no_script_with_fault bytes script n cause a f

pub returns-clause-one_script : goal.returns-clause-one_script
returns-clause-one_script c bytes one other a b = one_script bytes one other a b

pub returns-clause-one_fault : goal.returns-clause-one_fault
returns-clause-one_fault c bytes m n one other f g = one_fault bytes m n one other f g
