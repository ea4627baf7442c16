use Rattle.run_parts.proofs.MadeLaw.{made_reads}
use Rattle.run_parts.proofs.facts.made_script_reads.Goals as goal

pub returns : goal.returns
returns c = made_reads
