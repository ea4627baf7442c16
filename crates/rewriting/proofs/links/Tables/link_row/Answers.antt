use Rattle.std.proofs.Common.{arith}
use Rattle.rewriting.specs.Tries.{tree_of, filling_of}
use Rattle.rewriting.proofs.LinkLaws.{row_linked}
use Rattle.rewriting.proofs.links.Tables.link_row.Goals as goal

pub returns : goal.returns
returns c = row_linked c.args.rules.now (tree_of c.args.rules.now c.args.trie.now) c.args.node c.loop-letter.letter (filling_of c.loop-letter.self) (omega arith) c.loop-letter.invariant
