use Rattle.rewriting.specs.Tries.{AreLinkedTo}
use Rattle.rewriting.proofs.links.Tables.link_row.Given as goal

abbrev pub invariant-loop-letter : goal.invariant-loop-letter
invariant-loop-letter l = AreLinkedTo l.rules l.trie l.node l.letter l.self
