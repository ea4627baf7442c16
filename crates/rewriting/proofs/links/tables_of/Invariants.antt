use Rattle.rewriting.specs.Tries.{AreLinkedTo}
use Rattle.rewriting.proofs.links.tables_of.Given as goal

abbrev pub invariant-loop-node : goal.invariant-loop-node
invariant-loop-node l = AreLinkedTo l.rules l.trie l.node 0 l.tables
