use Rattle.std.proofs.Common.{◌≡◌, length}
use Rattle.rewriting.specs.Tries.{AreReadTo, IsLevelTree, tree_of}
use Rattle.rewriting.proofs.tries.trie_of.Given as goal

abbrev pub invariant-loop-count : goal.invariant-loop-count
invariant-loop-count l = record {
  letters : l.trie.letters ≡ l.fn.letters;
  tree : IsLevelTree l.rules l.count (tree_of l.rules l.trie);
  size : length l.nodes.items ≡ length l.rules;
  read : AreReadTo l.rules (length l.rules) l.count l.nodes.items (tree_of l.rules l.trie);
}
