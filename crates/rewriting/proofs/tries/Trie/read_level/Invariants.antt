use Rattle.std.proofs.Common.{◌≡◌, ◌+◌, length}
use Rattle.rewriting.specs.Tries.{AreReadTo, HasGrown, IsLevelTree, tree_of}
use Rattle.rewriting.proofs.tries.Trie.read_level.Given as goal

abbrev pub invariant-loop-rule : goal.invariant-loop-rule
invariant-loop-rule l = record {
  tree : IsLevelTree l.rules (l.count + 1) (tree_of l.rules l.self);
  grown : HasGrown (tree_of l.rules l.initial.self) (tree_of l.rules l.self);
  size : length l.next.items ≡ l.rule;
  read : AreReadTo l.rules l.rule (l.count + 1) l.next.items (tree_of l.rules l.self);
}
