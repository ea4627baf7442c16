use Rattle.std.proofs.Common.{◌≡◌, ℕ, List, length, refl, subst, sym, ◌∙◌, arith}
use Rattle.std.proofs.lemmas.List.{length-replicate}
use Rattle.rewriting.specs.Rules.{AreOver}
use Rattle.rewriting.specs.Tries.{AreReadTo, tree_of}
use Rattle.rewriting.proofs.TrieLaws.{root_level, root_read, rule_tree}
use Rattle.rewriting.proofs.tries.trie_of.Goals as goal

pub loop-count-init : goal.loop-count-init
loop-count-init c =
    rw (c.in_ok-trie.ensures.letters, c.in_ok-trie.ensures.prefixes, c.in_ok-trie.ensures.children, c.in_ok-trie.ensures.lefts, c.in_ok-nodes.ensures.items_if_clones_equal (λ y e. e), c.len-number.ensures.len)
    (record {
      letters = refl;
      tree = root_level c.args.letters c.args.rules.now;
      size = length-replicate (length c.args.rules.now) 0;
      read = root_read c.args.letters c.args.rules.now c.len-number.ensures.falling (length c.args.rules.now);
    })

pub loop-count-preserved : goal.loop-count-preserved
loop-count-preserved c = record {
  letters = c.in_ok-nodes-2.ensures.letters ∙ c.loop-count.invariant.letters;
  tree = c.in_ok-nodes-2.ensures.tree;
  size = c.in_ok-nodes-2.ensures.nodes;
  read = c.in_ok-nodes-2.ensures.read;
}

pub read_level-requires-clause-over : goal.read_level-requires-clause-over
read_level-requires-clause-over c = subst (λ k. AreOver k c.args.rules.now) (sym c.loop-count.invariant.letters) c.requires

pub read_level-requires-clause-read : goal.read_level-requires-clause-read
read_level-requires-clause-read c =
    subst (λ (nodes : List ℕ). AreReadTo c.args.rules.now (length c.args.rules.now) c.loop-count.count nodes (tree_of c.args.rules.now c.loop-count.trie)) (sym c.as_slice.ensures.value) c.loop-count.invariant.read

pub returns-clause-tree : goal.returns-clause-tree
returns-clause-tree c =
    let all : c.loop-count.count ≡ c.longest_left-count-end.result = omega arith in
    rule_tree c.args.rules.now c.loop-count.count c.loop-count.nodes.items (tree_of c.args.rules.now c.loop-count.trie) (λ n. let most = c.longest_left-count-end.ensures.most n in omega (arith, most, all)) c.loop-count.invariant.tree c.loop-count.invariant.read
