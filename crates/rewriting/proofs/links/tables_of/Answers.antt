use Rattle.std.proofs.Common.{◌≡◌, length, subst, arith}
use Rattle.rewriting.specs.Tries.{tree_of, AreLinkedTo, filling_of, states_of}
use Rattle.rewriting.proofs.TrieLaws.{words_count}
use Rattle.rewriting.proofs.LinkLaws.{all_filled, none_linked}
use Rattle.rewriting.proofs.links.tables_of.Goals as goal

pub loop-node-init : goal.loop-node-init
loop-node-init c =
    let size : c.len-states.result ≡ length (states_of c.args.rules.now c.args.trie.now) = omega (arith, c.len-states.ensures, words_count c.args.rules.now c.args.trie.now.prefixes.items) in
    rw (c.in_ok-of.ensures, c.in_ok-of-2.ensures, c.in_ok-noughts.ensures, size) (none_linked c.args.rules.now (tree_of c.args.rules.now c.args.trie.now) c.requires.tree.trie.prefixes.some)

pub returns : goal.returns
returns c =
    let all : c.loop-node.node ≡ length (states_of c.args.rules.now c.args.trie.now) = omega (arith, words_count c.args.rules.now c.args.trie.now.prefixes.items) in
    all_filled c.args.rules.now (tree_of c.args.rules.now c.args.trie.now) (filling_of c.loop-node.tables)
    (subst (λ n. AreLinkedTo c.args.rules.now c.args.trie.now n 0 c.loop-node.tables) all c.loop-node.invariant)
