use Rattle.std.proofs.Common.{◌≡◌, ℕ, ◌+◌, ◌<◌, ◌∷◌, [], List, length, length-append, sym, ◌∙◌, ap, subst, arith}
use Rattle.rewriting.specs.Tries.{AreReadTo, left_at, tree_of}
use Rattle.rewriting.specs.Rules.{AreOver}
use Rattle.rewriting.proofs.TrieLaws.{grown_both, grown_none, level_more, read_kept, read_more}
use Rattle.rewriting.proofs.tries.Trie.read_level.Goals as goal

pub loop-rule-init : goal.loop-rule-init
loop-rule-init c = record {
  tree = level_more c.args.rules.now c.args.count (tree_of c.args.rules.now c.args.self.now) c.requires.tree;
  grown = grown_none (tree_of c.args.rules.now c.args.self.now);
  size = ap length c.in_ok-next.ensures.items;
  read = λ n h inside. absurd (omega (arith, h));
}

pub read_on-requires-clause-over : goal.read_on-requires-clause-over
read_on-requires-clause-over c = subst (λ k. AreOver k c.args.rules.now) (sym c.loop-rule.invariant.grown.letters) c.requires.over

pub read_on-requires-clause-read : goal.read_on-requires-clause-read
read_on-requires-clause-read c =
    let less : c.loop-rule.rule < length c.args.rules.now = omega (arith, c.requires.nodes) in
    read_kept (tree_of c.args.rules.now c.args.self.now) (tree_of c.args.rules.now c.loop-rule.self) (left_at c.args.rules.now c.loop-rule.rule) c.args.count _ c.loop-rule.invariant.grown
    (c.requires.read c.loop-rule.rule less less)

pub loop-rule-preserved : goal.loop-rule-preserved
loop-rule-preserved c = record {
  tree = c.in_ok-node.ensures.tree;
  grown = grown_both (tree_of c.args.rules.now c.args.self.now) (tree_of c.args.rules.now c.loop-rule.self) (tree_of c.args.rules.now c.read_on.new.self) c.loop-rule.invariant.grown c.in_ok-node.ensures.grown;
  size = ap length c.in_ok-push.ensures.items ∙ length-append c.loop-rule.next.items (c.in_ok-node.node ∷ []) ∙ omega (arith, c.loop-rule.invariant.size);
  read = subst (λ (next : List ℕ). AreReadTo c.args.rules.now (c.loop-rule.rule + 1) (c.args.count + 1) next (tree_of c.args.rules.now c.read_on.new.self)) (sym c.in_ok-push.ensures.items)
      (read_more c.args.rules.now c.loop-rule.rule (c.args.count + 1) c.in_ok-node.node c.loop-rule.next.items (tree_of c.args.rules.now c.loop-rule.self) (tree_of c.args.rules.now c.read_on.new.self)
      c.loop-rule.invariant.size c.in_ok-node.ensures.grown c.loop-rule.invariant.read c.in_ok-node.ensures.read);
}

pub returns-clause-read : goal.returns-clause-read
returns-clause-read c =
    let all : c.loop-rule.rule ≡ length c.args.rules.now = omega (arith, c.requires.nodes) in
    subst (λ z. AreReadTo c.args.rules.now z (c.args.count + 1) c.loop-rule.next.items (tree_of c.args.rules.now c.loop-rule.self)) all c.loop-rule.invariant.read
