use Rattle.std.proofs.Common.{◌<◌, length, ap, arith}
use Rattle.cells.proofs.EntryLaws.{row_width}
use Rattle.rewriting.proofs.TrieLaws.{left_below, left_more, left_read, marked_grown, marked_read, marked_tree, read_step}
use Rattle.rewriting.proofs.tries.Trie.read_on.Goals as goal

pub put_number-requires-clause-letter : goal.put_number-requires-clause-letter
put_number-requires-clause-letter c =
    let below : c.index-left-count.result < c.args.self.now.letters =
    left_below c.args.rules.now c.requires.rule c.rule.ensures.rule c.letters-left.ensures c.args.self.now.letters c.args.count c.index-left-count.result c.requires.over c.if-left-count.false c.index-left-count.is in
    omega (arith, below, row_width _ _ _ c.requires.tree.trie.left_rows c.args.node c.requires.read.within)

pub descend-requires-clause-letter : goal.descend-requires-clause-letter
descend-requires-clause-letter c =
    left_below c.args.rules.now c.requires.rule c.rule.ensures.rule c.letters-left.ensures c.args.self.now.letters c.args.count c.index-left-count.result c.requires.over c.if-left-count.false c.index-left-count.is

pub returns-then-left-count-2-clause-tree : goal.returns-then-left-count-2-clause-tree
returns-then-left-count-2-clause-tree c =
    let below : c.index-left-count.result < c.args.self.now.letters =
    left_below c.args.rules.now c.requires.rule c.rule.ensures.rule c.letters-left.ensures c.args.self.now.letters c.args.count c.index-left-count.result c.requires.over c.if-left-count.false c.index-left-count.is in
    let same = left_read c.args.rules.now c.requires.rule c.rule.ensures.rule c.letters-left.ensures in
    let more = left_more c.args.rules.now c.requires.rule c.rule.ensures.rule c.letters-left.ensures c.args.count c.index-left-count.result c.if-left-count.false c.index-left-count.is in
    rw c.put_number.ensures
    (marked_tree c.args.rules.now c.args.rule c.args.count c.args.node c.args.self.now c.requires.tree c.requires.rule c.requires.read c.index-left-count.result below (omega (arith, c.if-left-count.false, ap length same)) more
    (omega (arith, c.if-left-count-2.true, ap length same)))

pub returns-then-left-count-2-clause-grown : goal.returns-then-left-count-2-clause-grown
returns-then-left-count-2-clause-grown c =
    let below : c.index-left-count.result < c.args.self.now.letters =
    left_below c.args.rules.now c.requires.rule c.rule.ensures.rule c.letters-left.ensures c.args.self.now.letters c.args.count c.index-left-count.result c.requires.over c.if-left-count.false c.index-left-count.is in
    let same = left_read c.args.rules.now c.requires.rule c.rule.ensures.rule c.letters-left.ensures in
    let more = left_more c.args.rules.now c.requires.rule c.rule.ensures.rule c.letters-left.ensures c.args.count c.index-left-count.result c.if-left-count.false c.index-left-count.is in
    rw c.put_number.ensures
    (marked_grown c.args.rules.now c.args.rule c.args.count c.args.node c.args.self.now c.requires.tree c.requires.rule c.requires.read c.index-left-count.result below (omega (arith, c.if-left-count.false, ap length same)) more
    (omega (arith, c.if-left-count-2.true, ap length same)))

pub returns-then-left-count-2-clause-read : goal.returns-then-left-count-2-clause-read
returns-then-left-count-2-clause-read c =
    let below : c.index-left-count.result < c.args.self.now.letters =
    left_below c.args.rules.now c.requires.rule c.rule.ensures.rule c.letters-left.ensures c.args.self.now.letters c.args.count c.index-left-count.result c.requires.over c.if-left-count.false c.index-left-count.is in
    let same = left_read c.args.rules.now c.requires.rule c.rule.ensures.rule c.letters-left.ensures in
    let more = left_more c.args.rules.now c.requires.rule c.rule.ensures.rule c.letters-left.ensures c.args.count c.index-left-count.result c.if-left-count.false c.index-left-count.is in
    rw c.put_number.ensures
    (marked_read c.args.rules.now c.args.rule c.args.count c.args.node c.args.self.now c.requires.tree c.requires.rule c.requires.read c.index-left-count.result below (omega (arith, c.if-left-count.false, ap length same)) more
    (omega (arith, c.if-left-count-2.true, ap length same)))

pub returns-clause-tree : goal.returns-clause-tree
returns-clause-tree c =
    let below : c.index-left-count.result < c.args.self.now.letters =
    left_below c.args.rules.now c.requires.rule c.rule.ensures.rule c.letters-left.ensures c.args.self.now.letters c.args.count c.index-left-count.result c.requires.over c.if-left-count.false c.index-left-count.is in
    let same = left_read c.args.rules.now c.requires.rule c.rule.ensures.rule c.letters-left.ensures in
    let more = left_more c.args.rules.now c.requires.rule c.rule.ensures.rule c.letters-left.ensures c.args.count c.index-left-count.result c.if-left-count.false c.index-left-count.is in
    (read_step c.args.rules.now c.args.rule c.args.count c.args.node c.args.self.now c.requires.tree c.requires.rule c.requires.read c.index-left-count.result below (omega (arith, c.if-left-count.false, ap length same)) more
    c.descend.new.self c.in_ok-next.next (omega (arith, c.if-left-count.false, c.if-left-count-2.false, ap length same)) c.in_ok-next.ensures).level

pub returns-clause-grown : goal.returns-clause-grown
returns-clause-grown c =
    let below : c.index-left-count.result < c.args.self.now.letters =
    left_below c.args.rules.now c.requires.rule c.rule.ensures.rule c.letters-left.ensures c.args.self.now.letters c.args.count c.index-left-count.result c.requires.over c.if-left-count.false c.index-left-count.is in
    let same = left_read c.args.rules.now c.requires.rule c.rule.ensures.rule c.letters-left.ensures in
    let more = left_more c.args.rules.now c.requires.rule c.rule.ensures.rule c.letters-left.ensures c.args.count c.index-left-count.result c.if-left-count.false c.index-left-count.is in
    (read_step c.args.rules.now c.args.rule c.args.count c.args.node c.args.self.now c.requires.tree c.requires.rule c.requires.read c.index-left-count.result below (omega (arith, c.if-left-count.false, ap length same)) more
    c.descend.new.self c.in_ok-next.next (omega (arith, c.if-left-count.false, c.if-left-count-2.false, ap length same)) c.in_ok-next.ensures).grown

pub returns-clause-read : goal.returns-clause-read
returns-clause-read c =
    let below : c.index-left-count.result < c.args.self.now.letters =
    left_below c.args.rules.now c.requires.rule c.rule.ensures.rule c.letters-left.ensures c.args.self.now.letters c.args.count c.index-left-count.result c.requires.over c.if-left-count.false c.index-left-count.is in
    let same = left_read c.args.rules.now c.requires.rule c.rule.ensures.rule c.letters-left.ensures in
    let more = left_more c.args.rules.now c.requires.rule c.rule.ensures.rule c.letters-left.ensures c.args.count c.index-left-count.result c.if-left-count.false c.index-left-count.is in
    (read_step c.args.rules.now c.args.rule c.args.count c.args.node c.args.self.now c.requires.tree c.requires.rule c.requires.read c.index-left-count.result below (omega (arith, c.if-left-count.false, ap length same)) more
    c.descend.new.self c.in_ok-next.next (omega (arith, c.if-left-count.false, c.if-left-count-2.false, ap length same)) c.in_ok-next.ensures).reads
