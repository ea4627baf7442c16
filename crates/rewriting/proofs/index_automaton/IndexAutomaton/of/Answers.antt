use Rattle.std.proofs.Common.{sym, subst, arith}
use Rattle.cells.specs.Rows.{AreRows}
use Rattle.rewriting.specs.Rules.{AreOver}
use Rattle.rewriting.proofs.TrieLaws.{words_count}
use Rattle.rewriting.proofs.index_automaton.IndexAutomaton.of.Goals as goal

pub returns : goal.returns
returns c =
    let size = words_count c.args.rules.now c.in_ok-trie.trie.prefixes.items in
    record {
      letters = c.in_ok-trie.ensures.letters;
      over = c.requires.over;
      states = record {
        are = c.in_ok-trie.ensures.tree.are;
        distinct = c.in_ok-trie.ensures.tree.trie.distinct;
        only = c.in_ok-trie.ensures.tree.trie.only;
      };
      reads = λ n a hn ha. c.in_ok-tables.ensures.reads n a (omega (arith, hn, size)) (omega (arith, ha, c.in_ok-trie.ensures.letters));
      full = λ n a hn ha. c.in_ok-tables.ensures.full n a hn (omega (arith, ha, c.in_ok-trie.ensures.letters));
    }

pub tables_of-requires-clause-over : goal.tables_of-requires-clause-over
tables_of-requires-clause-over c = subst (λ k. AreOver k c.args.rules.now) (sym c.in_ok-trie.ensures.letters) c.requires.over

pub invariant_of-result : goal.invariant_of-result
invariant_of-result c =
    let size = words_count c.args.rules.now c.in_ok-trie.trie.prefixes.items in
    let tables = c.in_ok-tables.ensures.tables in
    record {
      some = omega (arith, tables.some, size);
      few = omega (arith, c.requires.few, c.in_ok-trie.ensures.letters);
      target_rows = subst (λ n. AreRows n c.in_ok-trie.trie.letters c.in_ok-tables.tables.targets) size tables.target_rows;
      end_rows = subst (λ n. AreRows n c.in_ok-trie.trie.letters c.in_ok-tables.tables.ends) size tables.end_rows;
      within = λ n a. omega (arith, tables.targets_within n a, size);
    }
