use Rattle.std.proofs.Common.{◌<◌, length, unwrap_or, sym, ◌∙◌, ap, arith}
use Rattle.std.proofs.lemmas.Option.{same_Some}
use Rattle.cells.proofs.EntryLaws.{row_width}
use Rattle.rewriting.specs.Tries.{states_of}
use Rattle.rewriting.proofs.TrieLaws.{state_over, words_count}
use Rattle.rewriting.proofs.LinkLaws.{child_within, entry_step, entry_within, first_few}
use Rattle.rewriting.proofs.links.Tables.link_entry.Goals as goal

pub put-requires-clause-node : goal.put-requires-clause-node
put-requires-clause-node c = omega (arith, c.requires.node, words_count c.args.rules.now c.args.trie.now.prefixes.items, c.requires.linked.tables.target_rows.count)

pub put-requires-clause-letter : goal.put-requires-clause-letter
put-requires-clause-letter c =
    let inside : c.args.node < length (states_of c.args.rules.now c.args.trie.now) = omega (arith, c.requires.node, words_count c.args.rules.now c.args.trie.now.prefixes.items) in
    omega (arith, c.requires.letter, row_width _ _ _ c.requires.linked.tables.target_rows c.args.node inside)

pub put-requires-clause-entry : goal.put-requires-clause-entry
put-requires-clause-entry c = λ n e.
    let inside : c.args.node < length (states_of c.args.rules.now c.args.trie.now) = omega (arith, c.requires.node, words_count c.args.rules.now c.args.trie.now.prefixes.items) in
    let within = entry_within c.len-count.ensures.falling c.requires.tree (state_over c.args.trie.now.letters c.args.rules.now c.args.trie.now.prefixes.items c.requires.over)
    inside c.requires.letter c.requires.linked c.read_behind-behind.result c.read_behind-behind.ensures.behind in
    let is = c.unwrap_or.ensures ∙ ap (λ o. unwrap_or o c.read_behind-behind.result.0) c.get-child.ensures.entry in
    omega (arith, within, is, same_Some _ n e, c.requires.linked.tables.target_rows.count)

pub put_number-requires-clause-node : goal.put_number-requires-clause-node
put_number-requires-clause-node c = omega (arith, c.requires.node, words_count c.args.rules.now c.args.trie.now.prefixes.items, c.requires.linked.tables.end_rows.count)

pub put_number-requires-clause-letter : goal.put_number-requires-clause-letter
put_number-requires-clause-letter c =
    let inside : c.args.node < length (states_of c.args.rules.now c.args.trie.now) = omega (arith, c.requires.node, words_count c.args.rules.now c.args.trie.now.prefixes.items) in
    omega (arith, c.requires.letter, row_width _ _ _ c.requires.linked.tables.end_rows c.args.node inside)

pub put_number-requires-clause-entry : goal.put_number-requires-clause-entry
put_number-requires-clause-entry c = rw c.or-end.ensures (first_few _ c.get.result c.read_behind-behind.result.1 c.get.ensures.few c.read_behind-behind.ensures.few)

pub set_link-requires : goal.set_link-requires
set_link-requires c = λ x e.
    let inside : c.args.node < length (states_of c.args.rules.now c.args.trie.now) = omega (arith, c.requires.node, words_count c.args.rules.now c.args.trie.now.prefixes.items) in
    let child = child_within c.len-count.ensures.falling c.requires.tree (state_over c.args.trie.now.letters c.args.rules.now c.args.trie.now.prefixes.items c.requires.over)
    inside c.requires.letter c.requires.linked x (sym c.get-child.ensures.entry ∙ e) in
    omega (arith, child, c.requires.linked.tables.links_count)

pub returns : goal.returns
returns c =
    let inside : c.args.node < length (states_of c.args.rules.now c.args.trie.now) = omega (arith, c.requires.node, words_count c.args.rules.now c.args.trie.now.prefixes.items) in
    rw (c.put.ensures, c.put_number.ensures, c.set_link.ensures, c.unwrap_or.ensures, c.or-end.ensures, c.get-child.ensures.entry, c.get.ensures.entry)
    (entry_step c.len-count.ensures.falling c.requires.tree (state_over c.args.trie.now.letters c.args.rules.now c.args.trie.now.prefixes.items c.requires.over)
    inside c.requires.letter c.requires.linked c.read_behind-behind.result c.read_behind-behind.ensures.behind)
