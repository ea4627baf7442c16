use Rattle.std.proofs.Common.{◌≡◌, ◌+◌, ◌<◌, ℕ, List, Option, length, get_or, sym, subst, arith}
use Rattle.std.proofs.lemmas.Option.{same_Some}
use Rattle.theory.specs.Graph.{Graph}
use Rattle.cells.specs.Rows.{AreRows, with_node}
use Rattle.cells.proofs.EntryLaws.{row_width, rows_node}
use Rattle.rewriting.proofs.tries.Trie.descend.Goals as goal

-- a row more
more : (n k : ℕ) (g new : Graph) → AreRows n k g → ((k : ℕ) → ((i : ℕ) (d : List (Option ℕ)) → i < length g → length (get_or g i d) ≡ k) → new ≡ with_node k g) → AreRows (n + 1) k new
more n k g new is made = subst (λ (h : Graph). AreRows (n + 1) k h) (sym (made k is.width)) (rows_node n k g is)

pub put-requires-clause-node : goal.put-requires-clause-node
put-requires-clause-node c =
    let rows = more _ c.args.self.now.letters c.args.self.now.children c.add_row.new.self c.requires.children c.in_ok-add_row.ensures.ok in
    omega (arith, c.requires.node, rows.count)

pub put-requires-clause-letter : goal.put-requires-clause-letter
put-requires-clause-letter c =
    let rows = more _ c.args.self.now.letters c.args.self.now.children c.add_row.new.self c.requires.children c.in_ok-add_row.ensures.ok in
    omega (arith, c.requires.letter, row_width _ _ _ rows c.args.node (omega (arith, c.requires.node)))

pub put-requires-clause-entry : goal.put-requires-clause-entry
put-requires-clause-entry c = λ x e.
    let rows = more _ c.args.self.now.letters c.args.self.now.children c.add_row.new.self c.requires.children c.in_ok-add_row.ensures.ok in
    omega (arith, same_Some _ x e, rows.count, c.nodes-child.ensures, c.requires.children.count)
