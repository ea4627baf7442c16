use Rattle.std.proofs.Common.{◌∙◌, ◌<◌, ℕ, length, get_or, Some, ap, sym, arith}
use Rattle.sims_one.proofs.CodeLaws.{is_node, is_none, node_at}
use Rattle.sims_one.proofs.known.Targets.get.Goals as goal

pub returns-then-code-lt-UNKNOWN-clause-node : goal.returns-then-code-lt-UNKNOWN-clause-node
returns-then-code-lt-UNKNOWN-clause-node c =
    let codes = c.self.inside.codes in
    let inside : c.args.place < length codes = omega (arith, c.requires, c.self.told) in
    ap (λ (n : ℕ). Some n) c.from.ensures ∙ sym (is_node (get_or codes c.args.place 0) c.if-code-lt-UNKNOWN.true)
    ∙ node_at codes c.args.self.now c.args.place c.self.view_is inside

pub returns-else-code-lt-UNKNOWN-clause-node : goal.returns-else-code-lt-UNKNOWN-clause-node
returns-else-code-lt-UNKNOWN-clause-node c =
    let codes = c.self.inside.codes in
    let inside : c.args.place < length codes = omega (arith, c.requires, c.self.told) in
    sym (is_none (get_or codes c.args.place 0) c.if-code-lt-UNKNOWN.false) ∙ node_at codes c.args.self.now c.args.place c.self.view_is inside
