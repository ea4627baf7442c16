use Rattle.coincidence.specs.declared.pending.Pending.TheVariants.{NewNode}
use Rattle.coincidence.proofs.PendingLaws.{extended, extended_last}
use Rattle.coincidence.proofs.pending.Worklist.take_unmarked_node.Goals as goal

pub returns-in_ok-push_node-clause-there : goal.returns-in_ok-push_node-clause-there
returns-in_ok-push_node-clause-there c = λ _ _. extended_last (NewNode c.args.node) c.args.self.now c.push_node.new.self c.in_ok-push_node.ensures

pub returns-in_ok-push_node-clause-still : goal.returns-in_ok-push_node-clause-still
returns-in_ok-push_node-clause-still c = λ entry h. extended entry (NewNode c.args.node) c.args.self.now c.push_node.new.self c.in_ok-push_node.ensures h
