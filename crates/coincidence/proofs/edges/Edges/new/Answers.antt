use Rattle.coincidence.proofs.LinkLaws.{linked_root}
use Rattle.coincidence.proofs.BackLaws.{backed_root}
use Rattle.coincidence.proofs.edges.Edges.new.Goals as goal

pub invariant_of-result : goal.invariant_of-result
invariant_of-result c = record {
  linked = rw (c.in_ok-targets.ensures, c.in_ok-firsts.ensures, c.in_ok-nexts.ensures) (linked_root c.args.letters c.requires);
  backed = rw (c.in_ok-targets.ensures, c.in_ok-firsts.ensures, c.in_ok-nexts.ensures, c.in_ok-befores.ensures) (backed_root c.args.letters);
}
