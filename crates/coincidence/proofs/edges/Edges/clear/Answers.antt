use Rattle.std.proofs.Common.{sym, subst}
use Rattle.coincidence.specs.Links.{Links, IsLinked}
use Rattle.coincidence.proofs.LinkLaws.{linked_root}
use Rattle.coincidence.proofs.BackLaws.{backed_root}
use Rattle.coincidence.proofs.edges.Edges.clear.Goals as goal

pub invariant_of-self : goal.invariant_of-self
invariant_of-self c =
    let k = c.self.inside.letters in
    let i = c.self.invariant.linked in
    record {
      linked = rw (c.clear.ensures k i.graph.width, c.clear-2.ensures k i.firsts, c.clear-3.ensures k i.nexts) (linked_root k i.few);
      backed = rw (c.clear.ensures k i.graph.width, c.clear-2.ensures k i.firsts, c.clear-3.ensures k i.nexts, c.clear-4.ensures k c.self.invariant.backed.width) (backed_root k);
    }

pub returns : goal.returns
returns c = λ k is.
    c.clear.ensures k (subst (λ (t : Links). IsLinked k t) (sym c.self.view_is) is).graph.width
