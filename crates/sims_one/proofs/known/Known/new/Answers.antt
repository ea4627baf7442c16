use Rattle.std.proofs.Common.{ℕ, List, Option, subst, sym}
use Rattle.sims_one.specs.Known.{HasEdges}
use Rattle.sims_one.proofs.EdgeLaws.{edges_none}
use Rattle.sims_one.proofs.known.Known.new.Goals as goal

pub returns-clause-edges : goal.returns-clause-edges
returns-clause-edges c = λ u. subst (λ (targets : List (Option ℕ)). HasEdges targets u) (sym c.none.ensures) (edges_none 901 u)
