use Rattle.std.proofs.Common.{inl, inr}
use Rattle.theory.proofs.LatticeLaws.{join_has_left, join_has_right, join_least}
use Rattle.theory.proofs.lattice.join_is_least.Goals as goal

pub returns-clause-has : goal.returns-clause-has
returns-clause-has g c = λ k s t hs ht u v h. elim h [ inl a ↦ join_has_left k s t hs u v a | inr b ↦ join_has_right k s t ht u v b ]

pub returns-clause-least : goal.returns-clause-least
returns-clause-least g c = λ k s t. join_least k s t g.R.Relation.relates
