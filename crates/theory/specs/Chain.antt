-- Steps, chains and the relation that they make (Sims 1994, ch. 2).
use Rattle.std.specs.Prelude.{◌≡◌, List, [], ◌∷◌, ◌++◌, ◌⊎◌}
use Rattle.theory.specs.Word.{Word}
use Rattle.theory.specs.Congruence.{Congruence, EitherWay}
use Rattle.theory.specs.declared.Kind.{Kind}
use Rattle.theory.specs.declared.Kind.TheVariants.{TwoSided, Right, Left}

-- where a step of this kind may stand: anywhere, at the front, at the end
abbrev pub MayStand : Kind → Word → Word → Type 0
MayStand TwoSided before after = Unit {0}
MayStand Right before after = before ≡ []
MayStand Left before after = after ≡ []

-- v is u with one factor replaced by one that Base relates it to, where the kind allows
pub record Step (Base : Word → Word → Type 0) (kind : Kind) (u v : Word) : Type 0 where
  pub before : Word
  pub from : Word
  pub to : Word
  pub after : Word
  pub base : Base from to
  pub place : MayStand kind before after
  pub source : u ≡ before ++ (from ++ after)
  pub target : v ≡ before ++ (to ++ after)

-- a step by the base at any place, or by a pair of this kind
abbrev pub StepBy : (Word → Word → Type 0) → Kind → List (Word × Word) → Word → Word → Type 0
StepBy Base kind pairs u v = Step Base TwoSided u v ⊎ Step (EitherWay pairs) kind u v

-- the words that follow u, each one step from the one before, end with v
abbrev pub Chain : (Word → Word → Type 0) → Word → List Word → Word → Type 0
Chain OneStep u [] v = u ≡ v
Chain OneStep u (w ∷ ws) v = OneStep u w × Chain OneStep w ws v

-- some chain leads from u to v
abbrev pub Joined : (Word → Word → Type 0) → Word → Word → Type 0
Joined OneStep u v = (words : List Word) × Chain OneStep u words v

-- a chain of the congruence's relations and pairs joins u and v
abbrev pub Related : Congruence → Word → Word → Type 0
Related c = Joined (StepBy (EitherWay c.presentation.relations) c.kind c.pairs)

-- an equivalence that is kept under multiplication on the sides that the kind allows
pub record IsCongruenceOf (kind : Kind) (R : Word → Word → Type 0) : Type 0 where
  pub reflexive : (u : Word) → R u u
  pub symmetric : (u v : Word) → R u v → R v u
  pub transitive : (u v w : Word) → R u v → R v w → R u w
  pub kept : (x y : Word) → MayStand kind x y → (u v : Word) → R u v
      → R (x ++ (u ++ y)) (x ++ (v ++ y))
