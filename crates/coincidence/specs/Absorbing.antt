-- One node becomes another.
use Rattle.std.specs.Prelude.{◌≡◌, ℕ, ◌<◌, List, [], ◌∷◌, ◌++◌, ◌⊎◌, length, Some, None}
use Rattle.theory.specs.Graph.{Graph, target, IsGraph}
use Rattle.coincidence.specs.Merging.{relabel}
use Rattle.coincidence.specs.Pending.{IsAmong}
use Rattle.coincidence.specs.declared.absorb.Merge.{Merge}
use Rattle.coincidence.specs.declared.cosets.Cosets.{Cosets}
use Rattle.coincidence.specs.declared.pending.Pending.{Pending}
use Rattle.coincidence.specs.declared.pending.Pending.TheVariants.{NewEdge}

-- whatever was in the one list is in the other
abbrev pub Extends : {X : Type 0} → List X → List X → Type 0
Extends {X} before after = (x : X) → IsAmong x before → IsAmong x after

-- the graphs have the same nodes and letters
pub record IsSameShape (old new : Graph) : Type 0 where
  pub nodes : length new ≡ length old
  pub graph : (k : ℕ) → IsGraph k old → IsGraph k new

-- the edges, what is pending, and the pairs of nodes that are still to become one
pub record Absorbing : Type 0 where
  pub graph : Graph
  pub pending : List Pending
  pub queue : List (ℕ × ℕ)

abbrev pub absorbing_of : Cosets → Absorbing
absorbing_of t = record { graph = t.edges.graph; pending = t.pending; queue = t.queue.items }

-- nothing else has changed
abbrev pub KeepsRest : Cosets → Cosets → Type 0
KeepsRest old new =
    new ≡ record old { edges = new.edges; pending = new.pending; queue = new.queue }

-- of two nodes the greater is lost
pub record IsMerge (g : Graph) (merge : Merge) : Type 0 where
  pub less : merge.kept < merge.lost
  pub inside : merge.lost < length g

-- the node, or the one that is kept in its place
abbrev pub goes : Merge → ℕ → ℕ
goes merge n = relabel merge.lost merge.kept n

-- edges of the letter a to the one node lead to the other, and are pending
pub record IsRedirecting (old new : Absorbing) (merge : Merge) (a : ℕ) : Type 0 where
  pub shape : IsSameShape old.graph new.graph
  pub pending : Extends old.pending new.pending
  pub queue : new.queue ≡ old.queue
  pub led : (n : ℕ) → target old.graph n a ≡ Some merge.lost
      → (target new.graph n a ≡ Some merge.lost)
      ⊎ ((target new.graph n a ≡ Some merge.kept) × IsAmong (NewEdge n a) new.pending)
  pub other : (n b : ℕ) → ((b ≡ a) × (target old.graph n b ≡ Some merge.lost) → ⊥)
      → target new.graph n b ≡ target old.graph n b

-- so for all of them
abbrev pub IsRedirected : Absorbing → Absorbing → Merge → ℕ → Type 0
IsRedirected old new merge a =
    IsRedirecting old new merge a × ((n : ℕ) → target new.graph n a ≡ Some merge.lost → ⊥)

-- the edge of the letter a from the one node starts at the other, or the ends of both are queued
pub record IsMoved (old new : Absorbing) (merge : Merge) (a : ℕ) : Type 0 where
  pub shape : IsSameShape old.graph new.graph
  pub pending : Extends old.pending new.pending
  pub other : (n b : ℕ) → ((b ≡ a) × ((n ≡ merge.lost) ⊎ (n ≡ merge.kept)) → ⊥)
      → target new.graph n b ≡ target old.graph n b
  pub gone : target new.graph merge.lost a ≡ None
  pub none : target old.graph merge.lost a ≡ None
      → (target new.graph merge.kept a ≡ target old.graph merge.kept a) × (new.queue ≡ old.queue)
  pub moved : (to : ℕ) → target old.graph merge.lost a ≡ Some to
      → target old.graph merge.kept a ≡ None
      → (target new.graph merge.kept a ≡ Some to) × (new.queue ≡ old.queue)
      × IsAmong (NewEdge merge.kept a) new.pending
  pub met : (to end : ℕ) → target old.graph merge.lost a ≡ Some to
      → target old.graph merge.kept a ≡ Some end
      → (target new.graph merge.kept a ≡ Some end) × (new.queue ≡ old.queue ++ (to, end) ∷ [])

-- edges of one letter lead to s and t, once a node is lost, from what is then one node
pub record IsMet (g : Graph) (merge : Merge) (a s t : ℕ) : Type 0 where
  pub n : ℕ
  pub n' : ℕ
  pub m : ℕ
  pub m' : ℕ
  pub together : goes merge n ≡ goes merge n'
  pub first : target g n a ≡ Some m
  pub second : target g n' a ≡ Some m'
  pub s_is : s ≡ goes merge m
  pub t_is : t ≡ goes merge m'

-- at the letter a the one node has become the other, but for pairs that are queued
pub record IsAbsorbedAt (old new : Absorbing) (merge : Merge) (a : ℕ) : Type 0 where
  pub edge : (n m : ℕ) → target old.graph n a ≡ Some m
      → (t : ℕ) × (target new.graph (goes merge n) a ≡ Some t)
      × ((t ≡ goes merge m) ⊎ IsAmong (goes merge m, t) new.queue)
  pub back : (c t : ℕ) → target new.graph c a ≡ Some t
      → (n m : ℕ) × (goes merge n ≡ c) × (target old.graph n a ≡ Some m) × (goes merge m ≡ t)
  pub fresh : (n t : ℕ) → target new.graph n a ≡ Some t
      → IsAmong (NewEdge n a) new.pending ⊎ (target old.graph n a ≡ Some t)

-- and at every letter
pub record IsAbsorbed (old new : Absorbing) (merge : Merge) : Type 0 where
  pub shape : IsSameShape old.graph new.graph
  pub pending : Extends old.pending new.pending
  pub still : Extends old.queue new.queue
  pub at : (a : ℕ) → IsAbsorbedAt old new merge a
  pub meets : (s t : ℕ) → IsAmong (s, t) new.queue
      → IsAmong (s, t) old.queue ⊎ ((a : ℕ) × IsMet old.graph merge a s t)
