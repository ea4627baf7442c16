-- Nodes that become one.
use Rattle.std.specs.Prelude.{◌≡◌, ◌≢◌, ℕ, ◌≤◌, ◌&&◌, nat_eq, Bool, false, List, length, slice_index, slice_index_or, slice_set, option_map, Option, Some, ◌⊎◌}
use Rattle.theory.specs.Graph.{target}
use Rattle.coincidence.specs.Live.{IsOn}
use Rattle.coincidence.specs.Replaced.{AreReplaced}
use Rattle.coincidence.specs.Marks.{AreCarried}
use Rattle.coincidence.specs.Folding.{IsMerging}
use Rattle.coincidence.specs.Pending.{IsAmong}
use Rattle.coincidence.specs.Absorbing.{Extends}
use Rattle.coincidence.specs.Kept.{IsMended, IsOfGraph}
use Rattle.coincidence.specs.declared.absorb.Merge.{Merge}
use Rattle.coincidence.specs.declared.cosets.Cosets.{Cosets}
use Rattle.coincidence.specs.declared.pending.Pending.TheVariants.{NewEdge}

-- each pair is of nodes that were live
abbrev pub AreOn : List Bool → List (ℕ × ℕ) → Type 0
AreOn was queue = (p q : ℕ) → IsAmong (p, q) queue → IsOn was p × IsOn was q

-- each pair is of one class
abbrev pub AreOne : List ℕ → List (ℕ × ℕ) → Type 0
AreOne class queue = (p q : ℕ) → IsAmong (p, q) queue → slice_index class p ≡ slice_index class q

-- of s and t the one is lost, and the other kept
abbrev pub Joins : Merge → ℕ → ℕ → Type 0
Joins merge s t = ((s ≡ merge.lost) × (t ≡ merge.kept)) ⊎ ((s ≡ merge.kept) × (t ≡ merge.lost))

-- pairs were taken from the queue, of such classes
pub record IsTaking (was : List Bool) (class : List ℕ) (old new : Cosets)
    (Such : ℕ → ℕ → Type 0) : Type 0 where
  pub replaced : AreReplaced was new.live.items class new.replaced_by.items
  pub left : Extends new.queue.items old.queue.items
  pub other : (p q : ℕ) → IsAmong (p, q) old.queue.items
      → IsAmong (p, q) new.queue.items ⊎ Such (slice_index class p) (slice_index class q)

-- a pair that the merge joins, and pairs of one class
pub record IsTaken (was : List Bool) (class : List ℕ) (old new : Cosets)
    (merge : Merge) : Type 0 where
  pub taking : IsTaking was class old new (λ s t. (s ≡ t) ⊎ Joins merge s t)
  pub there : (p q : ℕ) × IsAmong (p, q) old.queue.items
      × Joins merge (slice_index class p) (slice_index class q)

-- lost nodes were replaced within some classes, and pairs are of nodes that were live
abbrev pub HaveClasses : Cosets → Type 0
HaveClasses t = (was : List Bool) × (class : List ℕ)
    × AreReplaced was t.live.items class t.replaced_by.items × AreOn was t.queue.items

-- and whatever the classes are, all pairs are of one class
abbrev pub AreAllOne : Cosets → Type 0
AreAllOne t = (was : List Bool) (class : List ℕ)
    → AreReplaced was t.live.items class t.replaced_by.items → AreOn was t.queue.items
    → AreOne class t.queue.items

-- and whatever the classes are, the pair is taken
abbrev pub AreTaken : Cosets → Cosets → Merge → Type 0
AreTaken old new merge = (was : List Bool) (class : List ℕ)
    → AreReplaced was old.live.items class old.replaced_by.items → AreOn was old.queue.items
    → IsTaken was class old new merge

-- only the queue, and what lost nodes were replaced by, have changed
abbrev pub KeepsNodes : Cosets → Cosets → Type 0
KeepsNodes old new = new ≡ record old { queue = new.queue; replaced_by = new.replaced_by }

-- the mark of lost is at kept
pub record IsMarkMoved (was is : List Bool) (merge : Merge) : Type 0 where
  pub shape : length is ≡ length was
  pub stays : (n : ℕ) → IsOn was n → n ≢ merge.lost → IsOn is n
  pub moved : IsOn was merge.lost → IsOn is merge.kept
  pub from : (n : ℕ) → IsOn is n
      → (n ≢ merge.lost) × (IsOn was n ⊎ ((n ≡ merge.kept) × IsOn was merge.lost))

-- what is kept beside the nodes has an entry for each, and the order is that of some graph
pub record HaveEntries (t : Cosets) : Type 0 where
  pub live : length t.live.items ≡ length t.edges.graph
  pub marked : length t.marked.items ≡ length t.edges.graph
  pub room : length t.edges.graph ≤ length t.replaced_by.items
  pub order : IsOfGraph t.order

-- a node is lost: its mark goes to the one that is kept in its place, and the order is cut
pub record IsLost (old new : Cosets) (merge : Merge) : Type 0 where
  pub live : new.live.items ≡ slice_set old.live.items merge.lost false
  pub replaced : new.replaced_by.items ≡ slice_set old.replaced_by.items merge.lost merge.kept
  pub marks : IsMarkMoved old.marked.items new.marked.items merge
  pub order : IsMended old new
  pub rest : new ≡ record old {
    live = new.live;
    marked = new.marked;
    order = new.order;
    replaced_by = new.replaced_by;
  }

-- x and y are one, with all that follows; marks and the node at go with the classes, what is new
-- is pending, and the order is cut
pub record IsJoined (old new : Cosets) (x y : ℕ) (at to : Option ℕ) : Type 0 where
  pub class : List ℕ
  pub merging : IsMerging old.edges.graph x y new.edges.graph class
  pub shape : length new.live.items ≡ length old.live.items
  pub live : (n : ℕ) → slice_index_or new.live.items n false
      ≡ (slice_index_or old.live.items n false && nat_eq (slice_index class n) n)
  pub carried : AreCarried class old.marked.items new.marked.items
  pub gone : to ≡ option_map (slice_index class) at
  pub fresh : (n a t : ℕ) → target new.edges.graph n a ≡ Some t
      → IsAmong (NewEdge n a) new.pending ⊎ (target old.edges.graph n a ≡ Some t)
  pub pending : Extends old.pending new.pending
  pub order : IsMended old new
  pub seen : new.seen ≡ old.seen
