-- Where lost nodes have gone.
use Rattle.std.proofs.Common.{◌≡◌, ◌≢◌, ℕ, ◌<◌, List, Bool, true, false, sym, ◌∙◌, ap, arith, ◌⊎◌, inl, inr, length, subst, set, get_or, slice_index, length-set}
use Rattle.std.proofs.lemmas.Bool.{cases_eq}
use Rattle.std.proofs.lemmas.List.{get_or-set_same, get_or-set_other, get_or_read}
use Rattle.coincidence.specs.Live.{IsOn}
use Rattle.coincidence.specs.Replaced.{AreReplaced, IsKnown, StaysInClass}
use Rattle.coincidence.proofs.MarkLaws.{on_within}

pub stays_more : (is : List Bool) (old mid new : List ℕ) (node next to : ℕ) → StaysInClass is old mid node next → StaysInClass is mid new next to → StaysInClass is old new node to
stays_more is old mid new node next to p q = λ was class replaced on.
    let f = p was class replaced on in
    let g = q was class f.0 f.1 in
    (g.0, g.1, g.2 ∙ f.2)

-- what is written beside a lost node
lead : (was is : List Bool) (class replaced_by : List ℕ) (node : ℕ) → AreReplaced was is class replaced_by → IsOn was node → (IsOn is node → ⊥) → (slice_index replaced_by node < node) × IsOn was (slice_index replaced_by node) × (slice_index class (slice_index replaced_by node) ≡ slice_index class node)
lead was is class replaced_by node replaced on off = elim (replaced.replaced node on) [ inl h ↦ absurd (off h) | inr h ↦ h ]

-- another node is written
replaced_set : (was is : List Bool) (class replaced_by : List ℕ) (node to : ℕ) → node < length replaced_by → to < node → IsOn was to → slice_index class to ≡ slice_index class node → AreReplaced was is class replaced_by → AreReplaced was is class (set replaced_by node to)
replaced_set was is class replaced_by node to within less on same replaced = record {
  shape = replaced.shape;
  room = omega (arith, replaced.room, length-set replaced_by node to);
  own = replaced.own;
  replaced = λ n h. go n h (cases_eq n node);
}
  where
    go : (n : ℕ) → IsOn was n → (n ≡ node) ⊎ (n ≢ node) → IsOn is n ⊎ ((slice_index (set replaced_by node to) n < n) × IsOn was (slice_index (set replaced_by node to) n) × (slice_index class (slice_index (set replaced_by node to) n) ≡ slice_index class n))
    go n h (inl e) =
        let read : slice_index (set replaced_by node to) n ≡ to = ap (slice_index (set replaced_by node to)) e ∙ get_or-set_same replaced_by node to 0 within in
        inr (omega (arith, read, less, e), subst (IsOn was) (sym read) on, ap (slice_index class) read ∙ same ∙ ap (slice_index class) (sym e))
    go n h (inr d) =
        let read : slice_index (set replaced_by node to) n ≡ slice_index replaced_by n = get_or-set_other replaced_by node n to 0 d in
        elim (replaced.replaced n h) [
          | inl k ↦ inl k
          | inr k ↦ inr (omega (arith, read, k.0), subst (IsOn was) (sym read) k.1, ap (slice_index class) read ∙ k.2)
        ]

pub replaced_inside : (is : List Bool) (replaced_by : List ℕ) (node : ℕ) → IsKnown is replaced_by node → (node < length is) × (node < length replaced_by)
replaced_inside is replaced_by node h = (omega (arith, on_within h.0 node h.3, h.2.shape), omega (arith, on_within h.0 node h.3, h.2.shape, h.2.room))

-- a node that was read is not live
pub off_read : (is : List Bool) (node : ℕ) (b : Bool) → b ≡ get_or is node b → b ≡ false → IsOn is node → ⊥
off_read is node b read off on =
    let same : false ≡ true = sym off ∙ get_or_read is node b (on_within is node on) read false ∙ on in
    let no : ⊥ = cc in
    no

-- two nodes on, which is written
pub stays_hop : (is : List Bool) (replaced_by : List ℕ) (node next to : ℕ) → IsKnown is replaced_by node → (IsOn is node → ⊥) → (IsOn is next → ⊥) → next ≡ get_or replaced_by node next → to ≡ get_or replaced_by next to → StaysInClass is replaced_by (set replaced_by node to) node to
stays_hop is replaced_by node next to h off away first second = λ was class replaced on.
    let next_is : next ≡ slice_index replaced_by node = get_or_read replaced_by node next (replaced_inside is replaced_by node h).1 first 0 in
    let one = lead was is class replaced_by node replaced on off in
    let on' : IsOn was next = subst (IsOn was) (sym next_is) one.1 in
    let to_is : to ≡ slice_index replaced_by next = get_or_read replaced_by next to (replaced_inside is replaced_by next (was, class, replaced, on')).1 second 0 in
    let two = lead was is class replaced_by next replaced on' away in
    let on'' : IsOn was to = subst (IsOn was) (sym to_is) two.1 in
    let same : slice_index class to ≡ slice_index class node = ap (slice_index class) to_is ∙ two.2 ∙ ap (slice_index class) next_is ∙ one.2 in
    (replaced_set was is class replaced_by node to (replaced_inside is replaced_by node h).1 (omega (arith, next_is, to_is, one.0, two.0)) on'' same replaced, on'', same)

-- and so on
pub replaced_stays : (is : List Bool) (old new : List ℕ) (node to : ℕ) → IsKnown is old node → StaysInClass is old new node to → IsKnown is new to
replaced_stays is old new node to h p = let k = p h.0 h.1 h.2 h.3 in (h.0, h.1, k.0, k.1)
