-- Nodes at which relations hold.
use Rattle.std.proofs.Common.{◌≡◌, refl, ℕ, ◌+◌, ◌<◌, ◌≤◌, ◌⊎◌, arith, List, [], ◌∷◌, ◌++◌, sym, ◌∙◌, ap, length, inl, inr, Bool, true, false, get_or, slice_index, option_map, Option, Some, None, subst}
use Rattle.std.proofs.lemmas.Bool.{cases_eq, cases_lt}
use Rattle.std.proofs.lemmas.List.{get_or_read}
use Rattle.std.specs.Option.{ForSome}
use Rattle.theory.specs.Word.{Word}
use Rattle.theory.specs.Graph.{Graph, target, path, IsClosedAt}
use Rattle.word_graph.proofs.WalkLaws.{some_same}
use Rattle.coincidence.specs.Closing.{IsEdged}
use Rattle.coincidence.specs.Merging.{IsFolded}
use Rattle.coincidence.specs.Holding.{HoldAt, HoldWhere, HoldBefore, HoldOnceDrawn, MeetAt, MeetOrAsk}
use Rattle.coincidence.specs.DueSpec.{ReadsTo}
use Rattle.coincidence.specs.Live.{IsOn}
use Rattle.coincidence.specs.Pending.{IsAmong, IsClosedBut}
use Rattle.coincidence.specs.Reading.{IsAsked, IsDueBoth}
use Rattle.coincidence.specs.declared.due.Due.{Due}
use Rattle.coincidence.specs.declared.due.Due.TheVariants.{Nothing, Edge, Join}
use Rattle.coincidence.specs.declared.pending.Pending.{Pending}
use Rattle.coincidence.specs.declared.pending.Pending.TheVariants.{NewNode}
use Rattle.coincidence.proofs.CloseLaws.{edged_path}
use Rattle.coincidence.proofs.DueLaws.{IsQuiet}
use Rattle.coincidence.proofs.FollowsLaws.{path_more}
use Rattle.coincidence.proofs.MarkLaws.{on_within}
use Rattle.coincidence.proofs.MergeLaws.{folded_path}
use Rattle.coincidence.proofs.ReadLaws.{met_quiet}

-- where they hold they are closed
pub hold_closed : (pairs : List (Word × Word)) (g : Graph) (node : ℕ) → HoldAt pairs g node → IsClosedAt pairs g node
hold_closed pairs g node hold r s a m j sides first second =
    let both = hold r (s ++ a ∷ []) sides in
    sym (path_more g node j s a second) ∙ both.2 ∙ sym both.1 ∙ first

-- one pair more that holds
pub held_more : (pairs : List (Word × Word)) (g : Graph) (node i : ℕ) (p : Word × Word) → i < length pairs → p ≡ get_or pairs i p → MeetAt g node p → HoldBefore pairs g node i → HoldBefore pairs g node (i + 1)
held_more pairs g node i p less e meets held = λ k d h. go k d h (cases_lt k i)
  where
    go : (k : ℕ) (d : Word × Word) → k < i + 1 → (k < i) ⊎ (i ≤ k) → MeetAt g node (get_or pairs k d)
    go k d h (inl l) = held k d l
    go k d h (inr l) =
        let k_is : i ≡ k = omega (arith, l, h) in
        subst (λ z. MeetAt g node (get_or pairs z d)) k_is (subst (MeetAt g node) (get_or_read pairs i p less e d) meets)

-- pairs that hold ask for nothing
pub held_quiet : (pairs : List (Word × Word)) (g : Graph) (node i : ℕ) → HoldBefore pairs g node i → IsQuiet g node pairs i
held_quiet pairs g node i held k d h =
    let met = held k d h in
    met_quiet g node met.0 (get_or pairs k d).0 (get_or pairs k d).1 met.1 met.2

-- a pair holds once what it asks for is drawn
module _ (pairs : List (Word × Word)) (old new : Graph) (j a m node i : ℕ) (edged : IsEdged old new j a m) where
  read_meets : (r s : Word) → ReadsTo old node r s j a m → (path new node r ≡ Some m) × (path new node s ≡ Some m)
  read_meets r s k = (
    edged_path old new j a m edged node m r k.2,
    ap (path new node) k.1 ∙ path_more new node j k.0 a (edged_path old new j a m edged node j k.0 k.3) ∙ edged.edge,
  )

  pub drawn_edged : HoldOnceDrawn pairs old node (Edge j a m) i → HoldBefore pairs new node i
  drawn_edged held k d h = elim (held k d h) [
    | inl met ↦ (met.0, edged_path old new j a m edged node met.0 (get_or pairs k d).0 met.1, edged_path old new j a m edged node met.0 (get_or pairs k d).1 met.2)
    | inr asks ↦ elim asks [
      | inl e ↦ let r = read_meets (get_or pairs k d).0 (get_or pairs k d).1 e.0 in (m, r.0, r.1)
      | inr e ↦ let r = read_meets (get_or pairs k d).1 (get_or pairs k d).0 e.0 in (m, r.1, r.0)
    ]
  ]

module _ (pairs : List (Word × Word)) (old : Graph) (class : List ℕ) (new : Graph) (j a m t node i : ℕ) (folded : IsFolded old class new) (one : slice_index class t ≡ slice_index class m) where
  read_joins : (r s : Word) → ReadsTo old node r s j a m → target old j a ≡ Some t → (path new (slice_index class node) r ≡ Some (slice_index class m)) × (path new (slice_index class node) s ≡ Some (slice_index class m))
  read_joins r s k e = (
    folded_path old class new folded node m r k.2,
    folded_path old class new folded node t s (ap (path old node) k.1 ∙ path_more old node j k.0 a k.3 ∙ e) ∙ ap (λ z. Some z) one,
  )

  pub drawn_folded : HoldOnceDrawn pairs old node (Join j a t m) i → HoldBefore pairs new (slice_index class node) i
  drawn_folded held k d h = elim (held k d h) [
    | inl met ↦ (slice_index class met.0, folded_path old class new folded node met.0 (get_or pairs k d).0 met.1, folded_path old class new folded node met.0 (get_or pairs k d).1 met.2)
    | inr asks ↦ elim asks [
      | inl e ↦ let r = read_joins (get_or pairs k d).0 (get_or pairs k d).1 e.0 e.1 in (slice_index class m, r.0, r.1)
      | inr e ↦ let r = read_joins (get_or pairs k d).1 (get_or pairs k d).0 e.0 e.1 in (slice_index class m, r.1, r.0)
    ]
  ]

-- pairs that hold do so whatever is due
pub held_once : (pairs : List (Word × Word)) (g : Graph) (node i : ℕ) (due : Due) → HoldBefore pairs g node i → HoldOnceDrawn pairs g node due i
held_once pairs g node i Nothing held = held
held_once pairs g node i (Edge j a m) held = λ k d h. inl (held k d h)
held_once pairs g node i (Join j a t m) held = λ k d h. inl (held k d h)

-- and the one behind them, if it asks
pub held_and_asks : (pairs : List (Word × Word)) (g : Graph) (node i : ℕ) (p : Word × Word) (due : Due) → (due ≡ Nothing → ⊥) → i < length pairs → p ≡ get_or pairs i p → HoldBefore pairs g node i → IsDueBoth g node p.0 p.1 due → HoldOnceDrawn pairs g node due (i + 1)
held_and_asks pairs g node i p Nothing not less e held asks = absurd (not refl)
held_and_asks pairs g node i p (Edge j a m) not less e held asks = λ k d h. go k d h (cases_lt k i)
  where
    go : (k : ℕ) (d : Word × Word) → k < i + 1 → (k < i) ⊎ (i ≤ k) → MeetOrAsk g node (get_or pairs k d) (Edge j a m)
    go k d h (inl l) = inl (held k d l)
    go k d h (inr l) =
        let k_is : i ≡ k = omega (arith, l, h) in
        inr (subst (λ z. IsAsked g node (get_or pairs z d).0 (get_or pairs z d).1 (Edge j a m)) k_is (subst (λ (q : Word × Word). IsAsked g node q.0 q.1 (Edge j a m)) (get_or_read pairs i p less e d) asks))
held_and_asks pairs g node i p (Join j a t m) not less e held asks = λ k d h. go k d h (cases_lt k i)
  where
    go : (k : ℕ) (d : Word × Word) → k < i + 1 → (k < i) ⊎ (i ≤ k) → MeetOrAsk g node (get_or pairs k d) (Join j a t m)
    go k d h (inl l) = inl (held k d l)
    go k d h (inr l) =
        let k_is : i ≡ k = omega (arith, l, h) in
        inr (subst (λ z. IsAsked g node (get_or pairs z d).0 (get_or pairs z d).1 (Join j a t m)) k_is (subst (λ (q : Word × Word). IsAsked g node q.0 q.1 (Join j a t m)) (get_or_read pairs i p less e d) asks))

-- at the node where relations are read, if there is one, wherever it goes
pub place_held_edged : (pairs : List (Word × Word)) (old new : Graph) (j a m i : ℕ) (at : Option ℕ) → IsEdged old new j a m → ForSome at (λ n. HoldOnceDrawn pairs old n (Edge j a m) i) → ForSome at (λ n. HoldBefore pairs new n i)
place_held_edged pairs old new j a m i at edged held = λ n is. drawn_edged pairs old new j a m n i edged (held n is)

pub place_held_folded : (pairs : List (Word × Word)) (old : Graph) (class : List ℕ) (new : Graph) (j a m t i : ℕ) (at to : Option ℕ) → IsFolded old class new → slice_index class t ≡ slice_index class m → to ≡ option_map (slice_index class) at
    → ForSome at (λ n. HoldOnceDrawn pairs old n (Join j a t m) i) → ForSome to (λ n. HoldBefore pairs new n i)
place_held_folded pairs old class new j a m t i at to folded one gone held = λ n is. go at held n (sym gone ∙ is)
  where
    go : (at : Option ℕ) → ForSome at (λ n. HoldOnceDrawn pairs old n (Join j a t m) i) → (n : ℕ) → option_map (slice_index class) at ≡ Some n → HoldBefore pairs new n i
    go None held n e = cc
    go (Some x) held n e = subst (λ z. HoldBefore pairs new z i) (some_same (slice_index class x) n e) (drawn_folded pairs old class new j a m t x i folded one (held x refl))

-- nothing is asked of nodes where they hold, nor of new ones
pub closed_unmarked : (pairs : List (Word × Word)) (g : Graph) (live marked : List Bool) (pending : List Pending) → HoldWhere pairs g marked
    → ((node : ℕ) → IsOn live node → (IsOn marked node → ⊥) → IsAmong (NewNode node) pending) → IsClosedBut pairs g live pending
closed_unmarked pairs g live marked pending hold all node r s a m j on old_node sides first second _ _ = go (get_or marked node false) refl
  where
    go : (b : Bool) → get_or marked node false ≡ b → target g j a ≡ Some m
    go true e = hold_closed pairs g node (hold node e) r s a m j sides first second
    go false e = absurd (old_node (all node on (λ h. let no : false ≡ true = sym e ∙ h in cc)))

-- the live nodes before n that have no mark are pending
abbrev pub AreTaken : List Bool → List Bool → List Pending → ℕ → Type 0
AreTaken live marked entries n = (node : ℕ) → node < n → IsOn live node → (IsOn marked node → ⊥) → IsAmong (NewNode node) entries

pub taken_more : (live marked : List Bool) (old new : List Pending) (n : ℕ) (b d : Bool) → b ≡ get_or live n false → d ≡ get_or marked n false
    → (b ≡ true → d ≡ false → IsAmong (NewNode n) new) → ((entry : Pending) → IsAmong entry old → IsAmong entry new) → AreTaken live marked old n → AreTaken live marked new (n + 1)
taken_more live marked old new n b d live_is marked_is there still taken node less on off = elim (cases_eq node n) [
  | inl e ↦ subst (λ z. IsAmong (NewNode z) new) (sym e) (here d refl (subst (IsOn live) e on) (subst (λ z. IsOn marked z → ⊥) e off))
  | inr other ↦ still (NewNode node) (taken node (omega (arith, less, other)) on off)
]
  where
    here : (x : Bool) → d ≡ x → IsOn live n → (IsOn marked n → ⊥) → IsAmong (NewNode n) new
    here true e on off = absurd (off (sym marked_is ∙ e))
    here false e on off = there (live_is ∙ on) e

pub taken_all : (live marked : List Bool) (entries : List Pending) (n : ℕ) → n ≡ length live → AreTaken live marked entries n
    → (node : ℕ) → IsOn live node → (IsOn marked node → ⊥) → IsAmong (NewNode node) entries
taken_all live marked entries n end taken node on off = taken node (omega (arith, end, on_within live node on)) on off
