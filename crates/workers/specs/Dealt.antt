-- Items in groups: the item of number k in group k mod the number of groups, the last one first.
use Rattle.std.specs.Prelude.{◌≡◌, ℕ, zero, suc, ◌+◌, ◌-◌, ◌%◌, ◌<◌, ◌≤◌, ◌^◌, List, [], ◌++◌, length, map, get_or, set, take, drop, Vec, vec_capacity}
use Rattle.std.specs.List.{All, AllZip}
use Rattle.std.specs.declared.alloc.Global.{Global}

-- the items in the order of their numbers, and for how many more there is room before them
pub record Dealt (X : Type 0) : Type 0 where
  pub room : ℕ
  pub items : List X

abbrev pub dealt : {X : Type 0} → ℕ → List X → Dealt X
dealt k xs = record { room = k; items = xs }

module _ {X : Type 0} where
  -- the group of number k
  abbrev pub group_of : ℕ → List (List X) → List X
  group_of k gs = get_or gs (k % length gs) []

  -- the groups without the item of number k, which is the last one of its group
  abbrev pub without : ℕ → List (List X) → List (List X)
  without k gs = set gs (k % length gs) (take (length (group_of k gs) - 1) (group_of k gs))

  -- n items of the groups in order, the first of which has number k
  abbrev pub in_order : ℕ → ℕ → List (List X) → List X
  in_order zero k gs = []
  in_order (suc n) k gs =
      drop (length (group_of k gs) - 1) (group_of k gs) ++ in_order n (suc k) (without k gs)

  -- these are all items of the groups
  abbrev pub AreDealt : ℕ → ℕ → List (List X) → Type 0
  AreDealt zero k gs = All (λ g. g ≡ []) gs
  AreDealt (suc n) k gs = (0 < length (group_of k gs)) × AreDealt n (suc k) (without k gs)

  -- the items in each of these
  abbrev pub items_in : List (Vec X Global) → List (List X)
  items_in gs = map (λ g. g.items) gs

  -- n items are in groups, the first of which has number k. Each group has room for all
  pub record AreGroups (n k : ℕ) (gs : List (Vec X Global)) : Type 0 where
    pub all : AreDealt n k (items_in gs)
    pub some : 0 < length gs
    pub small : k + n < 2 ^ 64
    pub roomy : All (λ g. k + n ≤ vec_capacity g) gs

  -- what is made of a group, where R says what is made of an item
  abbrev pub IsWorkedOn : (X → X → Type 0) → Vec X Global → Vec X Global → Type 0
  IsWorkedOn R g h = AllZip R g.items h.items × (vec_capacity h ≡ vec_capacity g)
