-- Items that go from the end of a list to groups, and come out again.
use Rattle.std.proofs.Common.{◌≡◌, ℕ, ◌+◌, ◌-◌, ◌<◌, ◌≤◌, List, [], ◌∷◌, ◌++◌, length, map, Vec, vec_len, vec_capacity, Global, refl, sym, ap, ◌∙◌, arith, append_assoc, append-nil}
use Rattle.std.proofs.lemmas.List.{length_push}
use Rattle.workers.specs.Dealt.{Dealt, dealt}

-- f gives an item of the list back from what it is in the groups
module _ {X Y : Type 0} (f : Y → X) where
  -- the last items have gone to groups, in which there is room for the others
  pub record GoIn (whole : List X) (capacity : ℕ) (xs : Vec X Global) (groups : Dealt Y) : Type 0 where
    pub same : xs.items ++ map f groups.items ≡ whole
    pub room : groups.room ≡ vec_len xs
    pub capacity_is : vec_capacity xs ≡ capacity

  pub none_in : (xs : Vec X Global) (groups : Dealt Y) → groups ≡ dealt (length xs.items) [] → GoIn xs.items (vec_capacity xs) xs groups
  none_in xs groups none = rw none (record { same = append-nil xs.items; room = sym xs.ok.0; capacity_is = refl })

  pub one_in : (whole : List X) (capacity : ℕ) (xs left : Vec X Global) (groups : Dealt Y) (y : Y) → GoIn whole capacity xs groups → xs.items ≡ left.items ++ f y ∷ [] → vec_capacity left ≡ vec_capacity xs → GoIn whole capacity left (dealt (groups.room - 1) (y ∷ groups.items))
  one_in whole capacity xs left groups y m popped cap = record {
    same = sym (append_assoc left.items (f y ∷ []) (map f groups.items)) ∙ ap (λ zs. zs ++ map f groups.items) (sym popped) ∙ m.same;
    room = omega (arith, m.room, xs.ok.0, left.ok.0, ap length popped, length_push left.items (f y));
    capacity_is = cap ∙ m.capacity_is;
  }

  -- the first items have come out
  pub record ComeOut (was : List Y) (groups : Dealt Y) (xs : Vec X Global) : Type 0 where
    pub same : xs.items ++ map f groups.items ≡ map f was
    pub room : length xs.items + length groups.items ≤ vec_capacity xs

  pub none_out : (groups : Dealt Y) (xs : Vec X Global) → xs.items ≡ [] → length groups.items ≤ vec_capacity xs → ComeOut groups.items groups xs
  none_out groups xs none room = record { same = ap (λ zs. zs ++ map f groups.items) none; room = omega (arith, room, ap length none) }

  pub room_out : (was : List Y) (groups left : Dealt Y) (xs : Vec X Global) (y : Y) → ComeOut was groups xs → groups.items ≡ y ∷ left.items → vec_len xs < vec_capacity xs
  room_out was groups left xs y m taken = omega (arith, xs.ok.0, m.room, ap length taken)

  pub one_out : (was : List Y) (groups left : Dealt Y) (xs more : Vec X Global) (y : Y) → ComeOut was groups xs → groups.items ≡ y ∷ left.items → more.items ≡ xs.items ++ f y ∷ [] → vec_capacity more ≡ vec_capacity xs → ComeOut was left more
  one_out was groups left xs more y m taken pushed cap = record {
    same = ap (λ zs. zs ++ map f left.items) pushed ∙ append_assoc xs.items (f y ∷ []) (map f left.items) ∙ ap (λ zs. xs.items ++ map f zs) (sym taken) ∙ m.same;
    room = omega (arith, m.room, ap length taken, ap length pushed, length_push xs.items (f y), cap);
  }

  pub all_out : (was : List Y) (groups : Dealt Y) (xs : Vec X Global) → ComeOut was groups xs → groups.items ≡ [] → xs.items ≡ map f was
  all_out was groups xs m none = sym (append-nil xs.items) ∙ ap (λ zs. xs.items ++ map f zs) (sym none) ∙ m.same
