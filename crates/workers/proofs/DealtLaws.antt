-- Items that are dealt to groups come back in order.
use Rattle.std.proofs.Common.{◌≡◌, ℕ, zero, suc, ◌+◌, ◌-◌, ◌%◌, ◌<◌, ◌≤◌, ◌^◌, List, [], ◌∷◌, ◌++◌, All, length, get_or, set, take, drop, Option, Some, None, Vec, vec_len, vec_capacity, Global, refl, sym, ap, ◌∙◌, subst, arith, length-set}
use Rattle.std.specs.Prelude.{MatchOption}
use Rattle.std.specs.Option.{option_to_list}
use Rattle.std.specs.List.{AllZip}
use Rattle.std.proofs.lemmas.List.{length-map, drop_at, take_at, length_push, nil_from_length, get_or-set_same, get_or-map, set-set, set-get_or, map-set}
use Rattle.std.proofs.lemmas.List.Elements.{All-nil, All-head, All-tail, All-set, All-push, All-get_or, All-map, All-weaker, AllZip-get_or, length_all_zip}
use Rattle.workers.proofs.Zips.{zip_same, zip_from_each, zip_map, zip_last, zip_set}
use Rattle.workers.specs.Dealt.{Dealt, dealt, group_of, without, in_order, AreDealt, items_in, AreGroups, IsWorkedOn}

module _ {X : Type 0} where
  last_apart : (g : List X) → 0 < length g → (h : List X) × (x : X) × (g ≡ h ++ x ∷ [])
  last_apart [] some = absurd (omega arith)
  last_apart (x ∷ []) some = ([], x, refl)
  last_apart (x ∷ y ∷ g) some = let r = last_apart (y ∷ g) (omega arith) in (x ∷ r.0, r.1, ap (λ zs. x ∷ zs) r.2)

  front_of : (h : List X) (x : X) → take (length (h ++ x ∷ []) - 1) (h ++ x ∷ []) ≡ h
  front_of h x = take_at h (x ∷ []) (length (h ++ x ∷ []) - 1) (omega (arith, length_push h x))

  last_of : (h : List X) (x : X) → drop (length (h ++ x ∷ []) - 1) (h ++ x ∷ []) ≡ x ∷ []
  last_of h x = drop_at h (x ∷ []) (length (h ++ x ∷ []) - 1) (omega (arith, length_push h x))

  within : (gs : List (List X)) (i : ℕ) → 0 < length (get_or gs i []) → i < length gs
  within [] i some = absurd (omega arith)
  within (g ∷ gs) zero some = omega arith
  within (g ∷ gs) (suc i) some = let l = within gs i some in omega arith

  -- what is known where x is the last item of the group of number k
  module _ (n k : ℕ) (gs : List (List X)) (h : List X) (x : X) (is : group_of k gs ≡ h ++ x ∷ []) where
    rest_is : without k gs ≡ set gs (k % length gs) h
    rest_is = ap (λ t. set gs (k % length gs) t) (ap (λ (g : List X). take (length g - 1) g) is ∙ front_of h x)

    pub next_is : in_order (suc n) k gs ≡ x ∷ in_order n (suc k) (set gs (k % length gs) h)
    next_is = λ j. (ap (λ (g : List X). drop (length g - 1) g) is ∙ last_of h x) j ++ in_order n (suc k) (rest_is j)

    pub dealt_after : AreDealt (suc n) k gs → AreDealt n (suc k) (set gs (k % length gs) h)
    dealt_after d = subst (AreDealt n (suc k)) rest_is d.1

    pub dealt_before : AreDealt n (suc k) (set gs (k % length gs) h) → AreDealt (suc n) k gs
    dealt_before d = (omega (arith, ap length is, length_push h x), subst (AreDealt n (suc k)) (sym rest_is) d)

  -- the groups before and after the item of number k is taken
  record Taking (n k : ℕ) (gs : List (List X)) : Type 0 where
    rest : List X
    item : X
    is : group_of k gs ≡ rest ++ item ∷ []
    low : k % length gs < length gs
    order : in_order (suc n) k gs ≡ item ∷ in_order n (suc k) (set gs (k % length gs) rest)
    dealt : AreDealt n (suc k) (set gs (k % length gs) rest)

  taking : (n k : ℕ) (gs : List (List X)) → AreDealt (suc n) k gs → Taking n k gs
  taking n k gs d =
      let r = last_apart (group_of k gs) d.0 in record {
        rest = r.0;
        item = r.1;
        is = r.2;
        low = within gs (k % length gs) d.0;
        order = next_is n k gs r.0 r.1 r.2;
        dealt = dealt_after n k gs r.0 r.1 r.2 d;
      }

  -- what holds of all groups, once it holds of the rest of one and of that one
  put_back : (P : List X → Type 0) (gs : List (List X)) (i : ℕ) (h : List X) → i < length gs → All P (set gs i h) → (P h → P (get_or gs i [])) → All P gs
  put_back P gs i h low all here =
      let rest = subst P (get_or-set_same gs i h [] low) (All-get_or P (set gs i h) i [] (omega (arith, low, length-set gs i h)) all) in
      subst (All P) (set-set gs i h (get_or gs i []) ∙ set-get_or gs i []) (All-set P (set gs i h) i (get_or gs i []) (here rest) all)

  -- what holds of the items in order holds of those of each group
  pub each_group : (P : X → Type 0) (n k : ℕ) (gs : List (List X)) → AreDealt n k gs → All P (in_order n k gs) → All (All P) gs
  each_group P zero k gs d all = All-weaker (λ g. g ≡ []) (All P) (λ g e. subst (All P) (sym e) (All-nil P)) gs d
  each_group P (suc n) k gs d all =
      let t = taking n k gs d in
      let both = subst (All P) t.order all in
      let rest = in_order n (suc k) (set gs (k % length gs) t.rest) in
      put_back (All P) gs (k % length gs) t.rest t.low (each_group P n (suc k) (set gs (k % length gs) t.rest) t.dealt (All-tail P t.item rest both))
      (λ front. subst (All P) (sym t.is) (All-push P t.rest t.item front (All-head P t.item rest both)))

  -- no group has more items than there are
  short : (n k : ℕ) (gs : List (List X)) → AreDealt n k gs → All (λ g. length g ≤ n) gs
  short zero k gs d = All-weaker (λ g. g ≡ []) (λ g. length g ≤ 0) (λ g e. omega (arith, ap length e)) gs d
  short (suc n) k gs d =
      let t = taking n k gs d in
      let less = short n (suc k) (set gs (k % length gs) t.rest) t.dealt in
      put_back (λ g. length g ≤ suc n) gs (k % length gs) t.rest t.low (All-weaker (λ g. length g ≤ n) (λ g. length g ≤ suc n) (λ g l. omega (arith, l)) (set gs (k % length gs) t.rest) less)
      (λ l. omega (arith, ap length t.is, length_push t.rest t.item, All-get_or (λ g. length g ≤ n) (set gs (k % length gs) t.rest) (k % length gs) [] (omega (arith, t.low, length-set gs (k % length gs) t.rest)) less, ap length (get_or-set_same gs (k % length gs) t.rest [] t.low)))

-- work on each group is work on the items in order
pub all_worked : {X : Type 0} (R : X → X → Type 0) (n k : ℕ) (xs ys : List (List X)) → AllZip (AllZip R) xs ys → AreDealt n k xs → AllZip R (in_order n k xs) (in_order n k ys) × AreDealt n k ys
all_worked R zero k xs ys z d = (
  tt,
  λ j e less.
      let long = length_all_zip (AllZip R) xs ys z in
      let here = AllZip-get_or (AllZip R) xs ys j e e z (omega (arith, long, less)) in
      nil_from_length (get_or ys j e) (omega (arith, length_all_zip R (get_or xs j e) (get_or ys j e) here, ap length (d j e (omega (arith, long, less))))),
)
all_worked {X} R (suc n) k xs ys z d =
    let t = taking n k xs d in
    let same = ap (λ w. k % w) (length_all_zip (AllZip R) xs ys z) in
    let here : AllZip R (group_of k xs) (group_of k ys) = subst (λ i. AllZip R (group_of k xs) (get_or ys i [])) same (AllZip-get_or (AllZip R) xs ys (k % length xs) [] [] z t.low) in
    let r = zip_last R t.rest t.item (group_of k ys) (subst (λ g. AllZip R g (group_of k ys)) t.is here) in
    let rest : AllZip (AllZip R) (set xs (k % length xs) t.rest) (set ys (k % length ys) r.0) =
    subst (λ i. AllZip (AllZip R) (set xs (k % length xs) t.rest) (set ys i r.0)) same (zip_set (AllZip R) xs ys (k % length xs) t.rest r.0 z r.3) in
    let after = all_worked R n (suc k) (set xs (k % length xs) t.rest) (set ys (k % length ys) r.0) rest t.dealt in (
      zip_same R (in_order (suc n) k xs) (t.item ∷ in_order n (suc k) (set xs (k % length xs) t.rest)) (in_order (suc n) k ys) (r.1 ∷ in_order n (suc k) (set ys (k % length ys) r.0)) t.order (next_is n k ys r.0 r.1 r.2) (r.4, after.0),
      dealt_before n k ys r.0 r.1 r.2 after.1,
    )

-- groups that have room
module _ {X : Type 0} where
  put_in : (gs : List (Vec X Global)) (i : ℕ) (h : Vec X Global) → items_in (set gs i h) ≡ set (items_in gs) i h.items
  put_in gs i h = map-set (λ g. g.items) gs i h

  group_is : (k i : ℕ) (gs : List (Vec X Global)) (g : Vec X Global) → i ≡ k % length gs → i < length gs → g ≡ get_or gs i g → group_of k (items_in gs) ≡ g.items
  group_is k i gs g is low at =
      ap (λ j. get_or (items_in gs) j []) (ap (λ w. k % w) (length-map gs (λ g. g.items)) ∙ sym is)
      ∙ get_or-map (λ g. g.items) gs i g [] low
      ∙ ap (λ g. g.items) (sym at)

  pub no_groups : (k : ℕ) (gs : List (Vec X Global)) → k < 2 ^ 64 → 0 < length gs → All (λ g. g.items ≡ []) gs → All (λ g. k ≤ vec_capacity g) gs → AreGroups 0 k gs
  no_groups k gs small some none room = record {
    all = All-map (λ g. g ≡ []) (λ g. g.items) gs none;
    some = some;
    small = omega (arith, small);
    roomy = λ i d low. omega (arith, room i d low);
  }

  -- an item is put in: there is room, and it is then the first one
  module _ (n m k j i : ℕ) (gs : List (Vec X Global)) (g : Vec X Global) (more : suc n ≡ m) (next : suc j ≡ k) (is : i ≡ j % length gs) (at : g ≡ get_or gs i g) (a : AreGroups n k gs) where
    put_low : i < length gs
    put_low = let wide = a.some in omega (arith, is)

    pub has_room : vec_len g < vec_capacity g
    has_room =
        let few = subst (λ (xs : List X). length xs ≤ n) (get_or-map (λ v. v.items) gs i g [] put_low ∙ ap (λ v. v.items) (sym at)) (short n k (items_in gs) a.all i [] (omega (arith, put_low, length-map gs (λ v. v.items)))) in
        let room = subst (λ (v : Vec X Global). k + n ≤ vec_capacity v) (sym at) (a.roomy i g put_low) in
        omega (arith, few, room, next, g.ok.0)

    pub put_groups : (h : Vec X Global) (x : X) → h.items ≡ g.items ++ x ∷ [] → vec_capacity h ≡ vec_capacity g → AreGroups m j (set gs i h) × (in_order m j (items_in (set gs i h)) ≡ x ∷ in_order n k (items_in gs))
    put_groups h x pushed same_room =
        let long = length-set gs i h in
        let new = items_in (set gs i h) in
        let here : group_of j new ≡ g.items ++ x ∷ [] = group_is j i (set gs i h) h (is ∙ ap (λ w. j % w) (sym long)) (omega (arith, put_low, long)) (sym (get_or-set_same gs i h h put_low)) ∙ pushed in
        let back : set new (j % length new) g.items ≡ items_in gs =
        ap (λ w. set new (j % w) g.items) (length-map (set gs i h) (λ v. v.items) ∙ long)
        ∙ ap (λ p. set new p g.items) (sym is)
        ∙ sym (put_in (set gs i h) i g)
        ∙ ap items_in (set-set gs i h g ∙ ap (λ v. set gs i v) at ∙ set-get_or gs i g) in
        subst (λ p. AreGroups p j (set gs i h) × (in_order p j new ≡ x ∷ in_order n k (items_in gs))) more (
          record {
            all = dealt_before n j new g.items x here (subst (λ p. AreDealt n p (set new (j % length new) g.items)) (sym next) (subst (AreDealt n k) (sym back) a.all));
            some = omega (arith, put_low, long);
            small = omega (arith, a.small, next);
            roomy = All-weaker (λ (v : Vec X Global). k + n ≤ vec_capacity v) (λ (v : Vec X Global). j + suc n ≤ vec_capacity v) (λ v l. omega (arith, l, next)) (set gs i h)
                (All-set (λ (v : Vec X Global). k + n ≤ vec_capacity v) gs i h (subst (λ c. k + n ≤ c) (ap (λ (v : Vec X Global). vec_capacity v) (sym at) ∙ sym same_room) (a.roomy i g put_low)) a.roomy);
          },
          next_is n j new g.items x here ∙ ap (λ p. x ∷ in_order n p (set new (j % length new) g.items)) next ∙ ap (λ t. x ∷ in_order n k t) back,
        )

  -- the first item is taken: there is one, and the others are left
  module _ (n m k j i : ℕ) (gs : List (Vec X Global)) (g : Vec X Global) (less : suc n ≡ m) (next : suc k ≡ j) (is : i ≡ k % length gs) (at : g ≡ get_or gs i g) (a : AreGroups m k gs) where
    take_low : i < length gs
    take_low = let wide = a.some in omega (arith, is)

    all_before : AreDealt (suc n) k (items_in gs)
    all_before = subst (λ p. AreDealt p k (items_in gs)) (sym less) a.all

    not_empty : 0 < length g.items
    not_empty = subst (λ (xs : List X). 0 < length xs) (group_is k i gs g is take_low at) all_before.0

    take_item : (h : Vec X Global) (x : X) → g.items ≡ h.items ++ x ∷ [] → vec_capacity h ≡ vec_capacity g → AreGroups n j (set gs i h) × (in_order m k (items_in gs) ≡ x ∷ in_order n j (items_in (set gs i h)))
    take_item h x popped same_room =
        let old = items_in gs in
        let here = group_is k i gs g is take_low at ∙ popped in
        let rest : set old (k % length old) h.items ≡ items_in (set gs i h) =
        ap (λ w. set old (k % w) h.items) (length-map gs (λ v. v.items)) ∙ ap (λ p. set old p h.items) (sym is) ∙ sym (put_in gs i h) in (
          record {
            all = subst (λ p. AreDealt n p (items_in (set gs i h))) next (subst (AreDealt n (suc k)) rest (dealt_after n k old h.items x here all_before));
            some = omega (arith, a.some, length-set gs i h);
            small = omega (arith, a.small, less, next);
            roomy = All-weaker (λ (v : Vec X Global). k + m ≤ vec_capacity v) (λ (v : Vec X Global). j + n ≤ vec_capacity v) (λ v l. omega (arith, l, less, next)) (set gs i h)
                (All-set (λ (v : Vec X Global). k + m ≤ vec_capacity v) gs i h (subst (λ c. k + m ≤ c) (ap (λ (v : Vec X Global). vec_capacity v) (sym at) ∙ sym same_room) (a.roomy i g take_low)) a.roomy);
          },
          ap (λ p. in_order p k old) (sym less) ∙ next_is n k old h.items x here ∙ ap (λ t. x ∷ in_order n (suc k) t) rest ∙ ap (λ p. x ∷ in_order n p (items_in (set gs i h))) next,
        )

    pub take_groups : (h : Vec X Global) (r : Option X) (was : Dealt X) (P : Type 0) → dealt k (in_order m k (items_in gs)) ≡ was → g.items ≡ h.items ++ option_to_list r → vec_capacity h ≡ vec_capacity g → MatchOption r ((vec_len g ≡ 0) × (vec_len h ≡ 0)) (λ _. vec_len h + 1 ≡ vec_len g)
        → AreGroups n j (set gs i h) × MatchOption r P (λ x. (was.items ≡ x ∷ in_order n j (items_in (set gs i h))) × (j ≡ was.room + 1))
    take_groups h (Some x) was P old popped same_room there = let took = take_item h x popped same_room in (took.0, (sym (ap (λ (d : Dealt X). d.items) old) ∙ took.1, omega (arith, next, ap (λ (d : Dealt X). d.room) old)))
    take_groups h None was P old popped same_room none = absurd (omega (arith, not_empty, none.0, g.ok.0))

pub each_ready : {X : Type 0} (P : X → Type 0) (n k : ℕ) (gs : List (Vec X Global)) → AreGroups n k gs → All P (in_order n k (items_in gs)) → All (λ (v : Vec X Global). All P v.items) gs
each_ready {X} P n k gs a all i d low =
    subst (All P) (get_or-map (λ (v : Vec X Global). v.items) gs i d [] low) (each_group P n k (items_in gs) a.all all i [] (omega (arith, low, length-map gs (λ (v : Vec X Global). v.items))))

-- a crew has worked on each group
pub worked_groups : {X : Type 0} (R : X → X → Type 0) (n k : ℕ) (gs hs : List (Vec X Global)) → AreGroups n k gs → length hs ≡ length gs
    → ((i : ℕ) (d : Vec X Global) → i < length gs → IsWorkedOn R (get_or gs i d) (get_or hs i d))
    → AreGroups n k hs × AllZip R (in_order n k (items_in gs)) (in_order n k (items_in hs))
worked_groups {X} R n k gs hs a long each =
    let both = all_worked R n k (items_in gs) (items_in hs) (zip_map (AllZip R) (λ v. v.items) gs hs (zip_from_each (λ v w. AllZip R v.items w.items) gs hs long (λ i d less. (each i d less).0))) a.all in (
      record {
        all = both.1;
        some = omega (arith, a.some, long);
        small = a.small;
        roomy = λ i d less. let l : i < length gs = omega (arith, less, long) in subst (λ c. k + n ≤ c) (sym (each i d l).1) (a.roomy i d l);
      },
      both.0,
    )
