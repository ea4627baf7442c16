-- Front parts behind which the parts of a search look for tables.
use Rattle.std.proofs.Common.{◌≡◌, ℕ, zero, suc, ◌+◌, ◌-◌, ◌*◌, ◌<◌, ◌≤◌, ◌⊎◌, inl, inr, List, [], ◌∷◌, ◌++◌, length, take, get_or, map, flat_map, drop, Result, Ok, Err, OnOk, All, Vec, Global, Some, refl, sym, ◌∙◌, ap, ap₂, subst, subst₂, arith, append-nil, append_assoc, length-append}
use Rattle.std.proofs.Math.Nat.{mul-le-mul_right}
use Rattle.std.proofs.lemmas.Bool.{cases_lt}
use Rattle.std.proofs.lemmas.Cmp.{nat_list_cmp_total}
use Rattle.std.proofs.lemmas.List.{map-append, take-append-drop}
use Rattle.std.proofs.lemmas.List.Elements.{All-head, All-tail}
use Rattle.sims_one.specs.Targets.{seen, least_target, most_nodes, IsFront, AreAllowed, IsTable, IsWithin, IsBeyond}
use Rattle.sims_one.specs.Search.{Before, NoneFrom}
use Rattle.sims_one.specs.Asked.{AreFirst, Asked, IsWanted, IsWantedWithin, AreTables, AreTablesWithin}
use Rattle.sims_one.specs.Fronts.{AddsLonger, IsOpen, AreOpen, IsWithinOne, ComeBefore, AreOrdered, AreLonger, IsWantedWithinOne, AreJoined, Sought, part_tasks, lists_in}
use Rattle.sims_one.proofs.FrontLaws.{front_none, front_push, allowed_push, front_next, allowed_next, before_itself, before_heads, common_front, Compared, compared}
use Rattle.sims_one.proofs.FrontLaws.Compared.{begins, below, above}
use Rattle.sims_one.proofs.SearchLaws.{within_beyond}
use Rattle.sims_one.proofs.FirstLaws.{take_joined, first_same, first_take, first_join}

pub no_lists : (vs : List (Vec ℕ Global)) → length vs ≡ 0 → lists_in vs ≡ []
no_lists [] e = refl
no_lists (v ∷ vs) e = absurd (omega (arith, e))

pub product_small : (k n : ℕ) → k ≤ 53 → n ≤ 17 → k * n ≤ 901
product_small k n h g = let m : k * n ≤ 53 * n = mul-le-mul_right n h in omega (arith, m, g)

pub before_trans : (t u v : List ℕ) → Before t u → Before u v → Before t v
before_trans t u v = nat_list_cmp_total.trans t u v

pub before_front : (t : List ℕ) (x : ℕ) (rest : List ℕ) → Before t (t ++ x ∷ rest)
before_front t x rest = subst (λ (s : List ℕ). Before s (t ++ x ∷ rest)) (append-nil t) (common_front t [] (x ∷ rest))

pub before_cases : (t u : List ℕ) → Before t u ⊎ ((t ≡ u) ⊎ Before u t)
before_cases t u = go (compared t u)
  where
    go : Compared t u → Before t u ⊎ ((t ≡ u) ⊎ Before u t)
    go (begins [] e) = inr (inl (sym (e ∙ append-nil t)))
    go (begins (x ∷ rest) e) = inl (subst (Before t) (sym e) (before_front t x rest))
    go (below h) = inl (subst (λ (s : List ℕ). Before s u) (append-nil t) (h []))
    go (above h) = inr (inr (subst (Before u) (append-nil t) (h [])))

-- lists of front parts, one behind the other
pub within_either : (ts us : List (List ℕ)) (u : List ℕ) → IsWithinOne (ts ++ us) u → IsWithinOne ts u ⊎ IsWithinOne us u
within_either [] us u h = inr h
within_either (t ∷ ts) us u (inl h) = inl (inl h)
within_either (t ∷ ts) us u (inr h) = elim (within_either ts us u h) [ inl w ↦ inl (inr w) | inr w ↦ inr w ]

pub within_first : (ts us : List (List ℕ)) (u : List ℕ) → IsWithinOne ts u → IsWithinOne (ts ++ us) u
within_first [] us u h = absurd h
within_first (t ∷ ts) us u (inl h) = inl h
within_first (t ∷ ts) us u (inr h) = inr (within_first ts us u h)

pub within_second : (ts us : List (List ℕ)) (u : List ℕ) → IsWithinOne us u → IsWithinOne (ts ++ us) u
within_second [] us u h = h
within_second (t ∷ ts) us u h = inr (within_second ts us u h)

ordered_both : (ts us : List (List ℕ)) → AreOrdered ts → AreOrdered us → ComeBefore ts us → AreOrdered (ts ++ us)
ordered_both [] us a b before = b
ordered_both (t ∷ ts) us a b before = (
  λ u v w h. first u v w (within_either ts us v h),
  ordered_both ts us a.1 b (λ u v h k. before u v (inr h) k),
)
  where
    first : (u v : List ℕ) → IsWithinOne (t ∷ []) u → IsWithinOne ts v ⊎ IsWithinOne us v → Before u v
    first u v w (inl h) = a.0 u v w h
    first u v (inl w) (inr h) = before u v (inl w) h
    first u v (inr w) (inr h) = absurd w

ordered_first : (ts us : List (List ℕ)) → AreOrdered (ts ++ us) → AreOrdered ts
ordered_first [] us a = tt
ordered_first (t ∷ ts) us a = (λ u v w h. a.0 u v w (within_first ts us v h), ordered_first ts us a.1)

ordered_second : (ts us : List (List ℕ)) → AreOrdered (ts ++ us) → AreOrdered us
ordered_second [] us a = a
ordered_second (t ∷ ts) us a = ordered_second ts us a.1

ordered_across : (ts us : List (List ℕ)) → AreOrdered (ts ++ us) → ComeBefore ts us
ordered_across [] us a u v h k = absurd h
ordered_across (t ∷ ts) us a u v (inl h) k = a.0 u v (inl h) (within_second ts us v k)
ordered_across (t ∷ ts) us a u v (inr h) k = ordered_across ts us a.1 u v h k

module _ (a : Asked) where
  open_both : (ts us : List (List ℕ)) → AreOpen a ts → AreOpen a us → AreOpen a (ts ++ us)
  open_both [] us h k = k
  open_both (t ∷ ts) us h k = (h.0, open_both ts us h.1 k)

  pub longer_none : AreLonger a [] []
  longer_none = record { kept = λ u table after h. h; within = λ u h. h; ordered = λ o. o; opened = tt }

  pub longer_both : (ts us vs ws : List (List ℕ)) → AreLonger a ts us → AreLonger a vs ws → AreLonger a (ts ++ vs) (us ++ ws)
  longer_both ts us vs ws l m = record {
    kept = λ u table after h. elim (within_either ts vs u h) [ inl w ↦ within_first us ws u (l.kept u table after w) | inr w ↦ within_second us ws u (m.kept u table after w) ];
    within = λ u h. elim (within_either us ws u h) [ inl w ↦ within_first ts vs u (l.within u w) | inr w ↦ within_second ts vs u (m.within u w) ];
    ordered = λ o. ordered_both us ws (l.ordered (ordered_first ts vs o)) (m.ordered (ordered_second ts vs o))
        (λ u v h k. ordered_across ts vs o u v (l.within u h) (m.within v k));
    opened = open_both us ws l.opened m.opened;
  }

  pub longer_whole : (t : List ℕ) → IsOpen a t → AreLonger a (t ∷ []) (t ∷ [])
  longer_whole t is = record { kept = λ u table after h. h; within = λ u h. h; ordered = λ o. o; opened = (is, tt) }

  -- front parts with one target more, which is below the limit
  pub record AreSplit (t : List ℕ) (limit : ℕ) (us : List (List ℕ)) : Type 0 where
    pub kept : (u : List ℕ) → IsTable a.presentation a.classes u → Before a.cursor u
        → (b : IsBeyond t (least_target a.presentation.is_monoid) u) → b.target < limit → IsWithinOne us u
    pub within : (u : List ℕ) → IsWithinOne us u → (b : IsBeyond t (least_target a.presentation.is_monoid) u) × (b.target < limit)
    pub ordered : AreOrdered us
    pub opened : AreOpen a us

  -- the least target that is tried
  pub split_from : (t : List ℕ) (f : ℕ)
      → ((u : List ℕ) → IsTable a.presentation a.classes u → (b : IsBeyond t (least_target a.presentation.is_monoid) u) → IsWithin t u → f ≤ b.target) → AreSplit t f []
  split_from t f least = record {
    kept = λ u table after b less. absurd (omega (arith, least u table b (record { rest = b.target ∷ b.rest; is = b.is }), less));
    within = λ u h. absurd h;
    ordered = tt;
    opened = tt;
  }

  pub split_none : (t : List ℕ) → AreSplit t (least_target a.presentation.is_monoid) []
  split_none t = split_from t (least_target a.presentation.is_monoid) (λ u table b within. b.from)

  next_within : (t u : List ℕ) (f : ℕ) (b : IsBeyond t (least_target a.presentation.is_monoid) u) → b.target ≡ f → IsWithin (t ++ f ∷ []) u
  next_within t u f b e = record { rest = b.rest; is = b.is ∙ ap (λ z. t ++ z ∷ b.rest) e ∙ sym (append_assoc t (f ∷ []) b.rest) }

  -- the front parts behind one target more
  pub split_on : (t : List ℕ) (f : ℕ) (us more : List (List ℕ)) → AreSplit t f us → least_target a.presentation.is_monoid ≤ f → AreLonger a ((t ++ f ∷ []) ∷ []) more → AreSplit t (f + 1) (us ++ more)
  split_on t f us more s least l = record {
    kept = λ u table after b less. elim (cases_lt b.target f) [
      | inl low ↦ within_first us more u (s.kept u table after b low)
      | inr high ↦ within_second us more u (l.kept u table after (inl (next_within t u f b (omega (arith, less, high)))))
    ];
    within = λ u h. elim (within_either us more u h) [
      | inl w ↦ let k = s.within u w in (k.0, omega (arith, k.1))
      | inr w ↦ last u (l.within u w)
    ];
    ordered = ordered_both us more s.ordered (l.ordered ((λ u v h k. absurd k), tt)) (λ u v h k. across u v h (l.within v k));
    opened = open_both us more s.opened l.opened;
  }
    where
      last : (u : List ℕ) → IsWithinOne ((t ++ f ∷ []) ∷ []) u → (b : IsBeyond t (least_target a.presentation.is_monoid) u) × (b.target < f + 1)
      last u (inl w) = (record { target = f; rest = w.rest; is = w.is ∙ append_assoc t (f ∷ []) w.rest; from = least }, omega arith)
      last u (inr w) = absurd w

      across : ComeBefore us ((t ++ f ∷ []) ∷ [])
      across u v h (inl w) =
          let k = s.within u h in
          subst₂ Before (sym k.0.is) (sym (w.is ∙ append_assoc t (f ∷ []) w.rest)) (before_heads t k.0.target f k.0.rest w.rest k.1)
      across u v h (inr w) = absurd w

  pub split_more : (t : List ℕ) (f : ℕ) (us : List (List ℕ)) → AreSplit t f us → least_target a.presentation.is_monoid ≤ f → IsOpen a (t ++ f ∷ []) → AreSplit t (f + 1) (us ++ (t ++ f ∷ []) ∷ [])
  split_more t f us s least is = split_on t f us ((t ++ f ∷ []) ∷ []) s least (longer_whole (t ++ f ∷ []) is)

  -- no table after the cursor goes on behind the front part
  pub longer_past : (t : List ℕ) → NoneFrom a.presentation a.classes a.cursor t → AreLonger a (t ∷ []) []
  longer_past t none = record {
    kept = λ u table after h. elim h [ inl w ↦ absurd (none u table w after) | inr w ↦ w ];
    within = λ u h. absurd h;
    ordered = λ o. tt;
    opened = tt;
  }

  -- what is added behind other front parts
  pub adds : (t : List ℕ) (ts us longer : List (List ℕ)) → us ≡ ts ++ longer → AreLonger a (t ∷ []) longer → AddsLonger a t ts us
  adds t ts us longer e l = record { longer = longer; added = e; are = l }

  pub adds_none : (t : List ℕ) (ts : List (List ℕ)) → NoneFrom a.presentation a.classes a.cursor t → AddsLonger a t ts ts
  adds_none t ts none = adds t ts ts [] (sym (append-nil ts)) (longer_past t none)

  -- the front parts with a target below f more, behind others
  pub record HasSplit (t : List ℕ) (f : ℕ) (ts us : List (List ℕ)) : Type 0 where
    pub longer : List (List ℕ)
    pub added : us ≡ ts ++ longer
    pub split : AreSplit t f longer

  pub has_split_from : (t : List ℕ) (f : ℕ) (ts : List (List ℕ))
      → ((u : List ℕ) → IsTable a.presentation a.classes u → (b : IsBeyond t (least_target a.presentation.is_monoid) u) → IsWithin t u → f ≤ b.target) → HasSplit t f ts ts
  has_split_from t f ts least = record { longer = []; added = sym (append-nil ts); split = split_from t f least }

  pub has_split_on : (t : List ℕ) (f : ℕ) (ts us vs : List (List ℕ)) → HasSplit t f ts us → least_target a.presentation.is_monoid ≤ f → AddsLonger a (t ++ f ∷ []) us vs → HasSplit t (f + 1) ts vs
  has_split_on t f ts us vs h least more = record {
    longer = h.longer ++ more.longer;
    added = more.added ∙ ap (λ zs. zs ++ more.longer) h.added ∙ append_assoc ts h.longer more.longer;
    split = split_on t f h.longer more.longer h.split least more.are;
  }

  pub open_more : (t : List ℕ) (f : ℕ) → IsOpen a t → length t < a.presentation.letters * seen t → f ≤ seen t → least_target a.presentation.is_monoid ≤ f → f < most_nodes a.presentation.is_monoid a.classes → IsOpen a (t ++ f ∷ [])
  open_more t f is wants low least most = record { front = front_push a.presentation.letters t f is.front wants low; allowed = allowed_push a.presentation a.classes t f is.allowed least most }

  pub open_at : (ts : List (List ℕ)) (i : ℕ) (d : List ℕ) → AreOpen a ts → i < length ts → IsOpen a (get_or ts i d)
  open_at [] i d h less = absurd (omega arith)
  open_at (t ∷ ts) zero d h less = h.0
  open_at (t ∷ ts) (suc i) d h less = open_at ts i d h.1 (omega arith)

  pub split_end : (t : List ℕ) (f limit : ℕ) (us : List (List ℕ)) → AreSplit t f us → limit ≤ f → length t < a.presentation.letters * seen t
      → ((u : List ℕ) → IsTable a.presentation a.classes u → (b : IsBeyond t (least_target a.presentation.is_monoid) u) → IsWithin t u
      → b.target < most_nodes a.presentation.is_monoid a.classes → b.target ≤ seen t → b.target < limit) → AreLonger a (t ∷ []) us
  split_end t f limit us s ends wants past = record {
    kept = λ u table after h. one u table after h;
    within = λ u h. let k = s.within u h in inl (record { rest = k.0.target ∷ k.0.rest; is = k.0.is });
    ordered = λ _. s.ordered;
    opened = s.opened;
  }
    where
      one : (u : List ℕ) → IsTable a.presentation a.classes u → Before a.cursor u → IsWithinOne (t ∷ []) u → IsWithinOne us u
      one u table after (inl w) =
          let b = within_beyond a.presentation a.classes t wants u table w in
          let front : IsFront a.presentation.letters (t ++ b.target ∷ b.rest) = subst (λ (xs : List ℕ). IsFront a.presentation.letters xs) b.is table.front in
          let allowed : AreAllowed a.presentation a.classes (t ++ b.target ∷ b.rest) = subst (λ (xs : List ℕ). AreAllowed a.presentation a.classes xs) b.is table.allowed in
          let below = past u table b w (allowed_next a.presentation a.classes t b.target b.rest allowed).1 (front_next a.presentation.letters t b.target b.rest front) in
          s.kept u table after b (omega (arith, below, ends))
      one u table after (inr w) = absurd w

  pub open_none : IsOpen a []
  open_none = record { front = front_none a.presentation.letters; allowed = λ i d h. absurd (omega arith) }

  pub joined_none : AreJoined a ([] ∷ []) []
  joined_none = record {
    goes = λ m ys f enough. first_take Before before_trans before_itself (IsWanted a) (Some a.cursor) m (suc a.count) ys (omega (arith, enough))
        (first_same Before before_trans before_itself (IsWantedWithinOne a ([] ∷ [])) (IsWanted a) (Some a.cursor) m ys (λ u after h. h.0) (λ u after h. (h, inl (record { rest = u; is = refl }))) f);
    ordered = ((λ u v h k. absurd k), tt);
    opened = (open_none, tt);
  }

  pub joined_longer : (ts vs us : List (List ℕ)) → AreJoined a ts us → AreLonger a ts vs → AreJoined a vs us
  joined_longer ts vs us j l = record {
    goes = λ m ys f enough. j.goes m ys
        (first_same Before before_trans before_itself (IsWantedWithinOne a vs) (IsWantedWithinOne a ts) (Some a.cursor) m ys
        (λ u after h. (h.0, l.within u h.1)) (λ u after h. (h.0, l.kept u h.0.table after h.1)) f) enough;
    ordered = l.ordered j.ordered;
    opened = l.opened;
  }

  pub joined_part : (t : List ℕ) (ts us vs : List (List ℕ)) → AreJoined a (t ∷ ts) us → AreTablesWithin a t vs → AreJoined a ts (us ++ vs)
  joined_part t ts us vs j first = record {
    goes = goes;
    ordered = j.ordered.1;
    opened = j.opened.1;
  }
    where
      goes : (m : ℕ) (ys : List (List ℕ)) → AreFirst (IsWantedWithinOne a ts) Before (Some a.cursor) m ys → suc a.count ≤ length (us ++ vs) + m → AreTables a ((us ++ vs) ++ ys)
      goes m ys f enough =
          let k : ℕ = suc a.count - length us in
          let both = first_join Before before_trans before_itself (IsWantedWithin a t) (IsWantedWithinOne a ts) (λ u v h g. j.ordered.0 u v (inl h.1) g.1) (Some a.cursor) (suc a.count) m k vs ys
          (omega arith) (omega (arith, enough, length-append us vs)) first f in
          let joined = first_same Before before_trans before_itself (λ u. IsWantedWithin a t u ⊎ IsWantedWithinOne a ts u) (IsWantedWithinOne a (t ∷ ts)) (Some a.cursor) k (take k (vs ++ ys))
          (λ u after h. to u h) (λ u after h. back u h) both in
          subst (λ zs. AreFirst (IsWanted a) Before (Some a.cursor) (suc a.count) zs)
          (take_joined (suc a.count) k us (vs ++ ys) (omega arith) ∙ ap (take (suc a.count)) (sym (append_assoc us vs ys)))
          (j.goes k (take k (vs ++ ys)) joined (omega arith))
        where
          to : (u : List ℕ) → IsWantedWithin a t u ⊎ IsWantedWithinOne a ts u → IsWantedWithinOne a (t ∷ ts) u
          to u (inl h) = (h.0, inl h.1)
          to u (inr h) = (h.0, inr h.1)

          back : (u : List ℕ) → IsWantedWithinOne a (t ∷ ts) u → IsWantedWithin a t u ⊎ IsWantedWithinOne a ts u
          back u h = elim h.1 [ inl w ↦ inl (h.0, w) | inr w ↦ inr (h.0, w) ]

  -- the search has come to its end
  pub joined_end : (us : List (List ℕ)) → AreJoined a [] us → AreTables a us
  joined_end us j = subst (AreTables a) (append-nil us) (j.goes (suc a.count) [] (λ u h after. absurd h.1) (omega arith))

  -- there are enough tables
  pub joined_enough : (ts us : List (List ℕ)) → AreJoined a ts us → suc a.count ≤ length us → AreTables a us
  joined_enough ts us j enough = subst (AreTables a) (append-nil us) (j.goes 0 [] tt (omega (arith, enough)))

  pub joined_parts : (bs ts us : List (List ℕ)) (parts : List Sought) → AreJoined a (bs ++ ts) us → part_tasks parts ≡ map (λ t. (a, t)) bs → All (λ s. AreTablesWithin s.asked s.front s.tables) parts
      → AreJoined a ts (us ++ flat_map (λ s. s.tables) parts)
  joined_parts [] ts us [] j e all = subst (AreJoined a ts) (sym (append-nil us)) j
  joined_parts [] ts us (s ∷ parts) j e all = cc
  joined_parts (b ∷ bs) ts us [] j e all = cc
  joined_parts (b ∷ bs) ts us (s ∷ parts) j e all =
      let head : ◌≡◌ {A = Asked × List ℕ} (s.asked, s.front) (a, b) = cc in
      let tail : part_tasks parts ≡ map (λ t. (a, t)) bs = cc in
      let here : AreTablesWithin a b s.tables = subst₂ (λ (x : Asked) (t : List ℕ). AreTablesWithin x t s.tables) (ap (λ (x : Asked × List ℕ). x.0) head) (ap (λ (x : Asked × List ℕ). x.1) head) (All-head (λ (x : Sought). AreTablesWithin x.asked x.front x.tables) s parts all) in
      subst (AreJoined a ts) (append_assoc us s.tables (flat_map (λ (x : Sought). x.tables) parts))
      (joined_parts bs ts (us ++ s.tables) parts (joined_part b (bs ++ ts) us s.tables j here) tail (All-tail (λ (x : Sought). AreTablesWithin x.asked x.front x.tables) s parts all))

  -- the front parts of one target
  pub split_first : (limit : ℕ) (us : List (List ℕ)) → AreSplit [] limit us → 0 < a.presentation.letters → ((m : ℕ) → m < most_nodes a.presentation.is_monoid a.classes → m < 2 → m < limit) → AreJoined a us []
  split_first limit us s some past = joined_longer ([] ∷ []) us [] joined_none (split_end [] limit limit us s (omega arith) (omega (arith, some)) (λ u table b w most low. past b.target most (omega (arith, low))))

  open_first : (bs ts : List (List ℕ)) → AreOpen a (bs ++ ts) → AreOpen a bs
  open_first [] ts h = tt
  open_first (b ∷ bs) ts h = (h.0, open_first bs ts h.1)

  module _ (vs first rest : List (Vec ℕ Global)) (m : ℕ) (cut : first ≡ take m vs) where
    pub open_batch : AreOpen a (lists_in vs) → AreOpen a (lists_in first)
    open_batch h = subst (λ xs. AreOpen a (lists_in xs)) (sym cut)
        (open_first (lists_in (take m vs)) (lists_in (drop m vs)) (subst (AreOpen a) (ap lists_in (sym (take-append-drop m vs)) ∙ map-append (λ v. v.items) (take m vs) (drop m vs)) h))

    pub joined_batch : (us new : List (List ℕ)) (parts : List Sought) → rest ≡ drop m vs → AreJoined a (lists_in vs) us → part_tasks parts ≡ map (λ t. (a, t)) (lists_in first) → All (λ s. AreTablesWithin s.asked s.front s.tables) parts
        → new ≡ us ++ flat_map (λ s. s.tables) parts → AreJoined a (lists_in rest) new
    joined_batch us new parts end j tasks all is =
        let whole : lists_in vs ≡ lists_in first ++ lists_in rest =
        ap lists_in (sym (take-append-drop m vs)) ∙ map-append (λ v. v.items) (take m vs) (drop m vs)
        ∙ ap₂ (λ (xs ys : List (Vec ℕ Global)). lists_in xs ++ lists_in ys) (sym cut) (sym end) in
        subst (AreJoined a (lists_in rest)) (sym is) (joined_parts (lists_in first) (lists_in rest) us parts (subst (λ ts. AreJoined a ts us) whole j) tasks all)

-- after an Ok
pub on_done : {T E : Type 0} (r : Result T E) (P Q : Type 0) → OnOk r P → (P → Q) → OnOk r Q
on_done (Ok x) P Q h f = f h
on_done (Err e) P Q h f = tt
