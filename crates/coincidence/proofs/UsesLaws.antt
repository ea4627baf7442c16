-- Lists of places of sides.
use Rattle.std.proofs.Common.{◌≡◌, ℕ, zero, suc, ◌+◌, ◌<◌, List, [], ◌∷◌, ◌++◌, refl, sym, ◌∙◌, ap, subst, arith, ◌⊎◌, inl, inr, Some, Bool, true, false, length, map, set, get_or, slice_get}
use Rattle.std.proofs.lemmas.Bool.{cases_eq}
use Rattle.std.proofs.lemmas.List.{get_or_append_left, get_or_push, get_or_read, length_push}
use Rattle.std.proofs.lemmas.Option.{get_or_from_slice_get}
use Rattle.theory.specs.Word.{Word}
use Rattle.coincidence.specs.Pending.{IsAmong}
use Rattle.coincidence.specs.Places.{Places, IsWith}
use Rattle.coincidence.specs.Uses.{ArePeriods, side_of, list_at, kind_of, told, groups_at, StandsIn, Stands, IsListed, AreUses, IsNoted, IsPut, IsPutAt, AreNoted, IsSideNoted}
use Rattle.coincidence.specs.declared.groups.Group.{Group}
use Rattle.coincidence.specs.declared.groups.Kind.{Kind}
use Rattle.coincidence.specs.Rings.{IsPeriod}
use Rattle.coincidence.proofs.PendingLaws.{among_push, among_before, among_last}

-- what is read in a list
pub among_read : {X : Type 0} (list : List X) (i : ℕ) (x : X) → i < length list → get_or list i x ≡ x → IsAmong x list
among_read [] i x less e = absurd (omega (arith, less))
among_read (y ∷ list) zero x less e = inl (sym e)
among_read (y ∷ list) (suc i) x less e = inr (among_read list i x (omega (arith, less)) e)

pub entry_same : (x y : ℕ × ℕ) → x.0 ≡ y.0 → x.1 ≡ y.1 → x ≡ y
entry_same (a, b) (c, d) e f = ap (λ z. (z, b)) e ∙ ap (λ z. (c, z)) f

-- an empty list more
pub room_step : {X : Type 0} (f : X → Places) (xs : List X) (v : X) → f v ≡ [] → (b : ℕ) → list_at (map f (xs ++ v ∷ [])) b ≡ list_at (map f xs) b
room_step f [] v e zero = e
room_step f [] v e (suc b) = refl
room_step f (x ∷ xs) v e zero = refl
room_step f (x ∷ xs) v e (suc b) = room_step f xs v e b

-- a list in a vector of lists
pub list_is : {X : Type 0} (f : X → Places) (xs : List X) (p : ℕ) (d : X) → p < length xs → list_at (map f xs) p ≡ f (get_or xs p d)
list_is f [] p d less = absurd (omega (arith, less))
list_is f (x ∷ xs) zero d less = refl
list_is f (x ∷ xs) (suc p) d less = list_is f xs p d (omega (arith, less))

list_there : {X : Type 0} (f : X → Places) (xs : List X) (p : ℕ) (new : X) → p < length xs → list_at (map f (set xs p new)) p ≡ f new
list_there f [] p new less = absurd (omega (arith, less))
list_there f (x ∷ xs) zero new less = refl
list_there f (x ∷ xs) (suc p) new less = list_there f xs p new (omega (arith, less))

list_other : {X : Type 0} (f : X → Places) (xs : List X) (p b : ℕ) (new : X) → (b ≡ p → ⊥) → list_at (map f (set xs p new)) b ≡ list_at (map f xs) b
list_other f [] p b new off = refl
list_other f (x ∷ xs) zero zero new off = absurd (off refl)
list_other f (x ∷ xs) zero (suc b) new off = refl
list_other f (x ∷ xs) (suc p) zero new off = refl
list_other f (x ∷ xs) (suc p) (suc b) new off = list_other f xs p b new (λ e. off (ap (λ z. suc z) e))

-- an entry that is put at the end of a list
pub put_noted : {X : Type 0} (f : X → Places) (xs : List X) (p : ℕ) (n : ℕ × ℕ) (old new : X) → p < length xs → old ≡ get_or xs p old → f new ≡ f old ++ n ∷ [] → IsNoted (map f xs) (map f (set xs p new)) p n
put_noted f xs p n old new less is e = record {
  here = subst (λ z. IsAmong n z) (sym there) (among_last n (list_at (map f xs) p));
  still = λ b j h. elim (cases_eq b p) [
    | inl same ↦ subst (λ z. IsAmong j (list_at (map f (set xs p new)) z)) (sym same)
        (subst (λ z. IsAmong j z) (sym there) (among_before j n (list_at (map f xs) p) (subst (λ z. IsAmong j (list_at (map f xs) z)) same h)))
    | inr off ↦ subst (λ z. IsAmong j z) (sym (list_other f xs p b new off)) h
  ];
  from = λ b j h. elim (cases_eq b p) [
    | inl same ↦ elim (among_push j n (list_at (map f xs) p) (subst (λ z. IsAmong j z) there (subst (λ z. IsAmong j (list_at (map f (set xs p new)) z)) same h))) [
      | inl k ↦ inl (subst (λ z. IsAmong j (list_at (map f xs) z)) (sym same) k)
      | inr k ↦ inr k
    ]
    | inr off ↦ inl (subst (λ z. IsAmong j z) (list_other f xs p b new off) h)
  ];
}
  where
    there : list_at (map f (set xs p new)) p ≡ list_at (map f xs) p ++ n ∷ []
    there = list_there f xs p new less ∙ e ∙ ap (λ z. z ++ n ∷ []) (ap f is ∙ sym (list_is f xs p old less))

-- an entry that is there
pub there_noted : {X : Type 0} (f : X → Places) (xs : List X) (p : ℕ) (n : ℕ × ℕ) (old : X) → p < length xs → old ≡ get_or xs p old → IsAmong n (f old) → IsNoted (map f xs) (map f xs) p n
there_noted f xs p n old less is h = record {
  here = subst (λ z. IsAmong n z) (ap f is ∙ sym (list_is f xs p old less)) h;
  still = λ b j k. k;
  from = λ b j k. inl k;
}

-- lists to which only empty ones came
pub room_noted : (old mid new : List Places) (a : ℕ) (n : ℕ × ℕ) → ((b : ℕ) → list_at mid b ≡ list_at old b) → IsNoted mid new a n → IsNoted old new a n
room_noted old mid new a n same k = record {
  here = k.here;
  still = λ b j h. k.still b j (subst (λ z. IsAmong j z) (sym (same b)) h);
  from = λ b j h. elim (k.from b j h) [ inl there ↦ inl (subst (λ z. IsAmong j z) (same b) there) | inr e ↦ inr e ];
}

-- one place more in a group
pub pushed_with : (old : Places) (e : ℕ × ℕ) (new : Places) → new ≡ old ++ e ∷ [] → IsWith old new e
pushed_with old e new is = (subst (IsAmong e) (sym is) (among_last e old), λ f h. subst (IsAmong f) (sym is) (among_before f e old h), λ f h. among_push f e old (subst (IsAmong f) is h))

-- a place more among groups
pub group_put : (groups : List Group) (k : ℕ) (old new : Group) (kind : Kind) (e : ℕ × ℕ) → k < length groups → old ≡ get_or groups k old → old.kind ≡ kind → new.kind ≡ old.kind
    → IsWith old.places new.places e → IsPut groups (set groups k new) kind e
group_put [] k old new kind e less at is same more = absurd (omega (arith, less))
group_put (g ∷ groups) zero old new kind e less at is same more = record {
  here = inl (same ∙ is, more.0);
  still = λ q f h. elim h [
    | inl in_g ↦ inl (same ∙ ap (λ (z : Group). z.kind) at ∙ in_g.0, more.1 f (subst (λ (z : Group). IsAmong f z.places) (sym at) in_g.1))
    | inr later ↦ inr later
  ];
  from = λ q f h. elim h [
    | inl in_new ↦ elim (more.2 f in_new.1) [
      | inl was ↦ inl (inl (sym (ap (λ (z : Group). z.kind) at) ∙ sym same ∙ in_new.0, subst (λ (z : Group). IsAmong f z.places) at was))
      | inr is_e ↦ inr is_e
    ]
    | inr later ↦ inl (inr later)
  ];
}
group_put (g ∷ groups) (suc k) old new kind e less at is same more = later (group_put groups k old new kind e (omega (arith, less)) at is same more)
  where
    later : IsPut groups (set groups k new) kind e → IsPut (g ∷ groups) (g ∷ set groups k new) kind e
    later r = record {
      here = inr r.here;
      still = λ q f h. elim h [ inl in_g ↦ inl in_g | inr more ↦ inr (r.still q f more) ];
      from = λ q f h. elim h [
        | inl in_g ↦ inl (inl in_g)
        | inr more ↦ elim (r.from q f more) [ inl was ↦ inl (inr was) | inr is_e ↦ inr is_e ]
      ];
    }

pub group_more : (groups : List Group) (new : Group) (kind : Kind) (e : ℕ × ℕ) → new.kind ≡ kind → IsWith [] new.places e → IsPut groups (groups ++ new ∷ []) kind e
group_more [] new kind e is alone = record {
  here = inl (is, alone.0);
  still = λ q f h. absurd h;
  from = λ q f h. elim h [
    | inl in_new ↦ elim (alone.2 f in_new.1) [ inl none ↦ absurd none | inr same ↦ inr same ]
    | inr none ↦ absurd none
  ];
}
group_more (g ∷ groups) new kind e is alone = later (group_more groups new kind e is alone)
  where
    later : IsPut groups (groups ++ new ∷ []) kind e → IsPut (g ∷ groups) (g ∷ (groups ++ new ∷ [])) kind e
    later r = record {
      here = inr r.here;
      still = λ q f h. elim h [ inl in_g ↦ inl in_g | inr more ↦ inr (r.still q f more) ];
      from = λ q f h. elim h [
        | inl in_g ↦ inl (inl in_g)
        | inr more ↦ elim (r.from q f more) [ inl was ↦ inl (inr was) | inr is_e ↦ inr is_e ]
      ];
    }

-- so at one letter
groups_same : {X : Type 0} (f : X → List Group) (xs : List X) (x y : ℕ) (new : X) → (y ≡ x → ⊥) → groups_at (map f (set xs x new)) y ≡ groups_at (map f xs) y
groups_same f [] x y new off = refl
groups_same f (g ∷ xs) zero zero new off = absurd (off refl)
groups_same f (g ∷ xs) zero (suc y) new off = refl
groups_same f (g ∷ xs) (suc x) zero new off = refl
groups_same f (g ∷ xs) (suc x) (suc y) new off = groups_same f xs x y new (λ e. off (ap (λ z. suc z) e))

groups_there : {X : Type 0} (f : X → List Group) (xs : List X) (x : ℕ) (new : X) → x < length xs → groups_at (map f (set xs x new)) x ≡ f new
groups_there f [] x new less = absurd (omega (arith, less))
groups_there f (g ∷ xs) zero new less = refl
groups_there f (g ∷ xs) (suc x) new less = groups_there f xs x new (omega (arith, less))

groups_is : {X : Type 0} (f : X → List Group) (xs : List X) (x : ℕ) (d : X) → x < length xs → groups_at (map f xs) x ≡ f (get_or xs x d)
groups_is f [] x d less = absurd (omega (arith, less))
groups_is f (g ∷ xs) zero d less = refl
groups_is f (g ∷ xs) (suc x) d less = groups_is f xs x d (omega (arith, less))

pub put_letter : {X : Type 0} (f : X → List Group) (xs : List X) (x : ℕ) (old new : X) (kind : Kind) (e : ℕ × ℕ) → x < length xs → old ≡ get_or xs x old → IsPut (f old) (f new) kind e
    → IsPutAt (map f xs) (map f (set xs x new)) x kind e
put_letter f xs x old new kind e less is r = record {
  here = subst (λ z. StandsIn z kind e) (sym there) r.here;
  still = λ y q g h. elim (cases_eq y x) [
    | inl same ↦ subst (λ z. StandsIn (groups_at (map f (set xs x new)) z) q g) (sym same) (subst (λ z. StandsIn z q g) (sym there) (r.still q g (subst (λ z. StandsIn z q g) was (subst (λ z. StandsIn (groups_at (map f xs) z) q g) same h))))
    | inr off ↦ subst (λ z. StandsIn z q g) (sym (groups_same f xs x y new off)) h
  ];
  from = λ y q g h. elim (cases_eq y x) [
    | inl same ↦ elim (r.from q g (subst (λ z. StandsIn z q g) there (subst (λ z. StandsIn (groups_at (map f (set xs x new)) z) q g) same h))) [
      | inl k ↦ inl (subst (λ z. StandsIn (groups_at (map f xs) z) q g) (sym same) (subst (λ z. StandsIn z q g) (sym was) k))
      | inr k ↦ inr k
    ]
    | inr off ↦ inl (subst (λ z. StandsIn z q g) (groups_same f xs x y new off) h)
  ];
}
  where
    there : groups_at (map f (set xs x new)) x ≡ f new
    there = groups_there f xs x new less

    was : groups_at (map f xs) x ≡ f old
    was = groups_is f xs x old less ∙ ap f (sym is)

-- a letter more without groups
pub letter_step : {X : Type 0} (f : X → List Group) (xs : List X) (v : X) → f v ≡ [] → (b : ℕ) → groups_at (map f (xs ++ v ∷ [])) b ≡ groups_at (map f xs) b
letter_step f [] v e zero = e
letter_step f [] v e (suc b) = refl
letter_step f (x ∷ xs) v e zero = refl
letter_step f (x ∷ xs) v e (suc b) = letter_step f xs v e b

pub room_put : (old mid new : List (List Group)) (x : ℕ) (kind : Kind) (e : ℕ × ℕ) → ((b : ℕ) → groups_at mid b ≡ groups_at old b) → IsPutAt mid new x kind e → IsPutAt old new x kind e
room_put old mid new x kind e same k = record {
  here = k.here;
  still = λ y q f h. k.still y q f (subst (λ z. StandsIn z q f) (sym (same y)) h);
  from = λ y q f h. elim (k.from y q f h) [ inl there ↦ inl (subst (λ z. StandsIn z q f) (same y) there) | inr is ↦ inr is ];
}

-- the first places of a side
pub record AreNotedTo (power : Bool) (old new : List (List Group)) (u : Word) (i count : ℕ) : Type 0 where
  pub all : (p : ℕ) → p < count → Stands new (get_or u p 0) (kind_of power u p) (i, told power p)
  pub still : (y : ℕ) (k : Kind) (e : ℕ × ℕ) → Stands old y k e → Stands new y k e
  pub from : (y : ℕ) (k : Kind) (e : ℕ × ℕ) → Stands new y k e → Stands old y k e ⊎ ((e.0 ≡ i) × (e.1 < length u))

told_within : (power : Bool) (p n : ℕ) → p < n → told power p < n
told_within true p n less = omega (arith, less)
told_within false p n less = omega (arith, less)

pub noted_step : (power : Bool) (old mid new : List (List Group)) (u : Word) (i count x p : ℕ) (kind : Kind) → count < length u → slice_get u count ≡ Some x → kind ≡ kind_of power u count → p ≡ told power count
    → IsPutAt mid new x kind (i, p) → AreNotedTo power old mid u i count → AreNotedTo power old new u i (count + 1)
noted_step power old mid new u i count x p kind less letter is place one k = record {
  all = λ q l. elim (cases_eq q count) [
    | inr off ↦ one.still (get_or u q 0) (kind_of power u q) (i, told power q) (k.all q (omega (arith, l, off)))
    | inl same ↦ subst (λ z. Stands new (get_or u z 0) (kind_of power u z) (i, told power z)) (sym same)
        (subst (λ z. Stands new z (kind_of power u count) (i, told power count)) (sym (get_or_from_slice_get u count x 0 letter))
        (subst (λ z. Stands new x (kind_of power u count) (i, z)) place (subst (λ z. Stands new x z (i, p)) is one.here)))
  ];
  still = λ y q e h. one.still y q e (k.still y q e h);
  from = λ y q e h. elim (one.from y q e h) [
    | inl there ↦ k.from y q e there
    | inr same ↦ inr (ap (λ (z : ℕ × ℕ). z.0) same, subst (λ z. z < length u) (sym (ap (λ (z : ℕ × ℕ). z.1) same ∙ place)) (told_within power count (length u) less))
  ];
}

pub noted_end : (power : Bool) (old new : List (List Group)) (u : Word) (i count : ℕ) → count ≡ length u → AreNotedTo power old new u i count → AreNoted power old new u i
noted_end power old new u i count end k = record {
  all = λ p less. k.all p (omega (arith, end, less));
  still = k.still;
  from = k.from;
}

-- the first pairs
pub record AreUsesTo (second : Bool) (pairs : List (Word × Word)) (letters : List (List Group)) (count : ℕ) : Type 0 where
  pub within : (x i p : ℕ) (kind : Kind) (d : Word × Word) → Stands letters x kind (i, p) → (i < count) × (p < length (side_of second (get_or pairs i d)))
  pub all : (i : ℕ) (d : Word × Word) → i < count → IsListed letters (side_of second (get_or pairs i d)) i

pub uses_step : (second : Bool) (pairs : List (Word × Word)) (old new : List (List Group)) (count : ℕ) (pair : Word × Word) → count < length pairs → pair ≡ get_or pairs count pair
    → IsSideNoted old new (side_of second pair) count → AreUsesTo second pairs old count → AreUsesTo second pairs new (count + 1)
uses_step second pairs old new count pair less at noted k = record {
  within = λ x i p kind d h. elim (noted.1.from x kind (i, p) h) [
    | inl there ↦ (let b = k.within x i p kind d there in (omega (arith, b.0), b.1))
    | inr e ↦ (omega (arith, e.0), subst (λ z. p < length (side_of second z)) (read d ∙ ap (λ z. get_or pairs z d) (sym e.0)) e.1)
  ];
  all = λ i d l. elim (cases_eq i count) [
    | inr off ↦ (let was = k.all i d (omega (arith, l, off)) in record { power = was.power; all = λ p q. noted.1.still (get_or (side_of second (get_or pairs i d)) p 0) (kind_of was.power (side_of second (get_or pairs i d)) p) (i, told was.power p) (was.all p q) })
    | inl same ↦ subst (λ z. IsListed new (side_of second (get_or pairs z d)) z) (sym same)
        (subst (λ (z : Word × Word). IsListed new (side_of second z) count) (read d) (record { power = noted.0; all = noted.1.all }))
  ];
}
  where
    read : (d : Word × Word) → pair ≡ get_or pairs count d
    read d = get_or_read pairs count pair less at d

pub uses_end : (second : Bool) (pairs : List (Word × Word)) (letters : List (List Group)) (count : ℕ) → count ≡ length pairs → AreUsesTo second pairs letters count → AreUses second pairs letters
uses_end second pairs letters count end k = record {
  within = λ x i p kind d h. (let b = k.within x i p kind d h in (omega (arith, b.0, end), b.1));
  all = λ i d less. k.all i d (omega (arith, less, end));
}

-- the periods of the first pairs
pub record ArePeriodsTo (second : Bool) (pairs : List (Word × Word)) (periods : List ℕ) (count : ℕ) : Type 0 where
  pub shape : length periods ≡ count
  pub all : (i : ℕ) (d : Word × Word) → i < count → IsPeriod (get_or periods i 0) (side_of second (get_or pairs i d))

pub periods_step : (second : Bool) (pairs : List (Word × Word)) (old new : List ℕ) (count : ℕ) (pair : Word × Word) (u : Word) (period : ℕ) → count < length pairs → pair ≡ get_or pairs count pair → u ≡ side_of second pair
    → IsPeriod period u → new ≡ old ++ period ∷ [] → ArePeriodsTo second pairs old count → ArePeriodsTo second pairs new (count + 1)
periods_step second pairs old new count pair u period less at side is more k = subst (λ z. ArePeriodsTo second pairs z (count + 1)) (sym more) (record {
  shape = omega (arith, length_push old period, k.shape);
  all = λ i d l. elim (cases_eq i count) [
    | inr off ↦ (let before : i < count = omega (arith, l, off) in
        subst (λ z. IsPeriod z (side_of second (get_or pairs i d))) (sym (get_or_append_left old (period ∷ []) 0 i (omega (arith, before, k.shape)))) (k.all i d before))
    | inl same ↦ subst (λ z. IsPeriod (get_or (old ++ period ∷ []) z 0) (side_of second (get_or pairs z d))) (sym same)
        (subst (λ z. IsPeriod z (side_of second (get_or pairs count d))) (sym (get_or_push old period 0 count k.shape))
        (subst (IsPeriod period) (side ∙ ap (side_of second) (get_or_read pairs count pair less at d)) is))
  ];
})

pub periods_end : (second : Bool) (pairs : List (Word × Word)) (periods : List ℕ) (count : ℕ) → count ≡ length pairs → ArePeriodsTo second pairs periods count → ArePeriods second pairs periods
periods_end second pairs periods count end k = record {
  count = k.shape ∙ end;
  all = λ i d less. k.all i d (omega (arith, less, end));
}

-- the period of a side of a pair
pub period_read : (second : Bool) (pairs : List (Word × Word)) (periods : List ℕ) (i count : ℕ) (pair : Word × Word) (u : Word) → i < length pairs → pair ≡ get_or pairs i pair → u ≡ side_of second pair → count ≡ get_or periods i 0
    → ArePeriods second pairs periods → IsPeriod count u
period_read second pairs periods i count pair u less at side is k =
    subst (λ z. IsPeriod z u) (sym is) (subst (IsPeriod (get_or periods i 0)) (sym (side ∙ ap (side_of second) at)) (k.all i pair less))
