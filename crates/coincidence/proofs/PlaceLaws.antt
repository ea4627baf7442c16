-- Reading at places of sides.
use Rattle.std.proofs.Common.{◌≡◌, ℕ, zero, suc, ◌+◌, ◌-◌, ◌<◌, List, [], ◌∷◌, refl, sym, ◌∙◌, ap, subst, arith, ◌⊎◌, inl, inr, Option, Some, None, Bool, true, false, length, get_or, slice_get, take, nat_eq, nat_lt, cond, option_and_then}
use Rattle.std.proofs.lemmas.Bool.{cases_eq}
use Rattle.std.proofs.lemmas.List.{get_or_read}
use Rattle.std.proofs.lemmas.Option.{slice_get_within, get_or_from_slice_get, slice_get-get_or}
use Rattle.std.proofs.Math.Seq.{take-append_seam}
use Rattle.std.specs.Option.{is_some}
use Rattle.theory.specs.Word.{Word}
use Rattle.theory.specs.Graph.{Graph, target, path}
use Rattle.coincidence.specs.Pending.{IsAmong}
use Rattle.coincidence.specs.Reading.{IsQuietBoth, IsDueAlong, IsDueBehind, IsDueThrough}
use Rattle.coincidence.specs.Places.{Places}
use Rattle.coincidence.specs.Uses.{side_of, other_of, kind_of, kind_of_end, told, groups_at, StandsIn, Stands, ArePlaces, AreUses, IsDueAtPlace, IsDueAtPlaces, IsDueInPowers, IsDueOfKind, IsShut, IsDueInGroup, IsDueInSides}
use Rattle.coincidence.specs.Links.{Links, IsLinked}
use Rattle.coincidence.specs.declared.groups.Group.{Group}
use Rattle.coincidence.specs.declared.groups.Kind.{Kind}
use Rattle.coincidence.specs.declared.groups.Kind.TheVariants.{Power, Front, Before, Behind}
use Rattle.theory.proofs.GraphLaws.{path_front, path_letter}
use Rattle.word_graph.proofs.WalkLaws.{some_same}
use Rattle.coincidence.specs.declared.due.Due.{Due}
use Rattle.coincidence.specs.declared.due.Due.TheVariants.{Nothing, Edge, Join}
use Rattle.coincidence.proofs.DueLaws.{pair_contained}
use Rattle.coincidence.proofs.ReadLaws.{IsListing, along_found, cut_quiet, front_last, get_at, listing_end, listing_start, through_end, through_found}

-- where one of a list stands
pub place_of : {X : Type 0} (x d : X) (xs : List X) → IsAmong x xs → (k : ℕ) × (k < length xs) × (get_or xs k d ≡ x)
place_of x d [] h = absurd h
place_of x d (y ∷ xs) (inl e) = (0, omega arith, sym e)
place_of x d (y ∷ xs) (inr h) = let r = place_of x d xs h in (suc r.0, omega (arith, r.1), r.2)

pub among_at : {X : Type 0} (xs : List X) (k : ℕ) (d : X) → k < length xs → IsAmong (get_or xs k d) xs
among_at [] k d less = absurd (omega (arith, less))
among_at (y ∷ xs) zero d less = inl refl
among_at (y ∷ xs) (suc k) d less = inr (among_at xs k d (omega (arith, less)))

-- a place of a list
pub place_within : (second : Bool) (pairs : List (Word × Word)) (places : Places) (k : ℕ) (d : Word × Word) → k < length places → ArePlaces second pairs places
    → ((get_or places k (0, 0)).0 < length pairs) × ((get_or places k (0, 0)).1 < length (side_of second (get_or pairs (get_or places k (0, 0)).0 d)))
place_within second pairs places k d less all = all (get_or places k (0, 0)).0 (get_or places k (0, 0)).1 d (among_at places k (0, 0) less)

-- the sides of a pair
pub behind_of : (second : Bool) (g : Graph) (node p : ℕ) (pair : Word × Word) (side other : Word) (due : Due) → side ≡ side_of second pair → other ≡ other_of second pair
    → IsDueBehind g node (take p side) side other due → IsDueAtPlace second g node pair p due
behind_of second g node p pair side other due s o h = subst (λ z. IsDueBehind g node (take p (side_of second pair)) (side_of second pair) z due) o (subst (λ z. IsDueBehind g node (take p z) z other due) s h)

-- something is asked for by a pair
pub pair_found : (second : Bool) (g : Graph) (pairs : List (Word × Word)) (node letter i : ℕ) (pair : Word × Word) (due : Due) → (due ≡ Nothing → ⊥) → i < length pairs → pair ≡ get_or pairs i pair
    → IsDueAlong g node letter (side_of second pair) (side_of second pair) (other_of second pair) due → IsDueThrough g pairs node letter due
pair_found false g pairs node letter i pair due not less at h = through_found g node letter pairs pair.0 pair due not (pair_contained pairs i pair less at) h
pair_found true g pairs node letter i pair due not less at h =
    let both = pair_contained pairs i pair less at in
    through_found g node letter pairs pair.1 (pair.1, pair.0) due not (both.1, both.0) h

pub places_found : (second : Bool) (g : Graph) (pairs : List (Word × Word)) (node letter i p : ℕ) (places : Places) (pair : Word × Word) (due : Due) → (due ≡ Nothing → ⊥) → i < length pairs → pair ≡ get_or pairs i pair
    → IsDueAtPlace second g node pair p due → IsDueAtPlaces second g pairs node letter places due
places_found second g pairs node letter i p places pair due not less at h = go due not (pair_found second g pairs node letter i pair due not less at (along_found g node letter (take p (side_of second pair)) (side_of second pair) (side_of second pair) (other_of second pair) due not h))
  where
    go : (due : Due) → (due ≡ Nothing → ⊥) → IsDueThrough g pairs node letter due → IsDueAtPlaces second g pairs node letter places due
    go Nothing not h = absurd (not refl)
    go (Edge j a m) not h = h
    go (Join j a t m) not h = h

pub powers_found : (second : Bool) (g : Graph) (pairs : List (Word × Word)) (node letter i : ℕ) (places : Places) (pair : Word × Word) (due : Due) → (due ≡ Nothing → ⊥) → i < length pairs → pair ≡ get_or pairs i pair
    → IsDueAlong g node letter (side_of second pair) (side_of second pair) (other_of second pair) due → IsDueInPowers second g pairs node letter places due
powers_found second g pairs node letter i places pair due not less at h = go due not (pair_found second g pairs node letter i pair due not less at h)
  where
    go : (due : Due) → (due ≡ Nothing → ⊥) → IsDueThrough g pairs node letter due → IsDueInPowers second g pairs node letter places due
    go Nothing not h = absurd (not refl)
    go (Edge j a m) not h = h
    go (Join j a t m) not h = h

-- nothing is, at the first places of a list
abbrev pub AreQuietPlaces : Bool → Graph → List (Word × Word) → ℕ → Places → ℕ → Type 0
AreQuietPlaces second g pairs node places k = (i : ℕ) (d : Word × Word) → i < k
    → IsDueAtPlace second g node (get_or pairs (get_or places i (0, 0)).0 d) (get_or places i (0, 0)).1 Nothing

pub places_more : (second : Bool) (g : Graph) (pairs : List (Word × Word)) (node : ℕ) (places : Places) (k : ℕ) (pair : Word × Word) → (get_or places k (0, 0)).0 < length pairs → pair ≡ get_or pairs (get_or places k (0, 0)).0 pair
    → IsDueAtPlace second g node pair (get_or places k (0, 0)).1 Nothing → AreQuietPlaces second g pairs node places k → AreQuietPlaces second g pairs node places (k + 1)
places_more second g pairs node places k pair within at one quiet = λ i d l. elim (cases_eq i k) [
  | inr off ↦ quiet i d (omega (arith, l, off))
  | inl same ↦
      let read : pair ≡ get_or pairs (get_or places k (0, 0)).0 d = get_or_read pairs (get_or places k (0, 0)).0 pair within at d in
      subst (λ z. IsDueAtPlace second g node (get_or pairs (get_or places z (0, 0)).0 d) (get_or places z (0, 0)).1 Nothing) (sym same)
      (subst (λ (z : Word × Word). IsDueAtPlace second g node z (get_or places k (0, 0)).1 Nothing) read one)
]

pub places_end : (second : Bool) (g : Graph) (pairs : List (Word × Word)) (node letter : ℕ) (places : Places) (k : ℕ) → k ≡ length places → AreQuietPlaces second g pairs node places k → IsDueAtPlaces second g pairs node letter places Nothing
places_end second g pairs node letter places k end quiet i p d h =
    let r = place_of (i, p) (0, 0) places h in
    subst (λ (z : ℕ × ℕ). IsDueAtPlace second g node (get_or pairs z.0 d) z.1 Nothing) r.2 (quiet r.0 d (omega (arith, r.1, end)))

-- nor by the first powers of a list
abbrev pub AreQuietPowers : Bool → Graph → List (Word × Word) → ℕ → ℕ → Places → ℕ → Type 0
AreQuietPowers second g pairs node letter places k = (i : ℕ) (d : Word × Word) → i < k
    → IsDueAlong g node letter (side_of second (get_or pairs (get_or places i (0, 0)).0 d)) (side_of second (get_or pairs (get_or places i (0, 0)).0 d)) (other_of second (get_or pairs (get_or places i (0, 0)).0 d)) Nothing

pub powers_more : (second : Bool) (g : Graph) (pairs : List (Word × Word)) (node letter : ℕ) (places : Places) (k : ℕ) (pair : Word × Word) → (get_or places k (0, 0)).0 < length pairs → pair ≡ get_or pairs (get_or places k (0, 0)).0 pair
    → IsDueAlong g node letter (side_of second pair) (side_of second pair) (other_of second pair) Nothing → AreQuietPowers second g pairs node letter places k → AreQuietPowers second g pairs node letter places (k + 1)
powers_more second g pairs node letter places k pair within at one quiet = λ i d l. elim (cases_eq i k) [
  | inr off ↦ quiet i d (omega (arith, l, off))
  | inl same ↦
      let read : pair ≡ get_or pairs (get_or places k (0, 0)).0 d = get_or_read pairs (get_or places k (0, 0)).0 pair within at d in
      subst (λ z. Quiet (get_or pairs (get_or places z (0, 0)).0 d)) (sym same) (subst Quiet read one)
]
  where
    Quiet : Word × Word → Type 0
    Quiet z = IsDueAlong g node letter (side_of second z) (side_of second z) (other_of second z) Nothing

-- the sides of a pair
pub along_of : (second : Bool) (g : Graph) (node letter : ℕ) (pair : Word × Word) (side other : Word) (due : Due) → side ≡ side_of second pair → other ≡ other_of second pair
    → IsDueAlong g node letter side side other due → IsDueAlong g node letter (side_of second pair) (side_of second pair) (other_of second pair) due
along_of second g node letter pair side other due s o h = subst (λ z. IsDueAlong g node letter (side_of second pair) (side_of second pair) z due) o (subst (λ z. IsDueAlong g node letter z z other due) s h)

pub powers_end : (second : Bool) (g : Graph) (pairs : List (Word × Word)) (node letter : ℕ) (places : Places) (k : ℕ) → k ≡ length places → AreQuietPowers second g pairs node letter places k → IsDueInPowers second g pairs node letter places Nothing
powers_end second g pairs node letter places k end quiet i p d h =
    let r = place_of (i, p) (0, 0) places h in
    subst (λ (z : ℕ × ℕ). IsDueAlong g node letter (side_of second (get_or pairs z.0 d)) (side_of second (get_or pairs z.0 d)) (other_of second (get_or pairs z.0 d)) Nothing) r.2 (quiet r.0 d (omega (arith, r.1, end)))

-- two letters lead on or not
pub stuck_first : (g : Graph) (node a b : ℕ) → target g node a ≡ None → path g node (a ∷ b ∷ []) ≡ None
stuck_first g node a b e = ap (λ z. option_and_then (λ next. path g next (b ∷ [])) z) e

pub stuck_second : (g : Graph) (node next a b : ℕ) → target g node a ≡ Some next → target g next b ≡ None → path g node (a ∷ b ∷ []) ≡ None
stuck_second g node next a b e none = ap (λ z. option_and_then (λ next. path g next (b ∷ [])) z) e ∙ ap (λ z. option_and_then (λ next. path g next []) z) none

less_of : (a b : ℕ) → nat_lt a b ≡ true → a < b
less_of a b e = grind (arith, e)

zero_of : (a : ℕ) → nat_eq a 0 ≡ true → a ≡ 0
zero_of a e = grind (arith, e)

-- of a pair for which nothing is asked either side may be the first
front_quiet : (second : Bool) (g : Graph) (node : ℕ) (pair : Word × Word) → IsQuietBoth g node pair.0 pair.1 → IsQuietBoth g node (side_of second pair) (other_of second pair)
front_quiet false g node pair quiet = quiet
front_quiet true g node pair quiet = (quiet.1, quiet.0)

pub none_of : (o : Option ℕ) → is_some o ≡ false → o ≡ None
none_of None e = refl
none_of (Some x) e = cc

-- none leads to the node, where the list of its sources is empty
pub no_source : (k : ℕ) (t : Links) (node letter : ℕ) → IsLinked k t → target t.firsts node letter ≡ None → (n : ℕ) → target t.graph n letter ≡ Some node → ⊥
no_source k t node letter is none n e = listing_end t node letter (λ _. ⊥) (subst (IsListing t node letter (λ _. ⊥)) none (listing_start k t node letter (λ _. ⊥) is)) n e

-- one of the groups of a letter
pub group_places : (second : Bool) (pairs : List (Word × Word)) (groups : List Group) (k : ℕ) (d : Group) → k < length groups
    → ((i p : ℕ) (kind : Kind) (d : Word × Word) → StandsIn groups kind (i, p) → (i < length pairs) × (p < length (side_of second (get_or pairs i d)))) → ArePlaces second pairs (get_or groups k d).places
group_places second pairs [] k d less all = absurd (omega (arith, less))
group_places second pairs (g ∷ groups) zero d less all = λ i p e h. all i p g.kind e (inl (refl, h))
group_places second pairs (g ∷ groups) (suc k) d less all = group_places second pairs groups k d (omega (arith, less)) (λ i p kind e h. all i p kind e (inr h))

module _ (second : Bool) (g : Graph) (pairs : List (Word × Word)) (node letter : ℕ) where
  -- what is asked for in a group
  pub group_due : (group : Group) (due : Due) → IsDueOfKind second g pairs node letter group.kind group.places due → IsDueInGroup second g pairs node letter group due
  group_due group Nothing h = inr h
  group_due group (Edge j a m) h = asks group.kind h
    where
      asks : (kind : Kind) → IsDueOfKind second g pairs node letter kind group.places (Edge j a m) → IsDueThrough g pairs node letter (Edge j a m)
      asks Power h = h
      asks Front h = ((node, [], refl, h.0), h.1)
      asks (Before b) h = h
      asks (Behind b) h = h
  group_due group (Join j a t m) h = asks group.kind h
    where
      asks : (kind : Kind) → IsDueOfKind second g pairs node letter kind group.places (Join j a t m) → IsDueThrough g pairs node letter (Join j a t m)
      asks Power h = h
      asks Front h = ((node, [], refl, h.0), h.1, h.2)
      asks (Before b) h = h
      asks (Behind b) h = h

  pub group_found : (group : Group) (due : Due) → (due ≡ Nothing → ⊥) → IsDueInGroup second g pairs node letter group due → IsDueInSides second g pairs node letter due
  group_found group Nothing not h = absurd (not refl)
  group_found group (Edge j a m) not h = h
  group_found group (Join j a t m) not h = h

  -- nothing is asked for at a place of the kind
  abbrev IsQuietOfKind : Kind → ℕ → ℕ → Type 0
  IsQuietOfKind Power i p = (d : Word × Word) → IsDueAlong g node letter (side_of second (get_or pairs i d)) (side_of second (get_or pairs i d)) (other_of second (get_or pairs i d)) Nothing
  IsQuietOfKind Front i p = (d : Word × Word) → IsQuietBoth g node (get_or pairs i d).0 (get_or pairs i d).1
  IsQuietOfKind (Before b) i p = (d : Word × Word) → IsDueAtPlace second g node (get_or pairs i d) p Nothing
  IsQuietOfKind (Behind b) i p = (d : Word × Word) → IsDueAtPlace second g node (get_or pairs i d) p Nothing

  kind_quiet : (kind : Kind) (places : Places) (i p : ℕ) → IsDueOfKind second g pairs node letter kind places Nothing → IsAmong (i, p) places → IsQuietOfKind kind i p
  kind_quiet Power places i p quiet h = λ d. quiet i p d h
  kind_quiet Front places i p quiet h = λ d. quiet i p d h
  kind_quiet (Before b) places i p quiet h = λ d. quiet i p d h
  kind_quiet (Behind b) places i p quiet h = λ d. quiet i p d h

  -- nothing is asked for in the first groups
  abbrev pub AreQuietGroups : List Group → ℕ → Type 0
  AreQuietGroups groups count = (k : ℕ) (d : Group) → k < count → IsDueInGroup second g pairs node letter (get_or groups k d) Nothing

  pub groups_more : (groups : List Group) (k : ℕ) (group : Group) → k < length groups → group ≡ get_or groups k group → IsDueInGroup second g pairs node letter group Nothing → AreQuietGroups groups k → AreQuietGroups groups (k + 1)
  groups_more groups k group less at one quiet i d l = elim (cases_eq i k) [
    | inr off ↦ quiet i d (omega (arith, l, off))
    | inl same ↦ subst (λ z. IsDueInGroup second g pairs node letter (get_or groups z d) Nothing) (sym same)
        (subst (λ (z : Group). IsDueInGroup second g pairs node letter z Nothing) (get_or_read groups k group less at d) one)
  ]

  stands_quiet : (groups : List Group) (kind : Kind) (i p : ℕ) → ((k : ℕ) (d : Group) → k < length groups → IsDueInGroup second g pairs node letter (get_or groups k d) Nothing) → StandsIn groups kind (i, p)
      → IsShut g node letter kind ⊎ IsQuietOfKind kind i p
  stands_quiet [] kind i p all h = absurd h
  stands_quiet (group ∷ groups) kind i p all (inl h) = elim (all 0 group (omega arith)) [
    | inl shut ↦ inl (subst (IsShut g node letter) h.0 shut)
    | inr quiet ↦ inr (subst (λ z. IsQuietOfKind z i p) h.0 (kind_quiet group.kind group.places i p quiet h.1))
  ]
  stands_quiet (group ∷ groups) kind i p all (inr h) = stands_quiet groups kind i p (λ k d less. all (suc k) d (omega (arith, less))) h

  -- nothing is asked for in sides, where it is in no group
  pub sides_quiet : (letters : List (List Group)) (k : ℕ) → AreUses second pairs letters → k ≡ length (groups_at letters letter) → AreQuietGroups (groups_at letters letter) k → IsDueInSides second g pairs node letter Nothing
  sides_quiet letters k uses end groups i d less n crosses = listed (uses.all i d less).power (uses.all i d less).all
    where
      side : Word
      side = side_of second (get_or pairs i d)

      other : Word
      other = other_of second (get_or pairs i d)

      p : ℕ
      p = length crosses.front

      at : slice_get side p ≡ Some letter
      at = ap (λ z. slice_get z p) crosses.word ∙ get_at crosses.front letter crosses.back

      within : p < length side
      within = slice_get_within side p letter at

      is : get_or side p 0 ≡ letter
      is = get_or_from_slice_get side p letter 0 at

      leads : path g n (take p side) ≡ Some node
      leads = ap (path g n) (ap (take p) crosses.word ∙ take-append_seam crosses.front (letter ∷ crosses.back)) ∙ crosses.leads

      Quiet : Type 0
      Quiet = IsQuietBoth g n side other

      here : (kind : Kind) (q : ℕ) → Stands letters (get_or side p 0) kind (i, q) → IsShut g node letter kind ⊎ IsQuietOfKind kind i q
      here kind q h = stands_quiet (groups_at letters letter) kind i q (λ m e l. groups m e (omega (arith, l, end))) (subst (λ z. Stands letters z kind (i, q)) is h)

      -- the side begins with the letter, so it is read from the node
      first : p ≡ 0 → Stands letters (get_or side p 0) Front (i, p) → Quiet
      first none h = elim (here Front p h) [
        | inl shut ↦ absurd shut
        | inr quiet ↦ (let at_node : n ≡ node = some_same n node (sym (ap (λ k. path g n (take k side)) none) ∙ leads) in
            subst (λ z. IsQuietBoth g z side other) (sym at_node) (front_quiet second g node (get_or pairs i d) (quiet d)))
      ]

      -- the letter before leads to the node
      led : (p ≡ 0 → ⊥) → ((m : ℕ) → target g m (get_or side (p - 1) 0) ≡ Some node → ⊥) → Quiet
      led some none =
          let less : p - 1 < length side = omega (arith, within) in
          let last = front_last side p (get_or side (p - 1) 0) some (omega (arith, within)) (slice_get-get_or side (p - 1) 0 less) in
          let parts = path_front g n node (take (p - 1) side) (get_or side (p - 1) 0 ∷ []) (ap (path g n) (sym last) ∙ leads) in
          absurd (none parts.0 (sym (path_letter g parts.0 (get_or side (p - 1) 0)) ∙ parts.2))

      later : (p ≡ 0 → ⊥) → Stands letters (get_or side p 0) (Behind (get_or side (p - 1) 0)) (i, p) → Quiet
      later some h = elim (here (Behind (get_or side (p - 1) 0)) p h) [ inl shut ↦ led some shut | inr quiet ↦ quiet d n leads ]

      by_place : (b : Bool) → nat_eq p 0 ≡ b → Stands letters (get_or side p 0) (cond b Front (Behind (get_or side (p - 1) 0))) (i, p) → Quiet
      by_place true e h = first (zero_of p e) h
      by_place false e h = later (λ z. let no : true ≡ false = ap (λ k. nat_eq k 0) (sym z) ∙ e in cc) h

      long : p + 2 < length side → Stands letters (get_or side p 0) (Before (get_or side (p + 1) 0)) (i, p) → Quiet
      long more h = elim (here (Before (get_or side (p + 1) 0)) p h) [
        | inl stops ↦ cut_quiet g node n side other p (record {
          letter = letter;
          next = get_or side (p + 1) 0;
          here = at;
          behind = slice_get-get_or side (p + 1) 0 (omega (arith, more));
          more = more;
          stops = stops;
        }) leads
        | inr quiet ↦ quiet d n leads
      ]

      by_length : (b : Bool) → nat_lt (p + 2) (length side) ≡ b → Stands letters (get_or side p 0) (cond b (Before (get_or side (p + 1) 0)) (kind_of_end side p)) (i, p) → Quiet
      by_length true e h = long (less_of (p + 2) (length side) e) h
      by_length false e h = by_place (nat_eq p 0) refl h

      power : Stands letters (get_or side p 0) Power (i, 0) → Quiet
      power h = elim (here Power 0 h) [ inl shut ↦ absurd shut | inr quiet ↦ quiet d n crosses ]

      listed : (power : Bool) → ((q : ℕ) → q < length side → Stands letters (get_or side q 0) (kind_of power side q) (i, told power q)) → Quiet
      listed true all = power (all p within)
      listed false all = by_length (nat_lt (p + 2) (length side)) refl (all p within)

-- nothing is asked for in first sides, and what is asked for in second ones
pub both_sides : (g : Graph) (pairs : List (Word × Word)) (node letter : ℕ) (due : Due) → IsDueInSides false g pairs node letter Nothing → IsDueInSides true g pairs node letter due → IsDueThrough g pairs node letter due
both_sides g pairs node letter Nothing firsts seconds = through_end g node letter pairs (λ k d less. (firsts k d less, seconds k d less))
both_sides g pairs node letter (Edge j a m) firsts seconds = seconds
both_sides g pairs node letter (Join j a t m) firsts seconds = seconds

pub first_sides : (g : Graph) (pairs : List (Word × Word)) (node letter : ℕ) (due : Due) → (due ≡ Nothing → ⊥) → IsDueInSides false g pairs node letter due → IsDueThrough g pairs node letter due
first_sides g pairs node letter Nothing not firsts = absurd (not refl)
first_sides g pairs node letter (Edge j a m) not firsts = firsts
first_sides g pairs node letter (Join j a t m) not firsts = firsts
