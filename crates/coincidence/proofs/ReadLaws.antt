-- Reading across an edge, back along lists of sources.
use Rattle.std.proofs.Common.{◌≡◌, ◌≢◌, ℕ, ◌+◌, ◌-◌, ◌<◌, ◌≤◌, List, [], ◌∷◌, ◌++◌, refl, sym, ◌∙◌, ap, arith, ◌⊎◌, inl, inr, Option, Some, None, zero, suc, length, subst, get_or, slice_get, take, drop, option_and_then}
use Rattle.std.proofs.lemmas.Bool.{cases_lt}
use Rattle.std.proofs.lemmas.List.{append_assoc, length-append, take-append-drop, take_more}
use Rattle.std.proofs.lemmas.Option.{slice_get_within, get_or_from_slice_get}
use Rattle.std.proofs.Math.Seq.{take-append_seam}
use Rattle.theory.specs.Word.{Word}
use Rattle.theory.specs.Congruence.{EitherWay}
use Rattle.theory.specs.Graph.{Graph, target, path}
use Rattle.theory.proofs.GraphLaws.{path_append, path_front, path_letter}
use Rattle.theory.proofs.FactsLaws.{prefix_last}
use Rattle.word_graph.proofs.WalkLaws.{some_same}
use Rattle.coincidence.specs.Closing.{IsRead}
use Rattle.coincidence.specs.DueSpec.{IsDueFrom, IsDueAt}
use Rattle.coincidence.specs.Pending.{IsAmong, Crosses}
use Rattle.coincidence.specs.Links.{Links, IsChain, IsLinked, chain_count}
use Rattle.coincidence.specs.Reading.{IsCut, IsQuietBoth, IsAsked, IsDueBoth, IsDueBehind, IsDueAlong, IsDueThrough}
use Rattle.coincidence.specs.declared.due.Due.{Due}
use Rattle.coincidence.specs.declared.due.Due.TheVariants.{Nothing, Edge, Join}
use Rattle.coincidence.proofs.DueLaws.{split_last}
use Rattle.coincidence.proofs.FollowsLaws.{path_more}
use Rattle.coincidence.proofs.LinkLaws.{chain_counted, sources_few}

-- where a side leads
pub side_leads : (g : Graph) (node at a n : ℕ) (side : Word) → length side ≡ n → (n ≡ 0 → ⊥) → slice_get side (n - 1) ≡ Some a → path g node (take (length side - 1) side) ≡ Some at → path g node side ≡ target g at a
side_leads g node at a n side len some e here =
    ap (path g node) (split_last side n a len some e) ∙ path_more g node at (take (n - 1) side) a (subst (λ z. path g node (take (z - 1) side) ≡ Some at) len here)

pub empty_leads : (g : Graph) (node at : ℕ) (side : Word) → length side ≡ 0 → path g node (take (length side - 1) side) ≡ Some at → path g node side ≡ Some at
empty_leads g node at [] e here = here
empty_leads g node at (a ∷ side) e here = absurd (omega (arith, e))

-- a word of which a prefix has no path has none
no_path : (g : Graph) (n : ℕ) (front back : Word) → path g n front ≡ None → path g n (front ++ back) ≡ None
no_path g n [] back none = cc
no_path g n (a ∷ front) back none = go (target g n a) refl (λ t h. no_path g t front back h) none
  where
    go : (o : Option ℕ) → target g n a ≡ o → ((t : ℕ) → path g t front ≡ None → path g t (front ++ back) ≡ None) → option_and_then (λ next. path g next front) o ≡ None → option_and_then (λ next. path g next (front ++ back)) (target g n a) ≡ None
    go None e further h = ap (λ z. option_and_then (λ next. path g next (front ++ back)) z) e
    go (Some t) e further h = ap (λ z. option_and_then (λ next. path g next (front ++ back)) z) e ∙ further t h

-- a side that stops before its last letter asks for nothing
pub stopped_quiet : (g : Graph) (node : ℕ) (side other : Word) → path g node (take (length side - 1) side) ≡ None → IsDueFrom g node side other Nothing × IsDueFrom g node other side Nothing
stopped_quiet g node side other none = (λ j a m k. absurd (whole m k.2), λ j a m k. absurd (front k.0 a j k.1 k.3))
  where
    whole : (m : ℕ) → path g node side ≡ Some m → ⊥
    whole m e =
        let no : None ≡ Some m = sym (no_path g node (take (length side - 1) side) (drop (length side - 1) side) none) ∙ ap (path g node) (take-append-drop (length side - 1) side) ∙ e in cc

    front : (w : Word) (a j : ℕ) → side ≡ w ++ a ∷ [] → path g node w ≡ Some j → ⊥
    front w a j e h =
        let long : length side - 1 ≡ length w = omega (arith, ap length e, length-append w (a ∷ [])) in
        let is : take (length side - 1) side ≡ w = ap (λ z. take z side) long ∙ ap (take (length w)) e ∙ take-append_seam w (a ∷ []) in
        let no : None ≡ Some j = sym none ∙ ap (path g node) is ∙ h in cc

-- sides that lead to one node ask for nothing
pub met_quiet : (g : Graph) (node n : ℕ) (r s : Word) → path g node r ≡ Some n → path g node s ≡ Some n → IsDueFrom g node r s Nothing × IsDueFrom g node s r Nothing
met_quiet g node n r s one two = (quiet r s one two, quiet s r two one)
  where
    quiet : (r s : Word) → path g node r ≡ Some n → path g node s ≡ Some n → IsDueFrom g node r s Nothing
    quiet r s one two j a m k = sym (path_more g node j k.0 a k.3) ∙ ap (path g node) (sym k.1) ∙ two ∙ sym one ∙ k.2

-- a walk along the list of a node's sources: those that are still to come, and those for which P holds
pub record IsListing (t : Links) (node letter : ℕ) (P : ℕ → Type 0) (at : Option ℕ) : Type 0 where
  pub rest : List ℕ
  pub chain : IsChain (λ n. target t.nexts n letter) at rest
  pub few : length rest ≤ length t.graph
  pub leads : (n : ℕ) → IsAmong n rest → target t.graph n letter ≡ Some node
  pub ahead : (n : ℕ) → target t.graph n letter ≡ Some node → IsAmong n rest ⊎ P n

pub listing_start : (k : ℕ) (t : Links) (node letter : ℕ) (P : ℕ → Type 0) → IsLinked k t → IsListing t node letter P (target t.firsts node letter)
listing_start k t node letter P is =
    let l = is.lists node letter in
    record { rest = l.0; chain = l.1.chain; few = sources_few k t node letter l.0 is l.1; leads = l.1.only; ahead = λ n e. inl (l.1.all n e) }

-- the source that comes
pub listing_leads : (t : Links) (node letter : ℕ) (P : ℕ → Type 0) (source : ℕ) → IsListing t node letter P (Some source) → target t.graph source letter ≡ Some node
listing_leads t node letter P source l = go l.rest l.chain l.leads
  where
    go : (rest : List ℕ) → IsChain (λ n. target t.nexts n letter) (Some source) rest → ((n : ℕ) → IsAmong n rest → target t.graph n letter ≡ Some node) → target t.graph source letter ≡ Some node
    go [] chain leads = let no : None ≡ Some source = sym chain in cc
    go (n ∷ rest) chain leads = leads source (inl (some_same source n chain.0))

pub listing_step : (t : Links) (node letter : ℕ) (P : ℕ → Type 0) (source : ℕ) → P source → IsListing t node letter P (Some source)
    → IsListing t node letter P (target t.nexts source letter) × (chain_count (length t.graph) (λ n. target t.nexts n letter) (target t.nexts source letter) < chain_count (length t.graph) (λ n. target t.nexts n letter) (Some source))
listing_step t node letter P source p l = go l.rest l.chain l.few l.leads l.ahead
  where
    Step : Type 0
    Step = IsListing t node letter P (target t.nexts source letter) × (chain_count (length t.graph) (λ n. target t.nexts n letter) (target t.nexts source letter) < chain_count (length t.graph) (λ n. target t.nexts n letter) (Some source))

    go : (rest : List ℕ) → IsChain (λ n. target t.nexts n letter) (Some source) rest → length rest ≤ length t.graph
        → ((n : ℕ) → IsAmong n rest → target t.graph n letter ≡ Some node) → ((n : ℕ) → target t.graph n letter ≡ Some node → IsAmong n rest ⊎ P n) → Step
    go [] chain few leads ahead = let no : None ≡ Some source = sym chain in cc
    go (n ∷ rest) chain few leads ahead =
        let one : source ≡ n = some_same source n chain.0 in
        let next : IsChain (λ n. target t.nexts n letter) (target t.nexts source letter) rest = subst (λ z. IsChain (λ n. target t.nexts n letter) (target t.nexts z letter) rest) (sym one) chain.1 in
        let now = chain_counted (length t.graph) (λ n. target t.nexts n letter) (Some source) (n ∷ rest) chain few in
        let later = chain_counted (length t.graph) (λ n. target t.nexts n letter) (target t.nexts source letter) rest next (omega (arith, few)) in
        let listing : IsListing t node letter P (target t.nexts source letter) = record {
          rest = rest;
          chain = next;
          few = omega (arith, few);
          leads = λ m h. leads m (inr h);
          ahead = λ m e. elim (ahead m e) [ inr q ↦ inr q | inl h ↦ elim h [ inl same ↦ inr (subst P (one ∙ sym same) p) | inr k ↦ inl k ] ];
        } in
        (listing, omega (arith, now, later))

pub listing_end : (t : Links) (node letter : ℕ) (P : ℕ → Type 0) → IsListing t node letter P None → (n : ℕ) → target t.graph n letter ≡ Some node → P n
listing_end t node letter P l n e = go l.rest l.chain (l.ahead n e)
  where
    go : (rest : List ℕ) → IsChain (λ n. target t.nexts n letter) None rest → IsAmong n rest ⊎ P n → P n
    go rest chain (inr p) = p
    go [] chain (inl h) = absurd h
    go (m ∷ rest) chain (inl h) = let no : None ≡ Some m = chain.0 in cc

-- no letter
pub behind_here : (g : Graph) (node count : ℕ) (side first second : Word) (due : Due) → count ≡ 0 → IsDueBoth g node first second due → IsDueBehind g node (take count side) first second due
behind_here g node count side first second due e h = subst (λ z. IsDueBehind g node (take z side) first second due) (sym e) (go due h)
  where
    go : (due : Due) → IsDueBoth g node first second due → IsDueBehind g node (take 0 side) first second due
    go Nothing h = λ n f. subst (λ z. IsQuietBoth g z first second) (some_same node n (sym f)) h
    go (Edge j a m) h = (node, refl, h)
    go (Join j a t m) h = (node, refl, h)

-- the last letter of a front
pub front_last : (side : Word) (count letter : ℕ) → (count ≡ 0 → ⊥) → count ≤ length side → slice_get side (count - 1) ≡ Some letter → take count side ≡ take (count - 1) side ++ letter ∷ []
front_last side count letter some h e =
    let within : count - 1 < length side = slice_get_within side (count - 1) letter e in
    let is : get_or side (count - 1) 0 ≡ letter = get_or_from_slice_get side (count - 1) letter 0 e in
    let one : (count - 1) + 1 ≡ count = omega (arith, some) in
    ap (λ z. take z side) (sym one) ∙ take_more side (count - 1) 0 within ∙ ap (λ b. take (count - 1) side ++ b ∷ []) is

-- nothing is asked for behind any source
pub behind_nothing : (t : Links) (node letter : ℕ) (front whole first second : Word) → whole ≡ front ++ letter ∷ []
    → IsListing t node letter (λ source. IsDueBehind t.graph source front first second Nothing) None → IsDueBehind t.graph node whole first second Nothing
behind_nothing t node letter front whole first second e l n f =
    let parts = path_front t.graph n node front (letter ∷ []) (ap (path t.graph n) (sym e) ∙ f) in
    listing_end t node letter (λ source. IsDueBehind t.graph source front first second Nothing) l parts.0 (sym (path_letter t.graph parts.0 letter) ∙ parts.2) n parts.1

-- something is, behind one
pub behind_found : (g : Graph) (node source letter : ℕ) (front whole first second : Word) (due : Due) → whole ≡ front ++ letter ∷ [] → target g source letter ≡ Some node
    → (due ≡ Nothing → ⊥) → IsDueBehind g source front first second due → IsDueBehind g node whole first second due
behind_found g node source letter front whole first second Nothing e led not h = absurd (not refl)
behind_found g node source letter front whole first second (Edge j a m) e led not h = (h.0, ap (path g h.0) e ∙ path_more g h.0 source front letter h.1 ∙ led, h.2)
behind_found g node source letter front whole first second (Join j a t m) e led not h = (h.0, ap (path g h.0) e ∙ path_more g h.0 source front letter h.1 ∙ led, h.2)

-- the places of a side before this one ask for nothing
abbrev pub IsQuietAlong : Graph → ℕ → ℕ → Word → Word → Word → ℕ → Type 0
IsQuietAlong g node letter side first second place = (n i : ℕ) → i < place → slice_get side i ≡ Some letter → path g n (take i side) ≡ Some node → IsQuietBoth g n first second

pub along_more : (g : Graph) (node letter : ℕ) (side first second : Word) (place : ℕ) → (slice_get side place ≡ Some letter → IsDueBehind g node (take place side) first second Nothing)
    → IsQuietAlong g node letter side first second place → IsQuietAlong g node letter side first second (place + 1)
along_more g node letter side first second place here q n i h e f = go (cases_lt i place)
  where
    go : (i < place) ⊎ (place ≤ i) → IsQuietBoth g n first second
    go (inl less) = q n i less e f
    go (inr more) =
        let same : i ≡ place = omega (arith, more, h) in
        here (subst (λ z. slice_get side z ≡ Some letter) same e) n (subst (λ z. path g n (take z side) ≡ Some node) same f)

split_more : (x : ℕ) (side : Word) (place a b : ℕ) → (c : ℕ) × (after : Word) × (side ≡ take place side ++ a ∷ b ∷ c ∷ after)
    → (c : ℕ) × (after : Word) × (x ∷ side ≡ x ∷ (take place side ++ a ∷ b ∷ c ∷ after))
split_more x side place a b (c, after, e) = (c, after, ap (λ w. x ∷ w) e)

-- a word at two neighbouring letters of it, with more to come
split_at : (side : Word) (place a b : ℕ) → slice_get side place ≡ Some a → slice_get side (place + 1) ≡ Some b → place + 2 < length side
    → (c : ℕ) × (after : Word) × (side ≡ take place side ++ a ∷ b ∷ c ∷ after)
split_at [] place a b here behind more = cc
split_at (x ∷ []) zero a b here behind more = cc
split_at (x ∷ y ∷ []) zero a b here behind more = absurd (omega (arith, more))
split_at (x ∷ y ∷ z ∷ side) zero a b here behind more =
    (z, side, ap (λ w. w ∷ y ∷ z ∷ side) (some_same x a here) ∙ ap (λ w. a ∷ w ∷ z ∷ side) (some_same y b behind))
split_at (x ∷ side) (suc place) a b here behind more =
    let next : suc place + 1 ≡ suc (place + 1) = omega arith in
    split_more x side place a b (split_at side place a b here (subst (λ z. slice_get (x ∷ side) z ≡ Some b) next behind) (omega (arith, more)))

-- nothing is asked for where the read of a side is cut
pub cut_quiet : (g : Graph) (node n : ℕ) (side other : Word) (place : ℕ) → IsCut g node side place → path g n (take place side) ≡ Some node → IsQuietBoth g n side other
cut_quiet g node n side other place cut leads = (λ j a m r. absurd (whole m r.2), λ j a m r. absurd (but_last r.0 a j r.1 r.3))
  where
    parts : (c : ℕ) × (after : Word) × (side ≡ take place side ++ cut.letter ∷ cut.next ∷ c ∷ after)
    parts = split_at side place cut.letter cut.next cut.here cut.behind cut.more

    front : Word
    front = take place side ++ cut.letter ∷ cut.next ∷ []

    stuck : path g n front ≡ None
    stuck = path_append g n node (take place side) (cut.letter ∷ cut.next ∷ []) leads ∙ cut.stops

    side_is : side ≡ front ++ parts.0 ∷ parts.1
    side_is = parts.2 ∙ sym (append_assoc (take place side) (cut.letter ∷ cut.next ∷ []) (parts.0 ∷ parts.1))

    whole : (m : ℕ) → path g n side ≡ Some m → ⊥
    whole m e = let no : None ≡ Some m = sym (no_path g n front (parts.0 ∷ parts.1) stuck) ∙ sym (ap (path g n) side_is) ∙ e in cc

    longer : front ≡ front ++ parts.0 ∷ parts.1 → ⊥
    longer e = omega (arith, ap length e, length-append front (parts.0 ∷ parts.1))

    but_last : (w : Word) (a j : ℕ) → side ≡ w ++ a ∷ [] → path g n w ≡ Some j → ⊥
    but_last w a j e h = elim (prefix_last front w a (record { after = parts.0 ∷ parts.1; is = sym e ∙ side_is })) [
      | inl q ↦ let no : None ≡ Some j = sym (no_path g n front q.after stuck) ∙ sym (ap (path g n) q.is) ∙ h in cc
      | inr same ↦ longer (same ∙ sym e ∙ side_is)
    ]

pub get_at : (front : Word) (letter : ℕ) (back : Word) → slice_get (front ++ letter ∷ back) (length front) ≡ Some letter
get_at [] letter back = refl
get_at (x ∷ front) letter back = get_at front letter back

pub along_end : (g : Graph) (node letter : ℕ) (side first second : Word) → IsQuietAlong g node letter side first second (length side) → IsDueAlong g node letter side first second Nothing
along_end g node letter side first second q n k =
    let at : slice_get side (length k.front) ≡ Some letter = ap (λ z. slice_get z (length k.front)) k.word ∙ get_at k.front letter k.back in
    let front : take (length k.front) side ≡ k.front = ap (take (length k.front)) k.word ∙ take-append_seam k.front (letter ∷ k.back) in
    q n (length k.front) (slice_get_within side (length k.front) letter at) at (ap (path g n) front ∙ k.leads)

pub along_found : (g : Graph) (node letter : ℕ) (front side first second : Word) (due : Due) → (due ≡ Nothing → ⊥) → IsDueBehind g node front first second due → IsDueAlong g node letter side first second due
along_found g node letter front side first second Nothing not h = absurd (not refl)
along_found g node letter front side first second (Edge j a m) not h = (front, h)
along_found g node letter front side first second (Join j a t m) not h = (front, h)

-- the first pairs ask for nothing across the edge
abbrev pub IsQuietThrough : Graph → ℕ → ℕ → List (Word × Word) → ℕ → Type 0
IsQuietThrough g node letter pairs i = (k : ℕ) (d : Word × Word) → k < i
    → IsDueAlong g node letter (get_or pairs k d).0 (get_or pairs k d).0 (get_or pairs k d).1 Nothing × IsDueAlong g node letter (get_or pairs k d).1 (get_or pairs k d).1 (get_or pairs k d).0 Nothing

pub through_end : (g : Graph) (node letter : ℕ) (pairs : List (Word × Word)) → IsQuietThrough g node letter pairs (length pairs) → IsDueThrough g pairs node letter Nothing
through_end g node letter pairs q n r s a m j sides first second crosses = go sides
  where
    -- where s is crossed, the whole side is
    whole : Crosses g n s node letter → Crosses g n (s ++ a ∷ []) node letter
    whole k = record { front = k.front; back = k.back ++ a ∷ []; word = ap (λ z. z ++ a ∷ []) k.word ∙ longer k.front k.back; leads = k.leads }
      where
        longer : (front back : Word) → (front ++ letter ∷ back) ++ a ∷ [] ≡ front ++ letter ∷ (back ++ a ∷ [])
        longer [] back = refl
        longer (x ∷ front) back = ap (λ z. x ∷ z) (longer front back)

    closed : IsDueFrom g n r (s ++ a ∷ []) Nothing → target g j a ≡ Some m
    closed quiet = quiet j a m (s, refl, first, second)

    go : EitherWay pairs r (s ++ a ∷ []) → target g j a ≡ Some m
    go (inl h) =
        let both = subst (λ (z : Word × Word). IsDueAlong g node letter z.0 z.0 z.1 Nothing × IsDueAlong g node letter z.1 z.1 z.0 Nothing) h.2 (q h.0 (r, s ++ a ∷ []) h.1) in
        elim crosses [ inl k ↦ closed (both.0 n k).0 | inr k ↦ closed (both.1 n (whole k)).1 ]
    go (inr h) =
        let both = subst (λ (z : Word × Word). IsDueAlong g node letter z.0 z.0 z.1 Nothing × IsDueAlong g node letter z.1 z.1 z.0 Nothing) h.2 (q h.0 (s ++ a ∷ [], r) h.1) in
        elim crosses [ inl k ↦ closed (both.1 n k).0 | inr k ↦ closed (both.0 n (whole k)).1 ]

-- a pair of the list asks
asked_read : (g : Graph) (n : ℕ) (pairs : List (Word × Word)) (p : Word × Word) (j a m : ℕ) → EitherWay pairs p.0 p.1 → EitherWay pairs p.1 p.0 → IsAsked g n p.0 p.1 (Edge j a m) → IsRead pairs g n j a m × (target g j a ≡ None)
asked_read g n pairs p j a m e e' (inl h) = (record { r = p.0; s = h.0.0; sides = subst (λ z. EitherWay pairs p.0 z) (h.0.1) e; first = h.0.2; second = h.0.3 }, h.1)
asked_read g n pairs p j a m e e' (inr h) = (record { r = p.1; s = h.0.0; sides = subst (λ z. EitherWay pairs p.1 z) (h.0.1) e'; first = h.0.2; second = h.0.3 }, h.1)

asked_met : (g : Graph) (n : ℕ) (pairs : List (Word × Word)) (p : Word × Word) (j a t m : ℕ) → EitherWay pairs p.0 p.1 → EitherWay pairs p.1 p.0 → IsAsked g n p.0 p.1 (Join j a t m) → IsRead pairs g n j a m × (target g j a ≡ Some t) × (t ≢ m)
asked_met g n pairs p j a t m e e' (inl h) = (record { r = p.0; s = h.0.0; sides = subst (λ z. EitherWay pairs p.0 z) (h.0.1) e; first = h.0.2; second = h.0.3 }, h.1, h.2)
asked_met g n pairs p j a t m e e' (inr h) = (record { r = p.1; s = h.0.0; sides = subst (λ z. EitherWay pairs p.1 z) (h.0.1) e'; first = h.0.2; second = h.0.3 }, h.1, h.2)

pub through_found : (g : Graph) (node letter : ℕ) (pairs : List (Word × Word)) (side : Word) (p : Word × Word) (due : Due) → (due ≡ Nothing → ⊥) → EitherWay pairs p.0 p.1 × EitherWay pairs p.1 p.0
    → IsDueAlong g node letter side p.0 p.1 due → IsDueThrough g pairs node letter due
through_found g node letter pairs side p Nothing not e h = absurd (not refl)
through_found g node letter pairs side p (Edge j a m) not e h = let r = asked_read g h.1.0 pairs p j a m e.0 e.1 h.1.2 in ((h.1.0, h.0, h.1.1, r.0), r.1)
through_found g node letter pairs side p (Join j a t m) not e h = let r = asked_met g h.1.0 pairs p j a t m e.0 e.1 h.1.2 in ((h.1.0, h.0, h.1.1, r.0), r.1, r.2)

pub at_found : (g : Graph) (node : ℕ) (pairs : List (Word × Word)) (p : Word × Word) (due : Due) → (due ≡ Nothing → ⊥) → EitherWay pairs p.0 p.1 × EitherWay pairs p.1 p.0 → IsDueBoth g node p.0 p.1 due → IsDueAt g node pairs due
at_found g node pairs p Nothing not e h = absurd (not refl)
at_found g node pairs p (Edge j a m) not e h = asked_read g node pairs p j a m e.0 e.1 h
at_found g node pairs p (Join j a t m) not e h = asked_met g node pairs p j a t m e.0 e.1 h
