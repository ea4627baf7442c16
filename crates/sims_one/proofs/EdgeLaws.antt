-- Edges that tables have, and paths along them.
use Rattle.std.proofs.Common.{◌≡◌, ℕ, zero, suc, ◌+◌, ◌*◌, ◌<◌, ◌≤◌, max, List, [], ◌∷◌, ◌++◌, length, take, get_or, set, replicate, Contains, Bool, true, IsTrue, Result, Ok, Err, IfOk, slice_get, Option, Some, None, option_and_then, refl, sym, ◌∙◌, ap, subst, arith, ◌⊎◌, inl, inr, ◌==◌}
use Rattle.std.proofs.lemmas.List.Elements.{Contains-get_or}
use Rattle.std.proofs.lemmas.List.{take_all}
use Rattle.std.proofs.lemmas.Option.{get_or_from_slice_get, same_Some, slice_get_within, slice_get-get_or}
use Rattle.theory.specs.Word.{Word, IsOver}
use Rattle.theory.specs.Congruence.{Presentation}
use Rattle.word_graph.proofs.NumberLaws.{entry_below}
use Rattle.sims_one.specs.Targets.{seen, path_in, IsTable}
use Rattle.sims_one.specs.declared.trail.Edge.{Edge}
use Rattle.sims_one.specs.declared.known.Known.{Known}
use Rattle.sims_one.specs.Known.{HasEdges, HasKnown, Keeps, Extends}
use Rattle.sims_one.proofs.FrontLaws.{times_more}
use Rattle.sims_one.proofs.TrailLaws.{grows_same, grows_one, grows_on}
use Rattle.sims_one.proofs.PathLaws.{letter_over}

-- one letter more of a path
pub path_take : (k : ℕ) (u : List ℕ) (node : ℕ) (w : Word) (i at a next : ℕ)
    → path_in k u node (take i w) ≡ Some at → slice_get w i ≡ Some a → slice_get u (at * k + a) ≡ Some next
    → path_in k u node (take (i + 1) w) ≡ Some next
path_take k u node w i at a next e letter edge =
    let more : i + 1 ≡ suc i = omega arith in
    ap (λ j. path_in k u node (take j w)) more ∙ go w i node e letter
  where
    go : (w : Word) (i node : ℕ) → path_in k u node (take i w) ≡ Some at → slice_get w i ≡ Some a → path_in k u node (take (suc i) w) ≡ Some next
    go [] i node e letter = cc
    go (b ∷ w) zero node e letter =
        let here : node ≡ at = cc in
        let same : b ≡ a = cc in
        ap (λ (n : ℕ). option_and_then (λ m. Some m) (slice_get u (n * k + b))) here ∙ ap (λ (c : ℕ). option_and_then (λ m. Some m) (slice_get u (at * k + c))) same ∙ ap (option_and_then (λ m. Some m)) edge
    go (b ∷ w) (suc i) node e letter = step (slice_get u (node * k + b)) refl e (λ m d. go w i m d letter)
      where
        step : (s : Option ℕ) → slice_get u (node * k + b) ≡ s → option_and_then (λ m. path_in k u m (take i w)) s ≡ Some at
            → ((m : ℕ) → path_in k u m (take i w) ≡ Some at → path_in k u m (take (suc i) w) ≡ Some next)
            → option_and_then (λ m. path_in k u m (take (suc i) w)) (slice_get u (node * k + b)) ≡ Some next
        step None is e further = cc
        step (Some m) is e further = ap (option_and_then (λ m. path_in k u m (take (suc i) w))) is ∙ further m e

-- a target is a node seen
pub entry_seen : (u : List ℕ) (i m : ℕ) → slice_get u i ≡ Some m → m < seen u
entry_seen u i m e =
    let within : i < length u = slice_get_within u i m e in
    let below = entry_below 0 u i within in
    omega (arith, below, get_or_from_slice_get u i m 0 e)

-- a path leads from nodes seen to nodes seen
pub path_seen : (k : ℕ) (u : List ℕ) (node m : ℕ) (w : Word) → node < seen u → path_in k u node w ≡ Some m → m < seen u
path_seen k u node m [] h e = let same : node ≡ m = cc in subst (λ z. z < seen u) same h
path_seen k u node m (a ∷ w) h e = go (slice_get u (node * k + a)) refl e (λ next inside further. path_seen k u next m w inside further)
  where
    go : (s : Option ℕ) → slice_get u (node * k + a) ≡ s → option_and_then (λ next. path_in k u next w) s ≡ Some m
        → ((next : ℕ) → next < seen u → path_in k u next w ≡ Some m → m < seen u) → m < seen u
    go None is e further = absurd (let d : ⊥ = cc in d)
    go (Some next) is e further = further next (entry_seen u (node * k + a) next is) e

-- a place in the rows of the nodes seen
place_there : (k s node a : ℕ) → node < s → a < k → node * k + a < k * s
place_there k s node a h l = omega (arith, times_more k (suc node) s (omega arith), l)

pub place_within : (k at a : ℕ) → k ≤ 53 → at < 17 → a < k → at * k + a < 901
place_within k at a few small over = omega (arith, times_more k (at + 1) 17 (omega arith), few, over)

-- the relations hold in tables
module _ (p : Presentation) (n : ℕ) (u : List ℕ) (table : IsTable p n u) where
  pub edge_there : (node a : ℕ) → node < seen u → a < p.letters → (m : ℕ) × (slice_get u (node * p.letters + a) ≡ Some m)
  edge_there node a h l =
      let within : node * p.letters + a < length u = omega (arith, place_there p.letters (seen u) node a h l, table.full) in
      (get_or u (node * p.letters + a) 0, slice_get-get_or u (node * p.letters + a) 0 within)

  module _ (node : ℕ) (inside : node < seen u) (r s : Word) (meets : (m m' : ℕ) → path_in p.letters u node r ≡ Some m → path_in p.letters u node s ≡ Some m' → m ≡ m') where
    -- the last edge of a side leads to the end of the other
    pub last_edge : (m q j c : ℕ) → IsOver p.letters s → path_in p.letters u node r ≡ Some m → path_in p.letters u node (take j s) ≡ Some q
        → slice_get s j ≡ Some c → j + 1 ≡ length s → slice_get u (q * p.letters + c) ≡ Some m
    last_edge m q j c over left right letter last =
        let there = edge_there q c (path_seen p.letters u node q (take j s) inside right) (letter_over p.letters s j c over letter) in
        let all : take (j + 1) s ≡ s = take_all (j + 1) s (omega (arith, last)) in
        let whole : path_in p.letters u node s ≡ Some there.0 = ap (path_in p.letters u node) (sym all) ∙ path_take p.letters u node s j q c there.0 right letter there.1 in
        there.1 ∙ ap (λ (z : ℕ). Some z) (sym (meets m there.0 left whole))

-- what is known at a place after a target has been put
target_set : (known : List (Option ℕ)) (place m q node : ℕ) → get_or (set known place (Some m)) q None ≡ Some node
    → ((q ≡ place) × (m ≡ node)) ⊎ (get_or known q None ≡ Some node)
target_set [] place m q node e = inr e
target_set (x ∷ known) zero m zero node e = inl (refl, same_Some m node e)
target_set (x ∷ known) zero m (suc q) node e = inr e
target_set (x ∷ known) (suc place) m zero node e = inr e
target_set (x ∷ known) (suc place) m (suc q) node e = elim (target_set known place m q node e) [ inl s ↦ inl (ap suc s.0, s.1) | inr d ↦ inr d ]

-- edges that are known from now on
pub edges_set : (known : List (Option ℕ)) (u : List ℕ) (place m : ℕ) → HasEdges known u → slice_get u place ≡ Some m
    → HasEdges (set known place (Some m)) u
edges_set known u place m has edge q node e = elim (target_set known place m q node e) [
  | inl s ↦ ap (slice_get u) s.0 ∙ edge ∙ ap (λ (z : ℕ). Some z) s.1
  | inr d ↦ has q node d
]

-- nothing is known
none_known : (n place : ℕ) → get_or (replicate {A = Option ℕ} n None) place None ≡ None
none_known zero place = refl
none_known (suc n) zero = refl
none_known (suc n) (suc place) = none_known n place

pub edges_none : (n : ℕ) (u : List ℕ) → HasEdges (replicate n None) u
edges_none n u place node e = let bad : None ≡ Some node = sym (none_known n place) ∙ e in cc

-- a relation at its place
pub relation_there : (rs all : List (Word × Word)) (i : ℕ) (q : Word × Word) → rs ≡ all → i < length all → q ≡ get_or rs i q → Contains all (q.0, q.1)
relation_there rs all i q same within is =
    let there : Contains all (get_or all i q) = Contains-get_or all i q within in
    let e : get_or all i q ≡ q = sym (is ∙ ap (λ (xs : List (Word × Word)). get_or xs i q) same) in
    subst (λ (z : Word × Word). Contains all z) e there

-- so many letters of the word lead from one node to another, by the edges that are known
abbrev pub Leads : ℕ → Known → ℕ → Word → ℕ → ℕ → Type 0
Leads k known node w count end = (u : List ℕ) → HasEdges known.targets u → path_in k u node (take count w) ≡ Some end

-- both words lead from the node to one
abbrev pub Meet : Presentation → ℕ → Word → Word → Type 0
Meet p node r s = (n : ℕ) (u : List ℕ) → IsTable p n u → node < seen u → (m m' : ℕ)
    → path_in p.letters u node r ≡ Some m → path_in p.letters u node s ≡ Some m' → m ≡ m'

pub sides_meet : (p : Presentation) (node : ℕ) (r s : Word) → Contains p.relations (r, s) → Meet p node r s
sides_meet p node r s there n u table inside m m' left right = table.sound node r s inside there m m' left right

pub sides_meet_back : (p : Presentation) (node : ℕ) (r s : Word) → Contains p.relations (r, s) → Meet p node s r
sides_meet_back p node r s there n u table inside m m' left right = sym (table.sound node r s inside there m' m right left)

-- a relation that is read at a node
module _ (p : Presentation) (k : ℕ) (letters : k ≡ p.letters) (known : Known) (node : ℕ) (inside : node < known.nodes) (r s : Word) (meet : Meet p node r s) where
  part : (u : List ℕ) (w : Word) (count end : ℕ) → Leads k known node w count end → HasKnown known u → path_in p.letters u node (take count w) ≡ Some end
  part u w count end leads fits = subst (λ z. path_in z u node (take count w) ≡ Some end) letters (leads u fits.edges)

  whole : (u : List ℕ) (w : Word) (count end : ℕ) → Leads k known node w count end → count ≡ length w → HasKnown known u → path_in p.letters u node w ≡ Some end
  whole u w count end leads all fits =
      subst (λ (v : Word). path_in p.letters u node v ≡ Some end) (take_all count w (omega (arith, all))) (part u w count end leads fits)

  seen_by : (u : List ℕ) → HasKnown known u → node < seen u
  seen_by u fits = omega (arith, inside, fits.nodes)

  pub kept_ends : (i m j q : ℕ) → Leads k known node r i m → Leads k known node s j q → i ≡ length r → j ≡ length s → Keeps p known known (m == q)
  kept_ends i m j q left right all all' = record {
    tables = λ n u table fits.
        let same : m ≡ q = meet n u table (seen_by u fits) m q (whole u r i m left all fits) (whole u s j q right all' fits) in
        (subst (λ z. IsTrue (m == z)) same (let e : (m == m) ≡ true = grind arith in e), fits);
    grows = grows_same known known refl refl;
  }

  pub kept_last : (new : Known) (i m j q c : ℕ) (e : Edge) → IsOver k s → Leads k known node r i m → Leads k known node s j q → i ≡ length r → j + 1 ≡ length s
      → slice_get s j ≡ Some c → e.place ≡ q * k + c → get_or known.targets (q * k + c) None ≡ None
      → new.nodes ≡ known.nodes → new.targets ≡ set known.targets e.place (Some m) → new.trail ≡ known.trail ++ e ∷ [] → Keeps p known new true
  kept_last new i m j q c e over left right all last letter place fresh nodes targets trail = record {
    tables = λ n u table fits.
        let edge : slice_get u (q * p.letters + c) ≡ Some m =
        last_edge p n u table node (seen_by u fits) r s (meet n u table (seen_by u fits)) m q j c (subst (λ z. IsOver z s) letters over)
        (whole u r i m left all fits) (part u s j q right fits) letter last in
        let edge' : slice_get u e.place ≡ Some m = ap (slice_get u) place ∙ subst (λ z. slice_get u (q * z + c) ≡ Some m) (sym letters) edge in (
          refl,
          record {
            nodes = omega (arith, fits.nodes, nodes);
            edges = subst (λ (ts : List (Option ℕ)). HasEdges ts u) (sym targets) (edges_set known.targets u e.place m fits.edges edge');
          },
        );
    grows = grows_one known new e m (ap (λ z. get_or known.targets z None) place ∙ fresh) targets trail;
  }

-- nothing new is known
pub kept_all : (p : Presentation) (known : Known) → Keeps p known known true
kept_all p known = record { tables = λ n u table fits. (refl, fits); grows = grows_same known known refl refl }

pub kept_on : (p : Presentation) (old known new : Known) (holds : Bool) → Keeps p old known true → Keeps p known new holds → Keeps p old new holds
kept_on p old known new holds first further = record {
  tables = λ n u table fits. further.tables n u table (first.tables n u table fits).1;
  grows = grows_on old known new first.grows further.grows;
}

pub kept_same : (p : Presentation) (old new known : Known) → new ≡ known → Keeps p old known true → Keeps p old new true
kept_same p old new known same kept = subst (λ (z : Known). Keeps p old z true) (sym same) kept

pub kept_to : (p : Presentation) (old known new : Known) (b holds : Bool) → Keeps p old known true → b ≡ holds → Keeps p known new b → Keeps p old new holds
kept_to p old known new b holds first is further =
    kept_on p old known new holds first (subst (λ (z : Bool). Keeps p known new z) is further)

-- a target that is put at a place
module _ (p : Presentation) (old : Known) (place target nodes : ℕ) (most : nodes ≡ max old.nodes (target + 1)) where
  pub extended_known : (other : ℕ) → ((u : List ℕ) → HasEdges old.targets u → slice_get u place ≡ Some other)
      → Extends p old place target (record old { nodes = nodes }) (other == target)
  extended_known other known = λ n u table fits edge.
      let is = known u fits.edges in
      let same : other ≡ target = cc in
      let e : (other == target) ≡ true = grind arith in
      (e, record { nodes = omega (arith, fits.nodes, entry_seen u place target edge, most); edges = fits.edges })

  pub extended : (put new : Known) (holds : Bool) → put.nodes ≡ nodes → put.targets ≡ set old.targets place (Some target)
      → Keeps p put new holds → Extends p old place target new holds
  extended put new holds count targets kept = λ n u table fits edge. kept.tables n u table (record {
    nodes = omega (arith, fits.nodes, entry_seen u place target edge, most, count);
    edges = subst (λ (ts : List (Option ℕ)). HasEdges ts u) (sym targets) (edges_set old.targets u place target fits.edges edge);
  })

-- what holds of a success where another fact does
pub on_ok : {E : Type 0} (r : Result Bool E) (P Q : Bool → Type 0) → IfOk r P → ((b : Bool) → P b → Q b) → IfOk r Q
on_ok (Ok b) P Q h f = f b h
on_ok (Err e) P Q h f = tt
