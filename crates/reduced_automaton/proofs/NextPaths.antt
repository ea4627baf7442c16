-- The next word with a path.
use Rattle.std.proofs.Common.{◌≡◌, ℕ, suc, ◌+◌, ◌<◌, ◌≤◌, List, [], ◌∷◌, ◌++◌, length, take, drop, get_or, slice_get, true, refl, sym, ◌∙◌, ap, subst, subst₂, arith, ◌⊎◌, inl, inr, Option, Some, None, nat_cmp, append_assoc, append-nil}
use Rattle.std.specs.Cmp.Lexicographic.{slice_cmp}
use Rattle.std.proofs.lemmas.Bool.{cases_lt}
use Rattle.std.proofs.lemmas.List.{take-append-drop, length-drop, drop_more, drop_all, nil_from_length, get_or_append_left, get_or_push, length_push}
use Rattle.std.proofs.lemmas.Option.{same_Some, get_or_from_slice_get, slice_get_within}
use Rattle.theory.specs.Word.{Word}
use Rattle.theory.specs.ShortLex.{◌≺◌}
use Rattle.theory.specs.Graph.{Graph, target, path}
use Rattle.theory.specs.Listing.{IsAfter, IsLast, IsNext}
use Rattle.theory.proofs.Words.{before_cases, before_cons, before_irrefl, before_no_longer, letters_first, nat_Less, nat_from_Less, nat_from_Equal, shorter_first, then_Less}
use Rattle.theory.proofs.GraphLaws.{path_front, path_letter}
use Rattle.word_graph.proofs.Paths.{path_take_more}
use Rattle.reduced_automaton.specs.Paths.{AreIn, AreNodesAlong, GoesFar, GoesOn, HasPath, IsLastOfLength, IsLeastEdge, IsLeastPath, IsNextOfLength, IsRise, IsWithoutEdge, Paths}
use Rattle.reduced_automaton.proofs.PathLaws.{goes_as, goes_first, goes_path, path_behind, path_first}

-- Words of one length.
pub heads_cases : (a b : ℕ) (u v : Word) → length u ≡ length v → (a ∷ u) ≺ (b ∷ v) → (a < b) ⊎ ((a ≡ b) × (u ≺ v))
heads_cases a b u v e h = elim (before_cases (a ∷ u) (b ∷ v) h) [
  | inl less ↦ absurd (omega arith)
  | inr p ↦ elim (then_Less (nat_cmp a b) (slice_cmp nat_cmp u v) p.1) [
    | inl l ↦ inl (nat_from_Less a b l)
    | inr q ↦ inr (nat_from_Equal a b q.0, letters_first u v e q.1)
  ]
]

pub head_first : (a b : ℕ) (u v : Word) → length u ≡ length v → a < b → (a ∷ u) ≺ (b ∷ v)
head_first a b u v e h = letters_first (a ∷ u) (b ∷ v) (ap suc e) (rw (nat_Less a b h) refl)

none_before : (v : Word) → length v ≡ 0 → v ≺ [] → ⊥
none_before v e h = before_irrefl [] (subst (λ (u : Word). u ≺ []) (nil_from_length v e) h)

none_after : (v : Word) → length v ≡ 0 → [] ≺ v → ⊥
none_after v e h = before_irrefl [] (subst (λ (u : Word). [] ≺ u) (nil_from_length v e) h)

-- The nodes along a word, one more, and the last before a missing edge.
pub nodes_more : (g : Graph) (root : ℕ) (u : Word) (nodes : List ℕ) (place node : ℕ) → length nodes ≡ place → path g root (take place u) ≡ Some node
    → ((i : ℕ) → i < length nodes → path g root (take i u) ≡ Some (get_or nodes i 0)) → (new : List ℕ) → new ≡ nodes ++ node ∷ []
    → (i : ℕ) → i < length new → path g root (take i u) ≡ Some (get_or new i 0)
nodes_more g root u nodes place node count here at new e i less = elim (cases_lt i (length nodes)) [
  | inl old ↦
      at i old ∙ ap Some (sym (get_or_append_left nodes (node ∷ []) 0 i old) ∙ ap (λ (xs : List ℕ). get_or xs i 0) (sym e))
  | inr past ↦
      let last : i ≡ place = omega (arith, ap (λ (xs : List ℕ). length xs) e, length_push nodes node) in
      ap (λ z. path g root (take z u)) last ∙ here
      ∙ ap Some (sym (get_or_push nodes node 0 i (count ∙ sym last)) ∙ ap (λ (xs : List ℕ). get_or xs i 0) (sym e))
]

pub nodes_stop : (g : Graph) (root : ℕ) (u : Word) (nodes : List ℕ) (place node a : ℕ) → length nodes ≡ place → path g root (take place u) ≡ Some node
    → ((i : ℕ) → i < length nodes → path g root (take i u) ≡ Some (get_or nodes i 0)) → slice_get u place ≡ Some a
    → target g node a ≡ None → (new : List ℕ) → new ≡ nodes ++ node ∷ [] → AreNodesAlong g root u new
nodes_stop g root u nodes place node a count here at letter none new e =
    let size : length new ≡ place + 1 = omega (arith, ap (λ (xs : List ℕ). length xs) e, length_push nodes node) in
    record {
      few = omega (arith, size, slice_get_within u place a letter);
      at = nodes_more g root u nodes place node count here at new e;
      end = λ short. ap (λ z. path g root (take z u)) size ∙ path_take_more g root node a place u here letter ∙ none;
    }

-- what leads from the root to an end and comes after the cursor has at least n letters, and all
-- with so many come after it
pub record IsPassed (p : Paths) (root : ℕ) (cursor : Option Word) (n : ℕ) : Type 0 where
  pub below : (y : Word) → HasPath p root y → IsAfter ◌≺◌ cursor y → n ≤ length y
  pub above : (y : Word) → n ≤ length y → IsAfter ◌≺◌ cursor y

module _ (p : Paths) where
  -- no word after the letters so far
  abbrev pub IsLastBehind : ℕ → Word → ℕ → Type 0
  IsLastBehind root u place = (node : ℕ) → path p.graph root (take place u) ≡ Some node → IsLastOfLength p node (drop place u)

  pub least_nil : (node : ℕ) → p.is_end node ≡ true → IsLeastPath p node 0 []
  least_nil node ends =
      record { has = record { over = tt; end = node; is = refl; ends = ends }; long = refl; least = λ v has long less. none_before v long less }

  pub end_here : (node : ℕ) → GoesOn p node 0 → p.is_end node ≡ true
  end_here node h = go h.word h.long h.has
    where
      go : (u : Word) → length u ≡ 0 → HasPath p node u → p.is_end node ≡ true
      go [] e has = ap p.is_end (same_Some node has.end has.is) ∙ has.ends
      go (a ∷ u) e has = absurd (omega arith)

  pub last_nil : (node : ℕ) → IsLastOfLength p node []
  last_nil node v has long less = none_after v long less

  module _ (graph : AreIn p) where
    -- behind the least edge the least word
    pub least_behind : (node n a next : ℕ) (v : Word) → IsLeastEdge p node n 0 a next → IsLeastPath p next n v
        → IsLeastPath p node (n + 1) (a ∷ v)
    least_behind node n a next v edge h =
        record { has = path_behind p graph node a next v edge.is h.has; long = omega (arith, h.long); least = least }
      where
        least : (w : Word) → HasPath p node w → length w ≡ n + 1 → w ≺ (a ∷ v) → ⊥
        least [] has long less = omega arith
        least (b ∷ w) has long less =
            let first = path_first p node b w has in
            let size : length w ≡ n = omega arith in
            elim (heads_cases b a w v (size ∙ sym h.long) less) [
              | inl lower ↦ edge.least b first.0 (omega arith) lower first.1 (goes_as p first.0 (length w) n size (goes_path p first.0 w first.2))
              | inr same ↦
                  let there : first.0 ≡ next = same_Some first.0 next (sym first.1 ∙ ap (λ z. target p.graph node z) same.0 ∙ edge.is) in
                  h.least w (subst (λ z. HasPath p z w) there first.2) size same.1
            ]

    -- The words as long as a word, and greater.
    module _ (node a : ℕ) (t : Word) where
      -- a greater letter
      pub next_here : (b next : ℕ) (v : Word) → ((m : ℕ) → target p.graph node a ≡ Some m → IsLastOfLength p m t)
          → IsLeastEdge p node (length t) (a + 1) b next → IsLeastPath p next (length t) v → IsNextOfLength p node (a ∷ t) (b ∷ v)
      next_here b next v last edge h =
          record {
            has = path_behind p graph node b next v edge.is h.has;
            long = ap suc h.long;
            after = head_first a b t v (sym h.long) (omega (arith, edge.from));
            least = least;
          }
        where
          least : (w : Word) → HasPath p node w → length w ≡ length (a ∷ t) → (a ∷ t) ≺ w → w ≺ (b ∷ v) → ⊥
          least [] has long more less = omega arith
          least (c ∷ w) has long more less =
              let first = path_first p node c w has in
              let size : length w ≡ length t = omega arith in
              elim (heads_cases a c t w (sym size) more) [
                | inr same ↦ last first.0 (ap (λ z. target p.graph node z) same.0 ∙ first.1) w first.2 size same.1
                | inl higher ↦ elim (heads_cases c b w v (size ∙ sym h.long) less) [
                  | inl lower ↦
                      edge.least c first.0 (omega arith) lower first.1 (goes_as p first.0 (length w) (length t) size (goes_path p first.0 w first.2))
                  | inr same ↦
                      let there : first.0 ≡ next = same_Some first.0 next (sym first.1 ∙ ap (λ z. target p.graph node z) same.0 ∙ edge.is) in
                      h.least w (subst (λ z. HasPath p z w) there first.2) size same.1
                ]
              ]

      -- the same letter
      pub next_behind : (m : ℕ) (x : Word) → target p.graph node a ≡ Some m → IsNextOfLength p m t x → IsNextOfLength p node (a ∷ t) (a ∷ x)
      next_behind m x e h =
          record {
            has = path_behind p graph node a m x e h.has;
            long = ap suc h.long;
            after = before_cons a t x h.after;
            least = least;
          }
        where
          least : (w : Word) → HasPath p node w → length w ≡ length (a ∷ t) → (a ∷ t) ≺ w → w ≺ (a ∷ x) → ⊥
          least [] has long more less = omega arith
          least (c ∷ w) has long more less =
              let first = path_first p node c w has in
              let size : length w ≡ length t = omega arith in
              elim (heads_cases a c t w (sym size) more) [
                | inl higher ↦ elim (heads_cases c a w x (size ∙ sym h.long) less) [ inl lower ↦ omega arith | inr same ↦ omega arith ]
                | inr same ↦ elim (heads_cases c a w x (size ∙ sym h.long) less) [
                  | inl lower ↦ omega arith
                  | inr also ↦
                      let there : first.0 ≡ m = same_Some first.0 m (sym first.1 ∙ ap (λ z. target p.graph node z) also.0 ∙ e) in
                      h.least w (subst (λ z. HasPath p z w) there first.2) size same.1 also.1
                ]
              ]

      -- neither
      pub last_here : ((m : ℕ) → target p.graph node a ≡ Some m → IsLastOfLength p m t) → IsWithoutEdge p node (length t) (a + 1)
          → IsLastOfLength p node (a ∷ t)
      last_here last without [] has long more = omega arith
      last_here last without (c ∷ w) has long more =
          let first = path_first p node c w has in
          let size : length w ≡ length t = omega arith in
          elim (heads_cases a c t w (sym size) more) [
            | inl higher ↦
                without c first.0 (omega arith) first.1 (goes_as p first.0 (length w) (length t) size (goes_path p first.0 w first.2))
            | inr same ↦ last first.0 (ap (λ z. target p.graph node z) same.0 ∙ first.1) w first.2 size same.1
          ]

    -- behind a word with a path
    next_along : (front t x : Word) (node m : ℕ) → path p.graph node front ≡ Some m → IsNextOfLength p m t x → IsNextOfLength p node (front ++ t) (front ++ x)
    next_along [] t x node m e h = subst (λ z. IsNextOfLength p z t x) (sym (same_Some node m e)) h
    next_along (a ∷ front) t x node m e h =
        let step = path_front p.graph node m (a ∷ []) front e in
        next_behind node a (front ++ t) step.0 (front ++ x) (sym (path_letter p.graph node a) ∙ step.1) (next_along front t x step.0 m step.2 h)

    -- The places of a word, from the last one that was reached down.
    module _ (root : ℕ) (u : Word) where
      pub scan_start : (nodes : List ℕ) → AreNodesAlong p.graph root u nodes → IsLastBehind root u (length nodes)
      scan_start nodes along node e = elim (cases_lt (length nodes) (length u)) [
        | inl short ↦
            let none : None ≡ Some node = sym (along.end short) ∙ e in
            absurd (let bad : ⊥ = cc in bad)
        | inr full ↦ subst (λ (t : Word). IsLastOfLength p node t) (sym (drop_all (length nodes) u full)) (last_nil node)
      ]

      pub scan_end : (place : ℕ) → place ≡ 0 → IsLastBehind root u place → IsLastOfLength p root u
      scan_end place none last = (subst (λ z. IsLastBehind root u z) none last) root refl

      module _ (place node a : ℕ) (here : path p.graph root (take place u) ≡ Some node) (letter : slice_get u place ≡ Some a)
          (last : IsLastBehind root u (place + 1)) where
        rest : drop place u ≡ a ∷ drop (place + 1) u
        rest =
            drop_more u place 0 (slice_get_within u place a letter)
            ∙ ap (λ z. z ∷ drop (place + 1) u) (get_or_from_slice_get u place a 0 letter)

        rest_size : (n : ℕ) → n + place + 1 ≡ length u → length (drop (place + 1) u) ≡ n
        rest_size n e = omega (arith, length-drop (place + 1) u)

        last_on : (m : ℕ) → target p.graph node a ≡ Some m → IsLastOfLength p m (drop (place + 1) u)
        last_on m e = last m (path_take_more p.graph root node a place u here letter ∙ e)

        pub scan_step : (n : ℕ) → n + place + 1 ≡ length u → IsWithoutEdge p node n (a + 1) → IsLastBehind root u place
        scan_step n size without other e =
            let same : node ≡ other = same_Some node other (sym here ∙ e) in
            subst₂ (λ z (t : Word). IsLastOfLength p z t) same (sym rest)
            (last_here node a (drop (place + 1) u) last_on (subst (λ z. IsWithoutEdge p node z (a + 1)) (sym (rest_size n size)) without))

        scan_next : (n b next : ℕ) (v : Word) → n + place + 1 ≡ length u → IsLeastEdge p node n (a + 1) b next
            → IsLeastPath p next n v → IsNextOfLength p root u (take place u ++ b ∷ v)
        scan_next n b next v size edge h =
            let long = rest_size n size in
            let at =
            next_here node a (drop (place + 1) u) b next v last_on (subst (λ z. IsLeastEdge p node z (a + 1) b next) (sym long) edge)
            (subst (λ z. IsLeastPath p next z v) (sym long) h) in
            subst (λ (w : Word). IsNextOfLength p root w (take place u ++ b ∷ v)) (ap (λ (t : Word). take place u ++ t) (sym rest) ∙ take-append-drop place u)
            (next_along (take place u) (a ∷ drop (place + 1) u) (b ∷ v) root node here at)

        -- a rise at a place of the word
        pub rise_at : (n b next : ℕ) → n + place + 1 ≡ length u → IsLeastEdge p node n (a + 1) b next → IsRise p root u (record { place = place; letter = b; node = next; count = n })
        rise_at n b next size edge =
            record { within = omega arith; short = omega (arith, size); goes = edge.goes; next = λ v least. scan_next n b next v size edge least }

    -- no edge at all
    pub without_ends : (node n : ℕ) → IsWithoutEdge p node n 0 → GoesOn p node (n + 1) → ⊥
    without_ends node n without h =
        let first = goes_first p node n h in
        without first.0 first.1 (omega arith) first.2 first.3

    pub least_is : (node n m : ℕ) (v : Word) → n ≡ m → IsLeastPath p node n v → IsLeastPath p node m v
    least_is node n m v e h = subst (λ z. IsLeastPath p node z v) e h

    -- one letter more of the least word
    pub least_more : (old word new v : Word) (node count at more rest a next : ℕ) → word ≡ old ++ v → new ≡ word ++ a ∷ []
        → ((w : Word) → IsLeastPath p at more w → IsLeastPath p node count (v ++ w)) → more ≡ rest + 1
        → IsLeastEdge p at rest 0 a next
        → (x : Word) × (new ≡ old ++ x) × ((w : Word) → IsLeastPath p next rest w → IsLeastPath p node count (x ++ w))
    least_more old word new v node count at more rest a next e d on size edge = (
      v ++ a ∷ [],
      d ∙ ap (λ (w : Word). w ++ a ∷ []) e ∙ append_assoc old v (a ∷ []),
      λ w h.
          subst (λ (x : Word). IsLeastPath p node count x) (sym (append_assoc v (a ∷ []) w))
          (on (a ∷ w) (least_is at (rest + 1) more (a ∷ w) (sym size) (least_behind at rest a next w edge h))),
    )

    -- and all of it
    pub least_all : (old word v : Word) (node count at more : ℕ) → word ≡ old ++ v
        → ((w : Word) → IsLeastPath p at more w → IsLeastPath p node count (v ++ w)) → more ≡ 0 → GoesOn p at more
        → (x : Word) × (word ≡ old ++ x) × IsLeastPath p node count x
    least_all old word v node count at more e on none goes =
        (v, e, subst (λ (x : Word). IsLeastPath p node count x) (append-nil v) (on [] (least_is at 0 more [] (sym none) (least_nil at (end_here at (goes_as p at more 0 none goes))))))

  module _ (root : ℕ) where
    -- The next word.
    pub next_as_long : (u x : Word) → IsNextOfLength p root u x → IsNext (HasPath p root) ◌≺◌ (Some u) x
    next_as_long u x h =
        record {
          has = h.has;
          after = h.after;
          least = λ y has after less.
              h.least y has (omega (arith, before_no_longer u y after, before_no_longer y x less, h.long)) after less;
        }

    pub passed_start : IsPassed p root None 0
    passed_start = record { below = λ y has after. omega arith; above = λ y long. tt }

    pub passed_word : (u : Word) → IsLastOfLength p root u → IsPassed p root (Some u) (length u + 1)
    passed_word u last =
        record {
          below = λ y has after. elim (cases_lt (length u) (length y)) [
            | inl longer ↦ omega arith
            | inr short ↦ absurd (last y has (omega (arith, before_no_longer u y after, short)) after)
          ];
          above = λ y long. shorter_first u y (omega arith);
        }

    pub passed_more : (cursor : Option Word) (n : ℕ) → IsPassed p root cursor n → (GoesOn p root n → ⊥) → IsPassed p root cursor (n + 1)
    passed_more cursor n h none =
        record {
          below = λ y has after. elim (cases_lt n (length y)) [
            | inl longer ↦ omega arith
            | inr short ↦ absurd (none (goes_as p root (length y) n (omega (arith, h.below y has after, short)) (goes_path p root y has)))
          ];
          above = λ y long. h.above y (omega arith);
        }

    pub passed_next : (cursor : Option Word) (n : ℕ) (x : Word) → IsPassed p root cursor n → IsLeastPath p root n x → IsNext (HasPath p root) ◌≺◌ cursor x
    passed_next cursor n x h least =
        record {
          has = least.has;
          after = h.above x (omega (arith, least.long));
          least = λ y has after less.
              least.least y has (omega (arith, h.below y has after, before_no_longer y x less, least.long)) less;
        }

    pub passed_last : (cursor : Option Word) (n : ℕ) → IsPassed p root cursor n → (GoesFar p root n → ⊥) → IsLast (HasPath p root) ◌≺◌ cursor
    passed_last cursor n h ends y has after = ends (record { word = y; long = h.below y has after; has = has })
