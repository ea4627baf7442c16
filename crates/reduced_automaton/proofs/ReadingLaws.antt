-- A next reduced word, or none; and how many there are.
use Rattle.std.proofs.Common.{◌≡◌, ◌↔◌, ℕ, zero, suc, ◌+◌, ◌-◌, ◌<◌, ◌≤◌, List, [], ◌∷◌, length, get_or, replicate, refl, sym, ◌∙◌, ap, subst, arith, ◌⊎◌, inl, inr, Bool, true, false, not, Option, Some, None}
use Rattle.std.specs.Option.{MatchOption, is_some}
use Rattle.std.proofs.lemmas.Bool.{cases_lt}
use Rattle.std.proofs.lemmas.List.{get_or_read, length-replicate}
use Rattle.std.proofs.lemmas.Option.{same_Some}
use Rattle.theory.specs.Word.{Word, IsOver}
use Rattle.theory.specs.ShortLex.{◌≺◌}
use Rattle.theory.specs.Graph.{Graph, target, path}
use Rattle.theory.specs.Completion.{IsReduced, Listed}
use Rattle.theory.specs.Listing.{IsLast, IsListOf, IsNext, IsStartOf, AreFinite, AreInfinite, GoesOnOrEnds}
use Rattle.theory.proofs.Words.{shorter_first}
use Rattle.theory.proofs.Listings.{endless}
use Rattle.theory.proofs.ClassLaws.{shortlex_strict}
use Rattle.word_graph.proofs.EdgeLaws.{target_in}
use Rattle.reduced_automaton.specs.Paths.{AreIn, GoesFar, GoesOn, HasPath, IsLastOfLength, IsLeastEdge, IsLeastPath, IsNextOfLength, IsWithoutEdge, Paths, all_paths}
use Rattle.reduced_automaton.specs.Automaton.{Allows, AreDepths, IsReader, IsReducedWord, Reading}
use Rattle.reduced_automaton.proofs.PathLaws.{goes_as, goes_behind, goes_path, none_test}
use Rattle.reduced_automaton.proofs.DepthLaws.{goes_shorter, option_cases}
use Rattle.reduced_automaton.proofs.NextPaths.{IsPassed, end_here, last_here, last_nil, least_behind, least_is, least_nil, next_as_long, next_behind, next_here, passed_last, passed_more, passed_next, passed_start, passed_word, without_ends}
use Rattle.rewriting.proofs.LetterLaws.{over_more}
use Rattle.rewriting.proofs.Ranks.{rank, rank_below}

-- What holds alike has the same next.
module _ {A : Type 0} (P Q : A → Type 0) (Less : A → A → Type 0) (same : (x : A) → P x ↔ Q x) where
  pub next_same : (cursor : Option A) (x : A) → IsNext P Less cursor x → IsNext Q Less cursor x
  next_same cursor x h =
      record { has = (same x).0 h.has; after = h.after; least = λ y q after less. h.least y ((same y).1 q) after less }

  pub last_same : (cursor : Option A) → IsLast P Less cursor → IsLast Q Less cursor
  last_same cursor h y q after = h y ((same y).1 q) after

  pub answer_same : (cursor next : Option A) → MatchOption next (IsLast P Less cursor) (IsNext P Less cursor)
      → MatchOption next (IsLast Q Less cursor) (IsNext Q Less cursor)
  answer_same cursor None h = last_same cursor h
  answer_same cursor (Some x) h = next_same cursor x h

  pub start_same : (cursor : Option A) (xs : List A) → IsStartOf P Less cursor xs → IsStartOf Q Less cursor xs
  start_same cursor [] h = tt
  start_same cursor (x ∷ xs) h = (next_same cursor x h.0, start_same (Some x) xs h.1)

  pub list_same : (cursor : Option A) (xs : List A) → IsListOf P Less cursor xs → IsListOf Q Less cursor xs
  list_same cursor [] h = last_same cursor h
  list_same cursor (x ∷ xs) h = (next_same cursor x h.0, list_same (Some x) xs h.1)

allows_or : (o : Option ℕ) (n : ℕ) → Allows o n ⊎ (Allows o n → ⊥)
allows_or None n = inl tt
allows_or (Some most) n = elim (cases_lt most n) [ inl more ↦ inr (λ less. omega arith) | inr less ↦ inl less ]

over_replicate : (k a : ℕ) → a < k → (n : ℕ) → IsOver k (replicate n a)
over_replicate k a h zero = tt
over_replicate k a h (suc n) = (h, over_replicate k a h n)

-- A next word that leads to an end, or none.
module _ (p : Paths) (graph : AreIn p) where
  abbrev GoesOr : ℕ → ℕ → Type 0
  GoesOr n node = GoesOn p node n ⊎ (GoesOn p node n → ⊥)

  abbrev EdgeOr : ℕ → ℕ → ℕ → Type 0
  EdgeOr node n first = ((a next : ℕ) × IsLeastEdge p node n first a next) ⊎ IsWithoutEdge p node n first

  -- a letter that does not lead on
  edge_skip : (node n first : ℕ) → ((m : ℕ) → target p.graph node first ≡ Some m → GoesOn p m n → ⊥) → EdgeOr node n (first + 1) → EdgeOr node n first
  edge_skip node n first none (inl r) =
      inl (r.0, r.1, record { from = omega (arith, r.2.from); is = r.2.is; goes = r.2.goes; least = λ b m from less e goes. at b m from less e goes })
    where
      at : (b m : ℕ) → first ≤ b → b < r.0 → target p.graph node b ≡ Some m → GoesOn p m n → ⊥
      at b m from less e goes = elim (cases_lt first b) [
        | inl above ↦ r.2.least b m (omega arith) less e goes
        | inr same ↦ let d : b ≡ first = omega arith in none m (ap (λ z. target p.graph node z) (sym d) ∙ e) goes
      ]
  edge_skip node n first none (inr without) = inr at
    where
      at : (b m : ℕ) → first ≤ b → target p.graph node b ≡ Some m → GoesOn p m n → ⊥
      at b m from e goes = elim (cases_lt first b) [
        | inl above ↦ without b m (omega arith) e goes
        | inr same ↦ let d : b ≡ first = omega arith in none m (ap (λ z. target p.graph node z) (sym d) ∙ e) goes
      ]

  edge_from : (left node n first : ℕ) → ((m : ℕ) → GoesOr n m) → p.letters ≤ first + left → EdgeOr node n first
  edge_from zero node n first or h = inr (λ b m from e goes. let edge = target_in p.letters p.graph graph node b m e in omega (arith, edge.1))
  edge_from (suc left) node n first or h = go (target p.graph node first) refl (edge_from left node n (first + 1) or (omega arith))
    where
      go : (o : Option ℕ) → target p.graph node first ≡ o → EdgeOr node n (first + 1) → EdgeOr node n first
      go None e rest = edge_skip node n first (λ m d goes. let bad : None ≡ Some m = sym e ∙ d in cc) rest
      go (Some m) e rest = elim (or m) [
        | inl goes ↦ inl (first, m, record { from = omega arith; is = e; goes = goes; least = λ b j from less d has. omega arith })
        | inr none ↦ edge_skip node n first (λ j d goes. none (subst (λ z. GoesOn p z n) (same_Some j m (sym d ∙ e)) goes)) rest
      ]

  goes_or : (n node : ℕ) → GoesOr n node
  goes_or zero node = go (p.is_end node) refl
    where
      go : (b : Bool) → p.is_end node ≡ b → GoesOr zero node
      go true e = inl (record { word = []; long = refl; has = record { over = tt; end = node; is = refl; ends = e } })
      go false e = inr (λ h. let bad : false ≡ true = sym e ∙ end_here p node h in cc)
  goes_or (suc n) node = elim (edge_from p.letters node n 0 (goes_or n) (omega arith)) [
    | inl r ↦ inl (goes_as p node (n + 1) (suc n) (omega arith) (goes_behind p graph node r.0 r.1 n r.2.is r.2.goes))
    | inr without ↦ inr (λ h. without_ends p graph node n without (goes_as p node (suc n) (n + 1) (omega arith) h))
  ]

  edge_or : (node n first : ℕ) → EdgeOr node n first
  edge_or node n first = edge_from p.letters node n first (goes_or n) (omega arith)

  least_exists : (n node : ℕ) → GoesOn p node n → (v : Word) × IsLeastPath p node n v
  least_exists zero node goes = ([], least_nil p node (end_here p node goes))
  least_exists (suc n) node goes = elim (edge_or node n 0) [
    | inl r ↦
        let rest = least_exists n r.1 r.2.goes in
        (r.0 ∷ rest.0, least_is p graph node (n + 1) (suc n) (r.0 ∷ rest.0) (omega arith) (least_behind p graph node n r.0 r.1 rest.0 r.2 rest.1))
    | inr without ↦ absurd (without_ends p graph node n without (goes_as p node (suc n) (n + 1) (omega arith) goes))
  ]

  abbrev NextOfLengthOr : ℕ → Word → Type 0
  NextOfLengthOr node u = ((x : Word) × IsNextOfLength p node u x) ⊎ IsLastOfLength p node u

  -- a greater letter, where there is no word behind the same
  higher_or : (node a : ℕ) (t : Word) → ((m : ℕ) → target p.graph node a ≡ Some m → IsLastOfLength p m t) → NextOfLengthOr node (a ∷ t)
  higher_or node a t last = elim (edge_or node (length t) (a + 1)) [
    | inl r ↦
        let rest = least_exists (length t) r.1 r.2.goes in
        inl (r.0 ∷ rest.0, next_here p graph node a t r.0 r.1 rest.0 last r.2 rest.1)
    | inr without ↦ inr (last_here p graph node a t last without)
  ]

  longer_or : (u : Word) (node : ℕ) → NextOfLengthOr node u
  longer_or [] node = inr (last_nil p node)
  longer_or (a ∷ t) node = go (target p.graph node a) refl (λ m. longer_or t m)
    where
      go : (o : Option ℕ) → target p.graph node a ≡ o → ((m : ℕ) → NextOfLengthOr m t) → NextOfLengthOr node (a ∷ t)
      go None e behind = higher_or node a t (λ m d. let bad : None ≡ Some m = sym e ∙ d in absurd (let no : ⊥ = cc in no))
      go (Some m) e behind = elim (behind m) [
        | inl r ↦ inl (a ∷ r.0, next_behind p graph node a t m r.0 e r.1)
        | inr last ↦ higher_or node a t (λ j d. subst (λ z. IsLastOfLength p z t) (same_Some m j (sym e ∙ d)) last)
      ]

  module _ (root : ℕ) (far_or : (n : ℕ) → GoesFar p root n ⊎ (GoesFar p root n → ⊥)) where
    found : (cursor : Option Word) (n : ℕ) → IsPassed p root cursor n → GoesOn p root n → (x : Word) × IsNext (HasPath p root) ◌≺◌ cursor x
    found cursor n passed goes = let x = least_exists n root goes in (x.0, passed_next p root cursor n x.0 passed x.1)

    -- the next length, where a word of so many letters more is there
    longer : (left : ℕ) (cursor : Option Word) (w : Word) → HasPath p root w → (n : ℕ) → IsPassed p root cursor n → length w ≡ n + left
        → (x : Word) × IsNext (HasPath p root) ◌≺◌ cursor x
    longer zero cursor w has n passed size = found cursor n passed (goes_as p root (length w) n (omega arith) (goes_path p root w has))
    longer (suc left) cursor w has n passed size = elim (goes_or n root) [
      | inl goes ↦ found cursor n passed goes
      | inr none ↦ longer left cursor w has (n + 1) (passed_more p root cursor n passed none) (omega arith)
    ]

    passed_or : (cursor : Option Word) (n : ℕ) → IsPassed p root cursor n
        → IsLast (HasPath p root) ◌≺◌ cursor ⊎ ((u : Word) × IsNext (HasPath p root) ◌≺◌ cursor u)
    passed_or cursor n passed = elim (far_or n) [
      | inl far ↦ inr (longer (length far.word - n) cursor far.word far.has n passed (omega (arith, far.long)))
      | inr none ↦ inl (passed_last p root cursor n passed none)
    ]

    -- after each cursor a next word, or none
    pub next_or_last : GoesOnOrEnds (HasPath p root) ◌≺◌
    next_or_last None = passed_or None 0 (passed_start p root)
    next_or_last (Some u) = elim (longer_or u root) [
      | inl r ↦ inr (r.0, next_as_long p root u r.0 r.1)
      | inr last ↦ passed_or (Some u) (length u + 1) (passed_word p root u last)
    ]

-- The words of all paths: one letter more at a time.
module _ (k : ℕ) (g : Graph) where
  pub last_without : (u : Word) → IsLastOfLength (all_paths k g) 0 u → (GoesOn (all_paths k g) 0 (length u + 1) → ⊥)
      → IsLast (HasPath (all_paths k g) 0) ◌≺◌ (Some u)
  last_without u last ends =
      passed_last (all_paths k g) 0 (Some u) (length u + 1) (passed_word (all_paths k g) 0 u last)
      (λ far. ends (goes_shorter k g 0 (length far.word) (length u + 1) far.long (goes_path (all_paths k g) 0 far.word far.has)))

  pub next_longer : (u x : Word) → IsLastOfLength (all_paths k g) 0 u → IsLeastPath (all_paths k g) 0 (length u + 1) x
      → IsNext (HasPath (all_paths k g) 0) ◌≺◌ (Some u) x
  next_longer u x last least = passed_next (all_paths k g) 0 (Some u) (length u + 1) x (passed_word (all_paths k g) 0 u last) least

-- How many words over so many letters have a property, where after each cursor comes a next or none.
module _ (k : ℕ) (P : Word → Type 0) (over : (u : Word) → P u → IsOver k u) (or : GoesOnOrEnds P ◌≺◌) where
  -- words of every length
  module _ (long : (n : ℕ) → (u : Word) × P u × (n ≤ length u)) where
    further : (cursor : Option Word) → IsLast P ◌≺◌ cursor → ⊥
    further None last = let h = long 0 in last h.0 h.1 tt
    further (Some u) last = let h = long (length u + 1) in last h.0 h.1 (shorter_first u h.0 (omega (arith, h.2)))

    next_always : (cursor : Option Word) → (u : Word) × IsNext P ◌≺◌ cursor u
    next_always cursor = elim (or cursor) [ inl last ↦ absurd (further cursor last) | inr next ↦ next ]

    pub endless_infinite : AreInfinite P ◌≺◌
    endless_infinite n =
        let r = endless P ◌≺◌ (shortlex_strict P) next_always None (n + 1) in
        (r.0, r.1, omega (arith, r.2))

  -- a greatest length
  module _ (most : ℕ) (few_letters : (u : Word) → P u → length u ≤ most) where
    bound : ℕ
    bound = rank (suc k) (replicate (most + 1) 0)

    below_bound : (u : Word) → P u → rank (suc k) u < bound
    unfolding bound
    below_bound u h =
        rank_below (suc k) u (replicate (most + 1) 0) (over_more k (suc k) u (omega arith) (over u h)) (over_replicate (suc k) 0 (omega arith) (most + 1))
        (shorter_first u (replicate (most + 1) 0) (omega (arith, few_letters u h, length-replicate {A = ℕ} (most + 1) 0)))

    higher : (cursor x : Word) → P cursor → IsNext P ◌≺◌ (Some cursor) x → rank (suc k) cursor < rank (suc k) x
    higher cursor x h next =
        rank_below (suc k) cursor x (over_more k (suc k) cursor (omega arith) (over cursor h)) (over_more k (suc k) x (omega arith) (over x next.has)) next.after

    few_after : (cursor : Word) → P cursor → (xs : List Word) → IsStartOf P ◌≺◌ (Some cursor) xs
        → rank (suc k) cursor + length xs < bound
    few_after cursor h [] start = let less = below_bound cursor h in omega (arith, less)
    few_after cursor h (x ∷ xs) start =
        let rest = few_after x start.0.has xs start.1 in
        let more = higher cursor x h start.0 in
        omega (arith, rest, more)

    few : (xs : List Word) → IsStartOf P ◌≺◌ None xs → length xs ≤ bound
    few [] start = omega arith
    few (x ∷ xs) start = let rest = few_after x start.0.has xs start.1 in omega (arith, rest)

    pub ended_finite : AreInfinite P ◌≺◌ → ⊥
    ended_finite infinite = let r = infinite bound in let less = few r.0 r.1 in omega (arith, less, r.2)

    -- the words behind one, where at most so many places are left
    list_after : (left : ℕ) (cursor : Word) → P cursor → bound ≤ rank (suc k) cursor + left
        → (xs : List Word) × IsListOf P ◌≺◌ (Some cursor) xs
    list_after zero cursor h all = let less = below_bound cursor h in absurd (omega (arith, less))
    list_after (suc left) cursor h all = elim (or (Some cursor)) [
      | inl last ↦ ([], last)
      | inr next ↦
          let more = higher cursor next.0 h next.1 in
          let rest = list_after left next.0 next.1.has (omega (arith, more)) in
          (next.0 ∷ rest.0, (next.1, rest.1))
    ]

    pub list_of_all : AreFinite P ◌≺◌
    list_of_all = elim (or None) [
      | inl last ↦ ([], last)
      | inr next ↦ let rest = list_after bound next.0 next.1.has (omega arith) in (next.0 ∷ rest.0, (next.1, rest.1))
    ]

-- The automaton of rules.
module _ (a : Reading) (g : Graph) (reader : IsReader a.letters a.rules g) where
  reads : (u : Word) → HasPath (all_paths a.letters g) 0 u ↔ IsReducedWord a u
  reads u = (
    λ h. record { over = h.over; reduced = (reader.reads u h.over).0 h },
    λ h. (reader.reads u h.over).1 h.reduced,
  )

  pub next_reduced : (cursor next : Option Word) → MatchOption next (IsLast (HasPath (all_paths a.letters g) 0) ◌≺◌ cursor) (IsNext (HasPath (all_paths a.letters g) 0) ◌≺◌ cursor)
      → MatchOption next (IsLast (IsReducedWord a) ◌≺◌ cursor) (IsNext (IsReducedWord a) ◌≺◌ cursor)
  next_reduced = answer_same (HasPath (all_paths a.letters g) 0) (IsReducedWord a) ◌≺◌ reads

  module _ (depths : List (Option ℕ)) (is : AreDepths a.letters g depths) where
    -- a word of at least so many letters has a front of just so many
    far_allows : (n : ℕ) → GoesFar (all_paths a.letters g) 0 n → Allows (get_or depths 0 None) n
    far_allows n far =
        (is.depth 0 n reader.graph.rooted).0
        (goes_shorter a.letters g 0 (length far.word) n far.long (goes_path (all_paths a.letters g) 0 far.word far.has))

    allows_far : (n : ℕ) → Allows (get_or depths 0 None) n → GoesFar (all_paths a.letters g) 0 n
    allows_far n allows =
        let goes = (is.depth 0 n reader.graph.rooted).1 allows in
        record { word = goes.word; long = omega (arith, goes.long); has = goes.has }

    far_or : (n : ℕ) → GoesFar (all_paths a.letters g) 0 n ⊎ (GoesFar (all_paths a.letters g) 0 n → ⊥)
    far_or n = elim (allows_or (get_or depths 0 None) n) [
      | inl allows ↦ inl (allows_far n allows)
      | inr none ↦ inr (λ far. none (far_allows n far))
    ]

    pub goes_on : GoesOnOrEnds (IsReducedWord a) ◌≺◌
    goes_on cursor = elim (next_or_last (all_paths a.letters g) reader.graph 0 far_or cursor) [
      | inl last ↦ inl (last_same (HasPath (all_paths a.letters g) 0) (IsReducedWord a) ◌≺◌ reads cursor last)
      | inr next ↦ inr (next.0, next_same (HasPath (all_paths a.letters g) 0) (IsReducedWord a) ◌≺◌ reads cursor next.0 next.1)
    ]

    infinite_from : get_or depths 0 None ≡ None → AreInfinite (IsReducedWord a) ◌≺◌
    infinite_from e = endless_infinite a.letters (IsReducedWord a) (λ u h. h.over) goes_on long
      where
        long : (n : ℕ) → (u : Word) × IsReducedWord a u × (n ≤ length u)
        long n = let far = allows_far n (subst (λ (o : Option ℕ). Allows o n) (sym e) tt) in (far.word, (reads far.word).0 far.has, far.long)

    few_letters : (most : ℕ) → get_or depths 0 None ≡ Some most → (u : Word) → IsReducedWord a u → length u ≤ most
    few_letters most e u h =
        subst (λ (o : Option ℕ). Allows o (length u)) e
        (far_allows (length u) (record { word = u; long = omega arith; has = (reads u).1 h }))

    infinite_depth : AreInfinite (IsReducedWord a) ◌≺◌ → get_or depths 0 None ≡ None
    infinite_depth infinite = go (get_or depths 0 None) refl
      where
        go : (o : Option ℕ) → get_or depths 0 None ≡ o → o ≡ None
        go None e = refl
        go (Some most) e = absurd (ended_finite a.letters (IsReducedWord a) (λ u h. h.over) goes_on most (few_letters most e) infinite)

    finite_from : (get_or depths 0 None ≡ None → ⊥) → AreFinite (IsReducedWord a) ◌≺◌
    finite_from some = elim (option_cases (get_or depths 0 None)) [
      | inl none ↦ absurd (some none)
      | inr most ↦ list_of_all a.letters (IsReducedWord a) (λ u h. h.over) goes_on most.0 (few_letters most.0 most.1)
    ]

    -- a test of the depth of the root, as the code reads it
    module _ (depth : Option ℕ) (at : depth ≡ get_or depths 0 depth) (answer : Bool) (tested : is_some depth ≡ not answer) where
      test : (answer ≡ true) ↔ (get_or depths 0 None ≡ None)
      test = none_test (get_or depths 0 None) answer
          (ap is_some (sym (get_or_read depths 0 depth (omega (arith, is.count, reader.graph.rooted)) at None)) ∙ tested)

      pub infinite_tested : (answer ≡ true) ↔ AreInfinite (IsReducedWord a) ◌≺◌
      infinite_tested = (λ t. infinite_from (test.0 t), λ infinite. test.1 (infinite_depth infinite))

      pub finite_tested : answer ≡ false → AreFinite (IsReducedWord a) ◌≺◌
      finite_tested f = finite_from (λ none. let bad : false ≡ true = sym f ∙ test.1 none in cc)

  -- a path there, or none
  pub reduced_is : (u : Word) → IsOver a.letters u → (there : Bool) → there ≡ is_some (path g 0 u) → (there ≡ true) ↔ IsReduced (Listed a.rules) u
  reduced_is u over there e = (
    λ t. let end = some_is (path g 0 u) (sym e ∙ t) in (reader.reads u over).0 (record { over = over; end = end.0; is = end.1; ends = refl }),
    λ reduced. let h = (reader.reads u over).1 reduced in e ∙ ap is_some h.is,
  )
    where
      some_is : (o : Option ℕ) → is_some o ≡ true → (x : ℕ) × (o ≡ Some x)
      some_is None t = cc
      some_is (Some x) t = (x, refl)
