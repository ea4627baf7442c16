-- The tree of the states as it grows.
use Rattle.std.proofs.Common.{◌≡◌, ℕ, zero, suc, ◌+◌, ◌-◌, ◌<◌, ◌≤◌, List, [], ◌∷◌, ◌++◌, length, min, take, drop, get_or, replicate, refl, sym, ◌∙◌, ap, subst, subst₂, arith, inl, inr, Option, Some, None, Contains, length-append, length-take, below_more}
use Rattle.std.proofs.lemmas.Bool.{cases_lt}
use Rattle.std.proofs.lemmas.List.{get_or_append_left, get_or_past, get_or_push, get_or-map, get_or-replicate, same_from_push, take-append-drop, take_all, take_more, length-map, map-append}
use Rattle.std.proofs.lemmas.List.Elements.{Contains-append_left, Contains-push_cases}
use Rattle.theory.specs.Word.{Word, IsOver}
use Rattle.theory.specs.Graph.{Graph, target}
use Rattle.cells.specs.Rows.{AreRows, IsPut, with_entry, with_node}
use Rattle.cells.proofs.EntryLaws.{put_cases, rows_bare, rows_entry, rows_node, rows_past, rows_put, target_bare, target_node}
use Rattle.rewriting.specs.Rules.{AreFalling, AreOver}
use Rattle.rewriting.specs.States.{ArePrefixes, HavePrefixes}
use Rattle.rewriting.specs.Tries.{AreReadTo, FindsChild, HasGrown, left_at, state_of, states_of, tree_of, words_of, longer, IsChild, IsLeft, IsLevelTree, IsReadTo, IsRuleTree, IsStateWord, IsTrie, IsMarked, IsThere, IsNew, Tree}
use Rattle.theory.proofs.Words.{over_left}
use Rattle.rewriting.proofs.StateLists.{contains_at}
use Rattle.rewriting.proofs.Standing.{filled, rule_read}
use Rattle.rewriting.specs.declared.tries.Prefix.{Prefix}
use Rattle.rewriting.specs.declared.tries.Trie.{Trie}

pub letter_below : (k : ℕ) (u : Word) (i d : ℕ) → IsOver k u → i < length u → get_or u i d < k
letter_below k [] i d over h = absurd (omega (arith, h))
letter_below k (a ∷ u) zero d over h = over.0
letter_below k (a ∷ u) (suc i) d over h = letter_below k u i d over.1 (omega (arith, h))

pub words_count : (rules : List (Word × Word)) (prefixes : List Prefix) → length (words_of rules prefixes) ≡ length prefixes
words_count rules prefixes = length-map prefixes (state_of rules)

module _ (rules : List (Word × Word)) (t : Tree) (is : IsTrie rules t) where
  -- a state and letter stand for one word
  pub longer_one : (n m a b : ℕ) → n < length t.states → m < length t.states → longer t.states n a ≡ longer t.states m b → (n ≡ m) × (a ≡ b)
  longer_one n m a b hn hm e =
      let both = same_from_push (get_or t.states n []) (get_or t.states m []) a b e in
      (is.distinct n m hn hm both.0, both.1)

  module _ (node letter : ℕ) (inside : node < length t.states) (less : letter < t.letters) (missing : target t.children node letter ≡ None) where
    abbrev w : Word
    w = longer t.states node letter

    -- the tree with the new state
    abbrev pub grown_by : Tree
    grown_by = record {
      letters = t.letters;
      states = t.states ++ w ∷ [];
      children = with_entry (with_node t.letters t.children) node letter (Some (length t.states));
      lefts = with_node t.letters t.lefts;
    }

    not_there : Contains t.states w → ⊥
    not_there = subst (λ c. IsChild t.states w c) missing (is.child node letter inside less)

    size : length grown_by.states ≡ length t.states + 1
    size = length-append t.states (w ∷ [])

    more_rows : (g : Graph) → AreRows (length t.states) t.letters g → AreRows (length grown_by.states) t.letters (with_node t.letters g)
    more_rows g rows = subst (λ n. AreRows n t.letters (with_node t.letters g)) (sym size) (rows_node (length t.states) t.letters g rows)

    old_word : (n : ℕ) → n < length t.states → get_or grown_by.states n [] ≡ get_or t.states n []
    old_word n h = get_or_append_left t.states (w ∷ []) [] n h

    last_word : (n : ℕ) → n ≡ length t.states → get_or grown_by.states n [] ≡ w
    last_word n h = get_or_push t.states w [] n (sym h)

    pub trie_new : ArePrefixes grown_by.states → IsStateWord rules w → IsTrie rules grown_by
    trie_new prefixes stands = record {
      prefixes = prefixes;
      distinct = distinct;
      only = λ n h. elim (cases_lt n (length t.states)) [
        | inl l ↦ subst (λ u. IsStateWord rules u) (sym (old_word n l)) (is.only n l)
        | inr m ↦ subst (λ u. IsStateWord rules u) (sym (last_word n (omega (arith, m, h, size)))) stands
      ];
      child_rows = rows_put (length grown_by.states) t.letters (with_node t.letters t.children) (more_rows t.children is.child_rows) node letter (Some (length t.states)) (omega (arith, inside, size));
      left_rows = more_rows t.lefts is.left_rows;
      child = child;
      left = left;
    }
      where
        row : IsPut (with_node t.letters t.children) grown_by.children node letter (Some (length t.states))
        row = rows_entry (length grown_by.states) t.letters (with_node t.letters t.children) (more_rows t.children is.child_rows) node letter (Some (length t.states)) (omega (arith, inside, size)) less

        apart : (i j : ℕ) → i < length t.states → j ≡ length t.states → get_or grown_by.states i [] ≡ get_or grown_by.states j [] → ⊥
        apart i j hi hj e = not_there (contains_at t.states w i hi (sym (old_word i hi) ∙ e ∙ last_word j hj))

        distinct : (i j : ℕ) → i < length grown_by.states → j < length grown_by.states → get_or grown_by.states i [] ≡ get_or grown_by.states j [] → i ≡ j
        distinct i j hi hj e = elim (cases_lt i (length t.states)) [
          | inl li ↦ elim (cases_lt j (length t.states)) [
            | inl lj ↦ is.distinct i j li lj (sym (old_word i li) ∙ e ∙ old_word j lj)
            | inr mj ↦ absurd (apart i j li (omega (arith, mj, hj, size)) e)
          ]
          | inr mi ↦ elim (cases_lt j (length t.states)) [
            | inl lj ↦ absurd (apart j i lj (omega (arith, mi, hi, size)) (sym e))
            | inr mj ↦ omega (arith, mi, hi, mj, hj, size)
          ]
        ]

        kept : (n a : ℕ) → n < length t.states → ((n ≡ node) × (a ≡ letter) → ⊥) → (to : Option ℕ) → IsChild t.states (longer t.states n a) to → IsChild grown_by.states (longer t.states n a) to
        kept n a hn d None h = λ has. elim (Contains-push_cases t.states w (longer t.states n a) has) [
          | inl old ↦ h old
          | inr e ↦ let both = longer_one node n letter a inside hn e in d (sym both.0, sym both.1)
        ]
        kept n a hn d (Some m) h = (omega (arith, size, h.0), old_word m h.0 ∙ h.1)

        old_child : (n a : ℕ) → n < length t.states → a < t.letters → IsChild grown_by.states (longer t.states n a) (target grown_by.children n a)
        old_child = put_cases (λ n a to. n < length t.states → a < t.letters → IsChild grown_by.states (longer t.states n a) to) (with_node t.letters t.children) _ node letter (Some (length t.states)) row
            (λ hn ha. (omega (arith, size), last_word (length t.states) refl))
            (λ n a d hn ha. subst (λ to. IsChild grown_by.states (longer t.states n a) to) (sym (target_node t.letters t.children n a)) (kept n a hn d (target t.children n a) (is.child n a hn ha)))

        childless : (a : ℕ) → Contains grown_by.states (w ++ a ∷ []) → ⊥
        childless a h = elim (Contains-push_cases t.states w (w ++ a ∷ []) h) [
          | inl old ↦ not_there (is.prefixes.closed w a old)
          | inr e ↦ omega (arith, ap length e, length-append w (a ∷ []))
        ]

        -- the new row has no entry
        none : (g : Graph) (n a : ℕ) → AreRows (length t.states) t.letters g → length t.states ≤ n → target (with_node t.letters g) n a ≡ None
        none g n a rows m = target_node t.letters g n a ∙ rows_past (length t.states) t.letters g rows n a m

        child : (n a : ℕ) → n < length grown_by.states → a < t.letters → IsChild grown_by.states (longer grown_by.states n a) (target grown_by.children n a)
        child n a hn ha = elim (cases_lt n (length t.states)) [
          | inl l ↦ subst (λ u. IsChild grown_by.states u (target grown_by.children n a)) (ap (λ u. u ++ a ∷ []) (sym (old_word n l))) (old_child n a l ha)
          | inr m ↦
              subst₂ (λ u to. IsChild grown_by.states u to) (ap (λ u. u ++ a ∷ []) (sym (last_word n (omega (arith, m, hn, size)))))
              (sym (row.other n a (λ both. omega (arith, m, inside, both.0)) ∙ none t.children n a is.child_rows m)) (childless a)
        ]

        left : (n a : ℕ) → n < length grown_by.states → a < t.letters → IsLeft rules (longer grown_by.states n a) (target grown_by.lefts n a)
        left n a hn ha = elim (cases_lt n (length t.states)) [
          | inl l ↦ subst₂ (λ u to. IsLeft rules u to) (ap (λ u. u ++ a ∷ []) (sym (old_word n l))) (sym (target_node t.letters t.lefts n a)) (is.left n a l ha)
          | inr m ↦ subst (λ to. IsLeft rules (longer grown_by.states n a) to) (sym (none t.lefts n a is.left_rows m)) tt
        ]

    pub marked_new : (left : Word) → IsMarked t left → IsMarked grown_by left
    marked_new left m = record {
      node = m.node;
      letter = m.letter;
      number = m.number;
      node_within = omega (arith, m.node_within, size);
      letter_within = m.letter_within;
      is = m.is ∙ ap (λ u. u ++ m.letter ∷ []) (sym (old_word m.node m.node_within));
      marked = target_node t.letters t.lefts m.node m.letter ∙ m.marked;
    }

-- trees with the same parts
same_tree : (k l : ℕ) (us vs : List Word) (cs ds ls ms : Graph) → k ≡ l → us ≡ vs → cs ≡ ds → ls ≡ ms
    → ◌≡◌ {A = Tree} (record { letters = k; states = us; children = cs; lefts = ls }) (record { letters = l; states = vs; children = ds; lefts = ms })
same_tree k l us vs cs ds ls ms a b c d = rw (a, b, c, d) refl

-- a word stands at the end of a list whose other words hold what it goes on from
prefixes_put : (states : List Word) (p : Word) (a : ℕ) → ArePrefixes states → Contains states p → ArePrefixes (states ++ (p ++ a ∷ []) ∷ [])
prefixes_put states p a is there = record {
  some = omega (arith, is.some, length-append states ((p ++ a ∷ []) ∷ []));
  root = get_or_append_left states ((p ++ a ∷ []) ∷ []) [] 0 is.some ∙ is.root;
  closed = λ q b h. Contains-append_left states ((p ++ a ∷ []) ∷ []) q (elim (Contains-push_cases states (p ++ a ∷ []) (q ++ b ∷ []) h) [
    | inl old ↦ is.closed q b old
    | inr e ↦ subst (λ (w : Word). Contains states w) (same_from_push p q a b e).0 there
  ]);
}

-- with a word its prefixes are there
fronts_there : (states : List Word) → ArePrefixes states → (u : Word) (more count : ℕ) → count + more ≤ length u → Contains states (take (count + more) u) → Contains states (take count u)
fronts_there states is u zero count h has = subst (λ n. Contains states (take n u)) (omega arith) has
fronts_there states is u (suc more) count h has =
    fronts_there states is u more count (omega (arith, h))
    (is.closed (take (count + more) u) (get_or u (count + more) 0)
    (subst (λ (w : Word). Contains states w) (ap (λ n. take n u) (omega arith) ∙ take_more u (count + more) 0 (omega (arith, h))) has))

-- the bound of a tree by levels
pub level_more : (rules : List (Word × Word)) (most : ℕ) (t : Tree) → IsLevelTree rules most t → IsLevelTree rules (most + 1) t
level_more rules most t is = record { trie = is.trie; rises = is.rises; few = λ n h. let few = is.few n h in omega (arith, few) }

pub grown_none : (t : Tree) → HasGrown t t
grown_none t = record { letters = refl; states = λ n h. (h, refl); marked = λ u m. m }

pub grown_both : (old mid new : Tree) → HasGrown old mid → HasGrown mid new → HasGrown old new
grown_both old mid new f g = record {
  letters = g.letters ∙ f.letters;
  states = λ n h. let was = f.states n h in let is = g.states n was.0 in (is.0, is.1 ∙ was.1);
  marked = λ u m. g.marked u (f.marked u m);
}

-- what was read stays so
pub read_kept : (old new : Tree) (left : Word) (count node : ℕ) → HasGrown old new → IsReadTo old left count node → IsReadTo new left count node
read_kept old new left count node grown read =
    let now = grown.states node read.within in
    record { within = now.0; is = now.1 ∙ read.is; marked = λ h. grown.marked left (read.marked h) }

-- one letter more of a left side
module _ (rules : List (Word × Word)) (rule count node : ℕ) (was : Trie) (tree : IsLevelTree rules (count + 1) (tree_of rules was)) (inside : rule < length rules)
    (read : IsReadTo (tree_of rules was) (left_at rules rule) count node) where
  abbrev t : Tree
  t = tree_of rules was

  abbrev left : Word
  left = left_at rules rule

  -- it has no more
  pub read_past : length left ≤ count → IsReadTo t left (count + 1) node
  read_past short = record { within = read.within; is = read.is ∙ ap (λ n. take n left) (omega (arith, short)); marked = λ _. read.marked short }

  module _ (letter : ℕ) (below : letter < was.letters) (long : count < length left) (next : take (count + 1) left ≡ take count left ++ letter ∷ []) where
    node_is : get_or t.states node [] ≡ take count left
    node_is = read.is ∙ ap (λ n. take n left) (omega (arith, long))

    word_is : longer t.states node letter ≡ take (count + 1) left
    word_is = ap (λ (u : Word). u ++ letter ∷ []) node_is ∙ sym next

    -- the tree with the mark of the last letter
    module _ (last : length left ≡ count + 1) where
      abbrev pub marked_by : Tree
      marked_by = record {
        letters = t.letters;
        states = t.states;
        children = t.children;
        lefts = with_entry t.lefts node letter (Some rule);
      }

      row : IsPut t.lefts marked_by.lefts node letter (Some rule)
      row = rows_entry (length t.states) t.letters t.lefts tree.trie.left_rows node letter (Some rule) read.within below

      word : left ≡ longer t.states node letter
      word = sym (take_all (count + 1) left (omega (arith, last))) ∙ sym word_is

      kept : (u : Word) → IsMarked t u → IsMarked marked_by u
      kept u m =
          let mark = put_cases (λ n a to. target t.lefts n a ≡ Some m.number → (q : ℕ) × (to ≡ Some q)) t.lefts _ node letter (Some rule) row (λ e. (rule, refl)) (λ n a d e. (m.number, e)) m.node m.letter m.marked in
          record { node = m.node; letter = m.letter; number = mark.0; node_within = m.node_within; letter_within = m.letter_within; is = m.is; marked = mark.1 }

      pub marked_tree : IsLevelTree rules (count + 1) marked_by
      marked_tree = record {
        trie = record {
          prefixes = tree.trie.prefixes;
          distinct = tree.trie.distinct;
          only = tree.trie.only;
          child_rows = tree.trie.child_rows;
          left_rows = rows_put (length t.states) t.letters t.lefts tree.trie.left_rows node letter (Some rule) read.within;
          child = tree.trie.child;
          left = put_cases (λ n a to. n < length t.states → a < t.letters → IsLeft rules (longer t.states n a) to) t.lefts _ node letter (Some rule) row (λ hn ha. (inside, word)) (λ n a d. tree.trie.left n a);
        };
        rises = tree.rises;
        few = tree.few;
      }

      pub marked_grown : HasGrown t marked_by
      marked_grown = record { letters = refl; states = λ n h. (h, refl); marked = kept }

      pub marked_read : IsReadTo marked_by left (count + 1) node
      marked_read = record {
        within = read.within;
        is = read.is ∙ ap (λ n. take n left) (omega (arith, last));
        marked = λ _. record { node = node; letter = letter; number = rule; node_within = read.within; letter_within = below; is = word; marked = row.put };
      }

    -- the tree in which the letter leads on
    module _ (now : Trie) (to : ℕ) (room : count + 1 < length left) where
      -- what is shown of it
      pub record LeadsOn : Type 0 where
        pub level : IsLevelTree rules (count + 1) (tree_of rules now)
        pub grown : HasGrown t (tree_of rules now)
        pub reads : IsReadTo (tree_of rules now) left (count + 1) to

      read_at : (new : Tree) → to < length new.states → get_or new.states to [] ≡ take (count + 1) left → IsReadTo new left (count + 1) to
      read_at new within is = record { within = within; is = is ∙ ap (λ n. take n left) (omega (arith, room)); marked = λ h. absurd (omega (arith, h, room)) }

      child_there : IsThere node letter was now to → (to < length t.states) × (get_or t.states to [] ≡ longer t.states node letter)
      child_there h = subst (λ c. IsChild t.states (longer t.states node letter) c) h.found (tree.trie.child node letter read.within below)

      there : IsThere node letter was now to → LeadsOn
      there h = record {
        level = subst (λ (n : Trie). IsLevelTree rules (count + 1) (tree_of rules n)) (sym h.same) tree;
        grown = subst (λ (n : Trie). HasGrown t (tree_of rules n)) (sym h.same) (grown_none t);
        reads = subst (λ (n : Trie). IsReadTo (tree_of rules n) left (count + 1) to) (sym h.same) (read_at t (child_there h).0 ((child_there h).1 ∙ word_is));
      }

      module _ (h : IsNew node letter (record { rule = rule; count = count + 1 }) was now to) where
        abbrev made : Tree
        made = grown_by rules t tree.trie node letter read.within below h.missing

        number_is : to ≡ length t.states
        number_is = h.number ∙ tree.trie.child_rows.count

        made_is : tree_of rules now ≡ made
        made_is = same_tree now.letters was.letters (states_of rules now) made.states now.children made.children now.lefts made.lefts
            h.letters (ap (words_of rules) h.prefixes ∙ map-append (state_of rules) was.prefixes.items (record { rule = rule; count = count + 1 } ∷ []) ∙ ap (λ (w : Word). t.states ++ w ∷ []) (sym word_is))
            (h.children ∙ ap (λ z. with_entry (with_node was.letters was.children) node letter (Some z)) number_is) h.lefts

        made_size : length made.states ≡ length t.states + 1
        made_size = length-append t.states (longer t.states node letter ∷ [])

        made_word : (n : ℕ) → n < length t.states → get_or made.states n [] ≡ get_or t.states n []
        made_word n h = get_or_append_left t.states (longer t.states node letter ∷ []) [] n h

        made_last : get_or made.states (length t.states) [] ≡ take (count + 1) left
        made_last = get_or_push t.states (longer t.states node letter) [] (length t.states) refl ∙ word_is

        last_size : length (get_or made.states (length t.states) []) ≡ count + 1
        last_size = ap length made_last ∙ length-take (count + 1) left ∙ omega (arith, room)

        few : (n : ℕ) → n < length made.states → length (get_or made.states n []) ≤ count + 1
        few n hn = elim (cases_lt n (length t.states)) [
          | inl l ↦ subst (λ (u : Word). length u ≤ count + 1) (sym (made_word n l)) (tree.few n l)
          | inr m ↦ let e : n ≡ length t.states = omega (arith, m, hn, made_size) in subst (λ z. length (get_or made.states z []) ≤ count + 1) (sym e) (omega (arith, last_size))
        ]

        rises : (i j : ℕ) → i ≤ j → j < length made.states → length (get_or made.states i []) ≤ length (get_or made.states j [])
        rises i j h hj = elim (cases_lt j (length t.states)) [
          | inl l ↦ subst₂ (λ (u v : Word). length u ≤ length v) (sym (made_word i (omega (arith, h, l)))) (sym (made_word j l)) (tree.rises i j h l)
          | inr m ↦
              let e : j ≡ length t.states = omega (arith, m, hj, made_size) in
              let bound = few i (omega (arith, h, hj)) in
              subst (λ z. length (get_or made.states i []) ≤ length (get_or made.states z [])) (sym e) (omega (arith, bound, last_size))
        ]

        new : LeadsOn
        new = record {
          level = subst (λ (n : Tree). IsLevelTree rules (count + 1) n) (sym made_is) (record {
            trie = trie_new rules t tree.trie node letter read.within below h.missing
                (prefixes_put t.states (get_or t.states node []) letter tree.trie.prefixes (contains_at t.states (get_or t.states node []) node read.within refl))
                (inr (record { number = rule; count = count + 1; within = inside; proper = room; is = word_is }));
            rises = rises;
            few = few;
          });
          grown = subst (λ (n : Tree). HasGrown t n) (sym made_is) (record {
            letters = refl;
            states = λ n h. (omega (arith, h, made_size), made_word n h);
            marked = λ u m. marked_new rules t tree.trie node letter read.within below h.missing u m;
          });
          reads = subst (λ (n : Tree). IsReadTo n left (count + 1) to) (sym made_is)
              (read_at made (omega (arith, number_is, made_size)) (ap (λ z. get_or made.states z []) number_is ∙ made_last));
        }

      pub read_step : FindsChild node letter (record { rule = rule; count = count + 1 }) was now to → LeadsOn
      read_step (inl h) = there h
      read_step (inr h) = new h

-- a level with one left side more
pub read_more : (rules : List (Word × Word)) (rule count node : ℕ) (next : List ℕ) (old new : Tree) → length next ≡ rule → HasGrown old new → AreReadTo rules rule count next old
    → IsReadTo new (left_at rules rule) count node → AreReadTo rules (rule + 1) count (next ++ node ∷ []) new
read_more rules rule count node next old new size grown are read =
    below_more (λ n. n < length rules → IsReadTo new (left_at rules n) count (get_or (next ++ node ∷ []) n 0)) rule
    (λ n h inside. subst (λ z. IsReadTo new (left_at rules n) count z) (sym (get_or_append_left next (node ∷ []) 0 n (omega (arith, h, size)))) (read_kept old new (left_at rules n) count _ grown (are n h inside)))
    (λ inside. subst (λ z. IsReadTo new (left_at rules rule) count z) (sym (get_or_push next node 0 rule size)) read)

-- when all letters have been read
pub rule_tree : (rules : List (Word × Word)) (most : ℕ) (nodes : List ℕ) (t : Tree) → ((n : ℕ) → length (left_at rules n) ≤ most) → IsLevelTree rules most t
    → AreReadTo rules (length rules) most nodes t → IsRuleTree rules t
rule_tree rules most nodes t long is are = record {
  trie = is.trie;
  are = record { prefixes = is.trie.prefixes; lefts = there };
  marked = λ n h. (are n h h).marked (long n);
  rises = is.rises;
}
  where
    there : (n : ℕ) → n < length rules → HavePrefixes t.states (left_at rules n) (length (left_at rules n))
    there n inside c less =
        let read = are n inside inside in
        let few = long n in
        let size : min most (length (left_at rules n) - 1) ≡ c + (length (left_at rules n) - 1 - c) = omega (arith, few, less) in
        let front : get_or t.states (get_or nodes n 0) [] ≡ take (c + (length (left_at rules n) - 1 - c)) (left_at rules n) = read.is ∙ ap (λ z. take z (left_at rules n)) size in
        fronts_there t.states is.trie.prefixes (left_at rules n) (length (left_at rules n) - 1 - c) c (omega (arith, less)) (contains_at t.states _ (get_or nodes n 0) read.within front)

-- the letters of a state are those of a left side
pub state_over : (k : ℕ) (rules : List (Word × Word)) (prefixes : List Prefix) → AreOver k rules → (n : ℕ) → IsOver k (get_or (words_of rules prefixes) n [])
state_over k rules prefixes over n = elim (cases_lt n (length prefixes)) [
  | inl l ↦
      let p = get_or prefixes n (record { rule = 0; count = 0 }) in
      let at : get_or (words_of rules prefixes) n [] ≡ take p.count (left_at rules p.rule) = get_or-map (state_of rules) prefixes n (record { rule = 0; count = 0 }) [] l in
      subst (λ u. IsOver k u) (sym at) (over_left k (take p.count (left_at rules p.rule)) (drop p.count (left_at rules p.rule)) (subst (λ u. IsOver k u) (sym (take-append-drop p.count (left_at rules p.rule))) (left_over p.rule)))
  | inr m ↦ subst (λ u. IsOver k u) (sym (get_or_past (words_of rules prefixes) n [] (omega (arith, m, words_count rules prefixes)))) tt
]
  where
    left_over : (i : ℕ) → IsOver k (left_at rules i)
    left_over i = elim (cases_lt i (length rules)) [
      | inl l ↦ (over i ([], []) l).0
      | inr m ↦ subst (λ (r : Word × Word). IsOver k r.0) (sym (get_or_past rules i ([], []) m)) tt
    ]

-- the empty word alone
abbrev pub root_tree : ℕ → Tree
root_tree k = record {
  letters = k;
  states = [] ∷ [];
  children = replicate k None ∷ [];
  lefts = replicate k None ∷ [];
}

pub root_level : (k : ℕ) (rules : List (Word × Word)) → IsLevelTree rules 0 (root_tree k)
root_level k rules = record {
  trie = record {
    prefixes = record { some = omega arith; root = refl; closed = λ p a h. absurd (no_longer p a h) };
    distinct = λ i j hi hj e. omega (arith, hi, hj);
    only = λ n h. inl (let e : n ≡ 0 = omega (arith, h) in ap (λ (i : ℕ). get_or {A = Word} ([] ∷ []) i []) e);
    child_rows = rows_bare 1 k;
    left_rows = rows_bare 1 k;
    child = λ n a hn ha. subst (λ t. IsChild ([] ∷ []) (longer ([] ∷ []) n a) t) (sym (target_bare 1 k n a)) (no_longer (get_or ([] ∷ []) n []) a);
    left = λ n a hn ha. subst (λ t. IsLeft rules (longer ([] ∷ []) n a) t) (sym (target_bare 1 k n a)) tt;
  };
  rises = λ i j h hj. omega (arith, size i (omega (arith, h, hj)));
  few = λ n h. omega (arith, size n h);
}
  where
    no_longer : (p : Word) (a : ℕ) → Contains ([] ∷ []) (p ++ a ∷ []) → ⊥
    no_longer p a h =
        let z : h.0 ≡ 0 = let l = h.1 in omega (arith, l) in
        let e : [] ≡ p ++ a ∷ [] = ap (λ n. get_or ([] ∷ []) n (p ++ a ∷ [])) (sym z) ∙ h.2 in
        omega (arith, ap length e, length-append p (a ∷ []))

    size : (n : ℕ) → n < 1 → length (get_or {A = Word} ([] ∷ []) n []) ≡ 0
    size n h = let e : n ≡ 0 = omega (arith, h) in ap (λ (i : ℕ). length (get_or {A = Word} ([] ∷ []) i [])) e

-- before its first letter a left side has led to the root
pub root_read : (k : ℕ) (rules : List (Word × Word)) → AreFalling rules → (number : ℕ) → AreReadTo rules number 0 (replicate number 0) (root_tree k)
root_read k rules falling number n h inside =
    subst (λ z. IsReadTo (root_tree k) (left_at rules n) 0 z) (sym (get_or-replicate number n 0 0 h))
    (record { within = omega arith; is = none; marked = λ short. absurd (omega (arith, short, filled (left_at rules n) (get_or rules n ([], [])).1 (falling n ([], []) inside))) })
  where
    none : [] ≡ take (min 0 (length (left_at rules n) - 1)) (left_at rules n)
    none = let zero : 0 ≡ min 0 (length (left_at rules n) - 1) = omega arith in ap (λ z. take z (left_at rules n)) zero

-- the left side of a rule, as the code reads it
module _ (rules : List (Word × Word)) {number : ℕ} {rule : Word × Word} {letters : Word} (inside : number < length rules) (read : rule ≡ get_or rules number rule) (is : letters ≡ rule.0) where
  pub left_read : letters ≡ left_at rules number
  left_read = is ∙ ap (λ (p : Word × Word). p.0) (rule_read rules rules number rule refl inside read)

  -- it has a letter
  pub left_filled : AreFalling rules → 0 < length letters
  left_filled falling =
      subst (λ u. 0 < length u) (sym left_read)
      (filled (left_at rules number) (get_or rules number ([], [])).1 (falling number ([], []) inside))

  -- and its letters are below their number
  pub left_below : (k i a : ℕ) → AreOver k rules → i < length letters → a ≡ get_or letters i a → a < k
  left_below k i a over h e =
      subst (λ z. z < k) (sym e) (letter_below k letters i a (subst (λ u. IsOver k u) (sym left_read) (over number ([], []) inside).0) h)

  pub left_more : (i a : ℕ) → i < length letters → a ≡ get_or letters i a → take (i + 1) (left_at rules number) ≡ take i (left_at rules number) ++ a ∷ []
  left_more i a h e = subst (λ u. take (i + 1) u ≡ take i u ++ a ∷ []) left_read (take_more letters i a h ∙ ap (λ z. take i letters ++ z ∷ []) (sym e))
