-- The tables of the automaton, an entry after another.
use Rattle.std.proofs.Common.{◌≡◌, ℕ, ◌+◌, ◌<◌, ◌≤◌, List, [], ◌∷◌, ◌++◌, length, drop, get_or, set, replicate, refl, sym, ◌∙◌, ap, ap₂, subst, subst₂, arith, ◌⊎◌, inl, inr, Option, Some, None, Contains, length-append, length-set, length-drop, unwrap_or}
use Rattle.std.proofs.lemmas.Bool.{cases_eq, cases_lt}
use Rattle.std.proofs.lemmas.List.{get_or_default, get_or-set_same, get_or-set_other, get_or-replicate, length-replicate, nil_from_length}
use Rattle.std.specs.Option.{ForSome, option_or}
use Rattle.theory.specs.Word.{Word, IsOver}
use Rattle.theory.specs.Graph.{target}
use Rattle.cells.specs.Rows.{IsPut, with_entry}
use Rattle.cells.proofs.EntryLaws.{put_cases, rows_bare, rows_entry, rows_put, target_bare}
use Rattle.theory.proofs.Words.{over_right}
use Rattle.theory.proofs.FactsLaws.{last_letter}
use Rattle.rewriting.specs.Rules.{AreFalling}
use Rattle.rewriting.specs.States.{IsLongest}
use Rattle.rewriting.specs.Tries.{left_at, longer, Filling, IsChild, IsFilled, IsLeft, IsRuleTree, IsEnd, Reads, ComesBefore, IsLinkedTo, IsBehind, Tree, linked, state_at}
use Rattle.rewriting.proofs.Standing.{listed_at}
use Rattle.rewriting.proofs.StateLists.{contains_at, item_at}
use Rattle.rewriting.proofs.StateLaws.{empty_reduced, end_kept, end_reduces, ends_more, longest_more, empty_longest}
use Rattle.rewriting.proofs.TrieLaws.{longer_one}

-- a word in front of its last letters
front_dropped : (u : Word) → 0 < length u → (a : ℕ) × (u ≡ a ∷ drop 1 u)
front_dropped [] h = absurd (omega (arith, h))
front_dropped (a ∷ u) h = (a, refl)

drop_longer : (u : Word) (a : ℕ) → 0 < length u → drop 1 (u ++ a ∷ []) ≡ drop 1 u ++ a ∷ []
drop_longer [] a h = absurd (omega (arith, h))
drop_longer (b ∷ u) a h = refl

-- the first number, or the second, where both are few
pub first_few : (most : ℕ) (first second : Option ℕ) → ForSome first (λ n. n < most) → ForSome second (λ n. n < most) → ForSome (option_or first second) (λ n. n < most)
first_few most None second f s = s
first_few most (Some number) second f s = f

module _ {rules : List (Word × Word)} (falling : AreFalling rules) {t : Tree} (is : IsRuleTree rules t)
    (over : (n : ℕ) → IsOver t.letters (get_or t.states n [])) where
  -- a child is the state that it makes
  child_is : (m a n : ℕ) → m < length t.states → a < t.letters → n < length t.states → longer t.states m a ≡ get_or t.states n [] → target t.children m a ≡ Some n
  child_is m a n hm ha hn word = go (target t.children m a) refl (is.trie.child m a hm ha)
    where
      go : (to : Option ℕ) → target t.children m a ≡ to → IsChild t.states (longer t.states m a) to → target t.children m a ≡ Some n
      go None e c = absurd (c (contains_at t.states (longer t.states m a) n hn (sym word)))
      go (Some x) e c = e ∙ ap (λ z. Some z) (is.trie.distinct x n c.0 hn (c.1 ∙ word))

  -- a shorter state comes earlier
  earlier : (node n : ℕ) → n < length t.states → node < length t.states → length (get_or t.states n []) < length (get_or t.states node []) → n < node
  earlier node n h inside less = elim (cases_lt n node) [
    | inl l ↦ l
    | inr m ↦ absurd (let up = is.rises node n m h in omega (arith, up, less))
  ]

  module _ {node letter : ℕ} (node_in : node < length t.states) (below : letter < t.letters) {f : Filling}
      (before : IsLinkedTo rules t node letter f) where
    abbrev word : Word
    word = longer t.states node letter

    abbrev behind : Word
    behind = drop 1 word

    size : length word ≡ length (get_or t.states node []) + 1
    size = length-append (get_or t.states node []) (letter ∷ [])

    -- the link of the state, which is not the root
    link_is : 0 < length (get_or t.states node [])
        → IsLongest t.states (drop 1 (get_or t.states node [])) (get_or f.links node 0)
    link_is some = elim (last_letter (get_or t.states node [])) [
      | inl e ↦ absurd (omega (arith, ap length e, some))
      | inr l ↦
          let there = is.trie.prefixes.closed l.0 l.1 (node, node_in, get_or_default t.states node (l.0 ++ l.1 ∷ []) [] node_in ∙ l.2) in
          let parent : get_or t.states there.0 [] ≡ l.0 = item_at t.states l.0 [] there in
          let b : l.1 < t.letters = (over_right t.letters l.0 (l.1 ∷ []) (subst (λ u. IsOver t.letters u) l.2 (over node))).0 in
          before.link there.0 l.1 node there.1 b
          (inl (earlier node there.0 there.1 node_in (omega (arith, ap length parent, ap length l.2, length-append l.0 (l.1 ∷ [])))))
          (child_is there.0 l.1 node there.1 b node_in (ap (λ u. u ++ l.1 ∷ []) parent ∙ sym l.2))
    ]

    -- an end of the shorter word
    end_more : (u : Word) (at a : ℕ) → IsLongest t.states u at → (e : Option ℕ) → IsEnd rules (longer t.states at a) e → IsEnd rules (u ++ a ∷ []) e
    end_more u at a longest None h = λ end. h (end_kept rules falling t.states is.are u at a longest end)
    end_more u at a longest (Some number) h = ends_more rules t.states u at a number longest h

    behind_root : 0 ≡ length (get_or t.states node []) → Reads rules t.states behind 0 None
    behind_root e =
        subst (λ u. Reads rules t.states (drop 1 (u ++ letter ∷ [])) 0 None) (sym (nil_from_length (get_or t.states node []) (sym e)))
        (record { longest = empty_longest rules falling t.states is.are; ends = λ h. end_reduces rules [] h (empty_reduced rules falling) })

    behind_link : 0 < length (get_or t.states node [])
        → Reads rules t.states behind (state_at f.targets (get_or f.links node 0) letter) (target f.ends (get_or f.links node 0) letter)
    behind_link some =
        let link = link_is some in
        let shorter : length (get_or t.states (get_or f.links node 0) []) < length (get_or t.states node []) =
        omega (arith, some, ap length link.is, length-append link.before (get_or t.states (get_or f.links node 0) []), length-drop 1 (get_or t.states node [])) in
        let read = before.reads (get_or f.links node 0) letter link.within below (inl (earlier node (get_or f.links node 0) link.within node_in shorter)) in
        subst (λ u. Reads rules t.states u (state_at f.targets (get_or f.links node 0) letter) (target f.ends (get_or f.links node 0) letter))
        (sym (drop_longer (get_or t.states node []) letter some))
        (record {
          longest = longest_more rules falling t.states is.are (drop 1 (get_or t.states node [])) (get_or f.links node 0)
              (state_at f.targets (get_or f.links node 0) letter) letter link read.longest;
          ends = end_more (drop 1 (get_or t.states node [])) (get_or f.links node 0) letter link (target f.ends (get_or f.links node 0) letter) read.ends;
        })

    behind_reads : (r : ℕ × Option ℕ) → IsBehind node letter f r → Reads rules t.states behind r.0 r.1
    behind_reads r (inl h) =
        subst (λ (p : ℕ × Option ℕ). Reads rules t.states behind p.0 p.1) (sym h.1)
        (behind_root (sym (ap length (ap (λ z. get_or t.states z []) h.0 ∙ is.trie.prefixes.root))))
    behind_reads r (inr h) =
        subst (λ (p : ℕ × Option ℕ). Reads rules t.states behind p.0 p.1) (sym h.1) (behind_link some)
      where
        some : 0 < length (get_or t.states node [])
        some = elim (cases_lt 0 (length (get_or t.states node []))) [
          | inl l ↦ l
          | inr m ↦ absurd (h.0 (is.trie.distinct node 0 node_in is.trie.prefixes.some (nil_from_length (get_or t.states node []) (omega (arith, m)) ∙ sym is.trie.prefixes.root)))
        ]

    whole : (a : ℕ) × (word ≡ a ∷ behind)
    whole = front_dropped word (omega (arith, size))

    module _ (r : ℕ × Option ℕ) (reads : Reads rules t.states behind r.0 r.1) where
      target_right : (c : Option ℕ) → IsChild t.states word c → IsLongest t.states word (unwrap_or c r.0)
      target_right None none = record {
        within = reads.longest.within;
        before = whole.0 ∷ reads.longest.before;
        is = whole.1 ∙ ap (λ x. whole.0 ∷ x) reads.longest.is;
        longest = longest;
      }
        where
          longest : (x s : Word) → word ≡ x ++ s → Contains t.states s → length s ≤ length (get_or t.states r.0 [])
          longest [] s e has = absurd (none (subst (λ w. Contains t.states w) (sym e) has))
          longest (b ∷ x) s e has = reads.longest.longest x s (ap (drop 1) e) has
      target_right (Some c) there = record {
        within = there.0;
        before = [];
        is = sym there.1;
        longest = λ x s e has. omega (arith, ap length there.1, ap length e, length-append x s);
      }

      end_right : (found : Option ℕ) → target t.lefts node letter ≡ found → IsLeft rules word found
          → IsEnd rules word (option_or found r.1)
      end_right (Some number) e h = record { within = h.0; before = []; is = sym h.1 }
      end_right None e h = go r.1 reads.ends
        where
          not_left : (l w : Word) → Contains rules (l, w) → word ≡ l → ⊥
          not_left l w listed same =
              let m = is.marked listed.0 listed.1 in
              let at : left_at rules listed.0 ≡ l = ap (λ (p : Word × Word). p.0) (listed_at rules l w listed) in
              let both = longer_one rules t is.trie node m.node letter m.letter node_in m.node_within (same ∙ sym at ∙ m.is) in
              let some : None ≡ Some m.number = sym e ∙ ap₂ (λ (x y : ℕ). target t.lefts x y) both.0 both.1 ∙ m.marked in
              let bad : ⊥ = cc in bad

          go : (found : Option ℕ) → IsEnd rules behind found → IsEnd rules word found
          go None none = λ end. cut end.before end.left end.right end.listed end.is
            where
              cut : (x l w : Word) → Contains rules (l, w) → word ≡ x ++ l → ⊥
              cut [] l w listed same = not_left l w listed same
              cut (b ∷ x) l w listed same = none (record { left = l; right = w; before = x; listed = listed; is = ap (drop 1) same })
          go (Some number) end = record { within = end.within; before = whole.0 ∷ end.before; is = whole.1 ∙ ap (λ x. whole.0 ∷ x) end.is }

    -- what comes before the next letter
    done_next : (n a : ℕ) → ComesBefore node (letter + 1) n a → ComesBefore node letter n a ⊎ ((n ≡ node) × (a ≡ letter))
    done_next n a (inl h) = inl (inl h)
    done_next n a (inr h) = elim (cases_eq a letter) [
      | inl e ↦ inr (h.0, e)
      | inr d ↦ inl (inr (h.0, omega (arith, h.1, d)))
    ]

    done_before : (n a : ℕ) → ((n ≡ node) × (a ≡ letter) → ⊥) → ComesBefore node (letter + 1) n a → ComesBefore node letter n a
    done_before n a d done = elim (done_next n a done) [
      | inl soon ↦ soon
      | inr same ↦ absurd (d same)
    ]

    child_here : IsChild t.states word (target t.children node letter)
    child_here = is.trie.child node letter node_in below

    pub child_within : (c : ℕ) → target t.children node letter ≡ Some c → c < length t.states
    child_within c e = (subst (λ found. IsChild t.states word found) e child_here).0

    module _ (r : ℕ × Option ℕ) (e : IsBehind node letter f r) where
      abbrev child : Option ℕ
      child = target t.children node letter

      abbrev to : ℕ
      to = unwrap_or child r.0

      abbrev end : Option ℕ
      end = option_or (target t.lefts node letter) r.1

      -- the tables with the entry
      abbrev pub entered : Filling
      entered = record {
        targets = with_entry f.targets node letter (Some to);
        links = linked child r.0 f.links;
        ends = with_entry f.ends node letter end;
      }

      pub entry_within : to < length t.states
      entry_within = (target_right r (behind_reads r e) child child_here).within

      pub entry_step : IsLinkedTo rules t node (letter + 1) entered
      entry_step = record {
        tables = record {
          some = before.tables.some;
          target_rows = rows_put (length t.states) t.letters f.targets before.tables.target_rows node letter (Some to) node_in;
          end_rows = rows_put (length t.states) t.letters f.ends before.tables.end_rows node letter end node_in;
          links_count = linked_count child;
          targets_within = targets_within;
          links_within = λ i h. linked_within i h child refl;
        };
        reads = reads;
        there = there;
        link = link;
      }
        where
          read : Reads rules t.states behind r.0 r.1
          read = behind_reads r e

          now : Reads rules t.states word to end
          now = record { longest = target_right r read child child_here; ends = end_right r read (target t.lefts node letter) refl (is.trie.left node letter node_in below) }

          target_put : IsPut f.targets entered.targets node letter (Some to)
          target_put = rows_entry (length t.states) t.letters f.targets before.tables.target_rows node letter (Some to) node_in below

          end_put : IsPut f.ends entered.ends node letter end
          end_put = rows_entry (length t.states) t.letters f.ends before.tables.end_rows node letter end node_in below

          linked_count : (c : Option ℕ) → length (linked c r.0 f.links) ≡ length t.states
          linked_count None = before.tables.links_count
          linked_count (Some x) = length-set f.links x r.0 ∙ before.tables.links_count

          targets_within : (i a : ℕ) → state_at entered.targets i a < length t.states
          targets_within = put_cases (λ i a z. unwrap_or z 0 < length t.states) f.targets _ node letter (Some to) target_put now.longest.within (λ i a d. before.tables.targets_within i a)

          linked_within : (i : ℕ) → i < length t.states → (c : Option ℕ) → target t.children node letter ≡ c → get_or (linked c r.0 f.links) i 0 < length t.states
          linked_within i h None e = before.tables.links_within i h
          linked_within i h (Some x) e = elim (cases_eq i x) [
            | inl s ↦
                let here : get_or (set f.links x r.0) i 0 ≡ r.0 = ap (λ z. get_or (set f.links x r.0) z 0) s ∙ get_or-set_same f.links x r.0 0 (omega (arith, child_within x e, before.tables.links_count)) in
                subst (λ z. z < length t.states) (sym here) read.longest.within
            | inr d ↦ subst (λ z. z < length t.states) (sym (get_or-set_other f.links x i r.0 0 d)) (before.tables.links_within i h)
          ]

          reads : (n a : ℕ) → n < length t.states → a < t.letters → ComesBefore node (letter + 1) n a
              → Reads rules t.states (longer t.states n a) (state_at entered.targets n a) (target entered.ends n a)
          reads = put_cases (λ n a z. n < length t.states → a < t.letters → ComesBefore node (letter + 1) n a → Reads rules t.states (longer t.states n a) (unwrap_or z 0) (target entered.ends n a))
              f.targets _ node letter (Some to) target_put
              (λ hn ha done. subst (λ y. Reads rules t.states word to y) (sym end_put.put) now)
              (λ n a d hn ha done. subst (λ y. Reads rules t.states (longer t.states n a) (state_at f.targets n a) y) (sym (end_put.other n a d)) (before.reads n a hn ha (done_before n a d done)))

          there : (n a : ℕ) → n < length t.states → a < t.letters → ComesBefore node (letter + 1) n a → (to : ℕ) × (target entered.targets n a ≡ Some to)
          there = put_cases (λ n a z. n < length t.states → a < t.letters → ComesBefore node (letter + 1) n a → (to : ℕ) × (z ≡ Some to)) f.targets _ node letter (Some to) target_put
              (λ hn ha done. (to, refl)) (λ n a d hn ha done. before.there n a hn ha (done_before n a d done))

          linked_is : (n a to : ℕ) → n < length t.states → a < t.letters → ComesBefore node (letter + 1) n a → target t.children n a ≡ Some to
              → (c : Option ℕ) → target t.children node letter ≡ c → IsLongest t.states (drop 1 (get_or t.states to [])) (get_or (linked c r.0 f.links) to 0)
          linked_is n a to hn ha done made None e = elim (done_next n a done) [
            | inl soon ↦ before.link n a to hn ha soon made
            | inr same ↦ let bad : None ≡ Some to = sym e ∙ ap₂ (λ (x y : ℕ). target t.children x y) (sym same.0) (sym same.1) ∙ made in cc
          ]
          linked_is n a to hn ha done made (Some x) e = elim (cases_eq to x) [
            | inl s ↦
                let here : get_or (set f.links x r.0) to 0 ≡ r.0 = ap (λ z. get_or (set f.links x r.0) z 0) s ∙ get_or-set_same f.links x r.0 0 (omega (arith, child_within x e, before.tables.links_count)) in
                let made_is : word ≡ get_or t.states to [] = sym (subst (λ found. IsChild t.states word found) e child_here).1 ∙ ap (λ z. get_or t.states z []) (sym s) in
                subst₂ (λ (u : Word) (z : ℕ). IsLongest t.states u z) (ap (drop 1) made_is) (sym here) read.longest
            | inr d ↦
                subst (λ z. IsLongest t.states (drop 1 (get_or t.states to [])) z) (sym (get_or-set_other f.links x to r.0 0 d))
                (elim (done_next n a done) [
                  | inl soon ↦ before.link n a to hn ha soon made
                  | inr same ↦
                      let twice : Some x ≡ Some to = sym e ∙ ap₂ (λ (x y : ℕ). target t.children x y) (sym same.0) (sym same.1) ∙ made in
                      let one : to ≡ x = cc in absurd (d one)
                ])
          ]

          link : (n a to : ℕ) → n < length t.states → a < t.letters → ComesBefore node (letter + 1) n a → target t.children n a ≡ Some to
              → IsLongest t.states (drop 1 (get_or t.states to [])) (get_or (linked child r.0 f.links) to 0)
          link n a to hn ha done made = linked_is n a to hn ha done made child refl

-- a row at its end
pub row_linked : (rules : List (Word × Word)) (t : Tree) (node letter : ℕ) (f : Filling) → t.letters ≤ letter → IsLinkedTo rules t node letter f → IsLinkedTo rules t (node + 1) 0 f
row_linked rules t node letter f past is = record {
  tables = is.tables;
  reads = λ n a hn ha done. is.reads n a hn ha (sooner n a ha done);
  there = λ n a hn ha done. is.there n a hn ha (sooner n a ha done);
  link = λ n a to hn ha done. is.link n a to hn ha (sooner n a ha done);
}
  where
    sooner : (n a : ℕ) → a < t.letters → ComesBefore (node + 1) 0 n a → ComesBefore node letter n a
    sooner n a ha (inl h) = elim (cases_eq n node) [
      | inl e ↦ inr (e, omega (arith, ha, past))
      | inr d ↦ inl (omega (arith, h, d))
    ]
    sooner n a ha (inr h) = absurd (omega (arith, h.1))

-- tables without entries
abbrev pub empty_filling : Tree → Filling
empty_filling t = record {
  targets = replicate (length t.states) (replicate t.letters None);
  links = replicate (length t.states) 0;
  ends = replicate (length t.states) (replicate t.letters None);
}

-- nothing comes before the first row
pub none_linked : (rules : List (Word × Word)) (t : Tree) → 0 < length t.states → IsLinkedTo rules t 0 0 (empty_filling t)
none_linked rules t some = record {
  tables = record {
    some = some;
    target_rows = rows_bare (length t.states) t.letters;
    end_rows = rows_bare (length t.states) t.letters;
    links_count = length-replicate (length t.states) 0;
    targets_within = λ i a. subst (λ (z : Option ℕ). unwrap_or z 0 < length t.states) (sym (target_bare (length t.states) t.letters i a)) some;
    links_within = λ i h. subst (λ z. z < length t.states) (sym (get_or-replicate (length t.states) i 0 0 h)) some;
  };
  reads = λ n a hn ha done. absurd (none n a done);
  there = λ n a hn ha done. absurd (none n a done);
  link = λ n a to hn ha done. absurd (none n a done);
}
  where
    none : (n a : ℕ) → ComesBefore 0 0 n a → ⊥
    none n a (inl h) = omega (arith, h)
    none n a (inr h) = omega (arith, h.1)

-- in the end each entry is right
pub all_filled : (rules : List (Word × Word)) (t : Tree) (f : Filling) → IsLinkedTo rules t (length t.states) 0 f → IsFilled rules t f
all_filled rules t f is = record {
  tables = is.tables;
  reads = λ n a hn ha. is.reads n a hn ha (inl hn);
  full = λ n a hn ha. let within : n < length t.states = omega (arith, hn, is.tables.target_rows.count) in is.there n a within ha (inl within);
}
