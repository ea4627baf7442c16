-- What the table and a scan of the newer rules tell of a word and a letter.
use Rattle.std.proofs.Common.{◌≡◌, ℕ, zero, suc, ◌+◌, ◌-◌, ◌<◌, ◌≤◌, Bool, true, IsTrue, ◌↔◌, List, [], ◌∷◌, ◌++◌, length, take, drop, reverse, set, get_or, eqb, refl, sym, ◌∙◌, ap, subst, arith, inl, inr, Option, Some, None}
use Rattle.std.specs.Cmp.Lexicographic.{pointwise}
use Rattle.std.proofs.lemmas.Bool.{cases_eq, cases_lt}
use Rattle.std.proofs.lemmas.Bool.Decides.{Decides-eqb}
use Rattle.std.proofs.lemmas.Slice.Eq.{ends_is}
use Rattle.std.proofs.lemmas.List.{append_assoc, append-nil, get_or_default, get_or-set_same, get_or-set_other, length-set, same_from_push}
use Rattle.theory.specs.Word.{Word, IsFactor}
use Rattle.theory.specs.Completion.{IsReduced, Listed}
use Rattle.theory.proofs.FactsLaws.{last_letter}
use Rattle.rewriting.specs.Rules.{AreFalling}
use Rattle.rewriting.specs.States.{EndsAt, HasEnd, IsLongest, IsStep}
use Rattle.rewriting.specs.Tables.{IsTableOf}
use Rattle.rewriting.specs.Tries.{IsEnd, left_at, longer, Reads}
use Rattle.rewriting.specs.Newer.{AreNewer}
use Rattle.rewriting.proofs.NewerLaws.{same_newer}
use Rattle.rewriting.specs.Reductions.{IsAtStep}
use Rattle.rewriting.specs.declared.reductions.Reduction.{Reduction}
use Rattle.rewriting.specs.Lookups.{IsAtLetter, IsLookup, IsPlaced, IsReducingBy, IsRewritingAt, StandsLast, moves_of, no_moves, reads_to, states_by}
use Rattle.rewriting.specs.declared.lookups.Lookup.{Lookup}
use Rattle.rewriting.proofs.Standing.{listed_at, rule_read}
use Rattle.rewriting.proofs.TrieLaws.{root_level, root_tree, rule_tree}
use Rattle.rewriting.proofs.ReductionLaws.{last_read, reducing_start}
use Rattle.rewriting.proofs.StateLaws.{empty_longest, end_found, end_kept, end_reduces, ends_more, longest_more, reduced_front}

-- the left side of a rule is listed
listed_left : (rules : List (Word × Word)) (place : ℕ) → place < length rules → Listed rules (left_at rules place) (get_or rules place ([], [])).1
listed_left rules place h = (place, h, get_or_default rules place (get_or rules place ([], [])) ([], []) h)

-- a letter behind a reduced word at whose end no newer rule's left side stands
module _ (rules : List (Word × Word)) (lookup : Lookup) (is : IsLookup rules lookup) (done : Word) (a : ℕ) (reduced : IsReduced (Listed rules) done)
    (scanned : (place : ℕ) → lookup.first ≤ place → EndsAt rules (done ++ a ∷ []) place → ⊥) where
  -- a factor of a word that ends with the letter ends there too, or stands before it
  no_factor : (place : ℕ) → lookup.first ≤ place → place < length rules → (x l : Word) → done ++ a ∷ [] ≡ x ++ l → IsFactor (left_at rules place) l → ⊥
  no_factor place new within x l e f = elim (last_letter f.after) [
    | inl none ↦
        scanned place new (record {
          within = within;
          before = x ++ f.before;
          is = e ∙ ap (λ w. x ++ w) (f.is ∙ ap (λ w. f.before ++ (left_at rules place ++ w)) none ∙ ap (λ w. f.before ++ w) (append-nil (left_at rules place)))
              ∙ sym (append_assoc x f.before (left_at rules place));
        })
    | inr last ↦
        let regrouped : x ++ (f.before ++ (left_at rules place ++ (last.0 ++ last.1 ∷ []))) ≡ (((x ++ f.before) ++ left_at rules place) ++ last.0) ++ last.1 ∷ [] = simp append_assoc in
        let whole : done ++ a ∷ [] ≡ (((x ++ f.before) ++ left_at rules place) ++ last.0) ++ last.1 ∷ [] =
        e ∙ ap (λ w. x ++ w) (f.is ∙ ap (λ w. f.before ++ (left_at rules place ++ w)) last.2) ∙ regrouped in
        let front = same_from_push done (((x ++ f.before) ++ left_at rules place) ++ last.0) a last.1 whole in
        end_reduces rules ((x ++ f.before) ++ left_at rules place)
        (record { left = left_at rules place; right = (get_or rules place ([], [])).1; before = x ++ f.before; listed = listed_left rules place within; is = refl })
        (reduced_front rules ((x ++ f.before) ++ left_at rules place) last.0 (subst (λ u. IsReduced (Listed rules) u) front.0 reduced))
  ]

  -- the rule of the table whose left side ends here stands among the rules, and ends here
  ends_placed : (n : ℕ) (p : Option ℕ) → EndsAt is.tabled (done ++ a ∷ []) n → IsPlaced rules lookup.first (left_at is.tabled n) p
      → (states : List Word) (t : ℕ) → IsStep rules states (done ++ a ∷ []) t p
  ends_placed n (Some place) ends by states t = record { within = by.0; before = ends.before; is = ends.is ∙ ap (λ w. ends.before ++ w) (sym by.1) }
  ends_placed n None ends by states t = absurd (no_factor by.0 by.1 by.2 ends.before (left_at is.tabled n) ends.is by.3)

  -- where neither the table nor the scan finds a left side, none ends
  none_ends : (HasEnd is.tabled (done ++ a ∷ []) → ⊥) → HasEnd rules (done ++ a ∷ []) → ⊥
  none_ends none h = elim (cases_lt h.listed.0 lookup.first) [
    | inl old ↦
        let by = is.known h.listed.0 old in
        none (end_found is.tabled (done ++ a ∷ []) by.0 (record { within = by.1; before = h.before; is = h.is ∙ ap (λ w. h.before ++ w) (sym left ∙ sym by.2) }))
    | inr new ↦ scanned h.listed.0 new (record { within = h.listed.1; before = h.before; is = h.is ∙ ap (λ w. h.before ++ w) (sym left) })
  ]
    where
      left : left_at rules h.listed.0 ≡ h.left
      left = ap (λ (p : Word × Word). p.0) (listed_at rules h.left h.right h.listed)

-- what the table tells of the state at the end
module _ (rules : List (Word × Word)) (lookup : Lookup) (done : Word) (state a t : ℕ) (end : Option ℕ) (at : IsAtLetter rules lookup done state)
    (reads : Reads at.is.tabled (reads_to at) (longer (reads_to at) state a) t end) where
  table_end : (n : ℕ) → end ≡ Some n → EndsAt at.is.tabled (done ++ a ∷ []) n
  table_end n some = ends_more at.is.tabled (reads_to at) done state a n at.longest (subst (λ e. IsEnd at.is.tabled (longer (reads_to at) state a) e) some reads.ends)

  pub number_within : (n : ℕ) → end ≡ Some n → n < length lookup.places.items
  number_within n some = let w = (table_end n some).within in omega (arith, w, at.is.count)

  module _ (scanned : (place : ℕ) → lookup.first ≤ place → EndsAt rules (done ++ a ∷ []) place → ⊥) where
    pub next_placed : (n : ℕ) → end ≡ Some n → IsStep rules (reads_to at) (done ++ a ∷ []) t (get_or lookup.places.items n None)
    next_placed n some =
        let ends = table_end n some in
        ends_placed rules lookup at.is done a at.reduced scanned n (get_or lookup.places.items n None) ends (at.is.placed n ends.within) (reads_to at) t

    pub next_none : end ≡ None → IsStep rules (reads_to at) (done ++ a ∷ []) t None
    next_none none = (
      none_ends rules lookup at.is done a at.reduced scanned (λ h. subst (λ e. IsEnd at.is.tabled (longer (reads_to at) state a) e) none reads.ends
          (end_kept at.is.tabled at.is.falling (reads_to at) at.is.table.states.are done state a at.longest h)),
      longest_more at.is.tabled at.is.falling (reads_to at) at.is.table.states.are done state t a at.longest reads.longest,
    )

-- a word is its other letters and its last one
last_split : (word : Word) (last b : ℕ) → last + 1 ≡ length word → b ≡ get_or word last b → word ≡ take last word ++ b ∷ []
last_split [] last b size at = absurd (omega (arith, size))
last_split (x ∷ []) zero b size at = ap (λ y. y ∷ []) (sym at)
last_split (x ∷ []) (suc last) b size at = absurd (omega (arith, size))
last_split (x ∷ y ∷ word) zero b size at = absurd (omega (arith, size))
last_split (x ∷ y ∷ word) (suc last) b size at = ap (λ w. x ∷ w) (last_split (y ∷ word) last b (omega (arith, size)) at)

-- the same left sides
pub same_lefts : (rules new : List (Word × Word)) (lookup : Lookup) → IsLookup rules lookup → length new ≡ length rules
    → ((place : ℕ) → left_at new place ≡ left_at rules place) → IsLookup new lookup
same_lefts rules new lookup is size same = record {
  letters = is.letters;
  tabled = is.tabled;
  falling = is.falling;
  table = is.table;
  few = omega (arith, is.few, size);
  known = λ place before. let by = is.known place before in (by.0, by.1, by.2 ∙ sym (same place));
  count = is.count;
  placed = λ number h. placed number (get_or lookup.places.items number None) (is.placed number h);
  newer = same_newer rules new lookup.first lookup.newer size same is.newer;
}
  where
    placed : (n : ℕ) (p : Option ℕ) → IsPlaced rules lookup.first (left_at is.tabled n) p → IsPlaced new lookup.first (left_at is.tabled n) p
    placed n (Some p) by = (omega (arith, by.0, size), same p ∙ by.1)
    placed n None by = (by.0, by.1, omega (arith, by.2, size), subst (λ w. IsFactor w (left_at is.tabled n)) (sym (same by.0)) by.3)

-- a table of all rules
pub all_lookup : (rules : List (Word × Word)) (lookup : Lookup) (letters : ℕ) → AreFalling rules → IsTableOf letters rules (moves_of lookup)
    → length lookup.places.items ≡ length rules → lookup.first ≡ length rules
    → ((place : ℕ) → place < length rules → get_or lookup.places.items place None ≡ Some place) → AreNewer rules lookup.first lookup.newer → IsLookup rules lookup
all_lookup rules lookup letters falling table count first each newer = record {
  letters = letters;
  tabled = rules;
  falling = falling;
  table = table;
  few = omega (arith, first);
  known = λ place before. (place, omega (arith, before, first), refl);
  count = count;
  placed = λ n h. subst (λ p. IsPlaced rules lookup.first (left_at rules n) p) (sym (each n h)) (h, refl);
  newer = newer;
}

-- no rule
empty_table : IsTableOf 0 [] no_moves
empty_table =
    let none = rule_tree [] 0 [] (root_tree 0) (λ n. omega arith) (root_level 0 []) (λ n h inside. absurd (omega (arith, h))) in
    record {
      letters = refl;
      over = λ i d within. absurd (omega (arith, within));
      states = record { are = none.are; distinct = none.trie.distinct; only = none.trie.only };
      reads = λ n a h below. absurd (omega (arith, below));
      full = λ n a h. absurd (omega (arith, h));
    }

pub empty_lookup : (lookup : Lookup) → moves_of lookup ≡ no_moves → lookup.places.items ≡ [] → lookup.first ≡ 0 → AreNewer [] lookup.first lookup.newer → IsLookup [] lookup
empty_lookup lookup moves places first newer =
    all_lookup [] lookup 0 (λ i d within. absurd (omega (arith, within))) (subst (λ m. IsTableOf 0 [] m) (sym moves) empty_table) (ap length places) first (λ place h. absurd (omega (arith, h))) newer

-- a rule with another right side
pub right_lookup : (rules new : List (Word × Word)) (lookup : Lookup) (place : ℕ) (right : Word) → IsLookup rules lookup → place < length rules
    → new ≡ set rules place (left_at rules place, right) → IsLookup new lookup
right_lookup rules new lookup place right is within e =
    same_lefts rules new lookup is (ap length e ∙ length-set rules place (left_at rules place, right)) (λ i. ap (λ (rs : List (Word × Word)). left_at rs i) e ∙ same i)
  where
    same : (i : ℕ) → left_at (set rules place (left_at rules place, right)) i ≡ left_at rules i
    same i = elim (cases_eq i place) [
      | inl d ↦
          ap (left_at (set rules place (left_at rules place, right))) d
          ∙ ap (λ (p : Word × Word). p.0) (get_or-set_same rules place (left_at rules place, right) ([], []) within) ∙ ap (left_at rules) (sym d)
      | inr d ↦ ap (λ (p : Word × Word). p.0) (get_or-set_other rules place i (left_at rules place, right) ([], []) d)
    ]

-- a test of the left side of a rule at the end
pub ends_tested : (rules : List (Word × Word)) (u : Word) (place : ℕ) (rule : Word × Word) (left : Word) (r : Bool) → place < length rules → rule ≡ get_or rules place rule
    → left ≡ rule.0 → IsTrue r ↔ StandsLast u left → IsTrue r ↔ EndsAt rules u place
ends_tested rules u place rule left r within read left_is tested = (
  λ t. let at = tested.0 t in record { within = within; before = at.before; is = at.is ∙ ap (λ w. at.before ++ w) same },
  λ ends. tested.1 (record { before = ends.before; is = ends.is ∙ ap (λ w. ends.before ++ w) (sym same) }),
)
  where
    same : left ≡ left_at rules place
    same = left_is ∙ ap (λ (p : Word × Word). p.0) (rule_read rules rules place rule refl within read)

-- a word without its last letter stands at the end before the letter
pub last_tested : (u : Word) (a : ℕ) (word : Word) (last b : ℕ) (r : Bool) → last + 1 ≡ length word → b ≡ get_or word last b → b ≡ a
    → r ≡ pointwise eqb (take last word) (drop (length u - length (take last word)) u) → IsTrue r ↔ StandsLast (u ++ a ∷ []) word
last_tested u a word last b r size at same e = (
  λ t. record {
    before = take (length u - length (take last word)) u;
    is = ap (λ v. v ++ a ∷ []) (ends.0 t) ∙ append_assoc (take (length u - length (take last word)) u) (take last word) (a ∷ [])
        ∙ ap (λ v. take (length u - length (take last word)) u ++ v) (sym whole);
  },
  λ h. ends.1 h.before (same_from_push u (h.before ++ take last word) a a (h.is ∙ ap (λ w. h.before ++ w) whole ∙ sym (append_assoc h.before (take last word) (a ∷ [])))).0,
)
  where
    whole : word ≡ take last word ++ a ∷ []
    whole = last_split word last b size at ∙ ap (λ x. take last word ++ x ∷ []) same

    ends : (r ≡ true → u ≡ take (length u - length (take last word)) u ++ take last word) × ((front : Word) → u ≡ front ++ take last word → r ≡ true)
    ends = ends_is Decides-eqb u (take last word) r e

pub last_differs : (u : Word) (a : ℕ) (word : Word) (last b : ℕ) → last + 1 ≡ length word → b ≡ get_or word last b → (b ≡ a → ⊥) → StandsLast (u ++ a ∷ []) word → ⊥
last_differs u a word last b size at differ h =
    let whole = last_split word last b size at in
    differ (sym (same_from_push u (h.before ++ take last word) a b (h.is ∙ ap (λ w. h.before ++ w) whole ∙ sym (append_assoc h.before (take last word) (b ∷ [])))).1)

-- the next letter of a reduction
module _ (rules : List (Word × Word)) (lookup : Lookup) (word : Word) (r : Reduction) (a : ℕ) (by : IsRewritingAt rules lookup word a r) (read : Word) (size state : ℕ)
    (read_is : read ≡ r.done.items) (size_is : size ≡ length r.done.items) (state_is : state ≡ get_or r.states.items size state) where
  abbrev pub letter_at : IsAtLetter rules lookup read state
  letter_at = record {
    is = by.is;
    reduced = subst (λ u. IsReduced (Listed rules) u) (sym read_is) by.reducing.reduced;
    longest = subst (λ u. IsLongest (states_by by.is) u state) (sym read_is)
        (last_read rules (states_by by.is) word r.done.items (r.rest.items ++ a ∷ []) r.states.items size state by.reducing size_is state_is);
  }

  pub letter_steps : (next : ℕ × Option ℕ) → ((at : IsAtLetter rules lookup read state) → IsStep rules (reads_to at) (read ++ a ∷ []) next.0 next.1)
      → IsAtStep rules (states_by by.is) word r a next
  letter_steps next step = record {
    reducing = by.reducing;
    step = subst (λ u. IsStep rules (states_by by.is) (u ++ a ∷ []) next.0 next.1) read_is (step letter_at);
  }

-- where reading begins
pub reducing_by_start : (rules : List (Word × Word)) → AreFalling rules → (lookup : Lookup) → IsLookup rules lookup → (word done rest : Word) (path : List ℕ)
    → done ≡ [] → rest ≡ reverse word → path ≡ 0 ∷ [] → IsReducingBy rules lookup word done rest path
reducing_by_start rules falling lookup is word done rest path d r p = record {
  is = is;
  reducing = reducing_start rules falling (states_by is) (empty_longest is.tabled is.falling (states_by is) is.table.states.are) word done rest path d r p;
}
