-- The least words of the classes are the reduced words that are elements.
use Rattle.std.proofs.Common.{◌≡◌, ℕ, ◌+◌, ◌≤◌, Bool, true, false, cond, List, [], ◌∷◌, length, refl, sym, ◌∙◌, subst, arith, inl, inr, ◌↔◌, Option, Some, None, IsTrue, eqb, Result, Ok, Err}
use Rattle.std.specs.Cmp.Lexicographic.{pointwise}
use Rattle.std.proofs.lemmas.Bool.Decides.{Decides-eqb}
use Rattle.std.proofs.lemmas.Slice.Eq.{slice_eq-Decides}
use Rattle.std.specs.Option.{MatchOption}
use Rattle.std.specs.Result.{IfOk}
use Rattle.theory.specs.Word.{Word, IsOver, IsElement}
use Rattle.theory.specs.ShortLex.{◌≺◌}
use Rattle.theory.specs.Congruence.{Congruence}
use Rattle.theory.specs.Class.{SameClass, IsLeast, IsNormal, HasIndex, IsInfinite}
use Rattle.theory.specs.Completion.{IsReduced, Listed, Reduces}
use Rattle.theory.specs.Listing.{IsAfter, IsLast, IsListOf, IsNext, IsStartOf, AreFinite, AreInfinite, GoesOnOrEnds}
use Rattle.theory.specs.Marked.{completed_word}
use Rattle.theory.proofs.Words.{shorter_first}
use Rattle.theory.proofs.ReducedRules.{greater_full}
use Rattle.theory.proofs.Related.{element_over, nonempty_element}
use Rattle.congruence_classes.specs.declared.reducers.Reducer.{Reducer}
use Rattle.congruence_classes.specs.Rewriting.{IsReducedIn, IsReducerOf, rules_in, word_in}
use Rattle.congruence_classes.proofs.RewrittenRules.{DecidesBy}
use Rattle.congruence_classes.proofs.ReducerLaws.{decided_by, listed_in, word_in_is}

-- the cursor behind which the reduced words are elements: in a semigroup the empty word is none
abbrev pub cursor_from : Bool → Option Word → Option Word
cursor_from b None = cond b None (Some [])
cursor_from b (Some u) = Some u

after_to : (b : Bool) (k : ℕ) (cursor : Option Word) (x : Word) → IsOver k x → IsAfter ◌≺◌ (cursor_from b cursor) x
    → IsElement b k x × IsAfter ◌≺◌ cursor x
after_to true k None x over after = (over, tt)
after_to false k None x over after = ((greater_full x [] after, over), tt)
after_to b k (Some u) x over after = (nonempty_element b k x over (greater_full x u after), after)

after_from : (b : Bool) (k : ℕ) (cursor : Option Word) (x : Word) → IsElement b k x → IsAfter ◌≺◌ cursor x
    → IsAfter ◌≺◌ (cursor_from b cursor) x
after_from true k None x element after = tt
after_from false k None [] element after = absurd (element.0 refl)
after_from false k None (a ∷ x) element after = shorter_first [] (a ∷ x) (omega arith)
after_from b k (Some u) x element after = after

-- A list, or its start, without the empty word.
module _ (P : Word → Type 0) where
  next_full : (a : ℕ) (x : Word) → IsNext P ◌≺◌ None (a ∷ x) → IsNext P ◌≺◌ (Some []) (a ∷ x)
  next_full a x h = record { has = h.has; after = shorter_first [] (a ∷ x) (omega arith); least = λ y p after less. h.least y p tt less }

  start_full : (words : List Word) → IsStartOf P ◌≺◌ None words
      → (rest : List Word) × IsStartOf P ◌≺◌ (Some []) rest × (length words ≤ length rest + 1)
  start_full [] h = ([], tt, omega arith)
  start_full ([] ∷ words) h = (words, h.1, omega arith)
  start_full ((a ∷ x) ∷ words) h = ((a ∷ x) ∷ words, (next_full a x h.0, h.1), omega arith)

  list_full : (words : List Word) → IsListOf P ◌≺◌ None words → (rest : List Word) × IsListOf P ◌≺◌ (Some []) rest
  list_full [] h = ([], λ y p after. h y p tt)
  list_full ([] ∷ words) h = (words, h.1)
  list_full ((a ∷ x) ∷ words) h = ((a ∷ x) ∷ words, (next_full a x h.0, h.1))

  start_from : (b : Bool) (words : List Word) → IsStartOf P ◌≺◌ None words
      → (rest : List Word) × IsStartOf P ◌≺◌ (cursor_from b None) rest × (length words ≤ length rest + 1)
  start_from true words h = (words, h, omega arith)
  start_from false words h = start_full words h

  list_from : (b : Bool) (words : List Word) → IsListOf P ◌≺◌ None words → (rest : List Word) × IsListOf P ◌≺◌ (cursor_from b None) rest
  list_from true words h = (words, h)
  list_from false words h = list_full words h

module _ (c : Congruence) (r : Reducer) (of : IsReducerOf c r) where
  is : DecidesBy c (rules_in r)
  is = decided_by c r of

  least_reduced : (u : Word) → IsLeast (SameClass c) u → IsReducedIn r u
  least_reduced u h =
      (listed_in c r of.words u).1
      (element_over c.presentation.is_monoid c.presentation.letters u h.element.left, (is.least u h.element.left).0 h)

  over : (u : Word) → IsReducedIn r u → IsOver c.presentation.letters u
  over u h = ((listed_in c r of.words u).0 h).0

  reduced : (u : Word) → IsReducedIn r u → IsReduced (Listed (rules_in r)) (completed_word c u)
  reduced u h = ((listed_in c r of.words u).0 h).1

  next_moved : (cursor : Option Word) (x : Word) → IsNext (IsReducedIn r) ◌≺◌ (cursor_from c.presentation.is_monoid cursor) x
      → IsNext (IsLeast (SameClass c)) ◌≺◌ cursor x
  next_moved cursor x h =
      let at = after_to c.presentation.is_monoid c.presentation.letters cursor x (over x h.has) h.after in
      record {
        has = (is.least x at.0).1 (reduced x h.has);
        after = at.1;
        least = λ y q after less. h.least y (least_reduced y q)
            (after_from c.presentation.is_monoid c.presentation.letters cursor y q.element.left after) less;
      }

  last_moved : (cursor : Option Word) → IsLast (IsReducedIn r) ◌≺◌ (cursor_from c.presentation.is_monoid cursor)
      → IsLast (IsLeast (SameClass c)) ◌≺◌ cursor
  last_moved cursor h y q after =
      h y (least_reduced y q) (after_from c.presentation.is_monoid c.presentation.letters cursor y q.element.left after)

  -- what comes next
  answer_moved : (cursor next : Option Word)
      → MatchOption next (IsLast (IsReducedIn r) ◌≺◌ (cursor_from c.presentation.is_monoid cursor))
      (IsNext (IsReducedIn r) ◌≺◌ (cursor_from c.presentation.is_monoid cursor))
      → MatchOption next (IsLast (IsLeast (SameClass c)) ◌≺◌ cursor) (IsNext (IsLeast (SameClass c)) ◌≺◌ cursor)
  answer_moved cursor None h = last_moved cursor h
  answer_moved cursor (Some x) h = next_moved cursor x h

  pub next_by : {X : Type 0} (cursor from : Option Word) → from ≡ cursor_from c.presentation.is_monoid cursor → (found : Result (Option Word) X)
      → IfOk found (λ next. MatchOption next (IsLast (IsReducedIn r) ◌≺◌ from) (IsNext (IsReducedIn r) ◌≺◌ from))
      → IfOk found (λ next. MatchOption next (IsLast (IsLeast (SameClass c)) ◌≺◌ cursor) (IsNext (IsLeast (SameClass c)) ◌≺◌ cursor))
  next_by cursor from e (Ok next) h =
      answer_moved cursor next
      (subst (λ (z : Option Word). MatchOption next (IsLast (IsReducedIn r) ◌≺◌ z) (IsNext (IsReducedIn r) ◌≺◌ z)) e h)
  next_by cursor from e (Err f) h = tt

  pub goes_on_by : GoesOnOrEnds (IsReducedIn r) ◌≺◌ → GoesOnOrEnds (IsLeast (SameClass c)) ◌≺◌
  goes_on_by goes cursor = elim (goes (cursor_from c.presentation.is_monoid cursor)) [
    | inl last ↦ inl (last_moved cursor last)
    | inr next ↦ inr (next.0, next_moved cursor next.0 next.1)
  ]

  start_moved : (cursor : Option Word) (words : List Word) → IsStartOf (IsReducedIn r) ◌≺◌ (cursor_from c.presentation.is_monoid cursor) words
      → IsStartOf (IsLeast (SameClass c)) ◌≺◌ cursor words
  start_moved cursor [] h = tt
  start_moved cursor (x ∷ words) h = (next_moved cursor x h.0, start_moved (Some x) words h.1)

  list_moved : (cursor : Option Word) (words : List Word) → IsListOf (IsReducedIn r) ◌≺◌ (cursor_from c.presentation.is_monoid cursor) words
      → IsListOf (IsLeast (SameClass c)) ◌≺◌ cursor words
  list_moved cursor [] h = last_moved cursor h
  list_moved cursor (x ∷ words) h = (next_moved cursor x h.0, list_moved (Some x) words h.1)

  -- how many there are
  pub infinite_by : AreInfinite (IsReducedIn r) ◌≺◌ → IsInfinite (SameClass c)
  infinite_by infinite n =
      let all = infinite (n + 1) in
      let start = start_from (IsReducedIn r) c.presentation.is_monoid all.0 all.1 in
      (start.0, start_moved None start.0 start.1, omega (arith, all.2, start.2))

  pub finite_by : AreFinite (IsReducedIn r) ◌≺◌ → (n : ℕ) × HasIndex (SameClass c) n
  finite_by all =
      let list = list_from (IsReducedIn r) c.presentation.is_monoid all.0 all.1 in
      (length list.0, (list.0, list_moved None list.0 list.1, refl))

  -- the word that is reduced for a word is the one that stands for it
  stands : (u : Word) → word_in r u ≡ completed_word c u
  stands u = word_in_is c r of.words u

  goes : (u v : Word) → Reduces (Listed (rules_in r)) (word_in r u) v → Reduces (Listed (rules_in r)) (completed_word c u) v
  goes u v down = subst (λ w. Reduces (Listed (rules_in r)) w v) (stands u) down

  -- the word to which the rules lead is reduced for the normal form
  pub inside_is : (u v : Word) → IsElement c.presentation.is_monoid c.presentation.letters u → Reduces (Listed (rules_in r)) (word_in r u) v
      → IsReduced (Listed (rules_in r)) v → (w : Word) × (v ≡ word_in r w) × IsNormal (SameClass c) u w
  inside_is u v element down here =
      let at = is.normal u v element (goes u v down) here in
      (at.0, at.1 ∙ sym (stands at.0), at.2)

  pub normal_by : {X : Type 0} (u v : Word) (inside : Result Word X) → IsElement c.presentation.is_monoid c.presentation.letters u
      → Reduces (Listed (rules_in r)) (word_in r u) v → IsReduced (Listed (rules_in r)) v
      → IfOk inside (λ x. (w : Word) → v ≡ word_in r w → x ≡ w) → IfOk inside (IsNormal (SameClass c) u)
  normal_by u v (Ok x) element down here h =
      let at = inside_is u v element down here in
      subst (IsNormal (SameClass c) u) (sym (h at.0 at.1)) at.2
  normal_by u v (Err f) element down here h = tt

  class_by : (u v x y : Word) → IsElement c.presentation.is_monoid c.presentation.letters u
      → IsElement c.presentation.is_monoid c.presentation.letters v
      → Reduces (Listed (rules_in r)) (word_in r u) x → IsReduced (Listed (rules_in r)) x
      → Reduces (Listed (rules_in r)) (word_in r v) y → IsReduced (Listed (rules_in r)) y → SameClass c u v ↔ (x ≡ y)
  class_by u v x y left right down_u here down_v there =
      let one = is.decides u v x y (element_over c.presentation.is_monoid c.presentation.letters u left) (goes u x down_u) here (goes v y down_v) there in
      (λ h. one.0 h.related, λ e. record { left = left; right = right; related = one.1 e })

  pub equal_by : (u v x y p q : Word) (t : Bool) → IsElement c.presentation.is_monoid c.presentation.letters u
      → IsElement c.presentation.is_monoid c.presentation.letters v
      → Reduces (Listed (rules_in r)) (word_in r u) x → IsReduced (Listed (rules_in r)) x
      → Reduces (Listed (rules_in r)) (word_in r v) y → IsReduced (Listed (rules_in r)) y
      → p ≡ x → q ≡ y → t ≡ pointwise eqb p q → IsTrue t ↔ SameClass c u v
  equal_by u v x y p q t left right down_u here down_v there at_x at_y e =
      let one = class_by u v x y left right down_u here down_v there in
      let two = slice_eq-Decides Decides-eqb p q t e in
      (λ t. one.1 (sym at_x ∙ two.0 t ∙ at_y), λ h. two.1 (at_x ∙ one.0 h ∙ sym at_y))
