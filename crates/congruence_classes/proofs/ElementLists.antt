-- The classes of elements, by the tables, are a solution.
use Rattle.std.proofs.Common.{◌≡◌, ℕ, zero, suc, ◌+◌, ◌<◌, ◌≤◌, false, List, [], ◌∷◌, length, refl, sym, ◌∙◌, ap, subst, arith, inl, inr, ◌↔◌, slice_index}
use Rattle.std.proofs.lemmas.Bool.{cases_lt}
use Rattle.theory.specs.Word.{Word, IsOver, IsElement}
use Rattle.theory.specs.ShortLex.{◌≺◌}
use Rattle.theory.specs.Class.{IsLeast}
use Rattle.theory.proofs.Words.{before_trans, shorter_first}
use Rattle.froidure_pin.specs.declared.tables.CayleyTables.{CayleyTables}
use Rattle.cayley.specs.Placing.{ArePlacedClasses}
use Rattle.cayley.specs.Tables.{number_in, word_at}
use Rattle.cayley.proofs.PlacedClasses.{same_class, same_place}
use Rattle.problem.specs.declared.kinds.Problem.{Problem}
use Rattle.problem.specs.Problem.{SameClassOf, count_of}
use Rattle.congruence_classes.specs.ClassLists.{IsSolution, IsSolutionFor}
use Rattle.congruence_classes.specs.ElementLists.{AreClassesIn, AreClassesFor, HasPlaces, element_list, element_place, element_word}
use Rattle.congruence_classes.proofs.ClassListLaws.{related_elements}

empty_before : (k : ℕ) (u : Word) → IsElement false k u → [] ≺ u
empty_before k [] h = absurd (h.0 refl)
empty_before k (a ∷ u) h = shorter_first [] (a ∷ u) (omega arith)

-- the place of a word that is not empty
pub place_behind_root : (t : CayleyTables) (places : List ℕ) (u : Word) → (u ≡ [] → ⊥) → element_place t places u ≡ slice_index places (number_in t u) + 1
place_behind_root t places [] some = absurd (some refl)
place_behind_root t places (a ∷ u) some = refl

-- the word of a place behind the first
pub word_behind_root : (t : CayleyTables) (roots : List ℕ) (i m : ℕ) → i ≡ m + 1 → element_word t roots i ≡ word_at t (slice_index roots m)
word_behind_root t roots zero m e = absurd (omega (arith, e))
word_behind_root t roots (suc i) m e = ap (λ n. word_at t (slice_index roots n)) (let same : i ≡ m = omega (arith, e) in same)

module _ (R : Word → Word → Type 0) (k : ℕ) (t : CayleyTables) (classes roots places : List ℕ) (are : AreClassesIn R k t classes)
    (placed : ArePlacedClasses classes roots places) where
  number : (m : ℕ) → m < length roots → slice_index roots m < length t.words
  number m h = omega (arith, (placed.named m h).0, are.count)

  inside : (u : Word) → IsElement false k u → number_in t u < length classes
  inside u h = omega (arith, are.within u h, are.count)

  pub roots_of : HasPlaces (record { tables = t; roots = roots; places = places })
  roots_of = record {
    fit = are.fit;
    words = λ i h. ((are.elements i h).0, are.numbers i h);
    numbers = number;
    count = placed.count ∙ are.count;
    within = λ i h. (placed.placed i (omega (arith, h, are.count))).0;
  }

  element_at : (i : ℕ) → 0 < i → i < length roots + 1 → IsElement false k (element_word t roots i)
  element_at zero some h = absurd (omega arith)
  element_at (suc m) some h = are.elements (slice_index roots m) (number m (omega arith))

  over_at : (i : ℕ) → i < length roots + 1 → IsOver (length t.letters) (element_word t roots i)
  over_at zero h = tt
  over_at (suc m) h = subst (λ n. IsOver n (element_word t roots (suc m))) (sym are.letters) (element_at (suc m) (omega arith) h).1

  ascend : (i j : ℕ) → i < j → j < length roots + 1 → element_word t roots i ≺ element_word t roots j
  ascend i zero less h = absurd (omega arith)
  ascend zero (suc l) less h = empty_before k (element_word t roots (suc l)) (element_at (suc l) (omega arith) h)
  ascend (suc m) (suc l) less h =
      are.ascending (slice_index roots m) (slice_index roots l) (placed.ascending m l (omega arith) (omega arith)) (number l (omega arith))

  listed : (u : Word) → IsOver (length t.letters) u → element_place t places u < length roots + 1
  listed [] over = omega arith
  listed (a ∷ u) over =
      let element : IsElement false k (a ∷ u) = (λ e. cc, subst (λ n. IsOver n (a ∷ u)) are.letters over) in
      let at = (placed.placed (number_in t (a ∷ u)) (inside (a ∷ u) element)).0 in
      omega (arith, at)

  -- words of one class have one place, and only these
  by_places : (u v : Word) → IsElement false k u → IsElement false k v → R u v ↔ (element_place t places u ≡ element_place t places v)
  by_places u v left right = (
    λ h.
        place_behind_root t places u left.0
        ∙ ap (λ n. n + 1) (same_place classes roots places placed (number_in t u) (number_in t v) (inside u left) (inside v right) ((are.related u v left right).0 h))
        ∙ sym (place_behind_root t places v right.0),
    λ e.
        let one : slice_index places (number_in t u) ≡ slice_index places (number_in t v) = omega (arith, place_behind_root t places u left.0, place_behind_root t places v right.0, e) in
        (are.related u v left right).1 (same_class classes roots places placed (number_in t u) (number_in t v) (inside u left) (inside v right) one),
  )

  -- a word is no less than that of the least number of its class
  none_less : (r : ℕ) (v : Word) → IsElement false k v → r ≡ slice_index classes (number_in t v) → v ≺ word_at t r → ⊥
  none_less r v element e less =
      let low : r ≤ number_in t v = omega (arith, e, are.below (number_in t v) (are.within v element)) in
      elim (cases_lt r (number_in t v)) [
        | inl more ↦ are.least v element (before_trans v (word_at t r) (word_at t (number_in t v)) less (are.ascending r (number_in t v) more (are.within v element)))
        | inr most ↦
            let same : r ≡ number_in t v = omega (arith, low, most) in
            are.least v element (subst (λ n. v ≺ word_at t n) same less)
      ]

  least_at : ((u v : Word) → R u v → IsElement false k u × IsElement false k v) → (i : ℕ) → 1 ≤ i → i < length roots + 1
      → IsLeast R (element_word t roots i)
  least_at among zero some h = absurd (omega arith)
  least_at among (suc m) some h =
      let r : ℕ = slice_index roots m in
      let element = are.elements r (number m (omega arith)) in
      let named = (placed.named m (omega arith)).1 in
      record {
        element = (are.related (word_at t r) (word_at t r) element element).1 refl;
        none_less = λ v same less.
            let other = (among (word_at t r) v same).1 in
            none_less r v other
            (sym named ∙ ap (slice_index classes) (sym (are.numbers r (number m (omega arith)))) ∙ (are.related (word_at t r) v element other).0 same) less;
      }

  reached : (u : Word) → IsElement false k u → (1 ≤ element_place t places u) × R u (element_word t roots (element_place t places u))
  reached u element =
      let n : ℕ = number_in t u in
      let at = placed.placed n (inside u element) in
      let r : ℕ = slice_index classes n in
      let place = place_behind_root t places u element.0 in
      let below : r < length t.words = omega (arith, are.below n (are.within u element), are.within u element) in
      let word : element_word t roots (element_place t places u) ≡ word_at t r =
      word_behind_root t roots (element_place t places u) (slice_index places n) place ∙ ap (word_at t) at.1 in
      let own : r ≡ slice_index classes r =
      sym at.1 ∙ sym (placed.named (slice_index places n) at.0).1 ∙ ap (slice_index classes) at.1 in (
        omega (arith, place),
        subst (R u) (sym word) ((are.related u (word_at t r) element (are.elements r below)).1 (own ∙ ap (slice_index classes) (sym (are.numbers r below)))),
      )

  pub elements_listed : ((u v : Word) → R u v → IsElement false k u × IsElement false k v) → IsSolution R false k (element_list (record { tables = t; roots = roots; places = places }))
  elements_listed among = record {
    among = among;
    letters = are.letters;
    listing = record { over = over_at; ascending = ascend; listed = listed };
    root = refl;
    home = refl;
    decides = by_places;
    classes = least_at among;
    reached = reached;
  }

pub elements_solution : (p : Problem) (t : CayleyTables) (classes roots places : List ℕ) → AreClassesFor p t classes → ArePlacedClasses classes roots places
    → IsSolutionFor p (element_list (record { tables = t; roots = roots; places = places }))
elements_solution p t classes roots places are placed =
    subst (λ b. IsSolution (SameClassOf p) b (count_of p) (element_list (record { tables = t; roots = roots; places = places }))) (sym are.semigroup)
    (elements_listed (SameClassOf p) (count_of p) t classes roots places are.classes_in placed
    (subst (λ b. (u v : Word) → SameClassOf p u v → IsElement b (count_of p) u × IsElement b (count_of p) v) are.semigroup (related_elements p)))

pub roots_for : (p : Problem) (t : CayleyTables) (classes roots places : List ℕ) → AreClassesFor p t classes → ArePlacedClasses classes roots places
    → HasPlaces (record { tables = t; roots = roots; places = places })
roots_for p t classes roots places are placed = roots_of (SameClassOf p) (count_of p) t classes roots places are.classes_in placed
