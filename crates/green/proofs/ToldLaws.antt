-- Numbers stand in one class exactly where their words' values are related, and are listed exactly
-- where these are idempotent.
use Rattle.std.proofs.Common.{◌≡◌, ℕ, ◌<◌, ◌↔◌, Bool, false, List, [], ◌∷◌, length, slice_index_or, sym, subst, arith, inl, inr, Option, Some, None, Contains}
use Rattle.std.proofs.lemmas.Bool.{cases_eq, cases_lt}
use Rattle.theory.specs.Word.{Word, IsElement, IsOver}
use Rattle.theory.specs.Listing.{IsListOf, IsAfter}
use Rattle.theory.specs.Value.{IsProduct}
use Rattle.theory.specs.Semigroup.{Semigroup, Numbering}
use Rattle.theory.specs.Green.{IsEdge, IsEdgeOfEither, AreConnected, AreClasses, IsIdempotent}
use Rattle.theory.proofs.ClassListLaws.{one_class_related, related_one_class}
use Rattle.theory.proofs.Counting.{IsIn, in_from_contains, contains_from_in}
use Rattle.theory.proofs.GreenLaws.{green_r, green_l, green_h, green_j}
use Rattle.elements.specs.Generators.{HaveOneShape, value_by}
use Rattle.elements.proofs.Semigroups.{semigroup_of}
use Rattle.froidure_pin.specs.declared.tables.CayleyTables.{CayleyTables}
use Rattle.cayley.specs.Tables.{edge, word_at, number_in}
use Rattle.cayley.specs.Whole.{AreTablesOf}
use Rattle.cayley.proofs.Numberings.{numbering_of}
use Rattle.green.specs.Related.{AreOfLetters, AreRelated, DoAgree, DoCommute, IsIdempotentAt}
use Rattle.green.specs.Told.{IsGreen, StandTogether}
use Rattle.theory.specs.declared.Relation.{Relation}
use Rattle.theory.specs.declared.Relation.TheVariants.{R, L, H, J}
use Rattle.green.proofs.NumberedLaws.{edges_commute, idempotent_leads, products_agree}

-- what is listed has the property, and what has it is listed
listed_has : (P : ℕ → Type 0) (cursor : Option ℕ) (xs : List ℕ) → IsListOf P ◌<◌ cursor xs → (x : ℕ) → IsIn x xs → P x
listed_has P cursor [] h x m = absurd m
listed_has P cursor (y ∷ xs) h x (inl e) = subst P (sym e) h.0.has
listed_has P cursor (y ∷ xs) h x (inr m) = listed_has P (Some y) xs h.1 x m

has_listed : (P : ℕ → Type 0) (cursor : Option ℕ) (xs : List ℕ) → IsListOf P ◌<◌ cursor xs → (x : ℕ) → P x → IsAfter ◌<◌ cursor x → IsIn x xs
has_listed P cursor [] h x p a = absurd (h x p a)
has_listed P cursor (y ∷ xs) h x p a = elim (cases_lt x y) [
  | inl l ↦ absurd (h.0.least x p a l)
  | inr m ↦ elim (cases_eq x y) [
    | inl e ↦ inl e
    | inr d ↦ inr (has_listed P (Some y) xs h.1 x p (omega (arith, m, d)))
  ]
]

-- numbers are related exactly where they stand in one class
stand_together : (n : ℕ) (Rel : ℕ → ℕ → Type 0) (cs : List (List ℕ)) → AreClasses n Rel cs → (i j : ℕ) → i < n → j < n → Rel i j ↔ StandTogether cs i j
stand_together n Rel cs h i j l m = (related_one_class n Rel cs h i j l m, λ c. one_class_related n Rel cs h c.0 c.1 i j c.2 c.3)

-- tables of generators have words of their letters
pub of_letters : {V : Type 0} (product : V → V → V) (equal : V → V → Bool) (generators : List V) (unused : V) (t : CayleyTables)
    → AreTablesOf product equal generators unused t → AreOfLetters t
of_letters product equal generators unused t tables i l =
    subst (λ k. IsOver k (word_at t i)) (sym tables.letters) (tables.numbered.elements i l).1

module _ {V : Type 0} (shape : V → ℕ × ℕ) (product : V → V → V) (equal : V → V → Bool) (products : (one : ℕ × ℕ) → IsProduct (λ x. shape x ≡ one) product equal)
    (generators : List V) (unused : V) (one_shape : HaveOneShape shape generators) (t : CayleyTables) (tables : AreTablesOf product equal generators unused t) where
  abbrev semi : Semigroup shape product equal
  semi = semigroup_of generators unused one_shape

  abbrev laws : IsProduct (λ x. shape x ≡ semi.one) product equal
  laws = products semi.one

  abbrev numbering : Numbering semi
  numbering = numbering_of generators unused one_shape t tables

  -- a letter on the left and one on the right
  pub tables_commute : DoCommute t
  tables_commute i a b l less low =
      edges_commute semi laws numbering i a b l
      (omega (arith, less, tables.letters)) (omega (arith, low, tables.letters))

  -- the words of two numbers in either graph
  pub tables_agree : DoAgree t
  tables_agree =
      products_agree semi laws numbering

  module _ (u v : Word) (e : IsElement false (length generators) u) (f : IsElement false (length generators) v) where
    pub by_relation : (relation : Relation) → IsGreen relation product equal (length generators) (value_by product generators unused)
        (value_by product generators unused u) (value_by product generators unused v) ↔ AreRelated relation t (number_in t u) (number_in t v)
    by_relation R =
        subst (λ k. IsGreen R product equal (length generators) (value_by product generators unused) (value_by product generators unused u) (value_by product generators unused v)
        ↔ AreConnected (IsEdge k (edge t.right)) (number_in t u) (number_in t v)) (sym tables.letters)
        (green_r semi laws numbering u v (number_in t u) (number_in t v)
        (tables.every u e) (tables.every v f))
    by_relation L =
        subst (λ k. IsGreen L product equal (length generators) (value_by product generators unused) (value_by product generators unused u) (value_by product generators unused v)
        ↔ AreConnected (IsEdge k (edge t.left)) (number_in t u) (number_in t v)) (sym tables.letters)
        (green_l semi laws numbering u v (number_in t u) (number_in t v)
        (tables.every u e) (tables.every v f))
    by_relation H =
        subst (λ k. IsGreen H product equal (length generators) (value_by product generators unused) (value_by product generators unused u) (value_by product generators unused v)
        ↔ (AreConnected (IsEdge k (edge t.right)) (number_in t u) (number_in t v) × AreConnected (IsEdge k (edge t.left)) (number_in t u) (number_in t v))) (sym tables.letters)
        (green_h semi laws numbering u v (number_in t u) (number_in t v)
        (tables.every u e) (tables.every v f))
    by_relation J =
        subst (λ k. IsGreen J product equal (length generators) (value_by product generators unused) (value_by product generators unused u) (value_by product generators unused v)
        ↔ AreConnected (IsEdgeOfEither k (edge t.right) (edge t.left)) (number_in t u) (number_in t v)) (sym tables.letters)
        (green_j semi laws numbering u v (number_in t u) (number_in t v)
        (tables.every u e) (tables.every v f))

  pub told_by_classes : (relation : Relation) (classes : List (List ℕ)) → AreClasses (length t.words) (AreRelated relation t) classes → (u v : Word)
      → IsElement false (length generators) u → IsElement false (length generators) v
      → IsGreen relation product equal (length generators) (value_by product generators unused) (value_by product generators unused u) (value_by product generators unused v)
      ↔ StandTogether classes (number_in t u) (number_in t v)
  told_by_classes relation classes c u v e f =
      let by = by_relation u v e f relation in
      let both = stand_together (length t.words) (AreRelated relation t) classes c (number_in t u) (number_in t v) (tables.every u e).0 (tables.every v f).0 in
      (λ g. both.0 (by.0 g), λ s. by.1 (both.1 s))

  -- a value is idempotent exactly where the number of its word is
  pub told_at : (u : Word) → IsElement false (length generators) u
      → IsIdempotent product equal (value_by product generators unused u) ↔ IsIdempotentAt t (number_in t u)
  told_at u e =
      let by = idempotent_leads semi laws numbering u (number_in t u) (tables.every u e) in
      (λ g. record { below = (tables.every u e).0; back = by.0 g }, λ at. by.1 at.back)

  pub told_by_numbers : (found : List ℕ) → IsListOf (IsIdempotentAt t) ◌<◌ None found → (u : Word) → IsElement false (length generators) u
      → IsIdempotent product equal (value_by product generators unused u) ↔ Contains found (number_in t u)
  told_by_numbers found l u e =
      let by = told_at u e in (
        λ g. contains_from_in (number_in t u) found (has_listed (IsIdempotentAt t) None found l (number_in t u) (by.0 g) tt),
        λ m. by.1 (listed_has (IsIdempotentAt t) None found l (number_in t u) (in_from_contains (number_in t u) found m)),
      )
