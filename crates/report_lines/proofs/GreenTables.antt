-- The tables of generators tell Green's relations and the idempotents of the words' values.
use Rattle.std.proofs.Common.{◌≡◌, ℕ, ◌<◌, Bool, false, ◌↔◌, inl, inr, List, [], ◌∷◌, ◌==◌, length, slice_index_or, Option, Some, sym, subst}
use Rattle.std.specs.Cmp.Lexicographic.{pointwise}
use Rattle.std.specs.Option.{option_eq}
use Rattle.theory.specs.Word.{Word, IsElement, IsOver}
use Rattle.theory.specs.Listing.{IsListOf, IsAfter, IsStrictOrder}
use Rattle.theory.specs.Value.{IsProduct, SameValue}
use Rattle.theory.specs.Semigroup.{IsNumberBelow}
use Rattle.theory.specs.Green.{IsIdempotent}
use Rattle.theory.specs.declared.Relation.{Relation}
use Rattle.theory.proofs.Counting.{IsIn}
use Rattle.theory.proofs.ClassLaws.{IsPartialEquivalence}
use Rattle.elements.specs.Generators.{HaveOneShape, value_by}
use Rattle.elements.specs.Transf.{composed}
use Rattle.elements.specs.TransfLaws.{composed_products}
use Rattle.elements.specs.PPerm.{partially_composed}
use Rattle.elements.specs.PPermLaws.{partial_products}
use Rattle.elements.specs.BMat.{boolean_product}
use Rattle.elements.specs.BMatLaws.{boolean_matrix_eq, boolean_products}
use Rattle.elements.specs.MaxPlus.{truncated_product}
use Rattle.elements.specs.MaxPlusLaws.{truncated_matrix_eq, truncated_products}
use Rattle.froidure_pin.specs.declared.tables.CayleyTables.{CayleyTables}
use Rattle.cayley.specs.Tables.{FitTogether, edge, word_at, number_in}
use Rattle.cayley.specs.Whole.{AreTablesOf}
use Rattle.problem.specs.declared.kinds.Problem.{Problem}
use Rattle.problem.specs.declared.kinds.Problem.TheVariants.{Presented, Transf, PPerm, BMat, MaxPlus}
use Rattle.problem.specs.Problem.{HasOneShape, SameValueOf, no_matrix, no_truncated_matrix}
use Rattle.element_tables.specs.CayleyGraphs.{AreCayleyGraphs, AreTablesFor}
use Rattle.green.specs.Related.{AreOfLetters, AreRelated, DoAgree, DoCommute, IsIdempotentAt}
use Rattle.green.specs.Told.{IsGreen}
use Rattle.green.proofs.ToldLaws.{by_relation, tables_agree, tables_commute, told_at}
use Rattle.element_tables.proofs.Elements.{listed_least, value_over}
use Rattle.element_tables.proofs.OneNumber.{one_number}
use Rattle.report_lines.specs.Greens.{AreGreenAt, IsIdempotentOf}

-- a list in a strict order has all that has the property
pub listed_in : {A : Type 0} (P : A → Type 0) (Less : A → A → Type 0) → IsStrictOrder P Less → (cursor : Option A) (xs : List A) → IsListOf P Less cursor xs → (x : A) → P x → IsAfter Less cursor x → IsIn x xs
listed_in P Less order cursor [] h x p a = absurd (h x p a)
listed_in P Less order cursor (y ∷ xs) h x p a = elim (order.cases x y p h.0.has) [
  | inl l ↦ absurd (h.0.least x p a l)
  | inr (inl e) ↦ inl e
  | inr (inr g) ↦ inr (listed_in P Less order (Some y) xs h.1 x p g)
]

module _ {V : Type 0} (shape : V → ℕ × ℕ) (product : V → V → V) (equal : V → V → Bool) (products : (one : ℕ × ℕ) → IsProduct (λ x. shape x ≡ one) product equal)
    (generators : List V) (unused : V) (one_shape : HaveOneShape shape generators) (t : CayleyTables) (fit : FitTogether t) (letters : length t.letters ≡ length generators)
    (graphs : AreCayleyGraphs (SameValue (length generators) equal (value_by product generators unused)) (length generators) t.words (edge t.right) (edge t.left))
    (every : (u : Word) → IsElement false (length generators) u → IsNumberBelow (length generators) equal (value_by product generators unused) (length t.words) (word_at t) (number_in t u) u) where
  abbrev Same : Word → Word → Type 0
  Same = SameValue (length generators) equal (value_by product generators unused)

  abbrev laws : IsProduct (λ x. shape x ≡ shape (slice_index_or generators 0 unused)) product equal
  laws = products (shape (slice_index_or generators 0 unused))

  equivalence : IsPartialEquivalence Same
  equivalence = record {
    symmetric = λ u v h. record { left = h.right; right = h.left; related = laws.symmetric (value_by product generators unused u) (value_by product generators unused v) h.related };
    transitive = λ u v w h g. record {
      left = h.left;
      right = g.right;
      related = laws.transitive (value_by product generators unused u) (value_by product generators unused v) (value_by product generators unused w) h.related g.related;
    };
  }

  element_at : (i : ℕ) → i < length t.words → IsElement false (length generators) (word_at t i)
  element_at i l = (listed_least Same t.words graphs.listed i l).element.left

  own : (i : ℕ) → i < length t.words → Same (word_at t i) (word_at t i)
  own i l = (listed_least Same t.words graphs.listed i l).element

  -- the tables are those of the generators
  are_tables : AreTablesOf product equal generators unused t
  are_tables = record {
    fit = fit;
    letters = letters;
    listed = graphs.listed;
    numbered = record {
      elements = element_at;
      all = λ u e. (number_in t u, every u e);
      distinct = λ i j l m s. one_number Same equivalence t.words graphs.listed i j (word_at t i) (l, own i l) (m, s);
      on_right = graphs.on_right;
      on_left = graphs.on_left;
    };
    every = every;
  }

  pub commute_at : DoCommute t
  commute_at = tables_commute shape product equal products generators unused one_shape t are_tables

  pub agree_at : DoAgree t
  agree_at = tables_agree shape product equal products generators unused one_shape t are_tables

  -- a word of the tables has its own place as its number
  own_number : (i : ℕ) → i < length t.words → number_in t (word_at t i) ≡ i
  own_number i l = one_number Same equivalence t.words graphs.listed (number_in t (word_at t i)) i (word_at t i) (every (word_at t i) (element_at i l)) (l, own i l)

  pub related_green : (i j : ℕ) → i < length t.words → j < length t.words → (relation : Relation)
      → AreRelated relation t i j ↔ IsGreen relation product equal (length generators) (value_by product generators unused)
      (value_by product generators unused (word_at t i)) (value_by product generators unused (word_at t j))
  related_green i j l m relation =
      let by = by_relation shape product equal products generators unused one_shape t are_tables (word_at t i) (word_at t j) (element_at i l) (element_at j m) relation in
      let at = subst (λ n. IsGreen relation product equal (length generators) (value_by product generators unused)
      (value_by product generators unused (word_at t i)) (value_by product generators unused (word_at t j)) ↔ AreRelated relation t i n) (own_number j m)
      (subst (λ n. IsGreen relation product equal (length generators) (value_by product generators unused)
      (value_by product generators unused (word_at t i)) (value_by product generators unused (word_at t j)) ↔ AreRelated relation t n (number_in t (word_at t j))) (own_number i l) by) in
      (λ h. at.1 h, λ g. at.0 g)

  pub back_idempotent : (i : ℕ) → i < length t.words → IsIdempotentAt t i ↔ IsIdempotent product equal (value_by product generators unused (word_at t i))
  back_idempotent i l =
      let by = subst (λ n. IsIdempotent product equal (value_by product generators unused (word_at t i)) ↔ IsIdempotentAt t n) (own_number i l)
      (told_at shape product equal products generators unused one_shape t are_tables (word_at t i) (element_at i l)) in
      (λ h. by.1 h, λ g. by.0 g)

-- numbers are related exactly where their words' values are
pub green_alike : (relation : Relation) (p : Problem) (t : CayleyTables) → HasOneShape p → AreTablesFor p t → (i j : ℕ) → i < length t.words → j < length t.words
    → AreRelated relation t i j ↔ AreGreenAt relation p t.words i j
green_alike relation (Presented p) t one tables i j l m = absurd one
green_alike relation (Transf p) t one tables i j l m =
    related_green (λ x. (length x, 0)) composed (pointwise ◌==◌) composed_products p.generators [] one t tables.fit tables.letters tables.graphs tables.every i j l m relation
green_alike relation (PPerm p) t one tables i j l m =
    related_green (λ x. (length x, 0)) partially_composed (pointwise (option_eq ◌==◌)) partial_products p.generators [] one t tables.fit tables.letters tables.graphs tables.every i j l m relation
green_alike relation (BMat p) t one tables i j l m =
    related_green (λ x. (x.dimension, 0)) boolean_product boolean_matrix_eq boolean_products p.generators no_matrix one t tables.fit tables.letters tables.graphs tables.every i j l m relation
green_alike relation (MaxPlus p) t one tables i j l m =
    related_green (λ x. (x.dimension, x.bound)) truncated_product truncated_matrix_eq truncated_products p.generators no_truncated_matrix one t tables.fit tables.letters tables.graphs tables.every i j l m relation

-- a number is listed exactly where its word's value is idempotent
pub idempotents_alike : (p : Problem) (t : CayleyTables) → HasOneShape p → AreTablesFor p t → (i : ℕ) → i < length t.words
    → IsIdempotentAt t i ↔ IsIdempotentOf p (slice_index_or t.words i [])
idempotents_alike (Presented p) t one tables i l = absurd one
idempotents_alike (Transf p) t one tables i l =
    back_idempotent (λ x. (length x, 0)) composed (pointwise ◌==◌) composed_products p.generators [] one t tables.fit tables.letters tables.graphs tables.every i l
idempotents_alike (PPerm p) t one tables i l =
    back_idempotent (λ x. (length x, 0)) partially_composed (pointwise (option_eq ◌==◌)) partial_products p.generators [] one t tables.fit tables.letters tables.graphs tables.every i l
idempotents_alike (BMat p) t one tables i l =
    back_idempotent (λ x. (x.dimension, 0)) boolean_product boolean_matrix_eq boolean_products p.generators no_matrix one t tables.fit tables.letters tables.graphs tables.every i l
idempotents_alike (MaxPlus p) t one tables i l =
    back_idempotent (λ x. (x.dimension, x.bound)) truncated_product truncated_matrix_eq truncated_products p.generators no_truncated_matrix one t tables.fit tables.letters tables.graphs tables.every i l

-- a letter on the left and one on the right may be multiplied in either order
pub commutes : (p : Problem) (t : CayleyTables) → HasOneShape p → AreTablesFor p t → DoCommute t
commutes (Presented p) t one tables = absurd one
commutes (Transf p) t one tables = commute_at (λ x. (length x, 0)) composed (pointwise ◌==◌) composed_products p.generators [] one t tables.fit tables.letters tables.graphs tables.every
commutes (PPerm p) t one tables = commute_at (λ x. (length x, 0)) partially_composed (pointwise (option_eq ◌==◌)) partial_products p.generators [] one t tables.fit tables.letters tables.graphs tables.every
commutes (BMat p) t one tables = commute_at (λ x. (x.dimension, 0)) boolean_product boolean_matrix_eq boolean_products p.generators no_matrix one t tables.fit tables.letters tables.graphs tables.every
commutes (MaxPlus p) t one tables = commute_at (λ x. (x.dimension, x.bound)) truncated_product truncated_matrix_eq truncated_products p.generators no_truncated_matrix one t tables.fit tables.letters tables.graphs tables.every

-- the words of two numbers lead to their product in either graph
pub agrees : (p : Problem) (t : CayleyTables) → HasOneShape p → AreTablesFor p t → DoAgree t
agrees (Presented p) t one tables = absurd one
agrees (Transf p) t one tables = agree_at (λ x. (length x, 0)) composed (pointwise ◌==◌) composed_products p.generators [] one t tables.fit tables.letters tables.graphs tables.every
agrees (PPerm p) t one tables = agree_at (λ x. (length x, 0)) partially_composed (pointwise (option_eq ◌==◌)) partial_products p.generators [] one t tables.fit tables.letters tables.graphs tables.every
agrees (BMat p) t one tables = agree_at (λ x. (x.dimension, 0)) boolean_product boolean_matrix_eq boolean_products p.generators no_matrix one t tables.fit tables.letters tables.graphs tables.every
agrees (MaxPlus p) t one tables = agree_at (λ x. (x.dimension, x.bound)) truncated_product truncated_matrix_eq truncated_products p.generators no_truncated_matrix one t tables.fit tables.letters tables.graphs tables.every

-- the words are words of the letters
pub of_letters : (p : Problem) (t : CayleyTables) → AreTablesFor p t → AreOfLetters t
of_letters p t tables i l =
    let u : Word = word_at t i in
    subst (λ k. IsOver k u) (sym tables.letters) (value_over p u u (listed_least (SameValueOf p) t.words tables.graphs.listed i l).element)
