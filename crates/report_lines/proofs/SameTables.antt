-- The tables of a problem say the same of its elements, whichever they are.
use Rattle.std.proofs.Common.{◌≡◌, ℕ, ◌<◌, List, [], ◌∷◌, ◌++◌, ◌↔◌, length, slice_index_or, Option, None, Some, IfSome, sym, ap, subst, ◌∙◌, arith}
use Rattle.theory.specs.Word.{Word}
use Rattle.theory.specs.Green.{Reaches, here, further, IsEdge, AreConnected}
use Rattle.theory.proofs.ClassLaws.{IsPartialEquivalence}
use Rattle.froidure_pin.specs.declared.tables.CayleyTables.{CayleyTables}
use Rattle.cayley.specs.Tables.{edge}
use Rattle.problem.specs.declared.kinds.Problem.{Problem}
use Rattle.problem.specs.Problem.{HasOneShape, SameValueOf, count_of, letters_of, pairs_of}
use Rattle.problem.proofs.RelatedByValue.{related_by_value}
use Rattle.element_tables.specs.CayleyGraphs.{AreTablesFor, IsNumbered}
use Rattle.green.specs.Known.{AreNamesIn, KnownNames}
use Rattle.green.specs.Naming.{AreNames}
use Rattle.green.specs.Related.{AreRelated}
use Rattle.theory.specs.declared.Relation.TheVariants.{R, L, H}
use Rattle.element_tables.proofs.OneNumber.{one_list, one_number}
use Rattle.element_tables.proofs.ClassEquivalence.{problem_equivalence}
use Rattle.report_lines.specs.Known.{AreTextsOf}
use Rattle.report_lines.specs.Texts.{AreTexts, JoinedTexts}

if_some : {A : Type 0} (x : Option A) (P Q : A → Type 0) → ((a : A) → P a → Q a) → IfSome x P → IfSome x Q
if_some None P Q f h = tt
if_some (Some a) P Q f h = f a h

-- Walks along edges that are the same.
module _ (k n : ℕ) (next other : ℕ → ℕ → ℕ) (within : (i a : ℕ) → i < n → a < k → next i a < n) (same : (i a : ℕ) → i < n → a < k → next i a ≡ other i a) where
  reaches_alike : {i j : ℕ} → i < n → Reaches (IsEdge k next) i j → Reaches (IsEdge k other) i j
  reaches_alike l here = here
  reaches_alike l (further {i} {j} e r) =
      further (e.0, e.1, sym (same i e.0 l e.1) ∙ e.2) (reaches_alike (subst (λ m. m < n) e.2 (within i e.0 l e.1)) r)

  reaches_back : {i j : ℕ} → i < n → Reaches (IsEdge k other) i j → Reaches (IsEdge k next) i j
  reaches_back l here = here
  reaches_back l (further {i} {j} e r) =
      further (e.0, e.1, same i e.0 l e.1 ∙ e.2) (reaches_back (subst (λ m. m < n) (same i e.0 l e.1 ∙ e.2) (within i e.0 l e.1)) r)

  connected_alike : (i j : ℕ) → i < n → j < n → AreConnected (IsEdge k next) i j ↔ AreConnected (IsEdge k other) i j
  connected_alike i j l m = (λ c. (reaches_alike l c.0, reaches_alike m c.1), λ c. (reaches_back l c.0, reaches_back m c.1))

module _ (p : Problem) (one : HasOneShape p) (unpaired : pairs_of p ≡ []) (t s : CayleyTables) (first : AreTablesFor p t) (second : AreTablesFor p s) where
  known : IsPartialEquivalence (SameValueOf p)
  known =
      let alike = related_by_value p one unpaired in
      let classes = problem_equivalence p in
      record {
        symmetric = λ u v h. (alike v u).0 (classes.symmetric u v ((alike u v).1 h));
        transitive = λ u v w h g. (alike u w).0 (classes.transitive u v w ((alike u v).1 h) ((alike v w).1 g));
      }

  pub words_alike : t.words ≡ s.words
  words_alike = one_list (SameValueOf p) t.words s.words first.graphs.listed second.graphs.listed

  -- a number of the words of the one is one of those of the other
  moved : (i : ℕ) (u : Word) → IsNumbered (SameValueOf p) s.words i u → IsNumbered (SameValueOf p) t.words i u
  moved i u h = subst (λ words. IsNumbered (SameValueOf p) words i u) (sym words_alike) h

  right_alike : (i a : ℕ) → i < length t.words → a < count_of p → edge t.right i a ≡ edge s.right i a
  right_alike i a l m =
      let u : Word = slice_index_or t.words i [] ++ a ∷ [] in
      let below : i < length s.words = subst (λ (ws : List Word). i < length ws) words_alike l in
      one_number (SameValueOf p) known t.words first.graphs.listed (edge t.right i a) (edge s.right i a) u (first.graphs.on_right i a l m)
      (moved (edge s.right i a) u (subst (λ (ws : List Word). IsNumbered (SameValueOf p) s.words (edge s.right i a) (slice_index_or ws i [] ++ a ∷ [])) (sym words_alike) (second.graphs.on_right i a below m)))

  left_alike : (i a : ℕ) → i < length t.words → a < count_of p → edge t.left i a ≡ edge s.left i a
  left_alike i a l m =
      let u : Word = a ∷ slice_index_or t.words i [] in
      let below : i < length s.words = subst (λ (ws : List Word). i < length ws) words_alike l in
      one_number (SameValueOf p) known t.words first.graphs.listed (edge t.left i a) (edge s.left i a) u (first.graphs.on_left i a l m)
      (moved (edge s.left i a) u (subst (λ (ws : List Word). IsNumbered (SameValueOf p) s.words (edge s.left i a) (a ∷ slice_index_or ws i [])) (sym words_alike) (second.graphs.on_left i a below m)))

  letters_alike : length t.letters ≡ length s.letters
  letters_alike = first.letters ∙ sym second.letters

  along_alike : (next other : ℕ → ℕ → ℕ) → ((i a : ℕ) → i < length t.words → a < length t.letters → next i a < length t.words)
      → ((i a : ℕ) → i < length t.words → a < count_of p → next i a ≡ other i a) → (i j : ℕ) → i < length t.words → j < length t.words
      → AreConnected (IsEdge (length t.letters) next) i j ↔ AreConnected (IsEdge (length s.letters) other) i j
  along_alike next other within same i j l m =
      subst (λ k. AreConnected (IsEdge (length t.letters) next) i j ↔ AreConnected (IsEdge k other) i j) letters_alike
      (connected_alike (length t.letters) (length t.words) next other within (λ x a b c. same x a b (omega (arith, c, first.letters))) i j l m)

  right_related : (i j : ℕ) → i < length t.words → j < length t.words → AreRelated R t i j ↔ AreRelated R s i j
  right_related = along_alike (edge t.right) (edge s.right) first.fit.right.within right_alike

  left_related : (i j : ℕ) → i < length t.words → j < length t.words → AreRelated L t i j ↔ AreRelated L s i j
  left_related = along_alike (edge t.left) (edge s.left) first.fit.left.within left_alike

  both_related : (i j : ℕ) → i < length t.words → j < length t.words → AreRelated H t i j ↔ AreRelated H s i j
  both_related i j l m =
      let right = right_related i j l m in
      let left = left_related i j l m in
      (λ h. (right.0 h.0, left.0 h.1), λ h. (right.1 h.0, left.1 h.1))

  -- names of a relation of the one are names of that of the other
  names_moved : (One Other : ℕ → ℕ → Type 0) → ((i j : ℕ) → i < length t.words → j < length t.words → One i j ↔ Other i j) → (names : List ℕ)
      → AreNames (length t.words) One names → AreNames (length s.words) Other names
  names_moved One Other same names h = subst (λ n. AreNames n Other names) (ap length words_alike) (record {
    count = h.count;
    within = h.within;
    same = λ i j l m.
        let by = h.same i j l m in
        let moved_on = same i j l m in
        (λ e. moved_on.0 (by.0 e), λ r. by.1 (moved_on.1 r));
  })

  pub known_alike : (names : KnownNames) → AreNamesIn t names → AreNamesIn s names
  known_alike names h = record {
    right = if_some names.right _ _ (names_moved (AreRelated R t) (AreRelated R s) right_related) h.right;
    left = if_some names.left _ _ (names_moved (AreRelated L t) (AreRelated L s) left_related) h.left;
    both = if_some names.both _ _ (names_moved (AreRelated H t) (AreRelated H s) both_related) h.both;
  }

  pub texts_alike : (texts : JoinedTexts) → AreTextsOf p t texts → AreTextsOf p s texts
  texts_alike texts h = subst (λ (words : List Word). (texts.count ≡ length words) × AreTexts (letters_of p) words texts) words_alike h
