-- Lists of numbers as lines of words.
use Rattle.std.proofs.Common.{◌≡◌, ℕ, ◌<◌, false, List, [], ◌∷◌, ◌++◌, map, length, slice_index_or, codes, All, Option, None, Some, option_map, inl, inr, refl, sym, ap, subst, ◌∙◌, arith, Result}
use Rattle.std.proofs.lemmas.Bool.{cases_lt, cases_eq}
use Rattle.std.proofs.lemmas.List.Elements.{All-nil, All-cons}
use Rattle.ports.specs.declared.sink.Sink.{Ghosts}
use Rattle.ports.specs.declared.fault.WriteFault.{WriteFault}
use Rattle.ports.specs.Writes.{Writes, WritesBytes}
use Rattle.ports.proofs.WriteLemmas.{meant_bytes, same_bytes}
use Rattle.theory.specs.Word.{Word}
use Rattle.theory.specs.ShortLex.{◌≺◌}
use Rattle.theory.specs.Listing.{IsListOf, IsAscending, IsStrictOrder}
use Rattle.theory.specs.Class.{IsLeast, IsClassList}
use Rattle.theory.specs.Green.{AreClasses}
use Rattle.theory.specs.declared.Relation.{Relation}
use Rattle.theory.proofs.Counting.{IsIn}
use Rattle.theory.proofs.Listings.{list_from_ascending}
use Rattle.theory.proofs.ClassLaws.{shortlex_strict}
use Rattle.froidure_pin.specs.declared.tables.CayleyTables.{CayleyTables}
use Rattle.froidure_pin.proofs.Starts.{at_in, start_ascending, ascending_between}
use Rattle.problem.specs.declared.kinds.Problem.{Problem}
use Rattle.problem.specs.Problem.{HasOneShape, SameClassOf, SameValueOf, letters_of, pairs_of}
use Rattle.problem.proofs.RelatedByValue.{related_by_value}
use Rattle.element_tables.specs.CayleyGraphs.{AreTablesFor}
use Rattle.green.specs.Related.{AreRelated, IsIdempotentAt}
use Rattle.green.proofs.GroupLaws.{classes_same}
use Rattle.element_tables.proofs.Alike.{classes_alike}
use Rattle.element_tables.proofs.Elements.{list_start, listed_least}
use Rattle.report_lines.specs.Collected.{AreLinesOf, TextLines}
use Rattle.report_lines.specs.LineBytes.{AreBytesOf, bytes_of}
use Rattle.report_lines.specs.Greens.{AreGreenAt, AreGreenLines, AreIdempotentLines, IsIdempotentOf, IsLeastIdempotent}
use Rattle.report_lines.specs.Lines.{class_line, class_text, end_line, word_line}
use Rattle.report_lines.specs.Texts.{AreTexts}
use Rattle.report_lines.proofs.GreenTables.{listed_in, green_alike, idempotents_alike}

-- what is listed has the property
in_listed : (P : ℕ → Type 0) (cursor : Option ℕ) (xs : List ℕ) → IsListOf P ◌<◌ cursor xs → (x : ℕ) → IsIn x xs → P x
in_listed P cursor [] h x m = absurd m
in_listed P cursor (y ∷ xs) h x (inl e) = subst P (sym e) h.0.has
in_listed P cursor (y ∷ xs) h x (inr m) = in_listed P (Some y) xs h.1 x m

pub listed_below : (n : ℕ) (P : ℕ → Type 0) → ((x : ℕ) → P x → x < n) → (cursor : Option ℕ) (xs : List ℕ) → IsListOf P ◌<◌ cursor xs → All (λ x. x < n) xs
listed_below n P below cursor [] h = All-nil (λ x. x < n)
listed_below n P below cursor (x ∷ xs) h = All-cons (λ x. x < n) x xs (below x h.0.has) (listed_below n P below (Some x) xs h.1)

map_twice : {X Y Z : Type 0} (f : Y → Z) (g : X → Y) (xs : List X) → map f (map g xs) ≡ map (λ x. f (g x)) xs
map_twice f g [] = refl
map_twice f g (x ∷ xs) = ap (λ ys. f (g x) ∷ ys) (map_twice f g xs)

in_map : {X Y : Type 0} (f : X → Y) (x : X) (xs : List X) → IsIn x xs → IsIn (f x) (map f xs)
in_map f x [] m = absurd m
in_map f x (y ∷ xs) (inl e) = inl (ap f e)
in_map f x (y ∷ xs) (inr m) = inr (in_map f x xs m)

number_order : (P : ℕ → Type 0) → IsStrictOrder P ◌<◌
number_order P = record {
  cases = λ x y p q. elim (cases_lt x y) [
    | inl l ↦ inl l
    | inr m ↦ elim (cases_eq x y) [ inl e ↦ inr (inl e) | inr d ↦ inr (inr (omega (arith, m, d))) ]
  ];
  irrefl = λ x h. omega arith;
  trans = λ x y z h k. omega arith;
}

module _ (p : Problem) (t : CayleyTables) (one : HasOneShape p) (unpaired : pairs_of p ≡ []) (tables : AreTablesFor p t) where
  -- the words of the tables are the class list
  all_listed : IsClassList (SameClassOf p) t.words
  all_listed =
      let alike = related_by_value p one unpaired in
      classes_alike (SameValueOf p) (SameClassOf p) (λ u v. ((alike u v).1, (alike u v).0)) t.words tables.graphs.listed

  -- the classes of numbers are those of the words
  green_lines : (relation : Relation) (classes : List (List ℕ)) → AreClasses (length t.words) (AreRelated relation t) classes
      → AreGreenLines relation p (map (class_line (letters_of p) t.words) classes ++ end_line false ∷ [])
  green_lines relation classes h = record {
    words = t.words;
    listed = all_listed;
    classes = classes;
    are_classes = classes_same (length t.words) (AreRelated relation t) (AreGreenAt relation p t.words) (green_alike relation p t one tables) classes h;
    are_lines = refl;
  }

  -- what is written where the lines of classes are
  pub green_told : {K : Type 0} (sink : Ghosts K) (relation : Relation) (s : TextLines) (classes : List (List ℕ)) → AreClasses (length t.words) (AreRelated relation t) classes
      → AreTexts (letters_of p) t.words s.texts → AreLinesOf s classes
      → (old new : K) (r : Result (Unit {0}) WriteFault) → WritesBytes sink (bytes_of (map (λ line. line ++ codes "\n") s.lines ++ end_line false ∷ [])) old new r
      → Writes sink (λ _. AreBytesOf (AreGreenLines relation p)) old new r
  green_told sink relation s classes h texts lines old new r written =
      let told : List (List ℕ) = map (class_line (letters_of p) t.words) classes ++ end_line false ∷ [] in
      let same : map (λ line. line ++ codes "\n") s.lines ≡ map (class_line (letters_of p) t.words) classes =
      ap (map (λ line. line ++ codes "\n")) (lines.lines (letters_of p) t.words texts) ∙ map_twice (λ line. line ++ codes "\n") (class_text (letters_of p) t.words) classes in
      meant_bytes sink (bytes_of told) old new r tt (λ _. record { lines = told; are_such = green_lines relation classes h; are_bytes = refl })
      (same_bytes sink (bytes_of (map (λ line. line ++ codes "\n") s.lines ++ end_line false ∷ [])) (bytes_of told) old new r (ap (λ ls. bytes_of (ls ++ end_line false ∷ [])) same) written)

  -- the words of ascending numbers ascend
  between : (i j : ℕ) → i < j → j < length t.words → slice_index_or t.words i [] ≺ slice_index_or t.words j []
  between = ascending_between None t.words (start_ascending (IsLeast (SameClassOf p)) None t.words (list_start (IsLeast (SameClassOf p)) None t.words all_listed))

  ascend : (cursor : Option ℕ) (found : List ℕ) → IsListOf (IsIdempotentAt t) ◌<◌ cursor found
      → IsAscending ◌≺◌ (option_map (λ i. slice_index_or t.words i []) cursor) (map (λ i. slice_index_or t.words i []) found)
  ascend cursor [] h = tt
  ascend None (i ∷ found) h = (tt, ascend (Some i) found h.1)
  ascend (Some m) (i ∷ found) h = (between m i h.0.after h.0.has.below, ascend (Some i) found h.1)

  -- the words of the listed numbers are the idempotents
  module _ (found : List ℕ) (listed : IsListOf (IsIdempotentAt t) ◌<◌ None found) where
    has : (numbers : List ℕ) → ((i : ℕ) → IsIn i numbers → IsIdempotentAt t i) → (w : Word) → IsIn w (map (λ i. slice_index_or t.words i []) numbers) → IsLeastIdempotent p w
    has [] f w m = absurd m
    has (i ∷ numbers) f w (inl e) =
        let at = f i (inl refl) in
        subst (IsLeastIdempotent p) (sym e) (listed_least (SameClassOf p) t.words all_listed i at.below, (idempotents_alike p t one tables i at.below).0 at)
    has (i ∷ numbers) f w (inr m) = has numbers (λ j n. f j (inr n)) w m

    all : (w : Word) → IsLeastIdempotent p w → IsIn w (map (λ i. slice_index_or t.words i []) found)
    all w h =
        let at = at_in w t.words [] (listed_in (IsLeast (SameClassOf p)) ◌≺◌ (shortlex_strict (IsLeast (SameClassOf p))) None t.words all_listed w h.0 tt) in
        let back : IsIdempotentAt t at.0 = (idempotents_alike p t one tables at.0 at.1).1 (subst (IsIdempotentOf p) (sym at.2) h.1) in
        subst (λ v. IsIn v (map (λ i. slice_index_or t.words i []) found)) at.2
        (in_map (λ i. slice_index_or t.words i []) at.0 found (listed_in (IsIdempotentAt t) ◌<◌ (number_order (IsIdempotentAt t)) None found listed at.0 back tt))

    idempotent_lines : AreIdempotentLines p (map (λ i. word_line (letters_of p) (slice_index_or t.words i [])) found ++ end_line false ∷ [])
    idempotent_lines = record {
      words = map (λ i. slice_index_or t.words i []) found;
      listed =
          list_from_ascending (IsLeastIdempotent p) ◌≺◌ (shortlex_strict (IsLeastIdempotent p)) None (map (λ i. slice_index_or t.words i []) found) (ascend None found listed)
          (has found (in_listed (IsIdempotentAt t) None found listed)) (λ w h _. all w h);
      are_lines = ap (λ ls. ls ++ end_line false ∷ []) (sym (map_twice (word_line (letters_of p)) (λ i. slice_index_or t.words i []) found));
    }

    pub idempotents_told : {K : Type 0} (sink : Ghosts K) (old new : K) (r : Result (Unit {0}) WriteFault)
        → WritesBytes sink (bytes_of (map (λ i. word_line (letters_of p) (slice_index_or t.words i [])) found ++ end_line false ∷ [])) old new r
        → Writes sink (λ _. AreBytesOf (AreIdempotentLines p)) old new r
    idempotents_told sink old new r =
        meant_bytes sink (bytes_of (map (λ i. word_line (letters_of p) (slice_index_or t.words i [])) found ++ end_line false ∷ [])) old new r tt
        (λ _. record { lines = map (λ i. word_line (letters_of p) (slice_index_or t.words i [])) found ++ end_line false ∷ []; are_such = idempotent_lines; are_bytes = refl })
