-- The lines of classes, with one number more.
use Rattle.std.proofs.Common.{◌≡◌, ◌≢◌, ℕ, ◌<◌, List, [], ◌∷◌, ◌++◌, length, map, slice_index_or, slice_set, codes, inl, inr, refl, sym, ap, subst, ◌∙◌, arith, append-nil, append_assoc}
use Rattle.std.specs.List.{flat_map}
use Rattle.std.proofs.Math.ListN.{get_or-map}
use Rattle.std.proofs.lemmas.Bool.{cases_lt, cases_eq}
use Rattle.std.proofs.lemmas.Grind.{flat_map-append, get_or-set_at}
use Rattle.std.proofs.lemmas.List.{map-append, map-set, length-set, get_or-set_other, get_or_append_left, get_or_push, length_push}
use Rattle.theory.specs.Word.{Word}
use Rattle.words.specs.WordText.{text_of}
use Rattle.report_lines.specs.Collected.{AreLinesOf, TextLines}
use Rattle.report_lines.specs.Lines.{class_text}
use Rattle.report_lines.specs.Texts.{AreTexts, JoinedTexts}

abbrev pub lines_of : JoinedTexts → List (List ℕ) → TextLines
lines_of texts lines = record { texts = texts; lines = lines }

not_empty : (class : List ℕ) (number : ℕ) → class ++ number ∷ [] ≢ []
not_empty class number e = absurd (omega (arith, length_push class number, ap length e))

module _ (letters : List ℕ) (words : List Word) where
  class_of_one : (number : ℕ) → class_text letters words (number ∷ []) ≡ text_of letters (slice_index_or words number [])
  class_of_one number = append-nil (text_of letters (slice_index_or words number []))

  class_with : (class : List ℕ) (number : ℕ) → class ≢ [] → class_text letters words (class ++ number ∷ []) ≡ class_text letters words class ++ (codes " " ++ text_of letters (slice_index_or words number []))
  class_with [] number some = absurd (some refl)
  class_with (i ∷ is) number some =
      let text : ℕ → List ℕ = λ j. text_of letters (slice_index_or words j []) in
      let behind : ℕ → List ℕ = λ j. codes " " ++ text j in
      ap (λ t. text i ++ t) (flat_map-append behind is (number ∷ []) ∙ ap (λ t. flat_map behind is ++ t) (append-nil (behind number)))
      ∙ sym (append_assoc (text i) (flat_map behind is) (behind number))

module _ (s : TextLines) (texts : JoinedTexts) (old new : List (List ℕ)) (number : ℕ) (text : List ℕ) (is : lines_of texts old ≡ s) (classes : List (List ℕ)) (so_far : AreLinesOf s classes) where
  before : AreLinesOf (lines_of texts old) classes
  before = subst (λ (t : TextLines). AreLinesOf t classes) (sym is) so_far

  -- a line more
  pub line_more : new ≡ old ++ text ∷ [] → ((letters : List ℕ) (words : List Word) → AreTexts letters words texts → text ≡ text_of letters (slice_index_or words number []))
      → AreLinesOf (lines_of texts new) (classes ++ (number ∷ []) ∷ [])
  line_more pushed told = record {
    count = omega (arith, ap length pushed, length_push old text, length_push classes (number ∷ []), before.count);
    some = λ p within. elim (cases_lt p (length classes)) [
      | inl less ↦ subst (λ (class : List ℕ). class ≢ []) (sym (get_or_append_left classes ((number ∷ []) ∷ []) [] p less)) (before.some p less)
      | inr most ↦
          subst (λ (class : List ℕ). class ≢ []) (sym (get_or_push classes (number ∷ []) [] p (omega (arith, most, within, length_push classes (number ∷ [])))))
          (not_empty [] number)
    ];
    lines = λ letters words t.
        pushed ∙ ap (λ lines. lines ++ text ∷ []) (before.lines letters words t)
        ∙ ap (λ line. map (class_text letters words) classes ++ line ∷ []) (told letters words t ∙ sym (class_of_one letters words number))
        ∙ sym (map-append (class_text letters words) classes ((number ∷ []) ∷ []));
  }

  -- a text more in the line at a place
  pub text_more : (place : ℕ) → place < length classes → new ≡ slice_set old place (slice_index_or old place [] ++ text)
      → ((letters : List ℕ) (words : List Word) → AreTexts letters words texts → text ≡ codes " " ++ text_of letters (slice_index_or words number []))
      → AreLinesOf (lines_of texts new) (slice_set classes place (slice_index_or classes place [] ++ number ∷ []))
  text_more place within put told =
      let class : List ℕ = slice_index_or classes place [] in
      record {
        count = omega (arith, ap length put, length-set old place (slice_index_or old place [] ++ text), length-set classes place (class ++ number ∷ []), before.count);
        some = λ p less. elim (cases_eq p place) [
          | inl same ↦ subst (λ (c : List ℕ). c ≢ []) (sym (get_or-set_at classes place p (class ++ number ∷ []) [] same within)) (not_empty class number)
          | inr other ↦
              subst (λ (c : List ℕ). c ≢ []) (sym (get_or-set_other classes place p (class ++ number ∷ []) [] other))
              (before.some p (omega (arith, less, length-set classes place (class ++ number ∷ []))))
        ];
        lines = λ letters words t.
            let f : List ℕ → List ℕ = class_text letters words in
            let line : slice_index_or old place [] ++ text ≡ f (class ++ number ∷ []) =
            ap (λ (lines : List (List ℕ)). slice_index_or lines place [] ++ text) (before.lines letters words t)
            ∙ ap (λ xs. xs ++ text) (get_or-map f classes place [])
            ∙ ap (λ xs. f class ++ xs) (told letters words t)
            ∙ sym (class_with letters words class number (before.some place within)) in
            put ∙ ap (λ xs. slice_set old place xs) line ∙ ap (λ (lines : List (List ℕ)). slice_set lines place (f (class ++ number ∷ []))) (before.lines letters words t)
            ∙ sym (map-set f classes place (class ++ number ∷ []));
      }
