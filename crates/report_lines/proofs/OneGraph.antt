-- The Cayley graphs have one list of lines.
use Rattle.std.proofs.Common.{◌≡◌, ℕ, zero, suc, ◌+◌, ◌<◌, ◌≤◌, List, [], ◌∷◌, ◌++◌, length, get_or, map, refl, sym, ap, ap₂, ◌∙◌, arith}
use Rattle.std.specs.Prelude.{codes, decimal}
use Rattle.std.specs.List.{flat_map, range_with_len}
use Rattle.std.proofs.lemmas.List.Concat.{flat_map_single}
use Rattle.theory.specs.Word.{Word}
use Rattle.theory.proofs.ClassLaws.{IsPartialEquivalence}
use Rattle.element_tables.specs.CayleyGraphs.{AreCayleyGraphs}
use Rattle.element_tables.proofs.OneNumber.{one_number}
use Rattle.report_lines.specs.Lines.{cayley_line, cayley_lines, numbers_text}

joined_same : {A : Type 0} (f g : ℕ → List A) (from n : ℕ) → ((i : ℕ) → from ≤ i → i < from + n → f i ≡ g i) → flat_map f (range_with_len from n) ≡ flat_map g (range_with_len from n)
joined_same f g from zero h = refl
joined_same f g from (suc n) h = ap₂ ◌++◌ (h from (omega arith) (omega arith)) (joined_same f g (from + 1) n (λ i low high. h i (omega arith) (omega arith)))

lines_same : {A : Type 0} (f g : ℕ → A) (n : ℕ) → ((i : ℕ) → i < n → f i ≡ g i) → map f (range_with_len 0 n) ≡ map g (range_with_len 0 n)
lines_same f g n h =
    sym (flat_map_single f (range_with_len 0 n)) ∙ joined_same (λ i. f i ∷ []) (λ i. g i ∷ []) 0 n (λ i _ high. ap (λ x. x ∷ []) (h i (omega arith))) ∙ flat_map_single g (range_with_len 0 n)

numbers_same : (f g : ℕ → ℕ) (k : ℕ) → ((a : ℕ) → a < k → f a ≡ g a) → numbers_text k f ≡ numbers_text k g
numbers_same f g k h = joined_same (λ a. codes " " ++ decimal (f a)) (λ a. codes " " ++ decimal (g a)) 0 k (λ a _ high. ap (λ n. codes " " ++ decimal n) (h a (omega arith)))

module _ (R : Word → Word → Type 0) (known : IsPartialEquivalence R) where
  pub graphs_same : (letters : List ℕ) (k : ℕ) (words : List Word) (right left right' left' : ℕ → ℕ → ℕ) → AreCayleyGraphs R k words right left → AreCayleyGraphs R k words right' left'
      → cayley_lines letters k words right left ≡ cayley_lines letters k words right' left'
  graphs_same letters k words right left right' left' g h =
      lines_same (λ i. cayley_line letters k i (get_or words i []) (right i) (left i)) (λ i. cayley_line letters k i (get_or words i []) (right' i) (left' i)) (length words) row
    where
      row : (i : ℕ) → i < length words → cayley_line letters k i (get_or words i []) (right i) (left i) ≡ cayley_line letters k i (get_or words i []) (right' i) (left' i)
      row i within =
          let on_right : numbers_text k (right i) ≡ numbers_text k (right' i) = numbers_same (right i) (right' i) k (λ a below. one_number R known words g.listed (right i a) (right' i a) (get_or words i [] ++ a ∷ []) (g.on_right i a within below) (h.on_right i a within below)) in
          let on_left : numbers_text k (left i) ≡ numbers_text k (left' i) = numbers_same (left i) (left' i) k (λ a below. one_number R known words g.listed (left i a) (left' i a) (a ∷ get_or words i []) (g.on_left i a within below) (h.on_left i a within below)) in
          rw (on_right, on_left) refl
