-- Values of words, letter by letter.
use Rattle.std.proofs.Common.{◌≡◌, ◌≢◌, Bool, ℕ, zero, suc, ◌+◌, ◌<◌, ◌≤◌, List, [], ◌∷◌, ◌++◌, length, get_or, take, map, fold, Some, slice_get, refl, sym, ap, ◌∙◌, arith}
use Rattle.std.proofs.lemmas.List.{take_more, map-append}
use Rattle.std.proofs.lemmas.List.Sums.{fold-append}
use Rattle.std.proofs.lemmas.Option.{slice_get_within, get_or_from_slice_get}
use Rattle.std.proofs.Math.Seq.{take_all}
use Rattle.theory.specs.Word.{Word, IsOver}
use Rattle.theory.specs.Value.{IsProduct}
use Rattle.words.proofs.TextLemmas.{over_at}
use Rattle.elements.specs.Generators.{HaveOneShape, value_by}

-- a letter that is read is one of the first k
pub letter_within : (k : ℕ) (u : Word) (i a : ℕ) → IsOver k u → slice_get u i ≡ Some a → a < k
letter_within k u i a over e =
    let within : i < length u = slice_get_within u i a e in
    let letter : get_or u i 0 ≡ a = get_or_from_slice_get u i a 0 e in
    omega (arith, over_at k u i 0 over within)

-- the word is not empty
pub some_letter : (u : Word) → u ≢ [] → 0 < length u
some_letter [] h = absurd (h refl)
some_letter (a ∷ u) h = omega arith

module _ {V : Type 0} (product : V → V → V) (generators : List V) (unused : V) where
  pub value_first : (u : Word) (a : ℕ) (x : V) → slice_get u 0 ≡ Some a → slice_get generators a ≡ Some x → x ≡ value_by product generators unused (take 1 u)
  value_first [] a x e at = cc
  value_first (b ∷ u) a x e at =
      let letter : b ≡ a = cc in
      sym (get_or_from_slice_get generators a x unused at) ∙ ap (λ n. get_or generators n unused) (sym letter)

  pub value_more : (u : Word) (i a : ℕ) (v x : V) → 0 < i → i < length u → slice_get u i ≡ Some a → slice_get generators a ≡ Some x → v ≡ value_by product generators unused (take i u)
      → product v x ≡ value_by product generators unused (take (i + 1) u)
  value_more [] i a v x some h e at so_far = absurd (omega arith)
  value_more (b ∷ u) zero a v x some h e at so_far = absurd (omega arith)
  value_more (b ∷ u) (suc i) a v x some h e at so_far =
      let generator : ℕ → V = λ n. get_or generators n unused in
      let place : suc i + 1 ≡ suc (i + 1) = omega arith in
      let more : take (i + 1) u ≡ take i u ++ get_or u i 0 ∷ [] = take_more u i 0 (omega arith) in
      let letter : get_or u i 0 ≡ a = get_or_from_slice_get u i a 0 e in
      let front : List V = map generator (take i u) in
      let steps : map generator (take (i + 1) u) ≡ front ++ generator (get_or u i 0) ∷ [] = ap (map generator) more ∙ map-append generator (take i u) (get_or u i 0 ∷ []) in
      sym (ap (λ n. value_by product generators unused (take n (b ∷ u))) place
      ∙ ap (fold product (generator b)) steps
      ∙ fold-append product (generator b) front (generator (get_or u i 0) ∷ [])
      ∙ ap (λ n. product (fold product (generator b) front) (generator n)) letter
      ∙ ap (product (fold product (generator b) front)) (get_or_from_slice_get generators a x unused at)
      ∙ ap (λ y. product y x) (sym so_far))

-- all letters were read
pub all_read : {V : Type 0} (value_of : Word → V) (u : Word) (i : ℕ) (v : V) → length u ≤ i → v ≡ value_of (take i u) → v ≡ value_of u
all_read value_of u i v h e = e ∙ ap value_of (take_all i u h)

-- what is at a number has the shape of any
pub shape_at : {V : Type 0} (shape : V → ℕ × ℕ) (generators : List V) (number : ℕ) (x y : V) → HaveOneShape shape generators → slice_get generators number ≡ Some x → y ≡ x → (i : ℕ) (unused : V) → i < length generators → shape y ≡ shape (get_or generators i unused)
shape_at shape generators number x y one at same i unused h =
    ap shape same ∙ ap shape (sym (get_or_from_slice_get generators number x unused at)) ∙ one number i unused (slice_get_within generators number x at) h

-- a product of two of one shape has that shape
pub shape_of_product : {V : Type 0} (shape : V → ℕ × ℕ) (product : V → V → V) {equal : V → V → Bool} → ((one : ℕ × ℕ) → IsProduct (λ z. shape z ≡ one) product equal) → (x y z : V) → shape x ≡ shape y → z ≡ product x y → shape z ≡ shape x
shape_of_product shape product laws x y z e made =
    let law = laws (shape x) in
    ap shape made ∙ law.shape x y refl (sym e)
