-- Generators by letters, and pairs of words over them.
use Rattle.std.specs.Prelude.{◌≡◌, ℕ, List, [], ◌∷◌, ◌++◌, false, length, refl}
use Rattle.std.specs.Coded.{Coded, code_by, coded×, coded_list, coded_ℕ}
use Rattle.theory.specs.Word.{Word}
use Rattle.theory.specs.declared.Kind.{Kind}
use Rattle.theory.specs.Congruence.{AreElements}
use Rattle.elements.specs.Generators.{HaveOneShape}
use Rattle.presentation.specs.Codes.{coded_kind, coded_pairs}

-- the bytes of the letters, the generator of each, and pairs of a kind
pub record PosedOf (V : Type 0) : Type 0 where
  pub letters : List ℕ
  pub generators : List V
  pub kind : Kind
  pub pairs : List (Word × Word)

abbrev pub posed_code : {V : Type 0} → Coded V → Coded (PosedOf V)
posed_code {V} code =
    code_by (List ℕ × (List V × (Kind × List (Word × Word))))
    (coded× (coded_list coded_ℕ) (coded× (coded_list code) (coded× coded_kind coded_pairs)))
    (λ p. (p.letters, (p.generators, (p.kind, p.pairs))))
    (λ p. record { letters = p.0; generators = p.1.0; kind = p.1.1.0; pairs = p.1.1.1 })
    (λ _. refl)

-- one pair more behind the others; all are of this kind
abbrev pub one_pair_more : {V : Type 0} → PosedOf V → Kind → Word × Word → PosedOf V
one_pair_more p kind pair = record p { kind = kind; pairs = p.pairs ++ pair ∷ [] }

-- there is a generator of one shape for each letter, and the sides of the pairs are elements
pub record IsPosed {V : Type 0} (shape : V → ℕ × ℕ) (letters : List ℕ) (generators : List V)
    (pairs : List (Word × Word)) : Type 0 where
  pub one_each : length generators ≡ length letters
  pub one_shape : HaveOneShape shape generators
  pub elements : AreElements false (length letters) pairs
