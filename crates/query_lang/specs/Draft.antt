-- Generators that lines give, one after another.
use Rattle.std.specs.Prelude.{◌≡◌, ℕ, ◌==◌, Bool, true, List, [], length, All, if◌then◌else◌, None, Result, Ok, Err, refl}
use Rattle.std.specs.Coded.{Coded, code_by, coded×, coded_ℕ}
use Rattle.std.specs.List.{list_any}
use Rattle.std.specs.Option.{ok_or}
use Rattle.words.specs.Alphabet.{first_fault}
use Rattle.theory.specs.declared.Kind.TheVariants.{TwoSided}
use Rattle.problem.specs.Posed.{PosedOf, posed_code}
use Rattle.elements.specs.declared.field.Field.{Field}
use Rattle.line_parts.specs.declared.cause.Cause.{Cause}
use Rattle.line_parts.specs.declared.cause.Cause.TheVariants.{NotALetter, RepeatedLetter}
use Rattle.line_parts.specs.Outcome.{and_then}
use Rattle.line_parts.specs.Token.{Token, letter_of}
use Rattle.query_lang.specs.Generators.{one_more}

-- the numbers of the header, and the generators so far, each with its letter
pub record DraftOf (V : Type 0) : Type 0 where
  pub sizes : ℕ × ℕ
  pub posed : PosedOf V

abbrev pub draft_code : {V : Type 0} → Coded V → Coded (DraftOf V)
draft_code {V} code =
    code_by ((ℕ × ℕ) × PosedOf V) (coded× (coded× coded_ℕ coded_ℕ) (posed_code code))
    (λ d. (d.sizes, d.posed)) (λ p. record { sizes = p.0; posed = p.1 }) (λ _. refl)

-- generators with their letters, and no pairs
abbrev pub without_pairs : {V : Type 0} → List ℕ → List V → PosedOf V
without_pairs letters generators = record {
  letters = letters;
  generators = generators;
  kind = TwoSided;
  pairs = [];
}

-- each generator has a letter and is of the one shape, and the letters are different ones
pub record IsDraft {V : Type 0} (shape_of : V → ℕ × ℕ) (shape : ℕ × ℕ) (letters : List ℕ)
    (generators : List V) : Type 0 where
  pub one_each : length generators ≡ length letters
  pub one_shape : All (λ g. shape_of g ≡ shape) generators
  pub sound : first_fault true [] letters ≡ None

-- no generator yet
abbrev pub start_of : {V : Type 0} → ℕ × ℕ → DraftOf V
start_of sizes = record { sizes = sizes; posed = without_pairs [] [] }

-- a letter that no generator has yet
abbrev pub new_letter_of : (wide : Bool) → List ℕ → Token → Result ℕ Cause
new_letter_of wide letters name = and_then
    (λ x. if list_any (λ y. y == x) letters then Err RepeatedLetter else Ok x)
    (ok_or (letter_of wide name) NotALetter)

-- the generator with this name and these entries, which are read by the numbers of the header
abbrev pub with_one : {V : Type 0} → (ℕ × ℕ → List Field → Result V Cause) → Bool → DraftOf V
    → Token → List Field → Result (PosedOf V) Cause
with_one generator_of wide d name fields =
    and_then (λ x. and_then (λ g. Ok (one_more d.posed x g)) (generator_of d.sizes fields))
    (new_letter_of wide d.posed.letters name)
