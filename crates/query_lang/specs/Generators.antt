-- A problem with one generator more, or why the fields give none.
use Rattle.std.specs.Prelude.{ℕ, List, [], ◌∷◌, ◌++◌, Result, Ok, Err}
use Rattle.elements.specs.declared.field.Field.{Field}
use Rattle.problem.specs.Posed.{PosedOf}
use Rattle.problem.specs.declared.kinds.Problem.{Problem}
use Rattle.problem.specs.declared.kinds.Problem.TheVariants.{Presented, Transf, PPerm, BMat, MaxPlus}
use Rattle.line_parts.specs.declared.cause.Cause.{Cause}
use Rattle.line_parts.specs.declared.cause.Cause.TheVariants.{UnknownLine}
use Rattle.line_parts.specs.Elements.{transformation_of, partial_permutation_of, boolean_matrix_of, truncated_matrix_of}
use Rattle.line_parts.specs.Outcome.{and_then}

-- one generator more
abbrev pub one_more : {V : Type 0} → PosedOf V → ℕ → V → PosedOf V
one_more p x g = record p
    { letters = p.letters ++ x ∷ []; generators = p.generators ++ g ∷ [] }

-- the problem with the element that the fields give as one generator more, of the problem's kind
abbrev pub generator_more : ℕ × ℕ → Problem → ℕ → List Field → Result Problem Cause
generator_more sizes (Presented p) x fields = Err UnknownLine
generator_more sizes (Transf p) x fields =
    and_then (λ g. Ok (Transf (one_more p x g))) (transformation_of sizes fields)
generator_more sizes (PPerm p) x fields =
    and_then (λ g. Ok (PPerm (one_more p x g))) (partial_permutation_of sizes fields)
generator_more sizes (BMat p) x fields =
    and_then (λ g. Ok (BMat (one_more p x g))) (boolean_matrix_of sizes fields)
generator_more sizes (MaxPlus p) x fields =
    and_then (λ g. Ok (MaxPlus (one_more p x g))) (truncated_matrix_of sizes fields)
