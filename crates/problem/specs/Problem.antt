-- Problems: congruences on presentations (Sims 1994), and on semigroups by generators of one kind,
-- each with a letter (Froidure and Pin 1997).
use Rattle.std.specs.Prelude.{◌≡◌, ℕ, ◌+◌, ◌≤◌, ◌⊎◌, Bool, Option, true, false, List, [], ◌∷◌, ◌++◌, ◌==◌, length, codes, decimal, Contains}
use Rattle.std.specs.Cmp.Lexicographic.{pointwise}
use Rattle.std.specs.List.{join_by}
use Rattle.std.specs.Option.{option_eq}
use Rattle.theory.specs.declared.Kind.{Kind}
use Rattle.theory.specs.declared.Kind.TheVariants.{TwoSided, Right, Left}
use Rattle.theory.specs.Word.{Word}
use Rattle.theory.specs.Congruence.{Congruence, as_right, is_two_sided}
use Rattle.theory.specs.Class.{SameClass}
use Rattle.theory.specs.Felsch.{FelschEnds}
use Rattle.theory.specs.Hlt.{HltEnds}
use Rattle.theory.specs.Completion.{CompletionEnds}
use Rattle.theory.specs.Marked.{completed}
use Rattle.theory.specs.Value.{SameValue, SameElement, HasAtMostValues, HasMoreValues}
use Rattle.words.specs.Alphabet.{marker}
use Rattle.elements.specs.Generators.{HaveOneShape, value_by}
use Rattle.elements.specs.Fields.{decimal_or_dash}
use Rattle.elements.specs.Transf.{composed}
use Rattle.elements.specs.PPerm.{partially_composed}
use Rattle.elements.specs.BMat.{BooleanMatrix, boolean_product, bit_text}
use Rattle.elements.specs.BMatLaws.{boolean_matrix_eq}
use Rattle.elements.specs.MaxPlus.{TruncatedMatrix, truncated_product}
use Rattle.elements.specs.MaxPlusLaws.{truncated_matrix_eq}
use Rattle.presentation.specs.Presented as presented
use Rattle.problem.specs.Posed.{PosedOf, IsPosed, one_pair_more}
use Rattle.problem.specs.declared.budgets.Budgets.{Budgets}
use Rattle.problem.specs.declared.kinds.Problem.{Problem}
use Rattle.problem.specs.declared.kinds.Problem.TheVariants.{Presented, Transf, PPerm, BMat, MaxPlus}

-- what stands for the value of the empty word, which has none
abbrev pub no_matrix : BooleanMatrix
no_matrix = record { dimension = 0; entries = [] }

abbrev pub no_truncated_matrix : TruncatedMatrix
no_truncated_matrix = record { dimension = 0; bound = 0; entries = [] }

-- a kind of elements: the shape of each, their product and equality, what stands for the value of
-- the empty word, and the entries of an element as a report prints them
pub record ElementKind (V : Type 0) : Type 0 where
  pub shape : V → ℕ × ℕ
  pub product : V → V → V
  pub equal : V → V → Bool
  pub unused : V
  pub text : V → List ℕ

abbrev pub transformations : ElementKind (List ℕ)
transformations = record {
  shape = λ t. (length t, 0);
  product = composed;
  equal = pointwise ◌==◌;
  unused = [];
  text = join_by decimal (codes " ");
}

abbrev pub partial_permutations : ElementKind (List (Option ℕ))
partial_permutations = record {
  shape = λ t. (length t, 0);
  product = partially_composed;
  equal = pointwise (option_eq ◌==◌);
  unused = [];
  text = join_by decimal_or_dash (codes " ");
}

abbrev pub boolean_matrices : ElementKind BooleanMatrix
boolean_matrices = record {
  shape = λ m. (m.dimension, 0);
  product = boolean_product;
  equal = boolean_matrix_eq;
  unused = no_matrix;
  text = λ m. join_by bit_text (codes " ") m.entries;
}

abbrev pub truncated_matrices : ElementKind TruncatedMatrix
truncated_matrices = record {
  shape = λ m. (m.dimension, m.bound);
  product = truncated_product;
  equal = truncated_matrix_eq;
  unused = no_truncated_matrix;
  text = λ m. join_by decimal_or_dash (codes " ") m.entries;
}

-- what a problem has, told for relations, and for generators of every kind
abbrev pub of_problem : {T : Type 0} → (presented.Posed → T)
    → ((V : Type 0) → ElementKind V → PosedOf V → T) → Problem → T
of_problem relations generators (Presented p) = relations p
of_problem relations generators (Transf p) = generators (List ℕ) transformations p
of_problem relations generators (PPerm p) = generators (List (Option ℕ)) partial_permutations p
of_problem relations generators (BMat p) = generators BooleanMatrix boolean_matrices p
of_problem relations generators (MaxPlus p) = generators TruncatedMatrix truncated_matrices p

-- what holds of a problem, told for relations, and for generators of every kind
abbrev pub OfProblem : {T : Type 1} → (presented.Posed → T)
    → ((V : Type 0) → ElementKind V → PosedOf V → T) → Problem → T
OfProblem relations generators (Presented p) = relations p
OfProblem relations generators (Transf p) = generators (List ℕ) transformations p
OfProblem relations generators (PPerm p) = generators (List (Option ℕ)) partial_permutations p
OfProblem relations generators (BMat p) = generators BooleanMatrix boolean_matrices p
OfProblem relations generators (MaxPlus p) = generators TruncatedMatrix truncated_matrices p

-- the value of a word over generators of a kind
abbrev pub value_in : {V : Type 0} → ElementKind V → PosedOf V → Word → V
value_in kind p = value_by kind.product p.generators kind.unused

-- whether the problem is given by relations
abbrev pub is_presented : Problem → Bool
is_presented = of_problem (λ _. true) (λ _ _ _. false)

-- whether the empty word is an element
abbrev pub has_empty_word : Problem → Bool
has_empty_word = of_problem (λ p. p.congruence.presentation.is_monoid) (λ _ _ _. false)

-- the bytes of the letters
abbrev pub letters_of : Problem → List ℕ
letters_of = of_problem (λ p. p.alphabet) (λ _ _ p. p.letters)

-- how many letters there are, or generators
abbrev pub count_of : Problem → ℕ
count_of = of_problem (λ p. p.congruence.presentation.letters) (λ _ _ p. length p.generators)

-- the pairs
abbrev pub pairs_of : Problem → List (Word × Word)
pairs_of = of_problem (λ p. p.congruence.pairs) (λ _ _ p. p.pairs)

-- their kind
abbrev pub kind_of : Problem → Kind
kind_of = of_problem (λ p. p.congruence.kind) (λ _ _ p. p.kind)

-- one pair more behind the others; all are of this kind
abbrev pub with_pair : Problem → Kind → Word × Word → Problem
with_pair (Presented p) kind pair =
    Presented (record p {
      congruence = record p.congruence { kind = kind; pairs = p.congruence.pairs ++ pair ∷ [] };
    })
with_pair (Transf p) kind pair = Transf (one_pair_more p kind pair)
with_pair (PPerm p) kind pair = PPerm (one_pair_more p kind pair)
with_pair (BMat p) kind pair = BMat (one_pair_more p kind pair)
with_pair (MaxPlus p) kind pair = MaxPlus (one_pair_more p kind pair)

-- both words are elements, and the congruence relates them; or a chain joins them that replaces
-- factors by words of equal value, and uses the pairs as their kind allows
abbrev pub SameClassOf : Problem → Word → Word → Type 0
SameClassOf = OfProblem (λ p. SameClass p.congruence)
    (λ _ kind p. SameElement (length p.generators) kind.equal (value_in kind p) p.kind p.pairs)

-- both words are elements of equal values; words over relations have none
abbrev pub SameValueOf : Problem → Word → Word → Type 0
SameValueOf = OfProblem (λ _ _ _. ⊥)
    (λ _ kind p. SameValue (length p.generators) kind.equal (value_in kind p))

-- the problem is given by generators of one shape
abbrev pub HasOneShape : Problem → Type 0
HasOneShape = OfProblem (λ _. ⊥) (λ _ kind p. HaveOneShape kind.shape p.generators)

-- what holds of every problem: the sides of relations and pairs are elements, and generators are
-- of one shape, one for each letter
abbrev pub IsWellPosed : Problem → Type 0
IsWellPosed = OfProblem presented.IsPosed
    (λ _ kind p. IsPosed kind.shape p.letters p.generators p.pairs)

-- the congruence has at most 8,192 relations and pairs together, and where its pairs are one-sided
-- the marker is none of the letters
pub record IsSolvable (c : presented.Posed) : Type 0 where
  pub few : length c.congruence.presentation.relations + length c.congruence.pairs ≤ 8192
  pub unmarked : is_two_sided c.congruence ≡ false → ¬ Contains c.alphabet marker

-- two-sided pairs, or none
abbrev pub are_two_sided : Kind → List (Word × Word) → Bool
are_two_sided TwoSided pairs = true
are_two_sided Right pairs = length pairs == 0
are_two_sided Left pairs = length pairs == 0

-- whether reduced rules may be asked for: the congruence is two-sided
abbrev pub allows_rules : Problem → Bool
allows_rules = of_problem (λ p. is_two_sided p.congruence) (λ _ _ p. are_two_sided p.kind p.pairs)

-- a problem that scripts pose
abbrev pub IsPosable : Problem → Type 0
IsPosable = OfProblem IsSolvable (λ _ _ _. Unit {0})

-- a strategy of coset enumeration ends within its budget
abbrev pub EnumerationEnds : Congruence → Budgets → Type 0
EnumerationEnds c b = FelschEnds (as_right c) b.defs ⊎ HltEnds (as_right c) b.rows

-- some engine decides the congruence within its budget: a strategy of coset enumeration, or
-- completion, with a marker where pairs are one-sided
abbrev pub IsCongruenceDecided : Congruence → Budgets → Type 0
IsCongruenceDecided c b = EnumerationEnds c b ⊎ CompletionEnds (completed c) b.length

-- the problem is decided within the budgets: some engine decides it, or the words have no more
-- values than may be
abbrev pub IsDecided : Problem → Budgets → Type 0
IsDecided = OfProblem (λ p. IsCongruenceDecided p.congruence)
    (λ _ kind p b. HasAtMostValues (length p.generators) kind.equal (value_in kind p) b.elements)

-- the problem is not decided within the budgets: no engine decides it, or the words have more
-- values
abbrev pub IsUndecided : Problem → Budgets → Type 0
IsUndecided = OfProblem (λ p b. IsCongruenceDecided p.congruence b → ⊥)
    (λ _ kind p b. HasMoreValues (length p.generators) kind.equal (value_in kind p) b.elements)

-- the entries of a word's value, with a space between each two; words over relations have none
abbrev pub value_text : Problem → Word → List ℕ
value_text = of_problem (λ _ _. []) (λ _ kind p u. kind.text (value_in kind p u))
