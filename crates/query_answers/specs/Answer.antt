-- What a query asks, over relatedness, least words, the class list and the bound alone (Froidure
-- and Pin 1997; libsemigroups: Congruence).
use Rattle.std.specs.Prelude.{◌≡◌, ℕ, Bool, true, false, ◌⊎◌, List, [], ◌∷◌, ◌++◌, length, map}
use Rattle.theory.specs.Word.{Word}
use Rattle.theory.specs.ShortLex.{◌≺◌}
use Rattle.theory.specs.Graph.{Graph}
use Rattle.theory.specs.Lattice as lattice
use Rattle.theory.specs.Class.{IsLeast, IsNormal, HasIndex, IsInfinite, IsRuleList}
use Rattle.lattice.specs.Tables.{IsTableOf}
use Rattle.problem.specs.declared.budgets.Budgets.{Budgets}
use Rattle.problem.specs.declared.kinds.Problem.{Problem}
use Rattle.problem.specs.Problem.{SameClassOf, IsDecided, IsUndecided, letters_of, count_of, value_text}
use Rattle.query_lang.specs.declared.script.Query.{Query}
use Rattle.query_lang.specs.declared.script.Query.TheVariants.{Index, Equal, Normal, Classes, RuleList, ElementOf, Cayley, LowIndex, Meet, Join, Chain, Green, Idempotents}
use Rattle.element_tables.specs.CayleyGraphs.{AreCayleyGraphs}
use Rattle.report_lines.specs.Lines.{undecided_line, unlogged_line, index_line, infinite_line, equal_line, element_line, end_line, normal_line, word_line, rule_line, cayley_lines, meet_line, join_line}
use Rattle.report_lines.specs.Pages.{ArePageLines}
use Rattle.report_lines.specs.TableLines.{AreTableLines}
use Rattle.report_lines.specs.Greens.{AreGreenLines, AreIdempotentLines}
use Rattle.query_answers.specs.declared.awaited.Awaited.{Awaited}
use Rattle.query_answers.specs.declared.awaited.Awaited.TheVariants.{Nothing, Decision, Log}
use Rattle.query_answers.specs.Chains.{AreChainLines, ChainsAreLogged}

-- the line of the standard table over k letters whose equal paths are a relation
pub record IsTableAnswer (line : Graph → List ℕ) (k : ℕ) (V : Word → Word → Type 0)
    (lines : List (List ℕ)) : Type 0 where
  pub table : Graph
  pub is : IsTableOf k V table
  pub are_lines : lines ≡ line table ∷ []

-- the lines of a query whose answer is defined, with the bound up to which an index is written out
abbrev pub AreLines : Problem → ℕ → Query → List (List ℕ) → Type 0
AreLines p bound Index lines =
    ((n : ℕ) × HasIndex (SameClassOf p) n × (lines ≡ index_line bound n ∷ []))
    ⊎ (IsInfinite (SameClassOf p) × (lines ≡ infinite_line ∷ []))
AreLines p bound (Equal u v) lines =
    (SameClassOf p u v × (lines ≡ equal_line true ∷ []))
    ⊎ ((SameClassOf p u v → ⊥) × (lines ≡ equal_line false ∷ []))
AreLines p bound (Normal u) lines =
    (w : Word) × IsNormal (SameClassOf p) u w
    × (lines ≡ normal_line (letters_of p) w ∷ [])
AreLines p bound (Classes count after) lines =
    ArePageLines (IsLeast (SameClassOf p)) ◌≺◌ (word_line (letters_of p)) after count lines
AreLines p bound RuleList lines =
    (rules : List (Word × Word)) × IsRuleList (SameClassOf p) rules
    × (lines ≡ map (rule_line (letters_of p)) rules ++ end_line false ∷ [])
AreLines p bound (ElementOf u) lines = lines ≡ element_line (value_text p u) ∷ []
AreLines p bound Cayley lines =
    (words : List Word) × (right : (ℕ → ℕ → ℕ)) × (left : (ℕ → ℕ → ℕ))
    × AreCayleyGraphs (SameClassOf p) (count_of p) words right left
    × (lines ≡ cayley_lines (letters_of p) (count_of p) words right left ++ end_line false ∷ [])
AreLines p bound (LowIndex two_sided classes count after) lines =
    AreTableLines p two_sided classes count after lines
AreLines p bound (Meet s t) lines =
    IsTableAnswer meet_line (length (letters_of p)) (lattice.Meet s t) lines
AreLines p bound (Join s t) lines =
    IsTableAnswer join_line (length (letters_of p)) (lattice.Join (length (letters_of p)) s t) lines
AreLines p bound (Chain u v) lines = AreChainLines p (letters_of p) u v lines
AreLines p bound (Green relation) lines = AreGreenLines relation p lines
AreLines p bound Idempotents lines = AreIdempotentLines p lines

-- what a query waits for before it is answered
abbrev pub awaited_by : Query → Awaited
awaited_by Index = Decision
awaited_by (Equal u v) = Decision
awaited_by (Normal u) = Decision
awaited_by (Classes count after) = Decision
awaited_by RuleList = Decision
awaited_by (ElementOf u) = Nothing
awaited_by Cayley = Decision
awaited_by (LowIndex two_sided classes count after) = Nothing
awaited_by (Meet s t) = Nothing
awaited_by (Join s t) = Nothing
awaited_by (Chain u v) = Log
awaited_by (Green relation) = Decision
awaited_by Idempotents = Decision

-- what is awaited comes about within the budgets
abbrev pub ComesAbout : Problem → Budgets → Awaited → Type 0
ComesAbout p budgets Nothing = Unit {0}
ComesAbout p budgets Decision = IsDecided p budgets
ComesAbout p budgets Log = ChainsAreLogged p budgets.length

-- what is awaited does not come about within the budgets
abbrev pub FailsToCome : Problem → Budgets → Awaited → Type 0
FailsToCome p budgets Nothing = ⊥
FailsToCome p budgets Decision = IsUndecided p budgets
FailsToCome p budgets Log = ChainsAreLogged p budgets.length → ⊥

-- the line in the place of an answer, where what is awaited does not come about
abbrev pub line_without : Awaited → List ℕ
line_without Nothing = []
line_without Decision = undecided_line
line_without Log = unlogged_line

-- the answer of a query is defined: what it waits for comes about within the budgets
pub record IsDefined (p : Problem) (budgets : Budgets) (bound : ℕ) (query : Query)
    (lines : List (List ℕ)) : Type 0 where
  pub comes : ComesAbout p budgets (awaited_by query)
  pub are_lines : AreLines p bound query lines

-- the answer of a query is left undecided: what it waits for does not come about
pub record IsLeftUndecided (p : Problem) (budgets : Budgets) (query : Query)
    (lines : List (List ℕ)) : Type 0 where
  pub fails : FailsToCome p budgets (awaited_by query)
  pub line : lines ≡ line_without (awaited_by query) ∷ []

-- the lines of a query's answer, and whether it is left undecided
abbrev pub IsAnswer : Problem → Budgets → ℕ → Query → List (List ℕ) → Bool → Type 0
IsAnswer p budgets bound query lines false = IsDefined p budgets bound query lines
IsAnswer p budgets bound query lines true = IsLeftUndecided p budgets query lines
