-- Chains of words by relations, and the completion that logs them (Book and Otto, String-rewriting
-- systems, 1993, ch. 2).
use Rattle.std.specs.Prelude.{◌≡◌, ℕ, true, List, [], ◌∷◌, ◌⊎◌}
use Rattle.theory.specs.Word.{Word}
use Rattle.theory.specs.Congruence.{Congruence, Presentation, with_relations}
use Rattle.theory.specs.Completion.{CompletionEnds}
use Rattle.theory.specs.PlacedStep.{PlacedStep, AllGive, AreDifferent, last_word}
use Rattle.race.specs.declared.engines.Progress.{Progress}
use Rattle.race.specs.declared.engines.Progress.TheVariants.{Decided, Spent}
use Rattle.knuth_bendix.specs.Runs.{CompletionRun}
use Rattle.problem.specs.declared.kinds.Problem.{Problem}
use Rattle.problem.specs.Problem.{OfProblem, SameClassOf}
use Rattle.report_lines.specs.Lines.{chain_lines, no_chain_line}

-- the relations, and the pairs behind them
abbrev pub with_its_pairs : Congruence → Presentation
with_its_pairs c = with_relations c.presentation c.pairs

-- the words behind u end with v, each is got from the one before by a relation at one place, read
-- either way, and none of them and u stands twice
pub record IsChain (p : Presentation) (u v : Word) (words : List Word) : Type 0 where
  pub steps : List PlacedStep
  pub all_give : AllGive p u steps words
  pub last : last_word u words ≡ v
  pub different : AreDifferent (u ∷ words)

-- a chain of the problem, where relations are given
abbrev pub IsChainOf : Problem → Word → Word → List Word → Type 0
IsChainOf = OfProblem (λ p. IsChain (with_its_pairs p.congruence)) (λ _ _ _ _ _ _. ⊥)

-- the completion of the relations and the pairs ends within the length, where relations are given
abbrev pub ChainsAreLogged : Problem → ℕ → Type 0
ChainsAreLogged =
    OfProblem (λ p. CompletionEnds (with_its_pairs p.congruence)) (λ _ _ _ _. ⊥)

-- the completion is of the relations and the pairs, and logs
abbrev pub LogsFor : Problem → CompletionRun → Type 0
LogsFor = OfProblem
    (λ p k. (k.presentation ≡ with_its_pairs p.congruence) × (k.logged ≡ true))
    (λ _ _ _ _. ⊥)

-- the last turn says whether this holds
abbrev pub Tells : Progress → Type 0 → Type 0
Tells said Holds = ((said ≡ Decided) × Holds) ⊎ ((said ≡ Spent) × (Holds → ⊥))

-- the completion that logs, within the length, at its end
pub record IsLogOf (p : Problem) (L : ℕ) (k : CompletionRun) : Type 0 where
  pub logs : LogsFor p k
  pub length : k.length ≡ L
  pub ended : Tells k.said (ChainsAreLogged p L)

-- the lines of a chain from u to v, or that there is none
abbrev pub AreChainLines : Problem → List ℕ → Word → Word → List (List ℕ) → Type 0
AreChainLines p letters u v lines =
    (SameClassOf p u v × ((words : List Word) × IsChainOf p u v words
    × (lines ≡ chain_lines letters u words)))
    ⊎ ((SameClassOf p u v → ⊥) × (lines ≡ no_chain_line ∷ []))
