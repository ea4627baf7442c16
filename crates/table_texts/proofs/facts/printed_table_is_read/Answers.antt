use Rattle.std.proofs.Common.{ℕ, subst, sym}
use Rattle.theory.specs.Graph.{Graph}
use Rattle.table_texts.specs.TableText.{IsFaultAt}
use Rattle.table_texts.proofs.PrintLaws.{table_back, table_faultless}
use Rattle.table_texts.proofs.facts.printed_table_is_read.Goals as goal

pub returns-clause-read : goal.returns-clause-read
returns-clause-read c = table_back

pub returns-clause-good : goal.returns-clause-good
returns-clause-good c = λ k rows some wide rooted few all.
    subst (λ (g : Graph). (place : ℕ) → IsFaultAt k g place → ⊥) (sym (table_back k rows some wide rooted few all)) (table_faultless k rows wide few)
