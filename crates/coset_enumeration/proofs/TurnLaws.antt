-- What a turn leaves.
use Rattle.std.proofs.Common.{◌≡◌, ℕ, ◌<◌, ◌≤◌, sym, ◌∙◌, ap, arith, inl, inr, true, false, cond, nat_lt, List}
use Rattle.std.proofs.lemmas.Bool.{cases_lt}
use Rattle.race.specs.declared.engines.Progress.{Progress}
use Rattle.race.specs.declared.engines.Progress.TheVariants.{More, Decided, Spent}
use Rattle.theory.specs.Word.{Word}
use Rattle.theory.specs.Graph.{Graph, SameEnd, PathsRelate}
use Rattle.coset_enumeration.specs.Enumeration.{EnumerationRun, IsAt, IsTold, answer_of}

pub lt_true : (m n : ℕ) → m < n → nat_lt m n ≡ true
lt_true m n h = grind (arith, h)

pub lt_false : (m n : ℕ) → n ≤ m → nat_lt m n ≡ false
lt_false m n h = grind (arith, h)

-- before the first turn
pub told_fresh : {Ends Found Stage Due : Type 0} (run : EnumerationRun) → run.said ≡ More → run.made ≡ 0 → run.begun ≡ false → Due
    → IsTold Ends Found Stage Due run
told_fresh run more none fresh due = record {
  decided = λ e. absurd (let bad : More ≡ Decided = sym more ∙ e in let no : ⊥ = cc in no);
  found = λ e. absurd (let bad : More ≡ Decided = sym more ∙ e in let no : ⊥ = cc in no);
  spent = λ e. absurd (let bad : More ≡ Spent = sym more ∙ e in let no : ⊥ = cc in no);
  stage = λ n e. absurd (let bad : false ≡ true = sym fresh ∙ e in let no : ⊥ = cc in no);
  within = λ n. omega (arith, none);
  due = λ e. due;
  ended = λ n. absurd (n more);
}

-- after a turn
module _ {Ends Found Stage Due : Type 0} (run : EnumerationRun) (begun : run.begun ≡ true) (at : Stage) (within : run.made ≤ run.budget) where
  told : (answer : Progress) → run.said ≡ answer → (answer ≡ Decided → Ends × Found) → (answer ≡ Spent → Ends → ⊥) → (answer ≡ More → Due) → IsTold Ends Found Stage Due run
  told answer e decided spent due = record {
    decided = λ d. (decided (sym e ∙ d)).0;
    found = λ d. (decided (sym e ∙ d)).1;
    spent = λ d. spent (sym e ∙ d);
    stage = λ n b. at;
    within = λ n. within;
    due = λ d. due (sym e ∙ d);
    ended = λ n. begun;
  }

  -- that finds nothing more to do
  pub told_done : run.said ≡ answer_of false run.made run.budget → Ends → Found → IsTold Ends Found Stage Due run
  told_done e ends found = told Decided e (λ d. (ends, found)) (λ d. absurd (let bad : ⊥ = cc in bad)) (λ d. absurd (let bad : ⊥ = cc in bad))

  -- that finds more to do: where the budget is used up, the strategy does not end
  pub told_more : run.said ≡ answer_of true run.made run.budget → (run.made < run.budget → Due) → (run.made ≡ run.budget → Ends → ⊥) → IsTold Ends Found Stage Due run
  told_more e due fails = elim (cases_lt run.made run.budget) [
    | inl less ↦ told More (e ∙ ap (λ b. cond b More Spent) (lt_true run.made run.budget less)) (λ d. absurd (let bad : ⊥ = cc in bad)) (λ d. absurd (let bad : ⊥ = cc in bad)) (λ d. due less)
    | inr past ↦ told Spent (e ∙ ap (λ b. cond b More Spent) (lt_false run.made run.budget past)) (λ d. absurd (let bad : ⊥ = cc in bad)) (λ d. fails (omega (arith, within, past))) (λ d. absurd (let bad : ⊥ = cc in bad))
  ]

-- a graph with the same equal paths is at the same stage
pub same_stage : (Stage : List Word → Type 0) (Facts : List Word → Word → Word → Type 0) (g h : Graph) → PathsRelate h (SameEnd g) → IsAt Stage Facts g → IsAt Stage Facts h
same_stage Stage Facts g h same at = record {
  words = at.words;
  stage = at.stage;
  shows = λ u v. (λ e. (at.shows u v).0 ((same u v).0 e), λ f. (same u v).1 ((at.shows u v).1 f));
}
