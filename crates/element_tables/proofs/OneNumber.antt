-- A class has one place among the least words.
use Rattle.std.proofs.Common.{◌≡◌, ℕ, ◌<◌, inl, inr, List, [], length, get_or, None, sym, subst}
use Rattle.std.proofs.lemmas.Bool.{cases_lt}
use Rattle.std.proofs.Math.Nat.{eq-or-lt_of_le}
use Rattle.theory.specs.Word.{Word}
use Rattle.theory.specs.ShortLex.{◌≺◌}
use Rattle.theory.specs.Class.{IsLeast, IsClassList}
use Rattle.theory.proofs.Words.{before_irrefl}
use Rattle.theory.proofs.Listings.{list_unique}
use Rattle.theory.proofs.Completeness.{normal_unique}
use Rattle.theory.proofs.ClassLaws.{IsPartialEquivalence, shortlex_strict}
use Rattle.froidure_pin.proofs.Starts.{start_ascending, ascending_between}
use Rattle.element_tables.specs.CayleyGraphs.{IsNumbered}
use Rattle.element_tables.proofs.Elements.{list_start, listed_least}

pub one_list : (R : Word → Word → Type 0) (xs ys : List Word) → IsClassList R xs → IsClassList R ys → xs ≡ ys
one_list R = list_unique (IsLeast R) ◌≺◌ (shortlex_strict (IsLeast R)) None

module _ (R : Word → Word → Type 0) (known : IsPartialEquivalence R) where
  -- a class has one number
  pub one_number : (words : List Word) → IsClassList R words → (i j : ℕ) (u : Word) → IsNumbered R words i u → IsNumbered R words j u → i ≡ j
  one_number words listed i j u p q =
      let start = list_start (IsLeast R) None words listed in
      let least = listed_least R words listed in
      let same : get_or words i [] ≡ get_or words j [] = normal_unique R known.symmetric known.transitive u (get_or words i []) (get_or words j []) (record { related = p.1; least = least i p.0 }) (record { related = q.1; least = least j q.0 }) in
      let up : (m n : ℕ) → m < n → n < length words → get_or words m [] ≺ get_or words n [] = ascending_between None words (start_ascending (IsLeast R) None words start) in
      elim (cases_lt i j) [
        | inl less ↦ absurd (before_irrefl (get_or words j []) (subst (λ w. w ≺ get_or words j []) same (up i j less q.0)))
        | inr more ↦ elim (eq-or-lt_of_le more) [
          | inl e ↦ sym e
          | inr less ↦ absurd (before_irrefl (get_or words j []) (subst (λ w. get_or words j [] ≺ w) same (up j i less p.0)))
        ]
      ]
