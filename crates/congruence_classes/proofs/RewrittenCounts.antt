-- Classes counted one after another.
use Rattle.std.proofs.Common.{◌≡◌, ℕ, ◌+◌, ◌<◌, List, [], ◌∷◌, ◌++◌, length, sym, subst, arith, Option, Some, None, length-append}
use Rattle.std.specs.Option.{MatchOption}
use Rattle.theory.specs.Word.{Word}
use Rattle.theory.specs.ShortLex.{◌≺◌}
use Rattle.theory.specs.Congruence.{Congruence}
use Rattle.theory.specs.Class.{SameClass, IsLeast, HasIndex}
use Rattle.theory.specs.Listing.{IsLast, IsNext, IsStartOf, last_of}
use Rattle.theory.proofs.Listings.{last_of_push, list_from_last, start_push}
use Rattle.theory.proofs.ClassLaws.{index_bound, shortlex_strict}

-- what comes next after the cursor, or nothing
abbrev pub TellsNext : (Word → Word → Type 0) → Option Word → Option Word → Type 0
TellsNext R cursor next = MatchOption next (IsLast (IsLeast R) ◌≺◌ cursor) (IsNext (IsLeast R) ◌≺◌ cursor)

-- so many classes come first, and then the next
pub record IsCountTo (R : Word → Word → Type 0) (count : ℕ) (next : Option Word) : Type 0 where
  pub words : List Word
  pub start : IsStartOf (IsLeast R) ◌≺◌ None words
  pub long : length words ≡ count
  pub tells : TellsNext R (last_of None words) next

more : (R : Word → Word → Type 0) (count : ℕ) (w : Word) (is : IsCountTo R count (Some w)) → IsStartOf (IsLeast R) ◌≺◌ None (is.words ++ w ∷ [])
more R count w is = start_push (IsLeast R) ◌≺◌ (shortlex_strict (IsLeast R)) None is.words w is.start is.tells

more_long : (R : Word → Word → Type 0) (count : ℕ) (w : Word) (is : IsCountTo R count (Some w)) → length (is.words ++ w ∷ []) ≡ count + 1
more_long R count w is = omega (arith, is.long, length-append is.words (w ∷ []))

pub count_step : (R : Word → Word → Type 0) (count : ℕ) (w : Word) (next : Option Word) → IsCountTo R count (Some w) → TellsNext R (Some w) next
    → IsCountTo R (count + 1) next
count_step R count w next is h =
    record {
      words = is.words ++ w ∷ [];
      start = more R count w is;
      long = more_long R count w is;
      tells =
          subst (λ (cursor : Option Word). TellsNext R cursor next)
          (sym (last_of_push (IsLeast R) ◌≺◌ (shortlex_strict (IsLeast R)) None is.words w)) h;
    }

pub count_end : (R : Word → Word → Type 0) (count : ℕ) → IsCountTo R count None → HasIndex R count
count_end R count is =
    (is.words, list_from_last (IsLeast R) ◌≺◌ (shortlex_strict (IsLeast R)) None is.words is.start is.tells, is.long)

pub count_over : (c : Congruence) (count n : ℕ) (w : Word) → IsCountTo (SameClass c) count (Some w) → HasIndex (SameClass c) n → count < n
count_over c count n w is index =
    index_bound c n count index
    (is.words ++ w ∷ [], more (SameClass c) count w is, let long = more_long (SameClass c) count w is in omega (arith, long))
