-- How kinds of pairs, and lists of pairs, are told apart.
use Rattle.std.specs.Prelude.{◌≡◌, ℕ, zero, suc, List, refl}
use Rattle.std.specs.Coded.{Coded, code_by, coded×, coded_list, coded_ℕ}
use Rattle.theory.specs.Word.{Word}
use Rattle.theory.specs.declared.Kind.{Kind}
use Rattle.theory.specs.declared.Kind.TheVariants.{TwoSided, Right, Left}

abbrev pub kind_number : Kind → ℕ
kind_number TwoSided = 0
kind_number Right = 1
kind_number Left = 2

abbrev pub kind_of : ℕ → Kind
kind_of zero = TwoSided
kind_of (suc zero) = Right
kind_of (suc (suc n)) = Left

abbrev pub kind_back : (k : Kind) → kind_of (kind_number k) ≡ k
kind_back TwoSided = refl
kind_back Right = refl
kind_back Left = refl

abbrev pub coded_kind : Coded Kind
coded_kind = code_by ℕ coded_ℕ kind_number kind_of kind_back

abbrev pub coded_pairs : Coded (List (Word × Word))
coded_pairs = coded_list (coded× (coded_list coded_ℕ) (coded_list coded_ℕ))
