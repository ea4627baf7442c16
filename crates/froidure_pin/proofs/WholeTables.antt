-- The rules of a whole table.
use Rattle.std.proofs.Common.{◌≡◌, ℕ, zero, suc, ◌+◌, ◌*◌, ◌<◌, ◌≤◌, List, [], ◌∷◌, ◌++◌, length, get_or, IsTrue, Option, None, Some, Ok, Err, IfOk, sym, subst, arith}
use Rattle.std.specs.Prelude.{Result}
use Rattle.theory.specs.Word.{Word}
use Rattle.theory.specs.ShortLex.{◌≺◌}
use Rattle.theory.specs.Listing.{IsListOf, IsStartOf}
use Rattle.theory.specs.Class.{IsLeast, IsRuleList}
use Rattle.theory.specs.Value.{IsProduct}
use Rattle.froidure_pin.specs.Found.{AreFactors, Generated, IsNumbered, IsSame, entry, letters_of, parent, words_of}
use Rattle.froidure_pin.specs.Numbering.{TableOf, AreRows}
use Rattle.froidure_pin.specs.Rules.{IsWholeTable, AreSuffixes, rules_to}
use Rattle.froidure_pin.proofs.Starts.{start_ascending, start_has, in_at}
use Rattle.froidure_pin.proofs.Search.{IsSetting}
use Rattle.froidure_pin.proofs.Reduced.{rules_listed}
use Rattle.froidure_pin.specs.declared.parts.Factor.{Factor}

pub ok_map : {A F : Type 0} (P Q : A → Type 0) (r : Result A F) → ((x : A) → P x → Q x) → IfOk r P → IfOk r Q
ok_map P Q (Ok x) f h = f x h
ok_map P Q (Err e) f h = tt

list_start : (P : Word → Type 0) (cursor : Option Word) (xs : List Word) → IsListOf P ◌≺◌ cursor xs → IsStartOf P ◌≺◌ cursor xs
list_start P cursor [] h = tt
list_start P cursor (x ∷ xs) h = (h.0, list_start P (Some x) xs h.1)

module _ {V : Type 0} {shape : V → ℕ × ℕ} (s : Generated V) (products : (one : ℕ × ℕ) → IsProduct (λ x. shape x ≡ one) s.product s.equal) (alike : (x y : V) → IsTrue (s.equal x y) → shape x ≡ shape y)
    (factors : List Factor) (elements : List V) (right left suffixes : List ℕ) where
  abbrev table : ℕ → TableOf V
  table n = record { elements = elements; words = words_of factors; letters = n; right = right; left = left }

  abbrev IsWhole : ℕ → Type 0
  IsWhole n = IsWholeTable shape s.product s.equal s.generators s.unused (table n)

  abbrev HasRules : ℕ → Type 0
  HasRules n = AreFactors n factors → AreRows n (length factors) right → AreSuffixes n factors right suffixes (length factors) → 0 < n
      → IsRuleList (IsSame s) (rules_to n factors right suffixes (length right))

  at_generators : IsWhole (letters_of s) → HasRules (letters_of s)
  at_generators whole earlier rows follow some =
      let setting : IsSetting shape s = record { products = products; alike = alike; shaped = whole.shaped } in
      let k : ℕ = letters_of s in
      let words : List Word = words_of factors in
      let start = list_start (IsLeast (IsSame s)) None words whole.found.listed in
      let number : (j a : ℕ) → j ≤ length words → a < k → IsNumbered s words (entry k right j a) (parent words j ++ a ∷ []) = elim [
        | zero ↦ λ a h l. let place : a ≡ 0 * k + a = omega arith in subst (λ p. IsNumbered s words (get_or right p 0) (a ∷ [])) place (whole.numbers.single a l)
        | suc j ↦ λ a h l. let place : j + 1 ≡ suc j = omega arith in subst (λ q. IsNumbered s words (entry k right q a) (get_or words j [] ++ a ∷ [])) place (whole.numbers.numbered.on_right j a (omega arith) l)
      ] in
      rules_listed setting factors right suffixes earlier rows follow some
      (λ m h. start_has (IsLeast (IsSame s)) None words start (get_or words m []) (in_at words m [] h)) (start_ascending (IsLeast (IsSame s)) None words start)
      number whole.numbers.numbered.all

  pub whole_rules : (letters : ℕ) → IsWhole letters → HasRules letters
  whole_rules letters whole = subst (λ n. IsWhole n → HasRules n) (sym whole.numbers.letters) at_generators whole
