-- Where words stand in words.
use Rattle.std.proofs.Common.{◌≡◌, ℕ, zero, suc, ◌&&◌, ◌<◌, ◌≤◌, Bool, true, false, List, [], ◌∷◌, ◌++◌, length, take, drop, get_or, refl, sym, ◌∙◌, ap, ap₂, subst, arith, inl, inr, eqb, Contains, length-append, IsTrue, ◌↔◌}
use Rattle.std.specs.Cmp.Lexicographic.{pointwise}
use Rattle.std.specs.List.{starts_with}
use Rattle.std.proofs.lemmas.Bool.{cases_Bool, eqb-true, or_cases, or_left, or_right}
use Rattle.std.proofs.lemmas.Bool.Decides.{Decides-eqb}
use Rattle.std.proofs.lemmas.List.{append_assoc, get_or_default}
use Rattle.std.proofs.lemmas.Slice.Eq.{starts_is}
use Rattle.theory.specs.Word.{Word, IsFactor}
use Rattle.theory.specs.ShortLex.{◌≺◌}
use Rattle.theory.specs.Completion.{Listed}
use Rattle.theory.proofs.Words.{before_no_longer, before_irrefl}
use Rattle.rewriting.specs.Rules.{AreFalling, stands_in}

-- a test whether the word stands at a place, as the code makes it
pub starts_tested : (f u f' u' : Word) (place : ℕ) (r : Bool) → f' ≡ f → u' ≡ u → r ≡ starts_with eqb (drop place u') f'
    → (r ≡ true → drop place u ≡ f ++ drop (length f) (drop place u)) × (r ≡ false → (y : Word) → drop place u ≡ f ++ y → ⊥)
starts_tested f u f' u' place r ef eu e =
    let tested = starts_is Decides-eqb (drop place u) f r (e ∙ ap₂ (λ (f u : Word). starts_with eqb (drop place u) f) ef eu) in
    (tested.0, λ t y h. let bad : r ≡ true = tested.1 y h in let b : ⊥ = cc in b)

-- a word does not stand where its first letter does not
pub starts_elsewhere : (u f : Word) (place x y : ℕ) → 0 < length f → place < length u → x ≡ get_or u place x → y ≡ get_or f 0 y → (x ≡ y → ⊥)
    → false ≡ starts_with eqb (drop place u) f
starts_elsewhere [] f place x y some within read begin differ = absurd (omega (arith, within))
starts_elsewhere (b ∷ u) [] zero x y some within read begin differ = absurd (omega (arith, some))
starts_elsewhere (b ∷ u) (a ∷ f) zero x y some within read begin differ = elim (cases_Bool (eqb a b)) [
  | inl t ↦ absurd (differ (read ∙ sym (eqb-true a b t) ∙ sym begin))
  | inr e ↦ sym (ap (λ t. t && pointwise eqb f (take (length f) u)) e)
]
starts_elsewhere (b ∷ u) f (suc place) x y some within read begin differ = starts_elsewhere u f place x y some (omega (arith, within)) read begin differ

-- the rule at a number, as the code reads it
pub rule_read : (rules items : List (Word × Word)) (number : ℕ) (rule : Word × Word) → items ≡ rules → number < length items
    → rule ≡ get_or items number rule → rule ≡ get_or rules number ([], [])
rule_read rules items number rule same within read =
    read ∙ get_or_default items number rule ([], []) within ∙ ap (λ (rs : List (Word × Word)). get_or rs number ([], [])) same

-- a factor is no longer than the word
pub factor_short : (f u : Word) → IsFactor f u → length f ≤ length u
factor_short f u h = omega (arith, ap length h.is, length-append h.before (f ++ h.after), length-append f h.after)

-- where the test is true the word stands there
pub stands_at : (f u : Word) → stands_in f u ≡ true → (x : Word) × (y : Word) × (u ≡ x ++ (f ++ y))
stands_at f [] h = ([], drop (length f) [], (starts_is Decides-eqb [] f (stands_in f []) refl).0 h)
stands_at f (a ∷ u) h = elim (or_cases (starts_with eqb (a ∷ u) f) (stands_in f u) h) [
  | inl e ↦ ([], drop (length f) (a ∷ u), (starts_is Decides-eqb (a ∷ u) f (starts_with eqb (a ∷ u) f) refl).0 e)
  | inr e ↦ let r = stands_at f u e in (a ∷ r.0, r.1, ap (λ w. a ∷ w) r.2)
]

-- and where it stands the test is true
pub stands_when : (f u x y : Word) → u ≡ x ++ (f ++ y) → stands_in f u ≡ true
stands_when f [] [] y e = (starts_is Decides-eqb [] f (stands_in f []) refl).1 y e
stands_when f [] (b ∷ x) y e = cc
stands_when f (a ∷ u) [] y e =
    or_left (starts_with eqb (a ∷ u) f) (stands_in f u) ((starts_is Decides-eqb (a ∷ u) f (starts_with eqb (a ∷ u) f) refl).1 y e)
stands_when f (a ∷ u) (b ∷ x) y e =
    let rest : u ≡ x ++ (f ++ y) = cc in
    or_right (starts_with eqb (a ∷ u) f) (stands_in f u) (stands_when f u x y rest)

-- an exact test of standing is the value of `stands_in`
pub factor_tested : (f u : Word) (r : Bool) → IsTrue r ↔ IsFactor f u → r ≡ stands_in f u
factor_tested f u true h = let at = h.0 refl in sym (stands_when f u at.before at.after at.is)
factor_tested f u false h = elim (cases_Bool (stands_in f u)) [
  | inl e ↦ let at = stands_at f u e in let bad : false ≡ true = h.1 (record { before = at.0; after = at.1; is = at.2 }) in cc
  | inr e ↦ sym e
]

pub factor_trans : (f g x : Word) → IsFactor f g → IsFactor g x → IsFactor f x
factor_trans f g x h k = record {
  before = k.before ++ h.before;
  after = h.after ++ k.after;
  is = k.is ∙ regrouped k.before h.before f h.after k.after g h.is;
}
  where
    regrouped : (x a f b y g : Word) → g ≡ a ++ (f ++ b) → x ++ (g ++ y) ≡ (x ++ a) ++ (f ++ (b ++ y))
    regrouped x a f b y g e = rw e (simp append_assoc)

-- a left side is not empty
pub filled : (l r : Word) → r ≺ l → 0 < length l
filled [] [] h = absurd (before_irrefl [] h)
filled [] (a ∷ r) h = let less = before_no_longer (a ∷ r) [] h in absurd (omega (arith, less))
filled (a ∷ l) r h = omega arith

-- a listed rule has a number
pub listed_at : (rules : List (Word × Word)) (l r : Word) (listed : Contains rules (l, r)) → get_or rules listed.0 ([], []) ≡ (l, r)
listed_at rules l r listed = get_or_default rules listed.0 ([], []) (l, r) listed.1 ∙ listed.2

pub listed_falls : (rules : List (Word × Word)) → AreFalling rules → (l r : Word) → Listed rules l r → r ≺ l
listed_falls rules falling l r listed = subst (λ (p : Word × Word). p.1 ≺ p.0) (listed_at rules l r listed) (falling listed.0 ([], []) listed.1)
