-- Problems with one pair more.
use Rattle.std.proofs.Common.{◌≡◌, ◌≢◌, ◌==◌, ◌≤◌, false, List, [], ◌∷◌, ◌++◌, length, length-append, refl, sym, ap, ◌∙◌, subst, arith, ne_eqb, Contains, true≢false}
use Rattle.theory.specs.declared.Kind.{Kind}
use Rattle.theory.specs.Word.{Word}
use Rattle.words.specs.Alphabet.{marker}
use Rattle.problem.specs.declared.kinds.Problem.{Problem}
use Rattle.problem.specs.declared.kinds.Problem.TheVariants.{Presented, Transf, PPerm, BMat, MaxPlus}
use Rattle.problem.specs.Problem.{is_presented, letters_of, pairs_of, with_pair}
use Rattle.query_lang.specs.Relations.{most_relations, relations_of}
use Rattle.query_lang.specs.Pairing.{IsPairable, most_pairs}

pairs_grow : (p : Problem) (kind : Kind) (s : Word × Word) → pairs_of (with_pair p kind s) ≡ pairs_of p ++ s ∷ []
pairs_grow (Presented o) kind s = refl
pairs_grow (Transf g) kind s = refl
pairs_grow (PPerm g) kind s = refl
pairs_grow (BMat g) kind s = refl
pairs_grow (MaxPlus g) kind s = refl

relations_stay : (p : Problem) (kind : Kind) (s : Word × Word) → relations_of (with_pair p kind s) ≡ relations_of p
relations_stay (Presented o) kind s = refl
relations_stay (Transf g) kind s = refl
relations_stay (PPerm g) kind s = refl
relations_stay (BMat g) kind s = refl
relations_stay (MaxPlus g) kind s = refl

letters_stay : (p : Problem) (kind : Kind) (s : Word × Word) → (letters_of (with_pair p kind s) ≡ letters_of p) × (is_presented (with_pair p kind s) ≡ is_presented p)
letters_stay (Presented o) kind s = (refl, refl)
letters_stay (Transf g) kind s = (refl, refl)
letters_stay (PPerm g) kind s = (refl, refl)
letters_stay (BMat g) kind s = (refl, refl)
letters_stay (MaxPlus g) kind s = (refl, refl)

-- generators without pairs may get some
pub unpaired_fits : (p : Problem) → is_presented p ≡ false → pairs_of p ≡ [] → IsPairable p
unpaired_fits p generated unpaired = record {
  few_relations = no_relations p generated;
  few_pairs = subst (λ (ps : List (Word × Word)). length ps ≤ most_pairs) (sym unpaired) (omega arith);
  unmarked = λ presented. absurd (true≢false (sym presented ∙ generated));
}
  where
    no_relations : (p : Problem) → is_presented p ≡ false → length (relations_of p) ≤ most_relations
    no_relations (Presented o) h = absurd (true≢false h)
    no_relations (Transf g) h = omega arith
    no_relations (PPerm g) h = omega arith
    no_relations (BMat g) h = omega arith
    no_relations (MaxPlus g) h = omega arith

-- one pair more, where there are not the most
pub pair_fits : (p : Problem) (kind : Kind) (s : Word × Word) → IsPairable p → length (pairs_of p) ≢ most_pairs → IsPairable (with_pair p kind s)
pair_fits p kind s fits few = record {
  few_relations = subst (λ (rs : List (Word × Word)). length rs ≤ most_relations) (sym (relations_stay p kind s)) fits.few_relations;
  few_pairs =
      subst (λ (ps : List (Word × Word)). length ps ≤ most_pairs) (sym (pairs_grow p kind s))
      (omega (arith, fits.few_pairs, few, length-append (pairs_of p) (s ∷ [])));
  unmarked = λ presented.
      let stay = letters_stay p kind s in
      subst (λ letters. Contains letters marker → ⊥) (sym stay.0) (fits.unmarked (sym stay.1 ∙ presented));
}

some_pair : {A : Type 0} (xs : List A) (x : A) → (length (xs ++ x ∷ []) == 0) ≡ false
some_pair xs x = ne_eqb (length (xs ++ x ∷ [])) 0 (λ e. omega (arith, e, length-append xs (x ∷ [])))

-- there are pairs then
pub has_pairs : (p : Problem) (kind : Kind) (s : Word × Word) → (length (pairs_of (with_pair p kind s)) == 0) ≡ false
has_pairs p kind s = ap (λ (ps : List (Word × Word)). length ps == 0) (pairs_grow p kind s) ∙ some_pair (pairs_of p) s
