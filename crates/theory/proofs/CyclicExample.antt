-- The stages of the monoid with one generator of order three.
use Rattle.std.proofs.Common.{◌≡◌, ℕ, zero, suc, ◌<◌, List, [], ◌∷◌, ◌++◌, length, refl, sym, ◌∙◌, ap, ap₂, subst, arith, ◌⊎◌, inl, inr, Some, None, Contains, append_assoc, append-nil, eq-or-lt_of_le}
use Rattle.theory.specs.Word.{Word, IsOver}
use Rattle.theory.specs.ShortLex.{◌≺◌}
use Rattle.theory.specs.Congruence.{EitherWay}
use Rattle.theory.specs.Facts.{Facts, AllDefined}
use Rattle.theory.proofs.PartLaws.{given, symmetric, transitive, extended, relation}
use Rattle.theory.specs.Felsch.{FelschFacts, IsLeastUndefined, FelschStage, FelschEnds, start, define}
use Rattle.theory.specs.Graph.{Graph, path, IsModel}
use Rattle.theory.specs.Examples.{a1, a2, a3, order_three, cyclic}
use Rattle.theory.proofs.Words.{before_irrefl, before_no_longer}
use Rattle.theory.proofs.Counting.{in_from_contains}
use Rattle.theory.proofs.Related.{none_either, none_contained}
use Rattle.theory.proofs.GraphLaws.{facts_in_model}
use Rattle.theory.proofs.FelschLaws.{felsch_stage_past}
use Rattle.std.proofs.lemmas.List.{same_from_push}

-- the one relation, read either way
pub one_relation : (r s : Word) → EitherWay order_three.relations r s → ((r ≡ a3) × (s ≡ [])) ⊎ ((r ≡ []) × (s ≡ a3))
one_relation r s h = elim h [
  | inl m ↦ elim (in_from_contains (r, s) order_three.relations m) [
    | inl e ↦ inl (ap (λ (p : Word × Word). p.0) e, ap (λ (p : Word × Word). p.1) e)
    | inr n ↦ absurd n
  ]
  | inr m ↦ elim (in_from_contains (s, r) order_three.relations m) [
    | inl e ↦ inr (ap (λ (p : Word × Word). p.1) e, ap (λ (p : Word × Word). p.0) e)
    | inr n ↦ absurd n
  ]
]

-- words over one letter of one length are one
pub one_letter_exact : (u v : Word) → IsOver 1 u → IsOver 1 v → length u ≡ length v → u ≡ v
one_letter_exact [] [] p q e = refl
one_letter_exact [] (b ∷ v) p q e = absurd (omega arith)
one_letter_exact (a ∷ u) [] p q e = absurd (omega arith)
one_letter_exact (a ∷ u) (b ∷ v) p q e =
    let heads : a ≡ b = omega (arith, p.0, q.0) in
    ap₂ (λ (x : ℕ) (xs : Word). x ∷ xs) heads (one_letter_exact u v p.1 q.1 (omega arith))

-- what comes before is shorter
pub one_letter_shorter : (u v : Word) → IsOver 1 u → IsOver 1 v → u ≺ v → length u < length v
one_letter_shorter u v p q h =
    elim (eq-or-lt_of_le (before_no_longer u v h)) [
      | inl e ↦ absurd (before_irrefl v (subst (λ w. w ≺ v) (one_letter_exact u v p q e) h))
      | inr l ↦ l
    ]

-- a graph in which no word of two letters has a path is a model wherever its words have paths
model_of : (D : List Word) (g : Graph) → ((w : Word) → Contains D w → (node : ℕ) × (path g 0 w ≡ Some node))
    → ((node : ℕ) → path g node a2 ≡ None) → IsModel cyclic (Contains D) (λ w. Unit {0}) g
model_of D g defined short =
    record {
      defined = defined;
      closed = λ u node _ _ r s a m j e p q. elim (one_relation r (s ++ a ∷ []) e) [
        | inl h ↦ absurd (full s a h.1)
        | inr h ↦
            let two : s ≡ a2 = (same_from_push s a2 a 0 h.1).0 in let none : None ≡ Some j = sym (short node) ∙ ap (path g node) (sym two) ∙ q in cc
      ];
      pairs = λ r s a m j e p q. absurd (none_either r (s ++ a ∷ []) e);
    }
  where
    full : (s : Word) (a : ℕ) → s ++ a ∷ [] ≡ [] → ⊥
    full [] a e = cc
    full (b ∷ s) a e = cc

-- one node and no edge
pub point : Graph
point = (None ∷ []) ∷ []

-- two nodes and one edge
edge : Graph
edge = (Some 1 ∷ []) ∷ (None ∷ []) ∷ []

-- in it only the empty word has a path
pub point_path : (u : Word) (m : ℕ) → path point 0 u ≡ Some m → u ≡ []
unfolding point
point_path [] m e = refl
point_path (zero ∷ u) m e = cc
point_path (suc a ∷ u) m e = cc

-- at the start only the empty word is defined
pub defined_at_start : (u : Word) → FelschFacts cyclic [] u u → u ≡ []
unfolding point
defined_at_start u f =
    let at = facts_in_model cyclic (Contains []) (λ w. Unit {0}) point (model_of [] point (λ w m. absurd (none_contained w m)) short) u u f in
    point_path u at.0 at.1
  where
    short : (node : ℕ) → path point node a2 ≡ None
    short zero = refl
    short (suc n) = refl

edge_path : (u : Word) (m : ℕ) → path edge 0 u ≡ Some m → (u ≡ []) ⊎ (u ≡ a1)
unfolding edge
edge_path [] m e = inl refl
edge_path (zero ∷ []) m e = inr refl
edge_path (zero ∷ zero ∷ u) m e = cc
edge_path (zero ∷ suc a ∷ u) m e = cc
edge_path (suc a ∷ u) m e = cc

-- after one definition only the empty word and a are defined
pub defined_after_one : (u : Word) → FelschFacts cyclic (a1 ∷ []) u u → (u ≡ []) ⊎ (u ≡ a1)
unfolding edge
defined_after_one u f =
    let at = facts_in_model cyclic (Contains (a1 ∷ [])) (λ w. Unit {0}) edge (model_of (a1 ∷ []) edge defined short) u u f in
    edge_path u at.0 at.1
  where
    defined : (w : Word) → Contains (a1 ∷ []) w → (node : ℕ) × (path edge 0 w ≡ Some node)
    defined w m = elim (in_from_contains w (a1 ∷ []) m) [ inl e ↦ (1, ap (path edge 0) e) | inr n ↦ absurd n ]

    short : (node : ℕ) → path edge node a2 ≡ None
    short zero = refl
    short (suc zero) = refl
    short (suc (suc n)) = refl

first_word : IsLeastUndefined 1 (FelschFacts cyclic []) a1
first_word = record { over = (omega arith, tt); undefined = λ f. let e : a1 ≡ [] = defined_at_start a1 f in cc; least = before }
  where
    before : (v : Word) → IsOver 1 v → v ≺ a1 → FelschFacts cyclic [] v v
    before [] over h = (given (refl, inl refl))
    before (b ∷ v) over h = absurd (omega (arith, one_letter_shorter (b ∷ v) a1 over (omega arith, tt) h))

second_word : IsLeastUndefined 1 (FelschFacts cyclic (a1 ∷ [])) a2
second_word = record {
  over = (omega arith, (omega arith, tt));
  undefined = λ f. elim (defined_after_one a2 f) [ inl e ↦ cc | inr e ↦ cc ];
  least = before;
}
  where
    before : (v : Word) → IsOver 1 v → v ≺ a2 → FelschFacts cyclic (a1 ∷ []) v v
    before [] over h = (given (refl, inl refl))
    before (b ∷ []) over h = let zeroth : 0 ≡ b = omega (arith, over.0) in given (refl, inr (0, omega arith, ap (λ x. x ∷ []) zeroth))
    before (b ∷ d ∷ v) over h = absurd (omega (arith, one_letter_shorter (b ∷ d ∷ v) a2 over (omega arith, (omega arith, tt)) h))

pub stage_one : FelschStage cyclic 1 (a1 ∷ [])
stage_one = define start first_word

pub stage_two : FelschStage cyclic 2 (a2 ∷ a1 ∷ [])
stage_two = define stage_one second_word

-- one definition does not suffice
pub one_is_not_enough : FelschEnds cyclic 1 → ⊥
one_is_not_enough = felsch_stage_past cyclic 1 stage_two

-- aaa is related to 1 once a and aa are defined
pub third_is_empty : FelschFacts cyclic (a2 ∷ a1 ∷ []) [] a3
third_is_empty =
    relation [] [] [] a2 0 (given (refl, inl refl)) tt (inr (0, omega arith, refl)) (given (refl, inl refl))
    (given (refl, inr (0, omega arith, refl)))

-- where a and aa are defined and aaa is related to 1, each word is related to 1, a or aa
module _ (D U : Word → Type 0) (first : Facts cyclic D U a1 a1) (second : Facts cyclic D U a2 a2) (third : Facts cyclic D U [] a3) where
  abbrev IsPlaced : Word → Type 0
  IsPlaced u = Facts cyclic D U [] u ⊎ (Facts cyclic D U a1 u ⊎ Facts cyclic D U a2 u)

  next_placed : (u : Word) → IsPlaced u → IsPlaced (u ++ 0 ∷ [])
  next_placed u (inl f) = inr (inl (extended [] u 0 f first))
  next_placed u (inr (inl f)) = inr (inr (extended a1 u 0 f second))
  next_placed u (inr (inr f)) = inl (transitive third (extended a2 u 0 f (transitive (symmetric third) third)))

  all_placed : (u y : Word) → IsPlaced u → IsOver 1 y → IsPlaced (u ++ y)
  all_placed u [] h over = subst IsPlaced (sym (append-nil u)) h
  all_placed u (a ∷ y) h over =
      let zeroth : 0 ≡ a = omega (arith, over.0) in
      subst IsPlaced (append_assoc u (0 ∷ []) y ∙ ap (λ b. u ++ (b ∷ y)) zeroth) (all_placed (u ++ 0 ∷ []) y (next_placed u h) over.1)

  -- so all words are defined
  pub all_defined_by_three : AllDefined 1 (Facts cyclic D U)
  all_defined_by_three w over = itself w (all_placed [] w (inl (given (refl, inl refl))) over)
    where
      itself : (w : Word) → IsPlaced w → Facts cyclic D U w w
      itself w (inl f) = transitive (symmetric f) f
      itself w (inr (inl f)) = transitive (symmetric f) f
      itself w (inr (inr f)) = transitive (symmetric f) f

pub two_define_all : AllDefined 1 (FelschFacts cyclic (a2 ∷ a1 ∷ []))
two_define_all =
    all_defined_by_three (Contains (a2 ∷ a1 ∷ [])) (λ w. Unit {0}) (given (refl, inr (1, omega arith, refl)))
    (given (refl, inr (0, omega arith, refl))) third_is_empty

-- two definitions suffice
pub two_are_enough : FelschEnds cyclic 2
two_are_enough = record { count = 2; within = omega arith; words = a2 ∷ a1 ∷ []; stage = stage_two; all = two_define_all }
