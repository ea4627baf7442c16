-- The rows of the monoid with one generator of order three.
use Rattle.std.proofs.Common.{◌≡◌, ◌≢◌, ℕ, zero, suc, ◌<◌, List, [], ◌∷◌, ◌++◌, length, refl, sym, ◌∙◌, ap, subst, subst₂, arith, inl, inr, Some, Contains, append_assoc, append-nil}
use Rattle.theory.specs.Word.{Word, IsOver}
use Rattle.theory.specs.ShortLex.{◌≺◌}
use Rattle.theory.specs.Congruence.{IsWellFormed}
use Rattle.theory.specs.Facts.{Facts, AllDefined}
use Rattle.theory.proofs.PartLaws.{given, symmetric, transitive, extended, relation}
use Rattle.theory.specs.Hlt.{lookahead_rows, HltFacts, HltDefines, IsMet, HltStage, HltEnds, start, row, AllMet}
use Rattle.theory.specs.Graph.{Graph, path, target, IsModel}
use Rattle.theory.specs.Examples.{a1, a2, a3, cyclic}
use Rattle.theory.proofs.Counting.{in_from_contains, contains_from_in}
use Rattle.theory.proofs.Related.{none_either, none_contained}
use Rattle.theory.proofs.FactsLaws.{facts_over}
use Rattle.theory.proofs.GraphLaws.{facts_in_model}
use Rattle.theory.proofs.HltLaws.{lookahead_some, lookahead_multiple, hlt_first_rows, hlt_stage_length, hlt_stage_past, hlt_defines_over}
use Rattle.theory.proofs.ReducedRules.{greater_full}
use Rattle.theory.proofs.CyclicExample.{one_relation, one_letter_shorter, point, point_path, all_defined_by_three}
use Rattle.std.proofs.lemmas.List.{same_from_push}
use Rattle.std.proofs.lemmas.List.Elements.{All-cons, All-nil}

pub cyclic_is : IsWellFormed cyclic
cyclic_is = record {
  relations =
      All-cons (λ (p : Word × Word). IsOver 1 p.0 × IsOver 1 p.1) (a3, []) [] ((omega arith, (omega arith, (omega arith, tt))), tt)
      (All-nil (λ (p : Word × Word). IsOver 1 p.0 × IsOver 1 p.1));
  pairs = All-nil (λ (p : Word × Word). IsOver 1 p.0 × IsOver 1 p.1);
}

-- three nodes in a ring
abbrev pub ring : Graph
ring = (Some 1 ∷ []) ∷ (Some 2 ∷ []) ∷ (Some 0 ∷ []) ∷ []

-- each word over the letter has a path from each node of the ring
ring_path : (u : Word) → IsOver 1 u → (n : ℕ) → n < 3 → (m : ℕ) × (path ring n u ≡ Some m)
ring_path [] over n h = (n, refl)
ring_path (suc a ∷ u) over n h = absurd (omega (arith, over.0))
ring_path (zero ∷ u) over zero h = ring_path u over.1 1 (omega arith)
ring_path (zero ∷ u) over (suc zero) h = ring_path u over.1 2 (omega arith)
ring_path (zero ∷ u) over (suc (suc zero)) h = ring_path u over.1 0 (omega arith)
ring_path (zero ∷ u) over (suc (suc (suc n))) h = absurd (omega arith)

-- aaa leads each node to itself
ring_turn : (node m j : ℕ) → path ring node [] ≡ Some m → path ring node a2 ≡ Some j → target ring j 0 ≡ Some m
ring_turn zero m j e d = let one : 0 ≡ m = cc in let two : 2 ≡ j = cc in subst₂ (λ x y. target ring y 0 ≡ Some x) one two refl
ring_turn (suc zero) m j e d = let one : 1 ≡ m = cc in let two : 0 ≡ j = cc in subst₂ (λ x y. target ring y 0 ≡ Some x) one two refl
ring_turn (suc (suc zero)) m j e d = let one : 2 ≡ m = cc in let two : 1 ≡ j = cc in subst₂ (λ x y. target ring y 0 ≡ Some x) one two refl
ring_turn (suc (suc (suc n))) m j e d = cc

ring_model : (U : List Word) → ((w : Word) → Contains U w → IsOver 1 w) → IsModel cyclic (HltDefines cyclic U) (Contains U) ring
ring_model U over =
    record {
      defined = λ w d. ring_path w (hlt_defines_over cyclic U cyclic_is over w d) 0 (omega arith);
      closed = λ u node _ _ r s a m j e p q. elim (one_relation r (s ++ a ∷ []) e) [
        | inl h ↦ absurd (full s a h.1)
        | inr h ↦
            let both = same_from_push s a2 a 0 h.1 in
            subst (λ (b : ℕ). target ring j b ≡ Some m) (sym both.1)
            (ring_turn node m j (subst (λ (w : Word). path ring node w ≡ Some m) h.0 p) (subst (λ (w : Word). path ring node w ≡ Some j) both.0 q))
      ];
      pairs = λ r s a m j e p q. absurd (none_either r (s ++ a ∷ []) e);
    }
  where
    full : (s : Word) (a : ℕ) → s ++ a ∷ [] ≡ [] → ⊥
    full [] a e = cc
    full (b ∷ s) a e = cc

-- words that end at two nodes of the ring are not related
pub apart : (U : List Word) → length U < lookahead_rows → ((w : Word) → Contains U w → IsOver 1 w) → (u v : Word) (n m : ℕ)
    → path ring 0 u ≡ Some n → path ring 0 v ≡ Some m → n ≢ m → HltFacts cyclic U u v → ⊥
apart U few over u v n m p q ne f =
    let at = facts_in_model cyclic (HltDefines cyclic U) (Contains U) ring (ring_model U over) u v ((hlt_first_rows cyclic U few u v).0 f) in
    let one : n ≡ at.0 = let e : Some n ≡ Some at.0 = sym p ∙ at.1 in cc in
    let two : m ≡ at.0 = let e : Some m ≡ Some at.0 = sym q ∙ at.2 in cc in
    ne (one ∙ sym two)

defined_over : (U : List Word) → length U < lookahead_rows → ((w : Word) → Contains U w → IsOver 1 w) → (v : Word) → HltFacts cyclic U v v → IsOver 1 v
defined_over U few over v f =
    (facts_over cyclic (HltDefines cyclic U) (Contains U) cyclic_is (hlt_defines_over cyclic U cyclic_is over) v v ((hlt_first_rows cyclic U few v v).0 f)).0

over_1 : (w : Word) → Contains ([] ∷ []) w → IsOver 1 w
over_1 w m = elim (in_from_contains w ([] ∷ []) m) [ inl e ↦ subst (λ x. IsOver 1 x) (sym e) tt | inr n ↦ absurd n ]

over_2 : (w : Word) → Contains (a1 ∷ [] ∷ []) w → IsOver 1 w
over_2 w m = elim (in_from_contains w (a1 ∷ [] ∷ []) m) [
  | inl e ↦ subst (λ x. IsOver 1 x) (sym e) (omega arith, tt)
  | inr n ↦ elim n [ inl e ↦ subst (λ x. IsOver 1 x) (sym e) tt | inr k ↦ absurd k ]
]

-- the row of a word in U defines its extension
extension : (U : List Word) (w : Word) → Contains U w → HltFacts cyclic U (w ++ 0 ∷ []) (w ++ 0 ∷ [])
extension U w m = given (inl (refl, inr (inr (w, m, inl (0, omega arith, refl)))))

pub row_1 : HltStage cyclic 1 ([] ∷ [])
row_1 = row start (record {
  defined = (given (inl (refl, inl refl)));
  unmet = λ m. none_contained m.0 m.1;
  least = λ v d h. absurd (greater_full [] v h refl);
})

pub row_2 : HltStage cyclic 2 (a1 ∷ [] ∷ [])
row_2 = row row_1 (record {
  defined = extension ([] ∷ []) [] (0, omega arith, refl);
  unmet = unmet;
  least = λ v d h. before v (defined_over ([] ∷ []) (omega arith) over_1 v d) h;
})
  where
    unmet : IsMet (HltFacts cyclic ([] ∷ [])) ([] ∷ []) a1 → ⊥
    unmet m = elim (in_from_contains m.0 ([] ∷ []) m.1) [
      | inl e ↦ apart ([] ∷ []) (omega arith) over_1 a1 [] 1 0 refl refl (λ d. omega arith) (subst (λ v. HltFacts cyclic ([] ∷ []) a1 v) e m.2)
      | inr n ↦ absurd n
    ]

    before : (v : Word) → IsOver 1 v → v ≺ a1 → IsMet (HltFacts cyclic ([] ∷ [])) ([] ∷ []) v
    before [] over h = ([], (0, omega arith, refl), (given (inl (refl, inl refl))))
    before (b ∷ v) over h = absurd (omega (arith, one_letter_shorter (b ∷ v) a1 over (omega arith, tt) h))

pub row_3 : HltStage cyclic 3 (a2 ∷ a1 ∷ [] ∷ [])
row_3 = row row_2 (record {
  defined = extension (a1 ∷ [] ∷ []) a1 (0, omega arith, refl);
  unmet = unmet;
  least = λ v d h. before v (defined_over (a1 ∷ [] ∷ []) (omega arith) over_2 v d) h;
})
  where
    unmet : IsMet (HltFacts cyclic (a1 ∷ [] ∷ [])) (a1 ∷ [] ∷ []) a2 → ⊥
    unmet m = elim (in_from_contains m.0 (a1 ∷ [] ∷ []) m.1) [
      | inl e ↦ apart (a1 ∷ [] ∷ []) (omega arith) over_2 a2 a1 2 1 refl refl (λ d. omega arith) (subst (λ v. HltFacts cyclic (a1 ∷ [] ∷ []) a2 v) e m.2)
      | inr n ↦ elim n [
        | inl e ↦ apart (a1 ∷ [] ∷ []) (omega arith) over_2 a2 [] 2 0 refl refl (λ d. omega arith) (subst (λ v. HltFacts cyclic (a1 ∷ [] ∷ []) a2 v) e m.2)
        | inr k ↦ absurd k
      ]
    ]

    before : (v : Word) → IsOver 1 v → v ≺ a2 → IsMet (HltFacts cyclic (a1 ∷ [] ∷ [])) (a1 ∷ [] ∷ []) v
    before [] over h = ([], (1, omega arith, refl), (given (inl (refl, inl refl))))
    before (b ∷ []) over h =
        let zeroth : 0 ≡ b = omega (arith, over.0) in (
          a1,
          (0, omega arith, refl),
          subst (λ (x : ℕ). HltFacts cyclic (a1 ∷ [] ∷ []) (x ∷ []) a1) zeroth (extension (a1 ∷ [] ∷ []) [] (1, omega arith, refl)),
        )
    before (b ∷ d ∷ v) over h = absurd (omega (arith, one_letter_shorter (b ∷ d ∷ v) a2 over (omega arith, (omega arith, tt)) h))

-- two rows do not suffice
pub two_rows_are_not_enough : HltEnds cyclic 2 → ⊥
two_rows_are_not_enough ends =
    let late = hlt_stage_past cyclic 2 row_3 ends in
    let n = length ends.words in
    omega (arith, ends.within, lookahead_some n late.0, lookahead_multiple n late.0, hlt_stage_length cyclic ends.stage)

abbrev pub all_rows : List Word
all_rows = a2 ∷ a1 ∷ [] ∷ []

third : HltFacts cyclic all_rows [] a3
third =
    relation [] [] [] a2 0 (given (inl (refl, inl refl))) (2, omega arith, refl) (inr (0, omega arith, refl)) (given (inl (refl, inl refl)))
    (extension all_rows a1 (1, omega arith, refl))

abbrev IsPlaced : Word → Type 0
IsPlaced u = (v : Word) × Contains all_rows v × HltFacts cyclic all_rows u v

next_placed : (u : Word) → IsPlaced u → IsPlaced (u ++ 0 ∷ [])
next_placed u p = elim (in_from_contains p.0 all_rows p.1) [
  | inl e ↦ (
    [],
    (2, omega arith, refl),
    transitive
        (symmetric (extended a2 u 0 (symmetric (subst (λ v. HltFacts cyclic all_rows u v) e p.2)) (extension all_rows a2 (0, omega arith, refl))))
        (symmetric third),
  )
  | inr n ↦ elim n [
    | inl e ↦ (
      a2,
      (0, omega arith, refl),
      symmetric (extended a1 u 0 (symmetric (subst (λ v. HltFacts cyclic all_rows u v) e p.2)) (extension all_rows a1 (1, omega arith, refl))),
    )
    | inr k ↦ elim k [
      | inl e ↦ (
        a1,
        (1, omega arith, refl),
        symmetric (extended [] u 0 (symmetric (subst (λ v. HltFacts cyclic all_rows u v) e p.2)) (extension all_rows [] (2, omega arith, refl))),
      )
      | inr x ↦ absurd x
    ]
  ]
]

all_placed : (u y : Word) → IsPlaced u → IsOver 1 y → IsPlaced (u ++ y)
all_placed u [] h over = subst IsPlaced (sym (append-nil u)) h
all_placed u (a ∷ y) h over =
    let zeroth : 0 ≡ a = omega (arith, over.0) in
    subst IsPlaced (append_assoc u (0 ∷ []) y ∙ ap (λ b. u ++ (b ∷ y)) zeroth) (all_placed (u ++ 0 ∷ []) y (next_placed u h) over.1)

pub over_3 : (w : Word) → Contains all_rows w → IsOver 1 w
over_3 w m = elim (in_from_contains w all_rows m) [
  | inl e ↦ subst (λ x. IsOver 1 x) (sym e) (omega arith, (omega arith, tt))
  | inr n ↦ over_2 w (contains_from_in w (a1 ∷ [] ∷ []) n)
]

-- after three rows every defined word is met
pub all_rows_met : AllMet cyclic all_rows
all_rows_met w d = all_placed [] w ([], (2, omega arith, refl), given (inl (refl, inl refl))) (defined_over all_rows (omega arith) over_3 w d)

-- three rows suffice
pub three_rows_are_enough : HltEnds cyclic 3
three_rows_are_enough = record { count = 3; within = omega arith; words = all_rows; stage = row_3; ended = inl all_rows_met }

-- before the first row only the empty word is defined
pub defined_before_rows : (u : Word) → HltFacts cyclic [] u u → u ≡ []
defined_before_rows u f = let at = facts_in_model cyclic (HltDefines cyclic []) (Contains []) point model u u ((hlt_first_rows cyclic [] (omega arith) u u).0 f) in point_path u at.0 at.1
  where
    defined : (w : Word) → HltDefines cyclic [] w → (node : ℕ) × (path point 0 w ≡ Some node)
    defined w (inl p) = absurd (none_either p.0 p.1.0 p.1.1)
    defined w (inr r) = absurd (none_contained r.0 r.1)

    model : IsModel cyclic (HltDefines cyclic []) (Contains []) point
    model = record {
      defined = defined;
      closed = λ u node m e. absurd (none_contained u m);
      pairs = λ r s a m j e p q. absurd (none_either r (s ++ a ∷ []) e);
    }

-- the first row traces aaa, and then all words are defined
pub first_row_defines_all : AllDefined 1 (HltFacts cyclic ([] ∷ []))
first_row_defines_all w over =
    (hlt_first_rows cyclic ([] ∷ []) (omega arith) w w).1
    (all_defined_by_three (HltDefines cyclic ([] ∷ [])) (Contains ([] ∷ [])) (traced a1 a2 refl) (traced a2 a1 refl)
    (relation [] [] [] a2 0 (given (refl, inl refl)) (0, omega arith, refl) (inr (0, omega arith, refl)) (given (refl, inl refl)) (traced a2 a1 refl))
    w over)
  where
    traced : (v after : Word) → a3 ≡ v ++ after → Facts cyclic (HltDefines cyclic ([] ∷ [])) (Contains ([] ∷ [])) v v
    traced v after e =
        given
        (refl, inr (inr ([], (0, omega arith, refl), inr (a3, ([], inl (0, omega arith, refl)), record { after = after; is = e }))))
