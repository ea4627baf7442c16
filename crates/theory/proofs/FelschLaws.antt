-- The stages of Felsch's strategy are determined, and where all words are defined the facts are `~`.
use Rattle.std.proofs.Common.{◌≡◌, ℕ, suc, ◌<◌, ◌≤◌, List, [], ◌∷◌, refl, sym, ap₂, subst, arith, ◌⊎◌, inl, inr, ◌↔◌, Contains, eq-or-lt_of_le, le_of_suc-le-suc}
use Rattle.theory.specs.Word.{Word, IsOver}
use Rattle.theory.specs.Congruence.{Congruence, IsWellFormed, IsRightSided, as_right, as_right_word}
use Rattle.theory.specs.Graph.{Graph, SameEnd, PathsRelate}
use Rattle.theory.proofs.KindLaws.{as_right_related, as_right_well_formed, as_right_sided}
use Rattle.theory.specs.Chain.{Related}
use Rattle.theory.specs.Facts.{Defines, AllDefined}
use Rattle.theory.specs.Felsch.{FelschFacts, IsLeastUndefined, FelschStage, FelschEnds, start, define}
use Rattle.theory.proofs.Words.{order_cases}
use Rattle.theory.proofs.FactsLaws.{facts_grow, facts_related, facts_full, facts_covered}
use Rattle.theory.proofs.Counting.{in_from_contains, contains_from_in}

pub least_undefined_unique : (k : ℕ) (V : Word → Word → Type 0) (v w : Word) → IsLeastUndefined k V v → IsLeastUndefined k V w → v ≡ w
least_undefined_unique k V v w p q =
    elim (order_cases v w) [
      | inl l ↦ absurd (p.undefined (q.least v p.over l))
      | inr (inl e) ↦ e
      | inr (inr g) ↦ absurd (q.undefined (p.least w q.over g))
    ]

-- the facts grow by a definition
pub felsch_grows : (c : Congruence) (D : List Word) (w u v : Word) → FelschFacts c D u v → FelschFacts c (w ∷ D) u v
felsch_grows c D w =
    facts_grow c (Contains D) (λ x. Unit {0}) (Contains (w ∷ D)) (λ x. Unit {0}) (λ x m. contains_from_in x (w ∷ D) (inr (in_from_contains x D m)))
    (λ x h. h)

-- each stage is one list of words
pub felsch_stage_unique : (c : Congruence) → {i : ℕ} {D D' : List Word} → FelschStage c i D → FelschStage c i D' → D ≡ D'
felsch_stage_unique c start start = refl
felsch_stage_unique c (define {D = D} {w = w} s l) (define {D = E} {w = v} t m) =
    let same : D ≡ E = felsch_stage_unique c s t in
    ap₂ (λ (x : Word) (xs : List Word). x ∷ xs)
    (least_undefined_unique c.presentation.letters (FelschFacts c E) w v (subst (λ X. IsLeastUndefined c.presentation.letters (FelschFacts c X) w) same l) m)
    same

-- each stage before has a word that the next one defines
pub felsch_stage_before : (c : Congruence) (i : ℕ) → {j : ℕ} {D : List Word} → FelschStage c j D → i < j
    → (E : List Word) × FelschStage c i E × ((w : Word) × IsLeastUndefined c.presentation.letters (FelschFacts c E) w)
felsch_stage_before c i start h = absurd (omega arith)
felsch_stage_before c i (define {i = j} {D = D} {w = w} s l) h = go (felsch_stage_before c i s) (eq-or-lt_of_le (le_of_suc-le-suc h))
  where
    go : (i < j → (E : List Word) × FelschStage c i E × ((w : Word) × IsLeastUndefined c.presentation.letters (FelschFacts c E) w))
        → (i ≡ j) ⊎ (i < j)
        → (E : List Word) × FelschStage c i E × ((w : Word) × IsLeastUndefined c.presentation.letters (FelschFacts c E) w)
    go further (inl e) = (D, subst (λ n. FelschStage c n D) (sym e) s, (w, l))
    go further (inr less) = further less

-- a stage past the budget shows that the budget does not suffice
pub felsch_stage_past : (c : Congruence) (n : ℕ) → {D : List Word} → FelschStage c (suc n) D → FelschEnds c n → ⊥
felsch_stage_past c n s ends =
    let before = felsch_stage_before c ends.count s (omega (arith, ends.within)) in
    let same : ends.words ≡ before.0 = felsch_stage_unique c ends.stage before.1 in
    let all : AllDefined c.presentation.letters (FelschFacts c before.0) =
    subst (λ X. AllDefined c.presentation.letters (FelschFacts c X)) same ends.all in
    before.2.1.undefined (all before.2.0 before.2.1.over)

-- a larger budget does too
pub felsch_ends_more : (c : Congruence) (n m : ℕ) → n ≤ m → FelschEnds c n → FelschEnds c m
felsch_ends_more c n m h ends = record {
  count = ends.count;
  within = omega (arith, ends.within);
  words = ends.words;
  stage = ends.stage;
  all = ends.all;
}

-- the stage at which all words are defined is one
pub felsch_ends_unique : (c : Congruence) (n m : ℕ) (p : FelschEnds c n) (q : FelschEnds c m) → p.words ≡ q.words
felsch_ends_unique c n m p q =
    let counts : p.count ≡ q.count = omega (arith, earlier n m p q, earlier m n q p) in
    felsch_stage_unique c (subst (λ i. FelschStage c i p.words) counts p.stage) q.stage
  where
    earlier : (n m : ℕ) (p : FelschEnds c n) (q : FelschEnds c m) → p.count < q.count → ⊥
    earlier n m p q h =
        let before = felsch_stage_before c p.count q.stage h in
        let same : p.words ≡ before.0 = felsch_stage_unique c p.stage before.1 in
        let all : AllDefined c.presentation.letters (FelschFacts c before.0) =
        subst (λ X. AllDefined c.presentation.letters (FelschFacts c X)) same p.all in
        before.2.1.undefined (all before.2.0 before.2.1.over)

-- where all words are defined, the facts are `~`
pub felsch_related : (c : Congruence) (D : List Word) → IsWellFormed c → IsRightSided c
    → AllDefined c.presentation.letters (FelschFacts c D) → (u v : Word) → IsOver c.presentation.letters u
    → FelschFacts c D u v ↔ Related c u v
felsch_related c D is right all u v over = (
  facts_related c (Contains D) (λ w. Unit {0}) right u v,
  facts_full c (Defines (Contains D)) (λ w. Unit {0}) all is right (λ w h. (w, tt, all w h)) u v over,
)

-- and each word is related to the empty word or to one that was defined
pub felsch_covers : (c : Congruence) (D : List Word) → IsRightSided c → AllDefined c.presentation.letters (FelschFacts c D) → (u : Word)
    → IsOver c.presentation.letters u → (w : Word) × Contains ([] ∷ D) w × Related c u w
felsch_covers c D right all u over =
    let found = facts_covered c D (λ w. Unit {0}) u u (all u over) in
    (found.0, found.1, facts_related c (Contains D) (λ w. Unit {0}) right u found.0 found.2)

-- a graph whose paths are the facts once all words are defined decides the congruence, whatever its kind
pub felsch_graph_decides : (c : Congruence) (D : List Word) (g : Graph) → IsWellFormed c
    → AllDefined (as_right c).presentation.letters (FelschFacts (as_right c) D) → PathsRelate g (FelschFacts (as_right c) D) → (u v : Word)
    → IsOver (as_right c).presentation.letters (as_right_word c u) → Related c u v ↔ SameEnd g (as_right_word c u) (as_right_word c v)
felsch_graph_decides c D g is all paths u v over =
    let right = as_right_related c u v in
    let facts = felsch_related (as_right c) D (as_right_well_formed c is) (as_right_sided c) all (as_right_word c u) (as_right_word c v) over in (
      λ h. (paths (as_right_word c u) (as_right_word c v)).1 (facts.1 (right.0 h)),
      λ h. right.1 (facts.0 ((paths (as_right_word c u) (as_right_word c v)).0 h)),
    )

-- a word that is undefined when the budget is used up shows that it does not suffice
pub felsch_stage_fails : (c : Congruence) (n : ℕ) (D : List Word) (w : Word) → FelschStage c n D → IsOver c.presentation.letters w
    → (FelschFacts c D w w → ⊥) → FelschEnds c n → ⊥
felsch_stage_fails c n D w s over undefined ends = go (eq-or-lt_of_le ends.within)
  where
    go : (ends.count ≡ n) ⊎ (ends.count < n) → ⊥
    go (inl e) =
        let same : ends.words ≡ D = felsch_stage_unique c (subst (λ i. FelschStage c i ends.words) e ends.stage) s in
        let all : AllDefined c.presentation.letters (FelschFacts c D) =
        subst (λ X. AllDefined c.presentation.letters (FelschFacts c X)) same ends.all in
        undefined (all w over)
    go (inr less) =
        let before = felsch_stage_before c ends.count s less in
        let same : ends.words ≡ before.0 = felsch_stage_unique c ends.stage before.1 in
        let all : AllDefined c.presentation.letters (FelschFacts c before.0) =
        subst (λ X. AllDefined c.presentation.letters (FelschFacts c X)) same ends.all in
        before.2.1.undefined (all before.2.0 before.2.1.over)
