-- At the stages of both strategies the prefixes of defined words are defined.
use Rattle.std.proofs.Common.{◌<◌, ◌≡◌, ℕ, List, [], ◌∷◌, ◌++◌, length, refl, sym, ◌∙◌, ap, subst, arith, ◌⊎◌, inl, inr, Contains, append_assoc, append-nil, length-append}
use Rattle.std.proofs.lemmas.Bool.{cases_lt}
use Rattle.std.proofs.lemmas.List.{nil_from_length}
use Rattle.theory.specs.Word.{Word, IsOver, IsPrefix}
use Rattle.theory.specs.Congruence.{Congruence}
use Rattle.theory.specs.Facts.{Defines, ClosedAll}
use Rattle.theory.proofs.PartLaws.{given}
use Rattle.theory.specs.Felsch.{FelschFacts, FelschStage, IsLeastUndefined, start, define}
use Rattle.theory.specs.Hlt as hlt
use Rattle.theory.specs.Hlt.{HltFacts, HltDefines, FactsFrom, Drawn, HltStage}
use Rattle.theory.proofs.Words.{shorter_first, over_left}
use Rattle.theory.proofs.Related.{none_contained}
use Rattle.theory.proofs.Counting.{in_from_contains, contains_from_in}
use Rattle.theory.proofs.FactsLaws.{HasPrefixes, prefix_last, follows_prefixes, defines_prefixes, facts_prefixes}
use Rattle.theory.proofs.FelschLaws.{felsch_grows}
use Rattle.theory.proofs.HltLaws.{drawn_cases, hlt_grows, hlt_row_grows, hlt_row_within, hlt_lookahead}

-- a prefix is the word, or shorter
prefix_cases : (p w : Word) → IsPrefix p w → (p ≡ w) ⊎ (length p < length w)
prefix_cases p w h = elim (cases_lt (length p) (length w)) [
  | inl less ↦ inr less
  | inr more ↦
      let none : h.after ≡ [] = nil_from_length h.after (omega (arith, ap length h.is, length-append p h.after)) in
      inl (sym (h.is ∙ ap (λ x. p ++ x) none ∙ append-nil p))
]

prefix_over : (k : ℕ) (p w : Word) → IsPrefix p w → IsOver k w → IsOver k p
prefix_over k p w h over = over_left k p h.after (subst (λ x. IsOver k x) h.is over)

-- the prefixes of the least undefined word are less, so they are defined
newest : (c : Congruence) (D : List Word) (w : Word) → IsLeastUndefined c.presentation.letters (FelschFacts c D) w
    → HasPrefixes (FelschFacts c (w ∷ D)) w
newest c D w l p h = elim (prefix_cases p w h) [
  | inl e ↦ subst (λ x. FelschFacts c (w ∷ D) x x) (sym e) (given (refl, inr (0, omega arith, refl)))
  | inr less ↦ felsch_grows c D w p p (l.least p (prefix_over c.presentation.letters p w h l.over) (shorter_first p w less))
]

felsch_words : (c : Congruence) → {i : ℕ} {D : List Word} → FelschStage c i D → (w : Word) → Contains D w
    → HasPrefixes (FelschFacts c D) w
felsch_words c start w m = absurd (none_contained w m)
felsch_words c (define {D = D} {w = new} s l) w m = elim (in_from_contains w (new ∷ D) m) [
  | inl e ↦ subst (λ x. HasPrefixes (FelschFacts c (new ∷ D)) x) (sym e) (newest c D new l)
  | inr n ↦ λ p h. felsch_grows c D new p p (felsch_words c s w (contains_from_in w D n) p h)
]

-- the prefixes of a defined word are defined, at each stage of Felsch's strategy
pub felsch_prefixes : (c : Congruence) → {i : ℕ} {D : List Word} → FelschStage c i D → (u p : Word) → FelschFacts c D u u → IsPrefix p u
    → FelschFacts c D p p
felsch_prefixes c {D} s u p f = facts_prefixes c (Contains D) (λ x. Unit {0}) (felsch_words c s) u u f p

prefix_trans : (p v u : Word) → IsPrefix p v → IsPrefix v u → IsPrefix p u
prefix_trans p v u h k = record { after = h.after ++ k.after; is = k.is ∙ ap (λ x. x ++ k.after) h.is ∙ append_assoc p h.after k.after }

-- what a list of rows defines has its prefixes, where the words of the list have
row_words : (c : Congruence) (G : Word → Word → Type 0) (U : List Word) → ((w : Word) → Contains U w → HasPrefixes (FactsFrom c G U) w)
    → (v : Word) → HltDefines c U v → HasPrefixes (FactsFrom c G U) v
row_words c G U rows v (inl f) p h =
    given (inl (refl, inr (inl (f.0, f.1, prefix_trans p v f.0 h f.2))))
row_words c G U rows v (inr r) p h = elim r.2 [
  | inl x ↦ elim (prefix_last p r.0 x.0 (subst (λ w. IsPrefix p w) x.2 h)) [
    | inl k ↦ rows r.0 r.1 p k
    | inr e ↦ subst (λ w. FactsFrom c G U w w) (sym e)
        (given (inl (refl, inr (inr (r.0, r.1, inl (x.0, x.1, refl))))))
  ]
  | inr t ↦
      given (inl (refl, inr (inr (r.0, r.1, inr (t.0, t.1, prefix_trans p v (r.0 ++ t.0) h t.2)))))
]

-- the prefixes of both of two words are defined
abbrev HavePrefixes : (Word → Word → Type 0) → Word → Word → Type 0
HavePrefixes V u v = HasPrefixes V u × HasPrefixes V v

-- so has what follows from them, where what is known beside them has
from_prefixes : (c : Congruence) (G : Word → Word → Type 0) (U : List Word) → ((w : Word) → Contains U w → HasPrefixes (FactsFrom c G U) w)
    → ((u v : Word) → G u v → HavePrefixes (FactsFrom c G U) u v) → (u v : Word) → FactsFrom c G U u v → HavePrefixes (FactsFrom c G U) u v
from_prefixes c G U rows known =
    follows_prefixes c (λ u v. Defines (HltDefines c U) u v ⊎ G u v) (Contains U) (λ x y g. elim g [
      | inl d ↦ defines_prefixes (HltDefines c U) (FactsFrom c G U) (given (inl (refl, inl refl))) (row_words c G U rows) x y d
      | inr k ↦ known x y k
    ])

-- at a stage the words with a row have their prefixes, and what lookaheads have drawn has
record HavePrefixesAt (c : Congruence) (U : List Word) : Type 0 where
  rows : (w : Word) → Contains U w → HasPrefixes (HltFacts c U) w
  drawn : (u v : Word) → Drawn c U u v → HavePrefixes (HltFacts c U) u v

facts_at : (c : Congruence) (U : List Word) → HavePrefixesAt c U → (u v : Word) → HltFacts c U u v → HavePrefixes (HltFacts c U) u v
facts_at c U at = from_prefixes c (Drawn c U) U at.rows at.drawn

-- one more row
next_at : (c : Congruence) (U : List Word) (new : Word) → HavePrefixesAt c U → HltFacts c U new new → HavePrefixesAt c (new ∷ U)
next_at c U new at defined = record {
  rows = λ w m p h. hlt_row_within c U new p p (in_row w m p h);
  drawn = λ u v d. elim (drawn_cases c U new u v d) [
    | inr k ↦ let both = at.drawn u v k in (λ p h. hlt_grows c U new p p (both.0 p h), λ p h. hlt_grows c U new p p (both.1 p h))
    | inl l ↦ let both = follows_prefixes c (FactsFrom c (Drawn c U) (new ∷ U)) (λ x. Unit {0}) by_row u v l.1 in (
      λ p h. (hlt_lookahead c U new l.0 p p).0 (both.0 p h),
      λ p h. (hlt_lookahead c U new l.0 p p).0 (both.1 p h),
    )
  ];
}
  where
    in_row : (w : Word) → Contains (new ∷ U) w → HasPrefixes (FactsFrom c (Drawn c U) (new ∷ U)) w
    in_row w m p h = hlt_row_grows c U new p p (elim (in_from_contains w (new ∷ U) m) [
      | inl e ↦ (facts_at c U at new new defined).0 p (subst (λ x. IsPrefix p x) e h)
      | inr n ↦ at.rows w (contains_from_in w U n) p h
    ])

    in_drawn : (u v : Word) → Drawn c U u v → HavePrefixes (FactsFrom c (Drawn c U) (new ∷ U)) u v
    in_drawn u v d = let both = at.drawn u v d in
        (λ p h. hlt_row_grows c U new p p (both.0 p h), λ p h. hlt_row_grows c U new p p (both.1 p h))

    by_row : (u v : Word) → FactsFrom c (Drawn c U) (new ∷ U) u v → HavePrefixes (ClosedAll c (FactsFrom c (Drawn c U) (new ∷ U))) u v
    by_row u v f = let both = from_prefixes c (Drawn c U) (new ∷ U) in_row in_drawn u v f in
        (λ p h. given (both.0 p h), λ p h. given (both.1 p h))

prefixes_at : (c : Congruence) → {i : ℕ} {U : List Word} → HltStage c i U → HavePrefixesAt c U
prefixes_at c hlt.start = record { rows = λ w m. absurd (none_contained w m); drawn = λ u v d. absurd d }
prefixes_at c (hlt.row {U = U} {w = new} s l) = next_at c U new (prefixes_at c s) l.defined

-- and at each stage of the strategy of rows
pub hlt_prefixes : (c : Congruence) → {i : ℕ} {U : List Word} → HltStage c i U → (u p : Word) → HltFacts c U u u → IsPrefix p u
    → HltFacts c U p p
hlt_prefixes c {U} s u p f = (facts_at c U (prefixes_at c s) u u f).0 p
