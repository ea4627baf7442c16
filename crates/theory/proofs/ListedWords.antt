-- The words that rows define stand in one list, and where the strategy of rows has ended they cover the classes.
use Rattle.std.proofs.Common.{◌≡◌, ℕ, zero, suc, List, [], ◌∷◌, ◌++◌, map, refl, sym, ap, subst, arith, ◌⊎◌, inl, inr, Contains}
use Rattle.std.proofs.lemmas.Bool.{cases_eq}
use Rattle.std.proofs.lemmas.List.Elements.{Contains-append_left, Contains-append_right}
use Rattle.theory.specs.Word.{Word, IsOver, IsPrefix}
use Rattle.theory.specs.Congruence.{Congruence, IsRightSided}
use Rattle.theory.specs.Chain.{Related}
use Rattle.theory.specs.Facts.{Defines, ClosedAll}
use Rattle.theory.proofs.PartLaws.{given}
use Rattle.theory.specs.Hlt.{IsSide, IsExtension, IsTraced, IsInRow, HltDefines, FactsFrom, Drawn, HltFacts, HasEnded}
use Rattle.theory.proofs.Counting.{IsIn, in_from_contains, contains_from_in}
use Rattle.theory.proofs.FactsLaws.{IsCovered, follows_covered, defines_covered}
use Rattle.theory.proofs.HltLaws.{drawn_cases, hlt_wider, hlt_grows, hlt_row_grows, hlt_lookahead, hlt_ended_defined, hlt_facts_related}

-- all words with the property stand in one list
abbrev IsListed : (Word → Type 0) → Type 0
IsListed D = (words : List Word) × ((w : Word) → D w → Contains words w)

listed_from : (D E : Word → Type 0) → ((w : Word) → E w → D w) → IsListed D → IsListed E
listed_from D E h list = (list.0, λ w e. list.1 w (h w e))

listed_one : (v : Word) → IsListed (λ w. w ≡ v)
listed_one v = (v ∷ [], λ w e. (0, omega arith, sym e))

listed_either : (D E : Word → Type 0) → IsListed D → IsListed E → IsListed (λ w. D w ⊎ E w)
listed_either D E d e = (
  d.0 ++ e.0,
  λ w h. elim h [
    | inl k ↦ Contains-append_left d.0 e.0 w (d.1 w k)
    | inr k ↦ Contains-append_right d.0 e.0 w (e.1 w k)
  ],
)

-- a list for each of a list makes one list
listed_any : {X : Type 0} (xs : List X) (D : X → Word → Type 0) → ((x : X) → IsListed (D x)) → IsListed (λ w. (x : X) × Contains xs x × D x w)
listed_any [] D each = ([], λ w h. absurd (in_from_contains h.0 [] h.1))
listed_any {X} (x ∷ xs) D each =
    listed_from (λ w. D x w ⊎ ((y : X) × Contains xs y × D y w)) (λ w. (y : X) × Contains (x ∷ xs) y × D y w) (λ w h. elim (in_from_contains h.0 (x ∷ xs) h.1) [
      | inl e ↦ inl (subst (λ y. D y w) e h.2)
      | inr n ↦ inr (h.0, contains_from_in h.0 xs n, h.2)
    ])
    (listed_either (D x) (λ w. (y : X) × Contains xs y × D y w) (each x) (listed_any xs D each))

-- the prefixes of a word
listed_prefixes : (v : Word) → IsListed (λ p. IsPrefix p v)
listed_prefixes [] = ([] ∷ [], λ p h. front p h.after h.is)
  where
    front : (p after : Word) → [] ≡ p ++ after → Contains ([] ∷ []) p
    front [] after e = (0, omega arith, refl)
    front (a ∷ p) after e = cc
listed_prefixes (a ∷ v) = let rest = listed_prefixes v in ([] ∷ map (λ p. a ∷ p) rest.0, λ p h. front rest.0 rest.1 p h.after h.is)
  where
    behind : (ps : List Word) (p : Word) → Contains ps p → Contains (map (λ q. a ∷ q) ps) (a ∷ p)
    behind ps p m = contains_from_in (a ∷ p) (map (λ q. a ∷ q) ps) (go ps (in_from_contains p ps m))
      where
        go : (qs : List Word) → IsIn p qs → IsIn (a ∷ p) (map (λ q. a ∷ q) qs)
        go [] h = h
        go (q ∷ qs) (inl e) = inl (ap (λ z. a ∷ z) e)
        go (q ∷ qs) (inr h) = inr (go qs h)

    front : (ps : List Word) → ((p : Word) → IsPrefix p v → Contains ps p) → (p after : Word) → a ∷ v ≡ p ++ after → Contains ([] ∷ map (λ q. a ∷ q) ps) p
    front ps all [] after e = (0, omega arith, refl)
    front ps all (b ∷ p) after e =
        let head : a ≡ b = cc in
        let tail : v ≡ p ++ after = cc in
        subst (λ z. Contains ([] ∷ map (λ q. a ∷ q) ps) (z ∷ p)) head
        (Contains-append_right ([] ∷ []) (map (λ q. a ∷ q) ps) (a ∷ p) (behind ps p (all p (record { after = after; is = tail }))))

-- what each side of a list of pairs gives
listed_sides : (pairs : List (Word × Word)) (D : Word → Word → Type 0) → ((side : Word) → IsListed (D side)) → IsListed (λ w. (side : Word) × IsSide pairs side × D side w)
listed_sides pairs D each =
    listed_from (λ w. (p : Word × Word) × Contains pairs p × (D p.0 w ⊎ D p.1 w)) (λ w. (side : Word) × IsSide pairs side × D side w)
    (λ w h. elim h.1.1 [ inl m ↦ ((h.0, h.1.0), m, inl h.2) | inr m ↦ ((h.1.0, h.0), m, inr h.2) ])
    (listed_any pairs (λ p w. D p.0 w ⊎ D p.1 w) (λ p. listed_either (D p.0) (D p.1) (each p.0) (each p.1)))

-- the letters of an extension
listed_extensions : (k : ℕ) (v : Word) → IsListed (IsExtension k v)
listed_extensions zero v = ([], λ w x. absurd (omega (arith, x.1)))
listed_extensions (suc k) v =
    listed_from (λ w. IsExtension k v w ⊎ (w ≡ v ++ k ∷ [])) (IsExtension (suc k) v) (λ w x. elim (cases_eq x.0 k) [
      | inl e ↦ inr (subst (λ a. w ≡ v ++ a ∷ []) e x.2)
      | inr d ↦ inl (x.0, omega (arith, x.1, d), x.2)
    ])
    (listed_either (IsExtension k v) (λ w. w ≡ v ++ k ∷ []) (listed_extensions k v) (listed_one (v ++ k ∷ [])))

listed_traced : (pairs : List (Word × Word)) (x : Word) → IsListed (IsTraced pairs x)
listed_traced pairs x = listed_sides pairs (λ side v. IsPrefix v (x ++ side)) (λ side. listed_prefixes (x ++ side))

listed_defines : (c : Congruence) (U : List Word) → IsListed (HltDefines c U)
listed_defines c U =
    listed_either (IsTraced c.pairs []) (λ v. (w : Word) × Contains U w × IsInRow c w v) (listed_traced c.pairs [])
    (listed_any U (IsInRow c) (λ w. listed_either (IsExtension c.presentation.letters w) (IsTraced c.presentation.relations w)
    (listed_extensions c.presentation.letters w) (listed_traced c.presentation.relations w)))

-- the empty word, and what the rows of the words define
abbrev IsRoot : Congruence → List Word → Word → Type 0
IsRoot c U w = (w ≡ []) ⊎ HltDefines c U w

-- both words are related to such ones
abbrev AreCovered : (Word → Type 0) → (Word → Word → Type 0) → Word → Word → Type 0
AreCovered D V u v = IsCovered D V u × IsCovered D V v

covered_grow : (D E : Word → Type 0) (V W : Word → Word → Type 0) → ((w : Word) → D w → E w) → ((u v : Word) → V u v → W u v) → (u v : Word)
    → AreCovered D V u v → AreCovered E W u v
covered_grow D E V W d g u v both = ((both.0.0, d both.0.0 both.0.1, g u both.0.0 both.0.2), (both.1.0, d both.1.0 both.1.1, g v both.1.0 both.1.2))

from_covered : (c : Congruence) (G : Word → Word → Type 0) (U : List Word) → ((u v : Word) → G u v → AreCovered (IsRoot c U) (FactsFrom c G U) u v)
    → (u v : Word) → FactsFrom c G U u v → AreCovered (IsRoot c U) (FactsFrom c G U) u v
from_covered c G U known =
    follows_covered c (λ u v. Defines (HltDefines c U) u v ⊎ G u v) (Contains U) (IsRoot c U) (λ x y g. elim g [
      | inl d ↦ defines_covered (HltDefines c U) (FactsFrom c G U) (λ a b e. given (inl e)) x y d
      | inr k ↦ known x y k
    ])

root_wider : (c : Congruence) (U : List Word) (new w : Word) → IsRoot c U w → IsRoot c (new ∷ U) w
root_wider c U new w h = elim h [ inl e ↦ inl e | inr d ↦ inr (hlt_wider c U new w d) ]

-- one row more, and the lookahead after it
module _ (c : Congruence) (U : List Word) (new : Word) (known : (u v : Word) → Drawn c U u v → AreCovered (IsRoot c U) (HltFacts c U) u v) where
  row_covered : (u v : Word) → FactsFrom c (Drawn c U) (new ∷ U) u v → AreCovered (IsRoot c (new ∷ U)) (FactsFrom c (Drawn c U) (new ∷ U)) u v
  row_covered = from_covered c (Drawn c U) (new ∷ U)
      (λ u v d.
      covered_grow (IsRoot c U) (IsRoot c (new ∷ U)) (HltFacts c U) (FactsFrom c (Drawn c U) (new ∷ U)) (root_wider c U new) (hlt_row_grows c U new) u v (known u v d))

  lookahead_covered : (u v : Word) → Drawn c (new ∷ U) u v → AreCovered (IsRoot c (new ∷ U)) (HltFacts c (new ∷ U)) u v
  lookahead_covered u v d = elim (drawn_cases c U new u v d) [
    | inl l ↦
        covered_grow (IsRoot c (new ∷ U)) (IsRoot c (new ∷ U)) (ClosedAll c (FactsFrom c (Drawn c U) (new ∷ U))) (HltFacts c (new ∷ U)) (λ w h. h)
        (λ x y. (hlt_lookahead c U new l.0 x y).0) u v
        (follows_covered c (FactsFrom c (Drawn c U) (new ∷ U)) (λ x. Unit {0}) (IsRoot c (new ∷ U)) in_row u v l.1)
    | inr before ↦
        covered_grow (IsRoot c U) (IsRoot c (new ∷ U)) (HltFacts c U) (HltFacts c (new ∷ U)) (root_wider c U new) (hlt_grows c U new) u v
        (known u v before)
  ]
    where
      in_row : (x y : Word) → FactsFrom c (Drawn c U) (new ∷ U) x y → AreCovered (IsRoot c (new ∷ U)) (ClosedAll c (FactsFrom c (Drawn c U) (new ∷ U))) x y
      in_row x y f =
          covered_grow (IsRoot c (new ∷ U)) (IsRoot c (new ∷ U)) (FactsFrom c (Drawn c U) (new ∷ U)) (ClosedAll c (FactsFrom c (Drawn c U) (new ∷ U))) (λ w h. h) (λ a b. given) x y
          (row_covered x y f)

drawn_covered : (c : Congruence) (U : List Word) (u v : Word) → Drawn c U u v → AreCovered (IsRoot c U) (HltFacts c U) u v
drawn_covered c [] u v d = absurd d
drawn_covered c (new ∷ U) u v d = lookahead_covered c U new (drawn_covered c U) u v d

-- each word is related to one of finitely many
pub hlt_finite : (c : Congruence) (U : List Word) → IsRightSided c → HasEnded c U
    → (words : List Word) × ((u : Word) → IsOver c.presentation.letters u → (w : Word) × Contains words w × Related c u w)
hlt_finite c U right ended =
    let list = listed_either (λ w. w ≡ []) (HltDefines c U) (listed_one []) (listed_defines c U) in
    let covered : (u : Word) → IsOver c.presentation.letters u → IsCovered (IsRoot c U) (HltFacts c U) u = λ u over.
    (from_covered c (Drawn c U) U (drawn_covered c U) u u (hlt_ended_defined c U ended u over)).0 in
    (list.0, λ u over. let at = covered u over in (at.0, list.1 at.0 at.1, hlt_facts_related c U right u at.0 at.2))
