-- What the operations of a table come to at a definition and at a row.
use Rattle.std.proofs.Common.{arith, ◌≡◌, ◌⊎◌, ℕ, suc, IsTrue, length, List, [], ◌∷◌, ◌++◌, refl, sym, ◌∙◌, ap, subst, subst₂, append_assoc, append-nil, inl, inr, ◌↔◌, Contains}
use Rattle.theory.specs.Word.{Word, IsPrefix}
use Rattle.theory.specs.Congruence.{Congruence, EitherWay}
use Rattle.theory.specs.Facts.{Follows, Defines, ClosedAt, ClosedAll, Merged}
use Rattle.theory.proofs.PartLaws.{given, symmetric, transitive, extended, relation, pair}
use Rattle.theory.specs.Felsch.{FelschFacts}
use Rattle.theory.specs.Hlt.{HltFacts, HltDefines, has_lookahead, FactsFrom, Drawn}
use Rattle.theory.proofs.Chains.{either_symm}
use Rattle.theory.proofs.Counting.{in_from_contains, contains_from_in}
use Rattle.theory.proofs.FactsLaws.{follows_least, follows_grow, follows_between, merged_follows}
use Rattle.theory.proofs.FelschLaws.{felsch_grows}
use Rattle.theory.proofs.HltLaws.{hlt_row_grows, hlt_lookahead}

-- related words go on to related words where one of them is defined all the way
pub follows_behind : (relations pairs : List (Word × Word)) (G : Word → Word → Type 0) (U : Word → Type 0) (y u v : Word)
    → Follows relations pairs G U u v → ((p : Word) → IsPrefix p y → Follows relations pairs G U (u ++ p) (u ++ p))
    → Follows relations pairs G U (u ++ y) (v ++ y)
follows_behind R P G U [] u v f defined = subst₂ (λ a b. Follows R P G U a b) (sym (append-nil u)) (sym (append-nil v)) f
follows_behind R P G U (a ∷ y) u v f defined =
    let next : Follows R P G U (u ++ a ∷ []) (v ++ a ∷ []) = extended u v a f (defined (a ∷ []) (record { after = y; is = refl })) in
    let both : Follows R P G U ((u ++ a ∷ []) ++ y) ((v ++ a ∷ []) ++ y) = follows_behind R P G U y (u ++ a ∷ []) (v ++ a ∷ []) next
    (λ p h. subst (λ w. Follows R P G U w w) (sym (append_assoc u (a ∷ []) p)) (defined (a ∷ p) (record { after = h.after; is = ap (λ w. a ∷ w) h.is }))) in
    subst₂ (λ p q. Follows R P G U p q) (append_assoc u (a ∷ []) y) (append_assoc v (a ∷ []) y) both

-- what lies between the definitions and the facts closes to the facts
pub felsch_closed : (c : Congruence) (D : List Word) (V : Word → Word → Type 0) → ((u v : Word) → Defines (Contains D) u v → V u v)
    → ((u v : Word) → V u v → FelschFacts c D u v) → (u v : Word) → ClosedAll c V u v ↔ FelschFacts c D u v
felsch_closed c D V = follows_between c.presentation.relations c.pairs (Defines (Contains D)) V (λ w. Unit {0})

-- what a table has before the row of w is closed: the facts so far, and what the row defines
abbrev pub RowGiven : Congruence → List Word → Word → Word → Word → Type 0
RowGiven c U w u v = HltFacts c U u v ⊎ Defines (HltDefines c (w ∷ U)) u v

-- closing at w is enough for the facts after its row, before a lookahead
pub hlt_row_closed : (c : Congruence) (U : List Word) (w u v : Word) → ClosedAt c (RowGiven c U w) w u v ↔ FactsFrom c (Drawn c U) (w ∷ U) u v
hlt_row_closed c U w u v = (to, from)
  where
    R : List (Word × Word)
    R = c.presentation.relations

    to : ClosedAt c (RowGiven c U w) w u v → FactsFrom c (Drawn c U) (w ∷ U) u v
    to = follows_grow c.presentation.relations c.pairs (RowGiven c U w) (λ x y. Defines (HltDefines c (w ∷ U)) x y ⊎ Drawn c U x y)
        (λ x. x ≡ w) (Contains (w ∷ U))
        (λ x y g. elim g [
          | inl f ↦ hlt_row_grows c U w x y f
          | inr d ↦ given (inl d)
        ])
        (λ x e. contains_from_in x (w ∷ U) (inl e)) u v

    -- a relation at a word that had its row before
    old_row : (x w₀ r s : Word) (a : ℕ) → ClosedAt c (RowGiven c U w) w x w₀ → Contains U w₀
        → EitherWay c.presentation.relations r (s ++ a ∷ []) → ClosedAt c (RowGiven c U w) w (x ++ r) (x ++ (s ++ a ∷ []))
    old_row x w₀ r s a f m e =
        let traced : (side other p : Word) → EitherWay c.presentation.relations side other → IsPrefix p side → HltDefines c U (w₀ ++ p) =
        λ side other p k h.
        inr (
          w₀,
          m,
          inr (side, (other, k), record { after = h.after; is = ap (λ z. w₀ ++ z) h.is ∙ sym (append_assoc w₀ p h.after) }),
        ) in
        let defined : (side other p : Word) → EitherWay c.presentation.relations side other → IsPrefix p side → ClosedAt c (RowGiven c U w) w (w₀ ++ p) (w₀ ++ p) = λ side other p k h. given (inl (given (inl (refl, inr (traced side other p k h))))) in
        let back = either_symm c.presentation.relations r (s ++ a ∷ []) e in
        let left : ClosedAt c (RowGiven c U w) w (w₀ ++ r) (x ++ r) =
        follows_behind c.presentation.relations c.pairs (RowGiven c U w) (λ z. z ≡ w) r w₀ x (symmetric f) (λ p h. defined r (s ++ a ∷ []) p e h) in
        let right : ClosedAt c (RowGiven c U w) w (w₀ ++ (s ++ a ∷ [])) (x ++ (s ++ a ∷ [])) =
        follows_behind c.presentation.relations c.pairs (RowGiven c U w) (λ z. z ≡ w) (s ++ a ∷ []) w₀ x (symmetric f)
        (λ p h. defined (s ++ a ∷ []) r p back h) in
        let itself : (p side other : Word) → EitherWay c.presentation.relations side other → IsPrefix p side → HltFacts c U (w₀ ++ p) (w₀ ++ p) =
        λ p side other k h. given (inl (refl, inr (traced side other p k h))) in
        let start : HltFacts c U w₀ w₀ =
        subst (λ z. HltFacts c U z z) (append-nil w₀) (itself [] r (s ++ a ∷ []) e (record { after = r; is = refl })) in
        let here : HltFacts c U (w₀ ++ r) (w₀ ++ (s ++ a ∷ [])) = relation w₀ w₀ r s a start m e
        (itself r r (s ++ a ∷ []) e (record { after = []; is = sym (append-nil r) }))
        (itself s (s ++ a ∷ []) r back (record { after = a ∷ []; is = refl })) in
        transitive (symmetric left) (transitive (given (inl here)) right)

    from : FactsFrom c (Drawn c U) (w ∷ U) u v → ClosedAt c (RowGiven c U w) w u v
    from =
        follows_least c.presentation.relations c.pairs (λ x y. Defines (HltDefines c (w ∷ U)) x y ⊎ Drawn c U x y) (Contains (w ∷ U))
        (ClosedAt c (RowGiven c U w) w) (record {
          given = λ x y g. elim g [ inl d ↦ given (inr d) | inr k ↦ given (inl (given (inr k))) ];
          symmetric = λ x y f. symmetric f;
          transitive = λ x y z f g. transitive f g;
          extended = λ x y a f g. extended x y a f g;
          relation = λ x w₀ r s a f m e g k. elim (in_from_contains w₀ (w ∷ U) m) [
            | inl same ↦ relation x w₀ r s a f same e g k
            | inr n ↦ old_row x w₀ r s a f (contains_from_in w₀ U n) e
          ];
          pair = λ r s a e g k. pair r s a e g k;
        })

-- what follows from the same is the same
pub follows_iff : (relations pairs : List (Word × Word)) (G H : Word → Word → Type 0) (U : Word → Type 0) → ((u v : Word) → G u v ↔ H u v)
    → (u v : Word) → Follows relations pairs G U u v ↔ Follows relations pairs H U u v
follows_iff R P G H U same u v = (
  follows_grow R P G H U U (λ x y g. given ((same x y).0 g)) (λ w h. h) u v,
  follows_grow R P H G U U (λ x y g. given ((same x y).1 g)) (λ w h. h) u v,
)

-- the words D are defined by the facts, and one more word by a definition
defines_more : (c : Congruence) (D : List Word) (w u v : Word) → Defines (Contains (w ∷ D)) u v → Merged (FelschFacts c D) w w u v
defines_more c D w u v d = elim d.1 [
  | inl e ↦ given (inl (given (d.0, inl e)))
  | inr m ↦ elim (in_from_contains u (w ∷ D) m) [
    | inl e ↦ given (inr (e, sym d.0 ∙ e))
    | inr n ↦ given (inl (given (d.0, inr (contains_from_in u D n))))
  ]
]

-- a definition and its deductions: the next stage's facts
pub felsch_next : (c : Congruence) (D : List Word) (w u v : Word)
    → ClosedAll c (Merged (FelschFacts c D) w w) u v ↔ FelschFacts c (w ∷ D) u v
felsch_next c D w =
    felsch_closed c (w ∷ D) (Merged (FelschFacts c D) w w) (defines_more c D w)
    (merged_follows c.presentation.relations c.pairs (Defines (Contains (w ∷ D))) (FelschFacts c D) (λ x. Unit {0}) w w (felsch_grows c D w)
    (given (refl, inr (0, omega arith, refl))))

-- closing a table that has no more than its row gives is enough
pub hlt_row_between : (c : Congruence) (U : List Word) (w : Word) (V : Word → Word → Type 0) → ((u v : Word) → RowGiven c U w u v → V u v)
    → ((u v : Word) → V u v → FactsFrom c (Drawn c U) (w ∷ U) u v) → (u v : Word) → ClosedAt c V w u v ↔ FactsFrom c (Drawn c U) (w ∷ U) u v
hlt_row_between c U w V up down u v =
    let between =
    follows_between c.presentation.relations c.pairs (RowGiven c U w) V (λ x. x ≡ w) up (λ x y h. (hlt_row_closed c U w x y).1 (down x y h)) u v in
    let closed = hlt_row_closed c U w u v in
    (λ f. closed.0 (between.0 f), λ f. between.1 (closed.1 f))

-- so is closing a table everywhere, at a lookahead after the row
pub hlt_lookahead_between : (c : Congruence) (U : List Word) (w : Word) (V : Word → Word → Type 0) → IsTrue (has_lookahead (suc (length U)))
    → ((u v : Word) → V u v ↔ FactsFrom c (Drawn c U) (w ∷ U) u v) → (u v : Word) → ClosedAll c V u v ↔ HltFacts c (w ∷ U) u v
hlt_lookahead_between c U w V due same u v =
    let all = follows_iff c.presentation.relations c.pairs V (FactsFrom c (Drawn c U) (w ∷ U)) (λ x. Unit {0}) same u v in
    let drawn = hlt_lookahead c U w due u v in
    (λ f. drawn.0 (all.0 f), λ f. all.1 (drawn.1 f))
