-- The stages of the strategy of rows are determined, and where it has ended the facts are `~`.
use Rattle.std.proofs.Common.{◌≡◌, ℕ, zero, suc, ◌<◌, ◌≤◌, ◌%◌, nat_lt, ◌==◌, ◌&&◌, Bool, true, false, true≢false, cond, IsTrue, List, [], ◌∷◌, ◌++◌, length, refl, ap, sym, ap₂, subst, arith, ◌⊎◌, inl, inr, ◌↔◌, Contains, eq-or-lt_of_le, le_of_suc-le-suc, append_assoc, append-nil}
use Rattle.std.proofs.lemmas.Map.Views.{exact_unsigned_eq}
use Rattle.theory.specs.Word.{Word, IsOver}
use Rattle.theory.specs.Congruence.{Congruence, IsWellFormed, IsRightSided, as_right, as_right_word}
use Rattle.theory.specs.Graph.{Graph, SameEnd, PathsRelate}
use Rattle.theory.proofs.KindLaws.{as_right_related, as_right_well_formed, as_right_sided}
use Rattle.theory.specs.Chain.{Related}
use Rattle.theory.specs.Facts.{Facts, Defines, ClosedAll, AllDefined}
use Rattle.theory.proofs.PartLaws.{given, transitive, symmetric, extended, relation, pair}
use Rattle.theory.specs.Hlt.{HltFacts, HltDefines, lookahead_rows, has_lookahead, FactsFrom, Drawn, IsLeastUnmet, HltStage, AllMet, HasEnded, HltEnds, start, row, IsMet}
use Rattle.theory.proofs.Words.{order_cases, over_append, over_left}
use Rattle.theory.proofs.Related.{none_contained, element_over, side_element}
use Rattle.theory.proofs.FactsLaws.{follows_least, follows_grow, follows_related, defines_related, facts_full}
use Rattle.theory.proofs.Counting.{in_from_contains, contains_from_in}

pub least_unmet_unique : (V : Word → Word → Type 0) (U : List Word) (v w : Word) → IsLeastUnmet V U v → IsLeastUnmet V U w → v ≡ w
least_unmet_unique V U v w p q =
    elim (order_cases v w) [
      | inl l ↦ absurd (p.unmet (q.least v p.defined l))
      | inr (inl e) ↦ e
      | inr (inr g) ↦ absurd (q.unmet (p.least w q.defined g))
    ]

-- rows define more and more
pub hlt_wider : (c : Congruence) (U : List Word) (w x : Word) → HltDefines c U x → HltDefines c (w ∷ U) x
hlt_wider c U w x h = elim h [ inl p ↦ inl p | inr r ↦ inr (r.0, contains_from_in r.0 (w ∷ U) (inr (in_from_contains r.0 U r.1)), r.2) ]

defines_wider : (c : Congruence) (U : List Word) (w u v : Word) → Defines (HltDefines c U) u v → Defines (HltDefines c (w ∷ U)) u v
defines_wider c U w u v d = (d.0, elim d.1 [ inl e ↦ inl e | inr h ↦ inr (hlt_wider c U w u h) ])

-- what follows from the rows grows by a row, and with what is known beside them
from_grows : (c : Congruence) (G H : Word → Word → Type 0) (U : List Word) (w : Word) → ((u v : Word) → G u v → H u v) → (u v : Word)
    → FactsFrom c G U u v → FactsFrom c H (w ∷ U) u v
from_grows c G H U w more =
    follows_grow c.presentation.relations c.pairs (λ u v. Defines (HltDefines c U) u v ⊎ G u v)
    (λ u v. Defines (HltDefines c (w ∷ U)) u v ⊎ H u v) (Contains U) (Contains (w ∷ U))
    (λ x y g. given (elim g [ inl d ↦ inl (defines_wider c U w x y d) | inr k ↦ inr (more x y k) ]))
    (λ x m. contains_from_in x (w ∷ U) (inr (in_from_contains x U m)))

-- a lookahead comes after some rows, and their number is a multiple
pub lookahead_some : (i : ℕ) → IsTrue (has_lookahead i) → 0 < i
lookahead_some zero due = absurd (true≢false (sym due))
lookahead_some (suc i) due = omega arith

pub lookahead_multiple : (i : ℕ) → IsTrue (has_lookahead i) → i % lookahead_rows ≡ 0
lookahead_multiple i due = exact_unsigned_eq (i % lookahead_rows) 0 (second (nat_lt 0 i) (i % lookahead_rows == 0) due)
  where
    second : (x y : Bool) → (x && y) ≡ true → y ≡ true
    second true y e = e
    second false y e = absurd (true≢false (sym e))

-- one relation or another, by a test
if_true : (b : Bool) (V W : Word → Word → Type 0) (u v : Word) → IsTrue b → V u v → cond b V W u v
if_true true V W u v due f = f
if_true false V W u v due f = absurd (true≢false (sym due))

by_test : (b : Bool) (V W : Word → Word → Type 0) (u v : Word) → cond b V W u v → (IsTrue b × V u v) ⊎ W u v
by_test true V W u v f = inl (refl, f)
by_test false V W u v f = inr f

if_both : (b : Bool) (V W : Word → Word → Type 0) (u v : Word) → V u v → W u v → cond b V W u v
if_both true V W u v f g = f
if_both false V W u v f g = g

-- what lookaheads have drawn after one more row: it was drawn before, or the row has a lookahead
pub drawn_cases : (c : Congruence) (U : List Word) (w u v : Word) → Drawn c (w ∷ U) u v
    → (IsTrue (has_lookahead (suc (length U))) × ClosedAll c (FactsFrom c (Drawn c U) (w ∷ U)) u v) ⊎ Drawn c U u v
drawn_cases c U w = by_test (has_lookahead (suc (length U))) (ClosedAll c (FactsFrom c (Drawn c U) (w ∷ U))) (Drawn c U)

pub drawn_grows : (c : Congruence) (U : List Word) (w u v : Word) → Drawn c U u v → Drawn c (w ∷ U) u v
drawn_grows c U w u v d =
    if_both (has_lookahead (suc (length U))) (ClosedAll c (FactsFrom c (Drawn c U) (w ∷ U))) (Drawn c U) u v (given (given (inr d))) d

drawn_by_lookahead : (c : Congruence) (U : List Word) (w u v : Word) → IsTrue (has_lookahead (suc (length U)))
    → ClosedAll c (FactsFrom c (Drawn c U) (w ∷ U)) u v → Drawn c (w ∷ U) u v
drawn_by_lookahead c U w = if_true (has_lookahead (suc (length U))) (ClosedAll c (FactsFrom c (Drawn c U) (w ∷ U))) (Drawn c U)

-- the facts grow by a row, before a lookahead and after it
pub hlt_row_grows : (c : Congruence) (U : List Word) (w u v : Word) → HltFacts c U u v → FactsFrom c (Drawn c U) (w ∷ U) u v
hlt_row_grows c U w = from_grows c (Drawn c U) (Drawn c U) U w (λ u v d. d)

pub hlt_grows : (c : Congruence) (U : List Word) (w u v : Word) → HltFacts c U u v → HltFacts c (w ∷ U) u v
hlt_grows c U w = from_grows c (Drawn c U) (Drawn c (w ∷ U)) U w (drawn_grows c U w)

pub hlt_row_within : (c : Congruence) (U : List Word) (w u v : Word) → FactsFrom c (Drawn c U) (w ∷ U) u v → HltFacts c (w ∷ U) u v
hlt_row_within c U w =
    follows_grow c.presentation.relations c.pairs (λ u v. Defines (HltDefines c (w ∷ U)) u v ⊎ Drawn c U u v)
    (λ u v. Defines (HltDefines c (w ∷ U)) u v ⊎ Drawn c (w ∷ U) u v) (Contains (w ∷ U)) (Contains (w ∷ U))
    (λ x y g. given (elim g [ inl d ↦ inl d | inr k ↦ inr (drawn_grows c U w x y k) ])) (λ x m. m)

-- a lookahead draws all that follows at every word
pub hlt_lookahead : (c : Congruence) (U : List Word) (w : Word) → IsTrue (has_lookahead (suc (length U))) → (u v : Word)
    → ClosedAll c (FactsFrom c (Drawn c U) (w ∷ U)) u v ↔ HltFacts c (w ∷ U) u v
hlt_lookahead c U w due u v = (λ f. given (inr (drawn_by_lookahead c U w u v due f)), from)
  where
    from : HltFacts c (w ∷ U) u v → ClosedAll c (FactsFrom c (Drawn c U) (w ∷ U)) u v
    from =
        follows_least c.presentation.relations c.pairs (λ u v. Defines (HltDefines c (w ∷ U)) u v ⊎ Drawn c (w ∷ U) u v) (Contains (w ∷ U))
        (ClosedAll c (FactsFrom c (Drawn c U) (w ∷ U))) (record {
          given = λ x y g. elim g [
            | inl d ↦ given (given (inl d))
            | inr k ↦ elim (drawn_cases c U w x y k) [ inl l ↦ l.1 | inr before ↦ given (given (inr before)) ]
          ];
          symmetric = λ x y f. symmetric f;
          transitive = λ x y z f g. transitive f g;
          extended = λ x y a f g. extended x y a f g;
          relation = λ x w₀ r s a f m e g k. relation x w₀ r s a f tt e g k;
          pair = λ r s a e g k. pair r s a e g k;
        })

-- after another row the facts are those of the row
pub hlt_plain : (c : Congruence) (U : List Word) (w : Word) → (IsTrue (has_lookahead (suc (length U))) → ⊥) → (u v : Word)
    → FactsFrom c (Drawn c U) (w ∷ U) u v ↔ HltFacts c (w ∷ U) u v
hlt_plain c U w none u v = (
  hlt_row_within c U w u v,
  follows_grow c.presentation.relations c.pairs (λ u v. Defines (HltDefines c (w ∷ U)) u v ⊎ Drawn c (w ∷ U) u v)
      (λ u v. Defines (HltDefines c (w ∷ U)) u v ⊎ Drawn c U u v) (Contains (w ∷ U)) (Contains (w ∷ U))
      (λ x y g. given (elim g [
        | inl d ↦ inl d
        | inr k ↦ inr (elim (drawn_cases c U w x y k) [ inl l ↦ absurd (none l.0) | inr before ↦ before ])
      ])) (λ x m. m) u v,
)

-- before the first lookahead nothing is drawn but by rows
none_drawn : (c : Congruence) (U : List Word) → length U < lookahead_rows → (u v : Word) → Drawn c U u v → ⊥
none_drawn c [] less u v d = d
none_drawn c (w ∷ U) less u v d = elim (drawn_cases c U w u v d) [
  | inl l ↦ omega (arith, less, lookahead_multiple (suc (length U)) l.0)
  | inr before ↦ none_drawn c U (omega (arith, less)) u v before
]

pub hlt_first_rows : (c : Congruence) (U : List Word) → length U < lookahead_rows → (u v : Word)
    → HltFacts c U u v ↔ Facts c (HltDefines c U) (Contains U) u v
hlt_first_rows c U less u v = (
  follows_grow c.presentation.relations c.pairs (λ u v. Defines (HltDefines c U) u v ⊎ Drawn c U u v) (Defines (HltDefines c U)) (Contains U)
      (Contains U) (λ x y g. given (elim g [ inl d ↦ d | inr k ↦ absurd (none_drawn c U less x y k) ])) (λ x m. m) u v,
  follows_grow c.presentation.relations c.pairs (Defines (HltDefines c U)) (λ u v. Defines (HltDefines c U) u v ⊎ Drawn c U u v) (Contains U)
      (Contains U) (λ x y g. given (inl g)) (λ x m. m) u v,
)

-- the facts lie within `~`
from_related : (c : Congruence) (G : Word → Word → Type 0) (U : List Word) → IsRightSided c → ((u v : Word) → G u v → Related c u v)
    → (u v : Word) → FactsFrom c G U u v → Related c u v
from_related c G U right within =
    follows_related c (λ u v. Defines (HltDefines c U) u v ⊎ G u v) (Contains U) right
    (λ x y g. elim g [ inl d ↦ defines_related c (HltDefines c U) x y d | inr k ↦ within x y k ])

drawn_related : (c : Congruence) (U : List Word) → IsRightSided c → (u v : Word) → Drawn c U u v → Related c u v
drawn_related c [] right u v d = absurd d
drawn_related c (w ∷ U) right u v d = elim (drawn_cases c U w u v d) [
  | inl l ↦
      follows_related c (FactsFrom c (Drawn c U) (w ∷ U)) (λ x. Unit {0}) right
      (from_related c (Drawn c U) (w ∷ U) right (drawn_related c U right)) u v l.1
  | inr before ↦ drawn_related c U right u v before
]

pub hlt_facts_related : (c : Congruence) (U : List Word) → IsRightSided c → (u v : Word) → HltFacts c U u v → Related c u v
hlt_facts_related c U right = from_related c (Drawn c U) U right (drawn_related c U right)

-- each stage is one list of words
pub hlt_stage_unique : (c : Congruence) → {i : ℕ} {U U' : List Word} → HltStage c i U → HltStage c i U' → U ≡ U'
hlt_stage_unique c start start = refl
hlt_stage_unique c (row {U = U} {w = w} s l) (row {U = X} {w = v} t m) =
    let same : U ≡ X = hlt_stage_unique c s t in
    ap₂ (λ (x : Word) (xs : List Word). x ∷ xs)
    (least_unmet_unique (HltFacts c X) X w v (subst (λ Y. IsLeastUnmet (HltFacts c Y) Y w) same l) m)
    same

-- each stage before has a word whose row is next
pub hlt_stage_before : (c : Congruence) (i : ℕ) → {j : ℕ} {U : List Word} → HltStage c j U → i < j
    → (X : List Word) × HltStage c i X × ((w : Word) × IsLeastUnmet (HltFacts c X) X w)
hlt_stage_before c i start h = absurd (omega arith)
hlt_stage_before c i (row {i = j} {U = U} {w = w} s l) h = go (hlt_stage_before c i s) (eq-or-lt_of_le (le_of_suc-le-suc h))
  where
    go : (i < j → (X : List Word) × HltStage c i X × ((w : Word) × IsLeastUnmet (HltFacts c X) X w)) → (i ≡ j) ⊎ (i < j)
        → (X : List Word) × HltStage c i X × ((w : Word) × IsLeastUnmet (HltFacts c X) X w)
    go further (inl e) = (U, subst (λ n. HltStage c n U) (sym e) s, (w, l))
    go further (inr less) = further less

-- so many words have had their row
pub hlt_stage_length : (c : Congruence) → {i : ℕ} {U : List Word} → HltStage c i U → length U ≡ i
hlt_stage_length c start = refl
hlt_stage_length c (row s l) = ap suc (hlt_stage_length c s)

-- where there is a stage past the budget and the budget suffices, a lookahead has ended it
pub hlt_stage_past : (c : Congruence) (m : ℕ) → {U : List Word} → HltStage c (suc m) U → (ends : HltEnds c m)
    → IsTrue (has_lookahead (length ends.words)) × AllDefined c.presentation.letters (HltFacts c ends.words)
hlt_stage_past c m s ends = elim ends.ended [
  | inr l ↦ l
  | inl met ↦
      let before = hlt_stage_before c ends.count s (omega (arith, ends.within)) in
      let same : ends.words ≡ before.0 = hlt_stage_unique c ends.stage before.1 in
      let all : AllMet c before.0 = subst (λ X. AllMet c X) same met in
      absurd (before.2.1.unmet (all before.2.0 before.2.1.defined))
]

-- a larger budget does too
pub hlt_ends_more : (c : Congruence) (m n : ℕ) → m ≤ n → HltEnds c m → HltEnds c n
hlt_ends_more c m n h ends = record {
  count = ends.count;
  within = omega (arith, ends.within);
  words = ends.words;
  stage = ends.stage;
  ended = ends.ended;
}

-- no rows never suffice
pub hlt_ends_zero : (c : Congruence) → HltEnds c 0 → ⊥
hlt_ends_zero c ends = go ends.count ends.within ends.stage ends.ended
  where
    go : (i : ℕ) → i ≤ 0 → {U : List Word} → HltStage c i U → HasEnded c U → ⊥
    go i h start (inl all) = let met = all [] (given (inl (refl, inl refl))) in none_contained met.0 met.1
    go i h start (inr l) = absurd (true≢false (sym l.0))
    go i h (row s l) ended = omega arith

-- a budget does not suffice where no less one does, and its own stage has not ended
pub hlt_ends_next : (c : Congruence) (m : ℕ) (U : List Word) → ((i : ℕ) → i < m → HltEnds c i → ⊥) → HltStage c m U → (HasEnded c U → ⊥)
    → HltEnds c m → ⊥
hlt_ends_next c m U less s unended ends = go (eq-or-lt_of_le ends.within)
  where
    go : (ends.count ≡ m) ⊎ (ends.count < m) → ⊥
    go (inl e) =
        let same : ends.words ≡ U = hlt_stage_unique c (subst (λ i. HltStage c i ends.words) e ends.stage) s in
        unended (subst (λ X. HasEnded c X) same ends.ended)
    go (inr earlier) = less ends.count earlier (record {
      count = ends.count;
      within = omega arith;
      words = ends.words;
      stage = ends.stage;
      ended = ends.ended;
    })

-- a stage has not ended where a defined word is met by none, and after a lookahead a word is undefined
pub hlt_not_ended : (c : Congruence) (i : ℕ) (U : List Word) (w : Word) → HltStage c i U → HltFacts c U w w → (IsMet (HltFacts c U) U w → ⊥)
    → (IsTrue (has_lookahead i) → AllDefined c.presentation.letters (HltFacts c U) → ⊥) → HasEnded c U → ⊥
hlt_not_ended c i U w s defined unmet missing (inl all) = unmet (all w defined)
hlt_not_ended c i U w s defined unmet missing (inr l) = missing (subst (λ n. IsTrue (has_lookahead n)) (hlt_stage_length c s) l.0) l.1

-- where every defined word is met, all words are defined
pub hlt_all_defined : (c : Congruence) (U : List Word) → AllMet c U → AllDefined c.presentation.letters (HltFacts c U)
hlt_all_defined c U met w over = go [] w (given (inl (refl, inl refl))) over
  where
    go : (u y : Word) → HltFacts c U u u → IsOver c.presentation.letters y → HltFacts c U (u ++ y) (u ++ y)
    go u [] f h = rw append-nil f
    go u (a ∷ y) f h =
        let at = met u f in
        let there : HltFacts c U (at.0 ++ a ∷ []) (at.0 ++ a ∷ []) =
        given (inl (refl, inr (inr (at.0, at.1, inl (a, h.0, refl))))) in
        let one : HltFacts c U (at.0 ++ a ∷ []) (u ++ a ∷ []) = extended at.0 u a (symmetric at.2) there in
        let next : HltFacts c U ((u ++ a ∷ []) ++ y) ((u ++ a ∷ []) ++ y) = go (u ++ a ∷ []) y (transitive (symmetric one) one) h.1 in
        subst (λ x. HltFacts c U x x) (append_assoc u (a ∷ []) y) next

-- and so they are where it has ended
pub hlt_ended_defined : (c : Congruence) (U : List Word) → HasEnded c U → AllDefined c.presentation.letters (HltFacts c U)
hlt_ended_defined c U (inl met) = hlt_all_defined c U met
hlt_ended_defined c U (inr l) = l.1

-- there the facts are `~`
hlt_full : (c : Congruence) (U : List Word) → IsWellFormed c → IsRightSided c → HasEnded c U → (u v : Word) → IsOver c.presentation.letters u
    → Related c u v → HltFacts c U u v
hlt_full c U is right (inl met) u v over =
    facts_full c (λ u v. Defines (HltDefines c U) u v ⊎ Drawn c U u v) (Contains U) (hlt_all_defined c U met) is right
    (λ w h. met w (hlt_all_defined c U met w h)) u v over
hlt_full c [] is right (inr l) u v over = absurd (true≢false (sym l.0))
hlt_full c (new ∷ U) is right (inr l) u v over = λ h.
    let all : AllDefined c.presentation.letters (ClosedAll c (FactsFrom c (Drawn c U) (new ∷ U))) = λ w o. (hlt_lookahead c U new l.0 w w).1 (l.1 w o) in
    (hlt_lookahead c U new l.0 u v).0 (facts_full c (FactsFrom c (Drawn c U) (new ∷ U)) (λ w. Unit {0}) all is right (λ w o. (w, tt, all w o)) u v over h)

pub hlt_related : (c : Congruence) (U : List Word) → IsWellFormed c → IsRightSided c → HasEnded c U → (u v : Word)
    → IsOver c.presentation.letters u → HltFacts c U u v ↔ Related c u v
hlt_related c U is right ended u v over = (hlt_facts_related c U right u v, hlt_full c U is right ended u v over)

-- and where every defined word is met, each word is related to one that had its row
pub hlt_covers : (c : Congruence) (U : List Word) → IsRightSided c → AllMet c U → (u : Word) → IsOver c.presentation.letters u
    → (w : Word) × Contains U w × Related c u w
hlt_covers c U right met u over =
    let at = met u (hlt_all_defined c U met u over) in
    (at.0, at.1, hlt_facts_related c U right u at.0 at.2)

-- what rows define is over the letters
pub hlt_defines_over : (c : Congruence) (U : List Word) → IsWellFormed c → ((w : Word) → Contains U w → IsOver c.presentation.letters w)
    → (v : Word) → HltDefines c U v → IsOver c.presentation.letters v
hlt_defines_over c U is over v h = elim h [
  | inl p ↦
      subst_prefix p.0 v p.2.after p.2.is
      (element_over c.presentation.is_monoid c.presentation.letters p.0
      (side_element c.presentation.is_monoid c.presentation.letters c.pairs p.0 p.1.0 is.pairs p.1.1).0)
  | inr r ↦ elim r.2 [
    | inl x ↦
        subst (λ w. IsOver c.presentation.letters w) (sym x.2) (over_append c.presentation.letters r.0 (x.0 ∷ []) (over r.0 r.1) (x.1, tt))
    | inr t ↦
        subst_prefix (r.0 ++ t.0) v t.2.after t.2.is
        (over_append c.presentation.letters r.0 t.0 (over r.0 r.1)
        (element_over c.presentation.is_monoid c.presentation.letters t.0 (side_element c.presentation.is_monoid c.presentation.letters c.presentation.relations t.0 t.1.0 is.relations t.1.1).0))
  ]
]
  where
    subst_prefix : (u v after : Word) → u ≡ v ++ after → IsOver c.presentation.letters u → IsOver c.presentation.letters v
    subst_prefix u v after e h = over_left c.presentation.letters v after (subst (λ w. IsOver c.presentation.letters w) e h)

-- a graph whose paths are the facts where it has ended decides the congruence, whatever its kind
pub hlt_graph_decides : (c : Congruence) (U : List Word) (g : Graph) → IsWellFormed c → HasEnded (as_right c) U
    → PathsRelate g (HltFacts (as_right c) U) → (u v : Word) → IsOver (as_right c).presentation.letters (as_right_word c u)
    → Related c u v ↔ SameEnd g (as_right_word c u) (as_right_word c v)
hlt_graph_decides c U g is ended paths u v over =
    let right = as_right_related c u v in
    let facts = hlt_related (as_right c) U (as_right_well_formed c is) (as_right_sided c) ended (as_right_word c u) (as_right_word c v) over in (
      λ h. (paths (as_right_word c u) (as_right_word c v)).1 (facts.1 (right.0 h)),
      λ h. right.1 (facts.0 ((paths (as_right_word c u) (as_right_word c v)).0 h)),
    )
