-- One row leads from one stage to the next.
use Rattle.std.proofs.Common.{◌≡◌, ◌≢◌, ◌↔◌, ℕ, suc, ◌<◌, List, [], ◌∷◌, ◌++◌, ◌⊎◌, refl, sym, ◌∙◌, ap, arith, inl, inr, Some, length, subst, subst₂, append_assoc, append-nil, slice_set, get_or, Contains, Bool, true, false, Result, Ok, Err}
use Rattle.std.specs.Result.{OnOk}
use Rattle.std.proofs.lemmas.Bool.{cases_eq}
use Rattle.std.proofs.lemmas.List.{get_or-set_same, get_or-set_other}
use Rattle.theory.specs.Word.{Word, IsPrefix}
use Rattle.theory.specs.Congruence.{Congruence, EitherWay}
use Rattle.theory.specs.Graph.{Graph, path, SameEnd, PathsRelate}
use Rattle.theory.specs.Facts.{ClosedAt}
use Rattle.theory.proofs.PartLaws.{given, relation, symmetric}
use Rattle.theory.specs.Hlt.{Drawn, FactsFrom, HltFacts, HltStage, HltEnds, IsInRow, IsLeastUnmet, IsMet, start, row}
use Rattle.theory.proofs.Related.{none_contained}
use Rattle.theory.proofs.Counting.{in_from_contains, contains_from_in}
use Rattle.theory.proofs.FactsLaws.{last_letter}
use Rattle.theory.proofs.GraphLaws.{path_append, same_end_trans}
use Rattle.theory.proofs.HltLaws.{hlt_row_grows, hlt_row_within, hlt_ends_more, hlt_ends_next, hlt_not_ended}
use Rattle.theory.proofs.TableSteps.{RowGiven, hlt_row_between}
use Rattle.coincidence.specs.Live.{IsOn}
use Rattle.coincidence.specs.Table.{HoldWhereMarked}
use Rattle.coincidence.specs.Marks.{KeepsMarks}
use Rattle.coincidence.specs.Table.{CosetTable, IsTable}
use Rattle.coincidence.proofs.TableLaws.{on_inside}
use Rattle.tc_hlt.specs.Tracing.{AreSidesAny, IsGrown, IsWithin}
use Rattle.tc_hlt.specs.Stage.{HasLastRow, IsReady}
use Rattle.tc_hlt.proofs.GrowLaws.{grown_same, grown_live}

-- a relation is a fact where a word has its row
relation_fact : (c : Congruence) (G : Word → Word → Type 0) (U : List Word) (w r s : Word) → Contains U w → EitherWay c.presentation.relations r s → FactsFrom c G U (w ++ r) (w ++ s)
relation_fact c G U w r s had sides = go (last_letter s) (last_letter r)
  where
    back : EitherWay c.presentation.relations s r
    back = elim sides [ inl m ↦ inr m | inr m ↦ inl m ]

    -- a prefix of a side is defined behind the word
    there : (x y p : Word) → EitherWay c.presentation.relations x y → IsPrefix p x → FactsFrom c G U (w ++ p) (w ++ p)
    there x y p e h = given (inl (refl, inr (inr (w, had, inr (x, (y, e), record { after = h.after; is = ap (λ z. w ++ z) h.is ∙ sym (append_assoc w p h.after) })))))

    whole : (x y : Word) → EitherWay c.presentation.relations x y → FactsFrom c G U (w ++ x) (w ++ x)
    whole x y e = there x y x e (record { after = []; is = sym (append-nil x) })

    empty : FactsFrom c G U w w
    empty = subst₂ (FactsFrom c G U) (append-nil w) (append-nil w) (there r s [] sides (record { after = r; is = refl }))

    last : (x y z : Word) (a : ℕ) → EitherWay c.presentation.relations x y → EitherWay c.presentation.relations y x → y ≡ z ++ a ∷ [] → FactsFrom c G U (w ++ x) (w ++ y)
    last x y z a one two e =
        subst (λ v. FactsFrom c G U (w ++ x) (w ++ v)) (sym e)
        (relation w w x z a empty had (subst (λ v. EitherWay c.presentation.relations x v) e one) (whole x y one) (there y x z two (record { after = a ∷ []; is = e })))

    go : (s ≡ []) ⊎ ((v : Word) × (a : ℕ) × (s ≡ v ++ a ∷ [])) → (r ≡ []) ⊎ ((v : Word) × (a : ℕ) × (r ≡ v ++ a ∷ [])) → FactsFrom c G U (w ++ r) (w ++ s)
    go (inr h) k = last r s h.0 h.1 sides back h.2
    go (inl e) (inr k) = symmetric (last s r k.0 k.1 back sides k.2)
    go (inl e) (inl d) = subst (λ v. FactsFrom c G U (w ++ r) (w ++ v)) (d ∙ sym e) (whole r s sides)

-- so the relations hold at each node with a mark
pub row_holds : (t : CosetTable) (made : ℕ) → IsTable t → HasLastRow t made → HoldWhereMarked t
row_holds t made is last n on r s sides =
    let u = is.live.reached n (is.marked last.failed n on) in
    let met = (last.marks u.0 n u.1).0 on in
    let w : Word = met.0 in
    let at : path t.graph 0 w ≡ Some n = met.2.2 ∙ sym met.2.1 ∙ u.1 in
    let same = (last.shows (w ++ r) (w ++ s)).1 (relation_fact t.congruence (Drawn t.congruence last.words) (last.word ∷ last.words) w r s met.1 sides) in
    (same.0, sym (path_append t.graph 0 n w r at) ∙ same.1, sym (path_append t.graph 0 n w s at) ∙ same.2)

-- the words that had their row are defined, before a lookahead after the last one and after it
pub stage_words : (c : Congruence) → {i : ℕ} {U : List Word} → HltStage c i U → (w : Word) → Contains U w → HltFacts c U w w
stage_words c start w m = absurd (none_contained w m)
stage_words c (row {U = U} {w = new} s l) w m = hlt_row_within c U new w w (elim (in_from_contains w (new ∷ U) m) [
  | inl e ↦ subst (λ x. FactsFrom c (Drawn c U) (new ∷ U) x x) (sym e) (hlt_row_grows c U new new new l.defined)
  | inr n ↦ hlt_row_grows c U new w w (stage_words c s w (contains_from_in w U n))
])

pub row_words : (c : Congruence) {i : ℕ} (U : List Word) (new : Word) → HltStage c i (new ∷ U) → (w : Word) → Contains (new ∷ U) w → FactsFrom c (Drawn c U) (new ∷ U) w w
row_words c U new (row s l) w m = elim (in_from_contains w (new ∷ U) m) [
  | inl e ↦ subst (λ x. FactsFrom c (Drawn c U) (new ∷ U) x x) (sym e) (hlt_row_grows c U new new new l.defined)
  | inr n ↦ hlt_row_grows c U new w w (stage_words c s w (contains_from_in w U n))
]

-- a word is met by the paths where it is by what they relate
pub met_same : (g : Graph) (V : Word → Word → Type 0) (U : List Word) (w : Word) → PathsRelate g V → IsMet (SameEnd g) U w ↔ IsMet V U w
met_same g V U w shows = (λ m. (m.0, m.1, (shows w m.0).0 m.2), λ m. (m.0, m.1, (shows w m.0).1 m.2))

-- the first word without a mark is the least unmet
pub first_unmet : (t : CosetTable) (made node : ℕ) → (ready : IsReady t made node) → IsLeastUnmet (HltFacts t.congruence ready.rows.words) ready.rows.words ready.first.word
first_unmet t made node ready = record {
  defined = (ready.rows.shows w w).0 (node, ready.first.leads, ready.first.leads);
  unmet = λ met. ready.first.unmarked ((ready.rows.marks w node ready.first.leads).1 ((same w).1 met));
  least = λ v defined less.
      let at = (ready.rows.shows v v).1 defined in
      (same v).0 ((ready.rows.marks v at.0 at.1).0 (ready.first.least v at.0 less at.1));
}
  where
    w : Word
    w = ready.first.word

    same : (v : Word) → IsMet (SameEnd t.graph) ready.rows.words v ↔ IsMet (HltFacts t.congruence ready.rows.words) ready.rows.words v
    same v = met_same t.graph (HltFacts t.congruence ready.rows.words) ready.rows.words v ready.rows.shows

-- the marks once the node has one
pub marked_node : (marked : List Bool) (node : ℕ) → node < length marked → IsOn (slice_set marked node true) node
marked_node marked node inside = get_or-set_same marked node true false inside

pub marked_other : (marked : List Bool) (node n : ℕ) → n ≢ node → IsOn (slice_set marked node true) n ↔ IsOn marked n
marked_other marked node n other = let e : get_or (slice_set marked node true) n false ≡ get_or marked n false = get_or-set_other marked node n true false other in (λ on. sym e ∙ on, λ on. e ∙ on)

-- where the next row is told, the strategy has not ended
pub ready_ends : (t : CosetTable) (made node : ℕ) → IsReady t made node → HltEnds t.congruence made → ⊥
ready_ends t made node ready =
    let least = first_unmet t made node ready in
    let c : Congruence = t.congruence in
    hlt_ends_next c made ready.rows.words ready.rows.earlier ready.rows.stage
    (hlt_not_ended c made ready.rows.words ready.first.word ready.rows.stage least.defined least.unmet
    (λ due all. ready.unended (due, λ w over. (ready.rows.shows w w).1 (all w over))))

ready_unended : (t : CosetTable) (made node : ℕ) → IsReady t made node → (i : ℕ) → i < suc made → HltEnds t.congruence i → ⊥
ready_unended t made node ready i less ends = ready_ends t made node ready (hlt_ends_more t.congruence i made (omega (arith, less)) ends)

-- a row: the table grows by what it defines, the node gets its mark, and all is drawn that follows there
module _ (old mid new : CosetTable) (made node : ℕ) (was : IsTable old) (is : IsTable mid) (g : IsGrown (IsInRow old.congruence) (AreSidesAny old.congruence.presentation.relations) old mid node) (ready : IsReady old made node)
    (closed : PathsRelate new.graph (ClosedAt old.congruence (SameEnd mid.graph) ready.first.word))
    (marks : KeepsMarks mid.graph (slice_set mid.marked node true) new.graph new.marked) where
  -- what is given is there
  there : (u v : Word) → RowGiven old.congruence ready.rows.words ready.first.word u v → SameEnd mid.graph u v
  there u v (inl f) = grown_same (IsInRow old.congruence) (AreSidesAny old.congruence.presentation.relations) old mid node g u v ((ready.rows.shows u v).1 f)
  there u v (inr d) = subst (λ x. SameEnd mid.graph u x) d.0 (elim d.1 [
    | inl e ↦ subst (λ x. SameEnd mid.graph x x) (sym e) (0, refl, refl)
    | inr (inl p) ↦ fact u (given (inl (refl, inr (inl p))))
    | inr (inr r) ↦ elim (in_from_contains r.0 (ready.first.word ∷ ready.rows.words) r.1) [
      | inl e ↦ g.there ready.first.word u ready.first.leads (subst (λ x. IsInRow old.congruence x u) e r.2)
      | inr n ↦ fact u (given (inl (refl, inr (inr (r.0, contains_from_in r.0 ready.rows.words n, r.2)))))
    ]
  ])
    where
      fact : (x : Word) → HltFacts old.congruence ready.rows.words x x → SameEnd mid.graph x x
      fact x f = grown_same (IsInRow old.congruence) (AreSidesAny old.congruence.presentation.relations) old mid node g x x ((ready.rows.shows x x).1 f)

  -- and nothing but facts
  within : IsWithin old.congruence ready.rows.words (ready.first.word ∷ ready.rows.words) mid.graph
  within =
      g.within ready.rows.words (ready.first.word ∷ ready.rows.words) ready.first.word ready.first.leads
      (λ v r. given (inl (refl, inr (inr (ready.first.word, (0, omega arith, refl), r)))))
      (λ u v d. subst₂ (FactsFrom old.congruence (Drawn old.congruence ready.rows.words) (ready.first.word ∷ ready.rows.words)) (sym d.3) (sym d.4) (relation_fact old.congruence (Drawn old.congruence ready.rows.words) (ready.first.word ∷ ready.rows.words) ready.first.word d.0 d.1 (0, omega arith, refl) d.2))
      (λ u v h. hlt_row_grows old.congruence ready.rows.words ready.first.word u v ((ready.rows.shows u v).0 h))

  row_shows : PathsRelate new.graph (FactsFrom old.congruence (Drawn old.congruence ready.rows.words) (ready.first.word ∷ ready.rows.words))
  row_shows u v =
      let same = hlt_row_between old.congruence ready.rows.words ready.first.word (SameEnd mid.graph) there within u v in
      (λ h. same.0 ((closed u v).0 h), λ f. (closed u v).1 (same.1 f))

  -- paths to one node stay so
  kept : (u v : Word) → SameEnd mid.graph u v → SameEnd new.graph u v
  kept u v h = (closed u v).1 (given h)

  inside : node < length mid.marked
  inside =
      let live = grown_live (IsInRow old.congruence) (AreSidesAny old.congruence.presentation.relations) old mid node node was is g (was.live.lives node (ready.first.word, ready.first.leads)) in
      let less : node < length mid.graph = on_inside mid.graph mid.live node is.live live in
      omega (arith, less, is.shape)

  -- a word that leads to a node with a mark is met
  met_from : (v : Word) (m : ℕ) → path mid.graph 0 v ≡ Some m → IsOn (slice_set mid.marked node true) m → IsMet (SameEnd new.graph) (ready.first.word ∷ ready.rows.words) v
  met_from v m hv on = elim (cases_eq m node) [
    | inl e ↦ (ready.first.word, (0, omega arith, refl), kept v ready.first.word (node, hv ∙ ap (λ z. Some z) e, g.paths 0 node ready.first.word ready.first.leads))
    | inr d ↦
        let before : IsOn old.marked m = (g.marks m).0 ((marked_other mid.marked node m d).0 on) in
        let r = was.live.reached m (was.marked ready.rows.failed m before) in
        let met = (ready.rows.marks r.0 m r.1).0 before in
        let one : SameEnd new.graph v r.0 = kept v r.0 (m, hv, g.paths 0 m r.0 r.1) in
        let two : SameEnd new.graph r.0 met.0 = kept r.0 met.0 (grown_same (IsInRow old.congruence) (AreSidesAny old.congruence.presentation.relations) old mid node g r.0 met.0 met.2) in
        (met.0, contains_from_in met.0 (ready.first.word ∷ ready.rows.words) (inr (in_from_contains met.0 ready.rows.words met.1)), same_end_trans new.graph v r.0 met.0 one two)
  ]

  row_met : (u : Word) (n : ℕ) → path new.graph 0 u ≡ Some n → IsOn new.marked n → IsMet (SameEnd new.graph) (ready.first.word ∷ ready.rows.words) u
  row_met u n hu on =
      let f = marks.from u n hu on in
      let met = met_from f.0 f.1 f.2 f.3 in
      (met.0, met.1, same_end_trans new.graph u f.0 met.0 (n, hu, f.4) met.2)

  row_marked : (u : Word) (n : ℕ) → path new.graph 0 u ≡ Some n → IsMet (SameEnd new.graph) (ready.first.word ∷ ready.rows.words) u → IsOn new.marked n
  row_marked u n hu met = elim (in_from_contains met.0 (ready.first.word ∷ ready.rows.words) met.1) [
    | inl e ↦
        marks.kept u ready.first.word n node (g.paths 0 node ready.first.word ready.first.leads) (marked_node mid.marked node inside)
        (subst (λ z. path new.graph 0 z ≡ Some n) e also) hu
    | inr i ↦
        let had : Contains ready.rows.words met.0 = contains_from_in met.0 ready.rows.words i in
        let at = (ready.rows.shows met.0 met.0).1 (stage_words old.congruence ready.rows.stage met.0 had) in
        let on : IsOn old.marked at.0 = (ready.rows.marks met.0 at.0 at.1).1 (met.0, had, at) in
        marks.kept u met.0 n at.0 (g.paths 0 at.0 met.0 at.1) (still at.0 on) also hu
  ]
    where
      -- where it is related to, a path leads to its node
      also : path new.graph 0 met.0 ≡ Some n
      also = let e : Some met.2.0 ≡ Some n = sym met.2.1 ∙ hu in met.2.2 ∙ e

      still : (m : ℕ) → IsOn old.marked m → IsOn (slice_set mid.marked node true) m
      still m on = elim (cases_eq m node) [
        | inl e ↦ subst (λ z. IsOn (slice_set mid.marked node true) z) (sym e) (marked_node mid.marked node inside)
        | inr d ↦ (marked_other mid.marked node m d).1 ((g.marks m).1 on)
      ]

  pub row_made : new.congruence ≡ old.congruence → new.failed ≡ false → HasLastRow new (suc made)
  row_made e failed = record {
    word = ready.first.word;
    words = ready.rows.words;
    stage = subst (λ (c : Congruence). HltStage c (suc made) (ready.first.word ∷ ready.rows.words)) (sym e) (row ready.rows.stage (first_unmet old made node ready));
    earlier = subst (λ (c : Congruence). (i : ℕ) → i < suc made → HltEnds c i → ⊥) (sym e) (ready_unended old made node ready);
    shows = subst (λ (c : Congruence). PathsRelate new.graph (FactsFrom c (Drawn c ready.rows.words) (ready.first.word ∷ ready.rows.words))) (sym e) row_shows;
    marks = λ u n hu. (row_met u n hu, row_marked u n hu);
    failed = failed;
  }

-- where closing found memory
pub row_closed : {X Y : Type 0} (r : Result X Y) (old mid marked new : CosetTable) (node : ℕ) → IsTable old → IsTable mid → IsGrown (IsInRow old.congruence) (AreSidesAny old.congruence.presentation.relations) old mid node
    → marked ≡ record mid { marked = slice_set mid.marked node true } → new.congruence ≡ marked.congruence
    → OnOk r ((w : Word) → path marked.graph 0 w ≡ Some node → PathsRelate new.graph (ClosedAt marked.congruence (SameEnd marked.graph) w))
    → OnOk r (KeepsMarks marked.graph marked.marked new.graph new.marked) → OnOk r (new.failed ≡ false)
    → OnOk r ((made : ℕ) → IsReady old made node → HasLastRow new (suc made))
row_closed (Ok v) old mid marked new node was is g e now closed marks failed = λ made ready.
    let shows : PathsRelate new.graph (ClosedAt mid.congruence (SameEnd mid.graph) ready.first.word) =
    subst (λ (t : CosetTable). (w : Word) → path t.graph 0 w ≡ Some node → PathsRelate new.graph (ClosedAt t.congruence (SameEnd t.graph) w)) e closed
    ready.first.word (g.paths 0 node ready.first.word ready.first.leads) in
    row_made old mid new made node was is g ready
    (subst (λ (c : Congruence). PathsRelate new.graph (ClosedAt c (SameEnd mid.graph) ready.first.word)) g.congruence shows)
    (subst (λ (t : CosetTable). KeepsMarks t.graph t.marked new.graph new.marked) e marks)
    (now ∙ ap (λ (t : CosetTable). t.congruence) e ∙ g.congruence) failed
row_closed (Err f) old mid marked new node was is g e now closed marks failed = tt
