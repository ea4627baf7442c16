-- A lookahead leads from the facts of a row to those of its stage.
use Rattle.std.proofs.Common.{◌≡◌, ℕ, ◌<◌, IsTrue, ◌∷◌, sym, ◌∙◌, subst, Some, false, Result, Ok, Err}
use Rattle.std.specs.Result.{OnOk}
use Rattle.theory.specs.Word.{Word}
use Rattle.theory.specs.Congruence.{Congruence}
use Rattle.theory.specs.Graph.{path, SameEnd, PathsRelate}
use Rattle.theory.specs.Facts.{ClosedAll}
use Rattle.theory.proofs.PartLaws.{given}
use Rattle.theory.specs.Hlt.{HltFacts, HltStage, HltEnds, has_lookahead, IsMet}
use Rattle.theory.proofs.GraphLaws.{same_end_trans}
use Rattle.theory.proofs.HltLaws.{hlt_plain, hlt_stage_length}
use Rattle.theory.proofs.TableSteps.{hlt_lookahead_between}
use Rattle.coincidence.specs.Live.{IsOn}
use Rattle.coincidence.specs.Marks.{KeepsMarks}
use Rattle.coincidence.specs.Table.{CosetTable}
use Rattle.tc_hlt.specs.Stage.{HasRows, HasLastRow}
use Rattle.tc_hlt.proofs.RowLaws.{row_words}

-- after another row nothing more is drawn
pub row_stays : (t : CosetTable) (made : ℕ) → (IsTrue (has_lookahead made) → ⊥) → HasLastRow t made → HasRows t made
row_stays t made none row = record {
  words = row.word ∷ row.words;
  stage = row.stage;
  earlier = row.earlier;
  shows = λ u v.
      let same = hlt_plain t.congruence row.words row.word (λ due. none (subst (λ n. IsTrue (has_lookahead n)) (hlt_stage_length t.congruence row.stage) due)) u v in
      (λ h. same.0 ((row.shows u v).0 h), λ f. (row.shows u v).1 (same.1 f));
  marks = row.marks;
  failed = row.failed;
}

-- all is drawn at all words
module _ (old new : CosetTable) (made : ℕ) (row : HasLastRow old made)
    (closed : PathsRelate new.graph (ClosedAll old.congruence (SameEnd old.graph)))
    (marks : KeepsMarks old.graph old.marked new.graph new.marked) where
  kept : (u v : Word) → SameEnd old.graph u v → SameEnd new.graph u v
  kept u v h = (closed u v).1 (given h)

  look_met : (u : Word) (n : ℕ) → path new.graph 0 u ≡ Some n → IsOn new.marked n → IsMet (SameEnd new.graph) (row.word ∷ row.words) u
  look_met u n hu on =
      let f = marks.from u n hu on in
      let met = (row.marks f.0 f.1 f.2).0 f.3 in
      (met.0, met.1, same_end_trans new.graph u f.0 met.0 (n, hu, f.4) (kept f.0 met.0 met.2))

  look_marked : (u : Word) (n : ℕ) → path new.graph 0 u ≡ Some n → IsMet (SameEnd new.graph) (row.word ∷ row.words) u → IsOn new.marked n
  look_marked u n hu met =
      let at = (row.shows met.0 met.0).1 (row_words old.congruence row.words row.word row.stage met.0 met.1) in
      let on : IsOn old.marked at.0 = (row.marks met.0 at.0 at.1).1 (met.0, met.1, at) in
      marks.kept u met.0 n at.0 at.1 on (let e : Some met.2.0 ≡ Some n = sym met.2.1 ∙ hu in met.2.2 ∙ e) hu

  pub looked : IsTrue (has_lookahead made) → new.congruence ≡ old.congruence → new.failed ≡ false → HasRows new made
  looked due e failed = record {
    words = row.word ∷ row.words;
    stage = subst (λ (c : Congruence). HltStage c made (row.word ∷ row.words)) (sym e) row.stage;
    earlier = subst (λ (c : Congruence). (i : ℕ) → i < made → HltEnds c i → ⊥) (sym e) row.earlier;
    shows = subst (λ (c : Congruence). PathsRelate new.graph (HltFacts c (row.word ∷ row.words))) (sym e) shows;
    marks = λ u n hu. (look_met u n hu, look_marked u n hu);
    failed = failed;
  }
    where
      shows : PathsRelate new.graph (HltFacts old.congruence (row.word ∷ row.words))
      shows u v =
          let now = subst (λ n. IsTrue (has_lookahead n)) (sym (hlt_stage_length old.congruence row.stage)) due in
          let same = hlt_lookahead_between old.congruence row.words row.word (SameEnd old.graph) now row.shows u v in
          (λ h. same.0 ((closed u v).0 h), λ f. (closed u v).1 (same.1 f))

-- where closing found memory
pub look_closed : {X Y : Type 0} (r : Result X Y) (old new : CosetTable) (made : ℕ) → IsTrue (has_lookahead made) → new.congruence ≡ old.congruence
    → OnOk r (PathsRelate new.graph (ClosedAll old.congruence (SameEnd old.graph)))
    → OnOk r (KeepsMarks old.graph old.marked new.graph new.marked) → OnOk r (new.failed ≡ false)
    → HasLastRow old made → OnOk r (HasRows new made)
look_closed (Ok v) old new made due e closed marks failed row = looked old new made row closed marks due e failed
look_closed (Err f) old new made due e closed marks failed row = tt
