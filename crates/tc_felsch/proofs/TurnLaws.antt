-- What a turn leaves.
use Rattle.std.proofs.Common.{◌≡◌, ◌≢◌, ℕ, suc, ◌+◌, ◌<◌, ◌≤◌, [], ◌∷◌, ◌++◌, refl, sym, ◌∙◌, ap, arith, inl, inr, Option, Some, None, length, subst, replicate, Bool, true, false, cond}
use Rattle.std.specs.Option.{is_some, IsSome, MatchOption}
use Rattle.std.proofs.lemmas.Bool.{cases_Bool}
use Rattle.race.specs.declared.engines.Progress.{Progress}
use Rattle.race.specs.declared.engines.Progress.TheVariants.{More, NoMemory}
use Rattle.theory.specs.Congruence.{Congruence}
use Rattle.theory.specs.Facts.{AllDefined, ClosedAll}
use Rattle.theory.specs.Graph.{Graph, target, path, SameEnd, PathsRelate}
use Rattle.theory.specs.Felsch.{FelschFacts, FelschStage, FelschEnds, start, define}
use Rattle.theory.proofs.Words.{over_right}
use Rattle.theory.proofs.FelschLaws.{felsch_stage_past}
use Rattle.theory.proofs.GraphLaws.{path_append, path_letter, least_undefined_same}
use Rattle.word_graph.specs.Edges.{with_edge, with_node}
use Rattle.word_graph.specs.Walk.{IsFirstMissing}
use Rattle.coincidence.specs.Table.{CosetTable, IsTable, IsDefined}
use Rattle.coincidence.proofs.TableLaws.{on_inside}
use Rattle.coset_enumeration.specs.Enumeration.{IsFresh, IsTold, answer_of, run_of}
use Rattle.coset_enumeration.proofs.TurnLaws.{told_done, told_more}
use Rattle.tc_felsch.specs.Stage.{IsAtStage, IsDue, Stands, IsRun}
use Rattle.tc_felsch.proofs.StageLaws.{start_facts, next_facts}

-- the edge that is missing first has a letter of the alphabet, and is missing
pub missing_edge : (k : ℕ) (g : Graph) (node letter : ℕ) → IsFirstMissing k g node letter → (letter < k) × (target g node letter ≡ None)
missing_edge k g node letter is = ((over_right k is.word (letter ∷ []) is.least.over).0, go (target g node letter) refl)
  where
    go : (t : Option ℕ) → target g node letter ≡ t → target g node letter ≡ None
    go None e = e
    go (Some m) e =
        let there : path g 0 (is.word ++ letter ∷ []) ≡ Some m = path_append g 0 node is.word (letter ∷ []) is.leads ∙ path_letter g node letter ∙ e in
        absurd (is.least.undefined (m, there, there))

-- the first stage
pub first_stage : (c : Congruence) (g : Graph) → PathsRelate g (ClosedAll c (SameEnd (replicate c.presentation.letters None ∷ []))) → IsAtStage c 0 g
first_stage c g shows = record { words = []; stage = start; shows = start_facts c c.presentation.letters g shows }

-- the next stage
pub next_stage : (old mid : CosetTable) (node letter made i : ℕ) (g : Graph) → IsTable old
    → IsFirstMissing old.congruence.presentation.letters old.graph node letter → IsDefined old mid node letter made
    → PathsRelate g (ClosedAll old.congruence (SameEnd mid.graph)) → IsAtStage old.congruence i old.graph → IsAtStage old.congruence (suc i) g
next_stage old mid node letter made i g is first made_is shows at =
    record {
      words = (first.word ++ letter ∷ []) ∷ at.words;
      stage = define at.stage (least_undefined_same k old.graph (FelschFacts old.congruence at.words) at.shows (first.word ++ letter ∷ []) first.least);
      shows = next_facts old.congruence k old.graph node letter is.graph inside edge.0 edge.1 at.words first.word (first.word ++ letter ∷ []) g refl first.leads at.shows shows';
    }
  where
    k : ℕ
    k = old.congruence.presentation.letters

    edge : (letter < k) × (target old.graph node letter ≡ None)
    edge = missing_edge old.congruence.presentation.letters old.graph node letter first

    inside : node < length old.graph
    inside = on_inside old.graph old.live node is.live (is.live.lives node (first.word, first.leads))

    graph : mid.graph ≡ with_edge (with_node old.congruence.presentation.letters old.graph) node letter (length old.graph)
    graph = made_is.graph ∙ ap (λ z. with_edge (with_node old.congruence.presentation.letters old.graph) node letter z) made_is.fresh

    shows' : PathsRelate g (ClosedAll old.congruence (SameEnd (with_edge (with_node old.congruence.presentation.letters old.graph) node letter (length old.graph))))
    shows' = subst (λ (h : Graph). PathsRelate g (ClosedAll old.congruence (SameEnd h))) graph shows

-- where all words have a path the strategy has ended
pub ends_at : (c : Congruence) (budget made : ℕ) (g : Graph) → IsAtStage c made g → made ≤ budget → AllDefined c.presentation.letters (SameEnd g)
    → FelschEnds c budget
ends_at c budget made g at within all =
    record { count = made; within = within; words = at.words; stage = at.stage; all = λ w over. (at.shows w w).0 (all w over) }

-- where a word has none and the budget is used up, the strategy does not end
pub fails_at : (c : Congruence) (budget made node letter : ℕ) (g : Graph) → IsAtStage c made g → made ≡ budget
    → IsFirstMissing c.presentation.letters g node letter → FelschEnds c budget → ⊥
fails_at c budget made node letter g at e first ends =
    let next : FelschStage c (suc made) ((first.word ++ letter ∷ []) ∷ at.words) =
    define at.stage (least_undefined_same c.presentation.letters g (FelschFacts c at.words) at.shows (first.word ++ letter ∷ []) first.least) in
    felsch_stage_past c budget (subst (λ n. FelschStage c (suc n) ((first.word ++ letter ∷ []) ∷ at.words)) e next) ends

-- a graph with the same equal paths has a path for the same words
pub same_defined : (k : ℕ) (g h : Graph) → PathsRelate h (SameEnd g) → AllDefined k (SameEnd g) → AllDefined k (SameEnd h)
same_defined k g h same all w over = (same w w).1 (all w over)

-- a turn of an enumeration that goes on
module _ (old new : CosetTable) (budget made made' : ℕ) (begun : Bool) (next next' : Option (ℕ × ℕ)) (run : IsRun old next (run_of old budget made begun More))
    (start_is : next ≡ None → old.graph ≡ replicate old.congruence.presentation.letters None ∷ [] → IsAtStage new.congruence 0 new.graph)
    (stage_is : IsSome next → (i : ℕ) → IsAtStage old.congruence i old.graph → IsAtStage new.congruence (suc i) new.graph)
    (nodes : length new.graph ≡ length old.graph + cond (is_some next) 1 0)
    (table : IsTable new) (count : made' ≡ made + cond begun 1 0) where
  due : begun ≡ true → IsDue old budget made next
  due b = subst (λ z. Stands old budget made next z) b (run.told.due refl)

  fresh : begun ≡ false → IsFresh old × (made ≡ 0) × (next ≡ None)
  fresh b = subst (λ z. Stands old budget made next z) b (run.told.due refl)

  more_not_none : More ≢ NoMemory
  more_not_none e = let bad : ⊥ = cc in bad

  stage_after : IsAtStage new.congruence made' new.graph
  stage_after = elim (cases_Bool begun) [
    | inl b ↦
        let there : IsSome next = ap is_some (due b).is in
        let e : made' ≡ suc made = count ∙ ap (λ z. made + cond z 1 0) b ∙ omega arith in
        subst (λ n. IsAtStage new.congruence n new.graph) (sym e) (stage_is there made (run.told.stage more_not_none b))
    | inr b ↦
        let e : made' ≡ 0 = count ∙ ap (λ z. made + cond z 1 0) b ∙ omega (arith, (fresh b).1) in
        subst (λ n. IsAtStage new.congruence n new.graph) (sym e) (start_is (fresh b).2 (fresh b).0.graph)
  ]

  nodes_after : length new.graph ≤ suc made'
  nodes_after = elim (cases_Bool begun) [
    | inl b ↦
        let one : length new.graph ≡ length old.graph + 1 = nodes ∙ ap (λ z. length old.graph + cond (is_some z) 1 0) (due b).is in
        let e : made' ≡ made + 1 = count ∙ ap (λ z. made + cond z 1 0) b in
        omega (arith, one, e, run.nodes more_not_none)
    | inr b ↦
        let none : length new.graph ≡ length old.graph + 0 = nodes ∙ ap (λ z. length old.graph + cond (is_some z) 1 0) (fresh b).2 in
        let root : length old.graph ≡ 1 = ap (λ (g : Graph). length g) (fresh b).0.graph in
        omega (arith, none, root)
  ]

  within_after : made' ≤ budget
  within_after = elim (cases_Bool begun) [
    | inl b ↦ let e : made' ≡ made + 1 = count ∙ ap (λ z. made + cond z 1 0) b in omega (arith, e, (due b).within)
    | inr b ↦ let e : made' ≡ made + 0 = count ∙ ap (λ z. made + cond z 1 0) b in omega (arith, e, (fresh b).1)
  ]

  pub run_after : (said : Progress)
      → MatchOption next' (AllDefined new.congruence.presentation.letters (SameEnd new.graph)) (λ p. IsFirstMissing new.congruence.presentation.letters new.graph p.0 p.1)
      → said ≡ answer_of (is_some next') made' budget → IsRun new next' (run_of new budget made' true said)
  run_after said found e = record { table = table; nodes = λ n. nodes_after; told = told next' found e }
    where
      told : (next' : Option (ℕ × ℕ))
          → MatchOption next' (AllDefined new.congruence.presentation.letters (SameEnd new.graph)) (λ p. IsFirstMissing new.congruence.presentation.letters new.graph p.0 p.1)
          → said ≡ answer_of (is_some next') made' budget
          → IsTold (FelschEnds new.congruence budget) (AllDefined new.congruence.presentation.letters (SameEnd new.graph)) (IsAtStage new.congruence made' new.graph) (Stands new budget made' next' true) (run_of new budget made' true said)
      told None all e = told_done (run_of new budget made' true said) refl stage_after within_after e (ends_at new.congruence budget made' new.graph stage_after within_after all) all
      told (Some p) first e = told_more (run_of new budget made' true said) refl stage_after within_after e
          (λ less. record { within = less; node = p.0; letter = p.1; is = refl; first = first })
          (λ same. fails_at new.congruence budget made' p.0 p.1 new.graph stage_after same first)
