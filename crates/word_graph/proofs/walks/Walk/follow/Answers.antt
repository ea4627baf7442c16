use Rattle.std.proofs.Common.{◌≡◌, ◌<◌, Some, None, length, sym, ◌∙◌, ap, subst₂, arith, List, ℕ, ◌+◌, get_or, set, Option, true, false, ◌++◌, ◌∷◌, []}
use Rattle.std.specs.Option.{is_some}
use Rattle.std.proofs.lemmas.List.{get_or_read}
use Rattle.theory.specs.Graph.{Graph, target, IsGraph}
use Rattle.word_graph.specs.Steps.{step_at, IsWalkedTo}
use Rattle.word_graph.specs.Levels.{frontier_at, IsLevelledTo}
use Rattle.word_graph.specs.declared.walks.Step.{Step}
use Rattle.word_graph.proofs.StepLaws.{walked_known, walked_found}
use Rattle.word_graph.proofs.LevelSteps.{levelled_known, levelled_found}
use Rattle.word_graph.proofs.walks.Walk.follow.Goals as goal

-- where the edge leads, and whether the node there has a place, by what the code reads
read : (k : ℕ) (g : Graph) (steps : List Step) (places : List (Option ℕ)) (place letter next : ℕ) (s : Step) (o : Option ℕ) → IsGraph k g → place < length steps
    → length places ≡ length g → s ≡ get_or steps place s → Some next ≡ target g s.node letter → (next < length places → o ≡ get_or places next o)
    → (target g (step_at steps place).node letter ≡ Some next) × (is_some (get_or places next None) ≡ is_some o)
read k g steps places place letter next s o graph inside size at leads known =
    let here = ap (λ (s : Step). target g s.node letter) (sym (get_or_read steps place s inside at (record { node = 0; parent = 0; letter = 0 }))) ∙ sym leads in
    let there : next < length places = omega (arith, graph.nodes _ _ _ here, size) in
    (here, ap is_some (sym (get_or_read places next o there (known there) None)))

known : (c : goal.Then-is_some) (k : ℕ) → IsGraph k c.args.graph.now
    → (target c.args.graph.now (step_at c.args.self.now.steps.items c.args.place).node c.args.letter ≡ Some c.in-Some.next) × (is_some (get_or c.args.self.now.places.items c.in-Some.next None) ≡ true)
known c k graph =
    let r = read k c.args.graph.now c.args.self.now.steps.items c.args.self.now.places.items c.args.place c.args.letter c.in-Some.next c.index.result.now c.index-2.result.now graph c.requires.place c.requires.places c.index.ensures c.in-Some.ensures (λ h. c.index-2.ensures) in
    (r.0, r.1 ∙ sym c.is_some.ensures ∙ c.if-is_some.true)

fresh : (c : goal.After-self-1) (k : ℕ) → IsGraph k c.args.graph.now
    → (target c.args.graph.now (step_at c.args.self.now.steps.items c.args.place).node c.args.letter ≡ Some c.in-Some.next) × (is_some (get_or c.args.self.now.places.items c.in-Some.next None) ≡ false)
fresh c k graph =
    let r = read k c.args.graph.now c.args.self.now.steps.items c.args.self.now.places.items c.args.place c.args.letter c.in-Some.next c.index.result.now c.index-2.result.now graph c.requires.place c.requires.places c.index.ensures c.in-Some.ensures (λ h. c.index-2.ensures) in
    (r.0, r.1 ∙ sym c.is_some.ensures ∙ c.if-is_some.false)

-- what holds with one step more holds of what is kept
kept : (c : goal.After-self-1) (P : List Step → List (Option ℕ) → Type 0)
    → P (c.args.self.now.steps.items ++ record { node = c.in-Some.next; parent = c.args.place; letter = c.args.letter } ∷ []) (set c.args.self.now.places.items c.in-Some.next (Some (length c.args.self.now.steps.items)))
    → P c.push.new.self.items (set c.args.self.now.places.items c.in-Some.next (Some c.len-found.result))
kept c P =
    let count : c.len-found.result ≡ length c.args.self.now.steps.items = omega arith in
    subst₂ (λ (xs : List Step) (n : ℕ). P xs (set c.args.self.now.places.items c.in-Some.next (Some n))) (sym c.in_ok-push.ensures.items) (sym count)

pub returns-then-is_some-clause-walk : goal.returns-then-is_some-clause-walk
returns-then-is_some-clause-walk c = λ k graph less is.
    let r = known c k graph in
    walked_known k c.args.graph.now c.args.self.now.steps.items c.args.self.now.places.items c.args.place c.args.letter c.in-Some.next graph c.requires.place r.0 r.1 is

pub returns-clause-walk : goal.returns-clause-walk
returns-clause-walk c = λ k graph less is.
    let r = fresh c k graph in
    kept c (λ xs ps. IsWalkedTo k c.args.graph.now xs ps c.args.place (c.args.letter + 1))
    (walked_found k c.args.graph.now c.args.self.now.steps.items c.args.self.now.places.items c.args.place c.args.letter c.in-Some.next graph c.requires.place less r.0 r.1 is)

pub returns-then-is_some-clause-levels : goal.returns-then-is_some-clause-levels
returns-then-is_some-clause-levels c = λ k from to graph less begun within is.
    let r = known c k graph in
    levelled_known k c.args.graph.now c.args.self.now.steps.items c.args.self.now.places.items (frontier_at from to c.args.letter c.args.place) begun within c.in-Some.next r.0 r.1 is

pub returns-clause-levels : goal.returns-clause-levels
returns-clause-levels c = λ k from to graph less begun within is.
    let r = fresh c k graph in
    kept c (λ xs ps. IsLevelledTo k c.args.graph.now xs ps (frontier_at from to c.args.letter (c.args.place + 1)))
    (levelled_found k c.args.graph.now c.args.self.now.steps.items c.args.self.now.places.items (frontier_at from to c.args.letter c.args.place) begun within c.in-Some.next graph less r.0 r.1 is)
