use Rattle.std.proofs.Common.{◌≡◌, ◌<◌, ◌+◌, ℕ, List, [], ◌∷◌, ◌++◌, length, reverse, get_or, sym, ◌∙◌, ap, subst, arith, Some, None}
use Rattle.std.proofs.lemmas.List.{get_or_read}
use Rattle.theory.specs.Word.{Word}
use Rattle.word_graph.specs.Steps.{words_of}
use Rattle.word_graph.specs.Levels.{IsLevelledBefore}
use Rattle.word_graph.proofs.WordLaws.{words_size}
use Rattle.word_graph.proofs.LevelSteps.{IsTurnedTo, place_there, place_inside, turned_more, turned_least}
use Rattle.word_graph.proofs.graphs.WordGraph.least_reversed.Goals as goal

pub unreachable-requires : goal.unreachable-requires
unreachable-requires c =
    let is : IsLevelledBefore c.letters-letters.result c.args.self.now c.in_ok-walk.walk.steps.items c.in_ok-walk.walk.places.items (length c.in_ok-walk.walk.steps.items) = c.in_ok-walk.ensures c.letters-letters.result c.letters-letters.ensures.graph in
    let inside : c.loop-node.node < length c.args.self.now = omega (arith, c.loop-node-test.true, c.nodes-node-end.ensures.nodes) in
    let at = place_there c.letters-letters.result c.args.self.now c.in_ok-walk.walk.steps.items c.in_ok-walk.walk.places.items is c.requires c.loop-node.node inside in
    let e : None ≡ Some at.0 = sym c.in_default.is ∙ c.place.ensures ∙ at.1 in
    let bad : ⊥ = cc in
    bad

pub index-requires : goal.index-requires
index-requires c =
    let is : IsLevelledBefore c.letters-letters.result c.args.self.now c.in_ok-walk.walk.steps.items c.in_ok-walk.walk.places.items (length c.in_ok-walk.walk.steps.items) = c.in_ok-walk.ensures c.letters-letters.result c.letters-letters.ensures.graph in
    let at = place_inside c.letters-letters.result c.args.self.now c.in_ok-walk.walk.steps.items c.in_ok-walk.walk.places.items is c.loop-node.node c.in-Some.place (sym c.in-Some.ensures) in
    let size : length c.in_ok-words.words.items ≡ length c.in_ok-walk.walk.steps.items = ap (λ (ws : List Word). length ws) c.in_ok-words.ensures ∙ words_size c.in_ok-walk.walk.steps.items in
    omega (arith, at, size)

pub loop-node-preserved : goal.loop-node-preserved
loop-node-preserved c =
    let is : IsLevelledBefore c.letters-letters.result c.args.self.now c.in_ok-walk.walk.steps.items c.in_ok-walk.walk.places.items (length c.in_ok-walk.walk.steps.items) = c.in_ok-walk.ensures c.letters-letters.result c.letters-letters.ensures.graph in
    let at = place_inside c.letters-letters.result c.args.self.now c.in_ok-walk.walk.steps.items c.in_ok-walk.walk.places.items is c.loop-node.node c.in-Some.place (sym c.in-Some.ensures) in
    let size : length c.in_ok-words.words.items ≡ length c.in_ok-walk.walk.steps.items = ap (λ (ws : List Word). length ws) c.in_ok-words.ensures ∙ words_size c.in_ok-walk.walk.steps.items in
    let inside : c.in-Some.place < length c.in_ok-words.words.items = omega (arith, at, size) in
    let read : c.index.result.now ≡ get_or (words_of c.in_ok-walk.walk.steps.items) c.in-Some.place [] =
    get_or_read _ _ _ inside c.index.ensures [] ∙ ap (λ (ws : List Word). get_or ws c.in-Some.place []) c.in_ok-words.ensures in
    let word : c.in_ok-word.word ≡ reverse (get_or (words_of c.in_ok-walk.walk.steps.items) c.in-Some.place []) = c.in_ok-word.ensures ∙ ap (λ (u : Word). reverse u) read in
    subst (λ (list : List Word). IsTurnedTo c.in_ok-walk.walk.places.items (words_of c.in_ok-walk.walk.steps.items) list (c.loop-node.node + 1))
    (ap (λ (u : Word). c.loop-node.least.items ++ u ∷ []) (sym word) ∙ sym c.in_ok-push.ensures.items)
    (turned_more c.in_ok-walk.walk.places.items (words_of c.in_ok-walk.walk.steps.items) c.loop-node.least.items c.loop-node.node c.in-Some.place (sym c.in-Some.ensures) c.loop-node.invariant)

pub returns : goal.returns
returns c =
    let end : c.loop-node.node ≡ length c.args.self.now = omega arith in
    turned_least c.args.self.now c.in_ok-walk.walk.steps.items c.in_ok-walk.walk.places.items c.loop-node.least.items c.requires c.in_ok-walk.ensures
    (subst (λ (n : ℕ). IsTurnedTo c.in_ok-walk.walk.places.items (words_of c.in_ok-walk.walk.steps.items) c.loop-node.least.items n) end c.loop-node.invariant)
