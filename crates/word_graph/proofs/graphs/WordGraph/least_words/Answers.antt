use Rattle.std.proofs.Common.{◌≡◌, ◌<◌, ◌+◌, ℕ, List, [], length, get_or, sym, ◌∙◌, ap, subst, arith}
use Rattle.std.proofs.lemmas.List.{get_or_read}
use Rattle.theory.specs.Word.{Word}
use Rattle.word_graph.specs.Walk.{IsLeastWord}
use Rattle.word_graph.specs.Steps.{IsWalkedTo, words_of}
use Rattle.word_graph.proofs.StandardLaws.{path_in}
use Rattle.word_graph.proofs.WordLaws.{IsListTo, words_size, place_least, place_none, list_skip, list_push, list_end}
use Rattle.word_graph.proofs.graphs.WordGraph.least_words.Goals as goal
use Rattle.word_graph.proofs.graphs.WordGraph.least_words.Goals.{in-Some+in_ok-word+in_ok-push, in_default}

pub index-requires : goal.index-requires
index-requires c =
    let is : IsWalkedTo c.letters-letters.result c.args.self.now c.in_ok-walk.walk.steps.items c.in_ok-walk.walk.places.items (length c.in_ok-walk.walk.steps.items) 0 = c.in_ok-walk.ensures c.letters-letters.result c.letters-letters.ensures.graph in
    let at = place_least c.letters-letters.result c.args.self.now c.in_ok-walk.walk.steps.items c.in_ok-walk.walk.places.items is c.loop-node.node c.in-Some.place (sym c.in-Some.ensures) in
    let size : length c.in_ok-words.words.items ≡ length c.in_ok-walk.walk.steps.items = ap (λ (ws : List Word). length ws) c.in_ok-words.ensures ∙ words_size c.in_ok-walk.walk.steps.items in
    omega (arith, at.0, size)

pub loop-node-preserved : goal.loop-node-preserved
loop-node-preserved c =
    let is : IsWalkedTo c.letters-letters.result c.args.self.now c.in_ok-walk.walk.steps.items c.in_ok-walk.walk.places.items (length c.in_ok-walk.walk.steps.items) 0 = c.in_ok-walk.ensures c.letters-letters.result c.letters-letters.ensures.graph in
    elim c.match-place.branch [
      | in-Some+in_ok-word+in_ok-push w ↦
          let at = place_least c.letters-letters.result c.args.self.now c.in_ok-walk.walk.steps.items c.in_ok-walk.walk.places.items is c.loop-node.node w.in-Some.place (sym w.in-Some.ensures) in
          let size : length c.in_ok-words.words.items ≡ length c.in_ok-walk.walk.steps.items = ap (λ (ws : List Word). length ws) c.in_ok-words.ensures ∙ words_size c.in_ok-walk.walk.steps.items in
          let inside : w.in-Some.place < length c.in_ok-words.words.items = omega (arith, at.0, size) in
          let read : w.index.result.now ≡ get_or (words_of c.in_ok-walk.walk.steps.items) w.in-Some.place [] =
          get_or_read _ _ _ inside w.index.ensures [] ∙ ap (λ (ws : List Word). get_or ws w.in-Some.place []) c.in_ok-words.ensures in
          let word : w.in_ok-word.word ≡ get_or (words_of c.in_ok-walk.walk.steps.items) w.in-Some.place [] = w.in_ok-word.ensures ∙ read in
          let least : IsLeastWord c.args.self.now c.loop-node.node w.in_ok-word.word = subst (λ (u : Word). IsLeastWord c.args.self.now c.loop-node.node u) (sym word) at.1 in
          rw (w.least-is)
          (subst (λ (list : List (ℕ × Word)). IsListTo c.args.self.now list (c.loop-node.node + 1)) (sym w.in_ok-push.ensures.items)
          (list_push c.args.self.now c.loop-node.least.items c.loop-node.node w.in_ok-word.word least c.loop-node.invariant))
      | in_default w ↦
          rw (w.least-is)
          (list_skip c.args.self.now c.loop-node.least.items c.loop-node.node
          (place_none c.letters-letters.result c.args.self.now c.in_ok-walk.walk.steps.items c.in_ok-walk.walk.places.items is c.loop-node.node (sym c.place.ensures ∙ w.in_default.is))
          c.loop-node.invariant)
    ]

pub returns : goal.returns
returns c =
    let end : c.loop-node.node ≡ length c.args.self.now = omega arith in
    list_end c.args.self.now c.loop-node.least.items
    (subst (λ n. IsListTo c.args.self.now c.loop-node.least.items n) end c.loop-node.invariant)
    (λ n v e. path_in c.letters-letters.result c.args.self.now c.letters-letters.ensures.graph 0 n v c.letters-letters.ensures.graph.rooted e)
