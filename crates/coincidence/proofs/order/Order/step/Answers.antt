use Rattle.std.proofs.Common.{◌≡◌, ◌<◌, ◌≤◌, ℕ, List, Bool, None, Some, arith, sym, ap, ◌∙◌, subst, subst₂, length}
use Rattle.std.proofs.lemmas.List.{get_or_read}
use Rattle.theory.specs.Graph.{Graph, target}
use Rattle.word_graph.specs.Walk.{IsFirstMissing}
use Rattle.coincidence.specs.Kept.{IsKept, LeadsToPlaced, listing_of, step_at}
use Rattle.coincidence.specs.declared.order.Step.{Step}
use Rattle.coincidence.specs.declared.order.Order.{Order}
use Rattle.coincidence.proofs.KeptLaws.{kept_missing, kept_on, kept_row, kept_step}
use Rattle.coincidence.proofs.order.Order.step.Goals as goal

-- the order behind the edges that are passed
passed : (k : ℕ) (g : Graph) (marked : List Bool) (o : Order) (s : Step) (letter : ℕ) → s ≡ step_at o.steps.items o.row → o.row < length o.steps.items → o.letter ≤ letter → letter ≤ k
    → ((a : ℕ) → o.letter ≤ a → a < letter → LeadsToPlaced g o s.node a) → IsKept k g marked o → IsKept k g marked (record o { letter = letter })
passed k g marked o s letter at less from within placed is =
    kept_on k g marked o letter less from within (λ a h h'. subst (λ (z : Step). LeadsToPlaced g o z.node a) at (placed a h h')) is

pub returns-in_default-clause-ahead : goal.returns-in_default-clause-ahead
returns-in_default-clause-ahead c =
    let now = c.args.self.now in
    let o : Order = record now { letter = c.next_unplaced-self.result } in
    let less : now.row < length now.steps.items = omega arith in
    let letter : c.new-letter.result ≡ c.next_unplaced-self.result = omega (arith, c.new-letter.ensures, c.requires.few) in
    let at : c.index.result.now ≡ step_at now.steps.items now.row = get_or_read _ _ _ less c.index.ensures (record { node = 0; parent = 0; letter = 0 }) in
    let none : target c.args.edges.now.graph (step_at now.steps.items now.row).node c.next_unplaced-self.result ≡ None =
    ap (λ (s : Step). target c.args.edges.now.graph s.node c.next_unplaced-self.result) (sym at) ∙ ap (target c.args.edges.now.graph c.index.result.now.node) (sym letter) ∙ sym c.target.ensures ∙ c.in_default.is in
    let is = passed c.args.letters c.args.edges.now.graph c.requires.kept.0 now c.index.result.now c.next_unplaced-self.result at less c.next_unplaced-self.ensures.from c.next_unplaced-self.ensures.within c.next_unplaced-self.ensures.placed c.requires.kept.1 in
    subst₂ (λ (s : Step) (a : ℕ). IsFirstMissing c.args.letters c.args.edges.now.graph s.node a) (sym at) (sym letter)
    (kept_missing c.args.letters c.args.edges.now.graph c.requires.kept.0 o is less (omega arith) none)

pub returns-in_default-clause-kept : goal.returns-in_default-clause-kept
returns-in_default-clause-kept c = λ marked is.
    let now = c.args.self.now in
    let less : now.row < length now.steps.items = omega arith in
    let at : c.index.result.now ≡ step_at now.steps.items now.row = get_or_read _ _ _ less c.index.ensures (record { node = 0; parent = 0; letter = 0 }) in
    passed c.args.letters c.args.edges.now.graph marked now c.index.result.now c.next_unplaced-self.result at less c.next_unplaced-self.ensures.from c.next_unplaced-self.ensures.within c.next_unplaced-self.ensures.placed is

pub returns-then-letters-self-clause-kept : goal.returns-then-letters-self-clause-kept
returns-then-letters-self-clause-kept c = λ marked is.
    let now = c.args.self.now in
    let less : now.row < length now.steps.items = omega arith in
    let at : c.index.result.now ≡ step_at now.steps.items now.row = get_or_read _ _ _ less c.index.ensures (record { node = 0; parent = 0; letter = 0 }) in
    let on = passed c.args.letters c.args.edges.now.graph marked now c.index.result.now c.next_unplaced-self.result at less c.next_unplaced-self.ensures.from c.next_unplaced-self.ensures.within c.next_unplaced-self.ensures.placed is in
    kept_row c.args.letters c.args.edges.now.graph marked (listing_of (record now { letter = c.next_unplaced-self.result })) on (omega arith) c.requires.graph

pub returns-clause-kept : goal.returns-clause-kept
returns-clause-kept c = λ marked is.
    let now = c.args.self.now in
    let o : Order = record now { letter = c.next_unplaced-self.result } in
    let less : now.row < length now.steps.items = omega arith in
    let letter : c.new-letter.result ≡ c.next_unplaced-self.result = omega (arith, c.new-letter.ensures, c.requires.few) in
    let at : c.index.result.now ≡ step_at now.steps.items now.row = get_or_read _ _ _ less c.index.ensures (record { node = 0; parent = 0; letter = 0 }) in
    let here : target c.args.edges.now.graph (step_at now.steps.items now.row).node c.next_unplaced-self.result ≡ Some c.in-Some.next =
    ap (λ (s : Step). target c.args.edges.now.graph s.node c.next_unplaced-self.result) (sym at) ∙ ap (target c.args.edges.now.graph c.index.result.now.node) (sym letter) ∙ sym c.in-Some.ensures in
    let on = passed c.args.letters c.args.edges.now.graph marked now c.index.result.now c.next_unplaced-self.result at less c.next_unplaced-self.ensures.from c.next_unplaced-self.ensures.within c.next_unplaced-self.ensures.placed is in
    kept_step c.args.letters c.args.edges.now.graph marked o c.found.new.self c.in-Some.next
    c.requires.graph less (omega arith) here c.in_ok-found.ensures.known c.in_ok-found.ensures.new c.in_ok-found.ensures.row c.in_ok-found.ensures.letter c.in_ok-found.ensures.done on
