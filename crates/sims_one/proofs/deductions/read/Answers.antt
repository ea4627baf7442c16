use Rattle.std.proofs.Common.{◌≡◌, ◌∙◌, ℕ, Some, slice_get, ap, sym, subst, arith}
use Rattle.theory.specs.Word.{IsOver}
use Rattle.sims_one.proofs.LowIndexLaws.{relation_words}
use Rattle.sims_one.proofs.EdgeLaws.{relation_there, sides_meet, sides_meet_back, kept_ends, kept_last}
use Rattle.sims_one.proofs.PathLaws.{letter_over}
use Rattle.sims_one.proofs.deductions.read.Goals as goal

pub returns-then-right-len-clause-keeps : goal.returns-then-right-len-clause-keeps
returns-then-right-len-clause-keeps c =
    let p = c.args.presentation.now.presentation in
    let q = c.pair-pair.result.now in
    let there = relation_there c.relations.result.now p.relations c.args.relation q c.relations.ensures.relations c.requires.relation c.pair-pair.ensures in
    kept_ends p c.letters-letters.result c.letters-letters.ensures.letters c.args.known.now c.args.node c.requires.node q.0 q.1 (sides_meet p c.args.node q.0 q.1 there)
    c.follow-left.result.length c.follow-left.result.node c.follow-right.result.length c.follow-right.result.node
    c.follow-left.ensures.path c.follow-right.ensures.path (omega (arith, c.if-left-len.true, c.len.ensures)) (omega (arith, c.if-right-len.true, c.len-then-left-len.ensures))

pub new-requires-clause-letter : goal.new-requires-clause-letter
new-requires-clause-letter c =
    let p = c.args.presentation.now.presentation in
    let q = c.pair-pair.result.now in
    let there = relation_there c.relations.result.now p.relations c.args.relation q c.relations.ensures.relations c.requires.relation c.pair-pair.ensures in
    let over = relation_words p c.relations.ensures.presented.elements q.0 q.1 there in
    let small = letter_over p.letters q.1 c.follow-right.result.length c.letter.result over.1 c.letter.ensures in
    omega (arith, small, c.number-letter.ensures, c.letters-letters.ensures.letters)

pub returns-then-right-len-2-clause-keeps : goal.returns-then-right-len-2-clause-keeps
returns-then-right-len-2-clause-keeps c =
    let p = c.args.presentation.now.presentation in
    let q = c.pair-pair.result.now in
    let there = relation_there c.relations.result.now p.relations c.args.relation q c.relations.ensures.relations c.requires.relation c.pair-pair.ensures in
    let over = relation_words p c.relations.ensures.presented.elements q.0 q.1 there in
    let letter : slice_get q.1 c.follow-right.result.length ≡ Some c.number-letter.result = c.letter.ensures ∙ ap (λ (z : ℕ). Some z) (sym c.number-letter.ensures) in
    kept_last p c.letters-letters.result c.letters-letters.ensures.letters c.args.known.now c.args.node c.requires.node q.0 q.1 (sides_meet p c.args.node q.0 q.1 there)
    c.learn.new.self c.follow-left.result.length c.follow-left.result.node c.follow-right.result.length c.follow-right.result.node c.number-letter.result c.new.result
    (subst (λ z. IsOver z q.1) (sym c.letters-letters.ensures.letters) over.1) c.follow-left.ensures.path c.follow-right.ensures.path
    (omega (arith, c.if-left-len-2.true, c.len-2.ensures)) (omega (arith, c.if-right-len-2.true, c.len-then-left-len-2.ensures))
    letter c.new.ensures.place (c.follow-right.ensures.stopped c.number-letter.result letter)
    c.in_ok-learn.ensures.nodes c.in_ok-learn.ensures.targets c.in_ok-learn.ensures.trail

pub new-requires-then-left-len-3-clause-letter : goal.new-requires-then-left-len-3-clause-letter
new-requires-then-left-len-3-clause-letter c =
    let p = c.args.presentation.now.presentation in
    let q = c.pair-pair.result.now in
    let there = relation_there c.relations.result.now p.relations c.args.relation q c.relations.ensures.relations c.requires.relation c.pair-pair.ensures in
    let over = relation_words p c.relations.ensures.presented.elements q.0 q.1 there in
    let small = letter_over p.letters q.0 c.follow-left.result.length c.letter-then-left-len-3.result over.0 c.letter-then-left-len-3.ensures in
    omega (arith, small, c.number-letter-then-left-len-3.ensures, c.letters-letters.ensures.letters)

pub returns-then-left-len-3-clause-keeps : goal.returns-then-left-len-3-clause-keeps
returns-then-left-len-3-clause-keeps c =
    let p = c.args.presentation.now.presentation in
    let q = c.pair-pair.result.now in
    let there = relation_there c.relations.result.now p.relations c.args.relation q c.relations.ensures.relations c.requires.relation c.pair-pair.ensures in
    let over = relation_words p c.relations.ensures.presented.elements q.0 q.1 there in
    let letter : slice_get q.0 c.follow-left.result.length ≡ Some c.number-letter-then-left-len-3.result =
    c.letter-then-left-len-3.ensures ∙ ap (λ (z : ℕ). Some z) (sym c.number-letter-then-left-len-3.ensures) in
    kept_last p c.letters-letters.result c.letters-letters.ensures.letters c.args.known.now c.args.node c.requires.node q.1 q.0 (sides_meet_back p c.args.node q.0 q.1 there)
    c.learn-then-left-len-3.new.self c.follow-right.result.length c.follow-right.result.node c.follow-left.result.length c.follow-left.result.node c.number-letter-then-left-len-3.result c.new-then-left-len-3.result
    (subst (λ z. IsOver z q.0) (sym c.letters-letters.ensures.letters) over.0) c.follow-right.ensures.path c.follow-left.ensures.path
    (omega (arith, c.if-right-len-3.true, c.len-3.ensures)) (omega (arith, c.if-left-len-3.true, c.len-then-right-len-3.ensures))
    letter c.new-then-left-len-3.ensures.place (c.follow-left.ensures.stopped c.number-letter-then-left-len-3.result letter)
    c.in_ok-learn-2.ensures.nodes c.in_ok-learn-2.ensures.targets c.in_ok-learn-2.ensures.trail
