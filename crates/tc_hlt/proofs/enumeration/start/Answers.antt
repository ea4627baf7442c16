use Rattle.std.proofs.Common.{◌≡◌, ◌<◌, List, length, get_or, sym, ◌∙◌, ap, subst, arith}
use Rattle.theory.specs.Word.{Word}
use Rattle.theory.specs.Congruence.{Congruence}
use Rattle.theory.specs.Hlt.{IsSide}
use Rattle.tc_hlt.proofs.GrowLaws.{sides_of, sides_over}
use Rattle.tc_hlt.proofs.StartLaws.{started_none, started_more, started_all}
use Rattle.tc_hlt.proofs.enumeration.start.Goals as goal

pub loop-i-init : goal.loop-i-init
loop-i-init c = started_none c.args.table.now c.args.congruence.now.congruence c.requires.table (sym c.requires.congruence) c.requires.fresh

pub trace-requires-clause-over : goal.trace-requires-clause-over
trace-requires-clause-over c =
    let less : c.loop-i.i < length c.pairs-pairs.result.now = omega arith in
    let side = (sides_of c.pairs-pairs.result.now c.loop-i.i c.pair-pair.result.now less c.pair-pair.ensures).0 in
    let pairs : c.pairs-pairs.result.now ≡ c.loop-i.table.congruence.pairs = c.pairs-pairs.ensures ∙ ap (λ (k : Congruence). k.pairs) (sym c.loop-i.invariant.congruence) in
    let k : Congruence = c.loop-i.table.congruence in
    sides_over k.presentation.is_monoid k.presentation.letters k.pairs c.loop-i.invariant.table.congruence.pairs c.pair-pair.result.now.0
    (subst (λ (ps : List (Word × Word)). IsSide ps c.pair-pair.result.now.0) pairs side)

pub trace-requires-in-loop-i-clause-over : goal.trace-requires-in-loop-i-clause-over
trace-requires-in-loop-i-clause-over c =
    let less : c.loop-i.i < length c.pairs-pairs.result.now = omega arith in
    let side = (sides_of c.pairs-pairs.result.now c.loop-i.i c.pair-pair.result.now less c.pair-pair.ensures).1 in
    let same : c.trace.new.table.congruence ≡ c.args.congruence.now.congruence = c.trace.ensures.congruence ∙ c.loop-i.invariant.congruence in
    let pairs : c.pairs-pairs.result.now ≡ c.trace.new.table.congruence.pairs = c.pairs-pairs.ensures ∙ ap (λ (k : Congruence). k.pairs) (sym same) in
    let k : Congruence = c.trace.new.table.congruence in
    sides_over k.presentation.is_monoid k.presentation.letters k.pairs c.trace.ensures.table.congruence.pairs c.pair-pair.result.now.1
    (subst (λ (ps : List (Word × Word)). IsSide ps c.pair-pair.result.now.1) pairs side)

pub loop-i-preserved : goal.loop-i-preserved
loop-i-preserved c =
    let pairs : c.pairs-pairs.result.now ≡ c.args.congruence.now.congruence.pairs = c.pairs-pairs.ensures in
    let less : c.loop-i.i < length c.args.congruence.now.congruence.pairs = omega (arith, ap length pairs) in
    let at : c.pair-pair.result.now ≡ get_or c.args.congruence.now.congruence.pairs c.loop-i.i c.pair-pair.result.now =
    c.pair-pair.ensures ∙ ap (λ (ps : List (Word × Word)). get_or ps c.loop-i.i c.pair-pair.result.now) pairs in
    started_more c.loop-i.table c.trace.new.table c.trace-in-loop-i.new.table c.identify.new.self c.args.congruence.now.congruence c.loop-i.i c.in_ok-first.first c.in_ok-second.second c.pair-pair.result.now less at
    c.loop-i.invariant c.trace.ensures.table c.in_ok-first.ensures.grown c.in_ok-first.ensures.end
    c.trace-in-loop-i.ensures.table c.in_ok-second.ensures.grown c.in_ok-second.ensures.end
    c.identify.ensures.table c.identify.ensures.congruence c.in_ok-identify.ensures.ok c.in_ok-identify.ensures.relates c.in_ok-identify.ensures.marks

pub returns-clause-ready : goal.returns-clause-ready
returns-clause-ready c =
    let end : c.loop-i.i ≡ length c.args.congruence.now.congruence.pairs = omega (arith, ap length c.pairs-pairs.ensures) in
    started_all c.loop-i.table c.args.congruence.now.congruence c.loop-i.i end c.loop-i.invariant
