use Rattle.std.proofs.Common.{ℕ, List, [], ◌∷◌, ◌++◌, map, false, ap, ◌∙◌, arith}
use Rattle.ports.proofs.WriteLemmas.{handed_on, no_bytes, same_bytes}
use Rattle.theory.specs.Word.{Word}
use Rattle.froidure_pin.proofs.OneShape.{get_any}
use Rattle.report_lines.specs.LineBytes.{bytes_of}
use Rattle.report_lines.specs.Lines.{rule_line, end_line}
use Rattle.report_lines.proofs.ListingLemmas.{more_lines, line_begun, lines_done, listing_begun, listing_ended}
use Rattle.report_lines.proofs.listings.write_rules.Goals as goal

pub loop-rule-init : goal.loop-rule-init
loop-rule-init g c = no_bytes g.O.Sink c.args.sink.now

pub loop-rule-preserved : goal.loop-rule-preserved
loop-rule-preserved g c =
    let f : Word × Word → List ℕ = rule_line c.args.alphabet.now in
    let rules : List (Word × Word) = c.deref-rule-items.result.now in
    let none : Word × Word = ([], []) in
    let rule = ap f (c.rule-item.is ∙ get_any rules c.loop-rule.rule-index c.rule-item.result none c.loop-rule-test.true) in
    more_lines f rules g.O.Sink c.loop-rule.rule-index _ c.loop-rule.sink c.loop-rule.invariant none _ c.loop-rule-test.true
    (same_bytes g.O.Sink _ _ _ _ _ rule c.in_ok-write_rule.ensures)

pub returns-in_err-write_rule : goal.returns-in_err-write_rule
returns-in_err-write_rule g c =
    let f : Word × Word → List ℕ = rule_line c.args.alphabet.now in
    let rules : List (Word × Word) = c.deref-rule-items.result.now in
    let none : Word × Word = ([], []) in
    let rule = ap f (c.rule-item.is ∙ get_any rules c.loop-rule.rule-index c.rule-item.result none c.loop-rule-test.true) in
    let all = ap (λ rs. bytes_of (map f rs ++ end_line false ∷ [])) c.deref-rule-items.ensures.value in
    handed_on g.O.Sink _ _ _ _ c.from_residual.ensures.1
    (same_bytes g.O.Sink _ _ _ _ _ all
    (listing_begun g.O.Sink f rules (end_line false) _ _ _
    (line_begun f rules g.O.Sink c.loop-rule.rule-index _ c.loop-rule.sink c.loop-rule.invariant none _ _ c.loop-rule-test.true
    (same_bytes g.O.Sink _ _ _ _ _ rule c.in_err-write_rule.ensures))))

pub returns : goal.returns
returns g c =
    let f : Word × Word → List ℕ = rule_line c.args.alphabet.now in
    let rules : List (Word × Word) = c.deref-rule-items.result.now in
    let all = ap (λ rs. bytes_of (map f rs ++ end_line false ∷ [])) c.deref-rule-items.ensures.value in
    same_bytes g.O.Sink _ _ _ _ _ all
    (listing_ended g.O.Sink f rules (end_line false) _ c.loop-rule.sink _ _
    (lines_done f rules g.O.Sink c.loop-rule.rule-index _ _ c.loop-rule.invariant (omega (arith, c.loop-rule-test.false))) c.write_end.ensures.bytes)
