use Rattle.std.proofs.Common.{◌≡◌, length, min, sym, ap, ap₂, ◌∙◌, arith, nat_cmp}
use Rattle.std.specs.Prelude.{Some}
use Rattle.std.specs.Option.{option_cmp}
use Rattle.std.proofs.lemmas.List.{length-map}
use Rattle.word_graph.proofs.TableLaws.{edges_decide, lengths_decide, decided, tied}
use Rattle.word_graph.proofs.rows.compare.Goals as goal

pub returns-then-ne : goal.returns-then-ne
returns-then-ne c = λ s t hs ht.
    sym (decided c.cmp-order.result _ c.if-ne.ensures)
    ∙ sym (c.loop-place.invariant s t hs ht ∙ edges_decide c.args.entries.now c.args.others.now s t c.loop-place.place c.index-entries-place.result c.index-others-place.result c.cmp-order.result hs ht
    (omega (arith, c.loop-place-test.true, c.min-place-end.ensures)) (omega (arith, c.loop-place-test.true, c.min-place-end.ensures)) c.index-entries-place.is c.index-others-place.is
    (c.cmp-order.ensures ∙ ap₂ (option_cmp nat_cmp) c.value.ensures.value c.value-in-loop-place.ensures.value))

pub loop-place-preserved : goal.loop-place-preserved
loop-place-preserved c = λ s t hs ht.
    c.loop-place.invariant s t hs ht ∙ edges_decide c.args.entries.now c.args.others.now s t c.loop-place.place c.index-entries-place.result c.index-others-place.result c.cmp-order.result hs ht
    (omega (arith, c.loop-place-test.true, c.min-place-end.ensures)) (omega (arith, c.loop-place-test.true, c.min-place-end.ensures)) c.index-entries-place.is c.index-others-place.is
    (c.cmp-order.ensures ∙ ap₂ (option_cmp nat_cmp) c.value.ensures.value c.value-in-loop-place.ensures.value)
    ∙ tied c.cmp-order.result _ c.if-ne.ensures

pub returns : goal.returns
returns c = λ s t hs ht.
    let same_s : length c.args.entries.now ≡ length s = ap length hs ∙ length-map s Some in
    let same_t : length c.args.others.now ≡ length t = ap length ht ∙ length-map t Some in
    let last : c.loop-place.place ≡ min (length s) (length t) = omega (arith, c.loop-place-test.false, c.loop-place.auto.place-end, c.min-place-end.ensures, same_s, same_t) in
    c.cmp.ensures ∙ ap₂ nat_cmp same_s same_t ∙ sym (lengths_decide s t c.loop-place.place last) ∙ sym (c.loop-place.invariant s t hs ht)
