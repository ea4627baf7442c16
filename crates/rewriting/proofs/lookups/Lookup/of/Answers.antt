use Rattle.std.proofs.Common.{List, Option, None, Some, ℕ, length, get_or, ap, ◌∙◌, arith}
use Rattle.std.proofs.lemmas.List.FromFn.{length-map-range_with_len, get_or-map-range_with_len}
use Rattle.rewriting.proofs.NewerLaws.{no_newer}
use Rattle.rewriting.proofs.LookupLaws.{all_lookup}
use Rattle.rewriting.proofs.lookups.Lookup.of.Goals as goal

pub returns : goal.returns
returns c =
    all_lookup c.args.rules.now _ c.letters.result c.len-count.ensures.falling c.in_ok-table.ensures
    (ap length c.in_ok-places.ensures ∙ length-map-range_with_len Some 0 c.len-count.result ∙ c.len-count.ensures.len) c.len-count.ensures.len
    (λ place h. ap (λ (ps : List (Option ℕ)). get_or ps place None) c.in_ok-places.ensures
    ∙ get_or-map-range_with_len Some 0 c.len-count.result place place None (omega (arith, h, c.len-count.ensures.len)) (omega arith))
    (no_newer c.args.rules.now c.len-count.result c.none.result c.len-count.ensures.len c.none.ensures.depth c.none.ensures.before c.none.ensures.latest)
