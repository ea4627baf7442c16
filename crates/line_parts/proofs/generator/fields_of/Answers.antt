use Rattle.std.proofs.Common.{ℕ, List, rules, Bor}
use Rattle.std.proofs.lemmas.Simd.{map-map}
use Rattle.std.proofs.lemmas.Iterator.{items_from_collect, YieldsList-from_slice, YieldsList-from_map}
use Rattle.line_parts.specs.Fields.{field_of}
use Rattle.line_parts.proofs.generator.fields_of.Goals as goal

pub returns : goal.returns
returns c =
    rw (map-map field_of (λ (t : Bor (List ℕ)). t.now) c.args.tokens.now)
    (items_from_collect _ c.collect.ensures.ran (YieldsList-from_map _ (λ (t : Bor (List ℕ)). field_of t.now) (YieldsList-from_slice c.args.tokens.now cc) c.map.ensures.closure (λ x r q k. search rules)))
