use Rattle.std.proofs.Common.{not, ◌==◌, length, rules}
use Rattle.std.proofs.lemmas.Iterator.Consumers.{YieldsList-from_filter, map_from_collect}
use Rattle.std.proofs.lemmas.Iterator.Splits.{YieldsList-from_slice_split}
use Rattle.line_parts.specs.Token.{is_blank}
use Rattle.line_parts.proofs.tokens.tokens_of.Goals as goal

pub returns : goal.returns
returns c =
    map_from_collect _ c.collect.ensures.ran
    (YieldsList-from_filter _ (λ t. not (length t == 0))
    (YieldsList-from_slice_split _ is_blank c.args.line.now (search rules) (search rules) (search rules) (λ x b q k. search rules))
    (search rules) (λ x b q k. search rules))
