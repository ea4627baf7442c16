use Rattle.std.proofs.Common.{◌∙◌}
use Rattle.std.specs.Str.Parse.{ParsesUnsigned, ExplainsUnsignedError, HasUnsignedDigitsIfOk}
use Rattle.clap.specs.Words.{found_of}
use Rattle.settings.proofs.Numbers.{number_read}
use Rattle.settings.proofs.number_of.Goals as goal

pub unwrap-requires : goal.unwrap-requires
unwrap-requires c =
    (number_read _ (λ bs r. ParsesUnsigned 64 10 bs r × ExplainsUnsignedError 10 bs r × HasUnsignedDigitsIfOk bs r) (found_of c.args.matches.now) c.args.id.now c.get_one.result
    c.requires c.get_one.ensures.value (λ t x g. g.0)).1

pub returns : goal.returns
returns c =
    (number_read _ (λ bs r. ParsesUnsigned 64 10 bs r × ExplainsUnsignedError 10 bs r × HasUnsignedDigitsIfOk bs r) (found_of c.args.matches.now) c.args.id.now c.get_one.result
    c.requires c.get_one.ensures.value (λ t x g. g.0)).0 ∙ c.unwrap.ensures
