use Rattle.std.specs.Str.Parse.{ParsesUnsigned, ExplainsUnsignedError, HasUnsignedDigitsIfOk}
use Rattle.clap.specs.Words.{found_of}
use Rattle.settings.proofs.Numbers.{number_read_if_given}
use Rattle.settings.proofs.given_number_of.Goals as goal

pub returns : goal.returns
returns c =
    number_read_if_given _ (λ bs r. ParsesUnsigned 64 10 bs r × ExplainsUnsignedError 10 bs r × HasUnsignedDigitsIfOk bs r) (found_of c.args.matches.now) c.args.id.now c.get_one.result
    c.requires c.get_one.ensures.none c.get_one.ensures.value (λ t x g. g.0)
