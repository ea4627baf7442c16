use Rattle.std.proofs.Common.{length, ap, arith}
use Rattle.rewriting.proofs.LookupLaws.{right_lookup}
use Rattle.rewriting.proofs.kept_rules.KeptRules.set_right.Goals as goal

pub invariant_of-self : goal.invariant_of-self
invariant_of-self c =
    right_lookup c.self.inside.rules c.set_right.new.self c.self.inside.lookup c.args.place c.args.right c.self.invariant
    (omega (arith, c.requires.within, ap length c.self.view_is)) c.set_right.ensures
