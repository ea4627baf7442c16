use Rattle.std.proofs.Common.{◌≡◌}
use Rattle.froidure_pin.specs.Rules.{rules_to}
use Rattle.froidure_pin.proofs.rules.Products.rules.Given as goal

abbrev pub invariant-loop-place : goal.invariant-loop-place
invariant-loop-place l = l.rules.items ≡ rules_to l.self.letters l.self.factors.now.items l.self.right.now.items l.suffixes.items l.place
