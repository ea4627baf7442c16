use Rattle.froidure_pin.specs.Rules.{AreSuffixes}
use Rattle.froidure_pin.proofs.rules.Products.suffixes.Given as goal

abbrev pub invariant-loop-number : goal.invariant-loop-number
invariant-loop-number l = AreSuffixes l.self.letters l.self.factors.now.items l.self.right.now.items l.suffixes.items l.number
