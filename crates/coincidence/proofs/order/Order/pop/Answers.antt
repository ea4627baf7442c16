use Rattle.std.proofs.Common.{◌≡◌, ◌+◌, ap, arith, ◌∙◌, length}
use Rattle.std.proofs.lemmas.List.{length_push}
use Rattle.coincidence.specs.Kept.{listing_of}
use Rattle.coincidence.specs.declared.order.Step.{Step}
use Rattle.coincidence.proofs.KeptLaws.{kept_popped, min_both}
use Rattle.coincidence.proofs.order.Order.pop.Goals as goal

pub returns-clause-kept : goal.returns-clause-kept
returns-clause-kept c = λ k g marked is.
    let longer : length c.args.self.now.steps.items ≡ length c.pop.new.self.items + 1 = ap length c.in-Some.ensures.items ∙ length_push {X = Step} c.pop.new.self.items c.in-Some.step in
    let count : c.len.result ≡ length c.pop.new.self.items = omega (arith, c.pop.new.self.ok, c.len.ensures) in
    let both = min_both c.min-self.result c.args.self.now.done c.len.result c.min-self.ensures in
    kept_popped k g marked (listing_of c.args.self.now) c.pop.new.self.items c.in-Some.step c.min-self.result
    c.in-Some.ensures.items (omega (arith, longer, c.requires.some)) (omega (arith, both.1, count)) both.0 is
