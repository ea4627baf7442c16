use Rattle.std.proofs.Common.{arith, add-one, ◌∙◌, ap, sym, ◌-◌, ◌+◌, ◌%◌}
use Rattle.workers.proofs.DealtLaws.{take_groups}
use Rattle.workers.proofs.groups.Groups.take.Goals as goal

pub invariant_of-self : goal.invariant_of-self
invariant_of-self g c =
    let s = c.self.inside in
    (take_groups (s.count - 1) s.count s.first (s.first + 1) (s.first % c.len.result) s.groups.items c.index_mut-group.result.now (omega (arith, c.if-self-eq0.false)) (sym (add-one s.first)) (ap (λ w. s.first % w) (c.len.ensures ∙ s.groups.ok.0)) c.index_mut-group.ensures.value c.self.invariant
    c.pop.new.self c.pop.result c.args.self.now ⊥ c.self.view_is c.pop.ensures.items c.pop.ensures.capacity c.pop.ensures.cases).0

pub returns : goal.returns
returns g c =
    let s = c.self.inside in
    (take_groups (s.count - 1) s.count s.first (s.first + 1) (s.first % c.len.result) s.groups.items c.index_mut-group.result.now (omega (arith, c.if-self-eq0.false)) (sym (add-one s.first)) (ap (λ w. s.first % w) (c.len.ensures ∙ s.groups.ok.0)) c.index_mut-group.ensures.value c.self.invariant
    c.pop.new.self c.pop.result c.args.self.now _ c.self.view_is c.pop.ensures.items c.pop.ensures.capacity c.pop.ensures.cases).1
