use Rattle.std.proofs.Common.{◌≡◌, All, length, ap, sym, subst, ◌∙◌}
use Rattle.std.specs.Vec.{with_items}
use Rattle.std.specs.List.{AllZip}
use Rattle.std.proofs.lemmas.List.{with_items_is}
use Rattle.workers.specs.Dealt.{Dealt, in_order, items_in}
use Rattle.workers.proofs.DealtLaws.{each_ready, worked_groups}
use Rattle.workers.proofs.groups.Groups.run.Goals as goal

pub work_on_all-requires-clause-ready : goal.work_on_all-requires-clause-ready
work_on_all-requires-clause-ready g c κs within =
    let s = c.self.inside in
    rw c.as_mut_slice.ensures.value (each_ready (g.C.Crew.is_ready c.args.crew.now) s.count s.first s.groups.items c.self.invariant
    (subst (λ (d : Dealt g.row.I.Denot). All (g.C.Crew.is_ready c.args.crew.now) d.items) (sym c.self.view_is) c.requires))

pub invariant_of-self : goal.invariant_of-self
invariant_of-self g c =
    let s = c.self.inside in
    let v = c.as_mut_slice.ensures.value in
    let long = c.work_on_all.auto.groups ∙ ap length v in
    let same : (with_items s.groups c.work_on_all.new.groups).items ≡ c.work_on_all.new.groups = with_items_is s.groups c.work_on_all.new.groups (long ∙ sym s.groups.ok.0) in
    rw same (worked_groups (g.C.Crew.makes c.args.crew.now) s.count s.first s.groups.items c.work_on_all.new.groups c.self.invariant long (rw v at c.work_on_all.ensures)).0

pub returns-clause-made : goal.returns-clause-made
returns-clause-made g c =
    let s = c.self.inside in
    let v = c.as_mut_slice.ensures.value in
    let long = c.work_on_all.auto.groups ∙ ap length v in
    let same : (with_items s.groups c.work_on_all.new.groups).items ≡ c.work_on_all.new.groups = with_items_is s.groups c.work_on_all.new.groups (long ∙ sym s.groups.ok.0) in
    rw same (subst (λ (d : Dealt g.row.I.Denot). AllZip (g.C.Crew.makes c.args.crew.now) d.items (in_order s.count s.first (items_in c.work_on_all.new.groups))) c.self.view_is
    (worked_groups (g.C.Crew.makes c.args.crew.now) s.count s.first s.groups.items c.work_on_all.new.groups c.self.invariant long (rw v at c.work_on_all.ensures)).1)
