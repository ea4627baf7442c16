use Rattle.std.proofs.Common.{◌<◌, ◌≤◌, ◌-◌, ◌∙◌, ap, subst, sym, length, arith, refl}
use Rattle.green.specs.Touring.{Tour, start_at}
use Rattle.green.specs.declared.depth_first.Start.{Start}
use Rattle.green.proofs.TourLaws.{AreJoining, joining_start, joining_step, joining_end, taken}
use Rattle.green.proofs.depth_first.DepthFirst.join.Goals as goal

pub loop-self-init : goal.loop-self-init
loop-self-init c = record { joining = joining_start c.args.place c.args.self.now.starts c.requires.some; states = refl; path = refl; ahead = refl }

pub top-requires : goal.top-requires
top-requires c = c.loop-self.invariant.joining.some

-- the start that is dropped is above the place
above : (c : goal.After-drop_start) → c.args.place < (start_at c.loop-self.self.starts (length c.loop-self.self.starts - 1)).place
above c = subst (λ (s : Start). c.args.place < s.place) c.top.ensures c.loop-self-test.true

pub loop-self-smaller : goal.loop-self-smaller
loop-self-smaller c =
    let some = c.loop-self.invariant.joining.some in
    let long = taken (length c.loop-self.self.starts - 1) c.loop-self.self.starts (omega arith) in
    let is = ap (λ (t : Tour). length t.starts) c.drop_start.ensures in
    omega (arith, some, long, is)

pub loop-self-preserved : goal.loop-self-preserved
loop-self-preserved c = record {
  joining = subst (λ (t : Tour). AreJoining c.args.place c.args.self.now.starts t.starts) (sym c.drop_start.ensures)
      (joining_step c.args.place c.args.self.now.starts c.loop-self.self.starts c.requires.first c.loop-self.invariant.joining (above c));
  states = ap (λ (t : Tour). t.states) c.drop_start.ensures ∙ c.loop-self.invariant.states;
  path = ap (λ (t : Tour). t.path) c.drop_start.ensures ∙ c.loop-self.invariant.path;
  ahead = ap (λ (t : Tour). t.ahead) c.drop_start.ensures ∙ c.loop-self.invariant.ahead;
}

pub returns-clause-joined : goal.returns-clause-joined
returns-clause-joined c =
    joining_end c.args.place c.args.self.now.starts c.loop-self.self.starts c.loop-self.invariant.joining
    (subst (λ (s : Start). s.place ≤ c.args.place) c.top.ensures c.loop-self-test.false)
