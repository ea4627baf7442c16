use Rattle.std.proofs.Common.{◌≡◌, ◌<◌, false, length, arith, sym, ap, ◌∙◌, subst, get_or}
use Rattle.std.proofs.lemmas.List.{get_or_read}
use Rattle.coincidence.specs.Kept.{listing_of, step_at}
use Rattle.coincidence.specs.Live.{IsOn}
use Rattle.coincidence.specs.declared.order.Step.{Step}
use Rattle.coincidence.proofs.KeptLaws.{kept_inside, kept_met}
use Rattle.coincidence.proofs.order.Order.unmarked.Goals as goal

pub index-requires-in-loop-self : goal.index-requires-in-loop-self
index-requires-in-loop-self c =
    let less : c.loop-self.self.done < length c.loop-self.self.steps.items = omega arith in
    let at : c.index.result.now ≡ step_at c.loop-self.self.steps.items c.loop-self.self.done = get_or_read _ _ _ less c.index.ensures (record { node = 0; parent = 0; letter = 0 }) in
    let s = c.loop-self.invariant.some in
    let inside = kept_inside s.0 s.1 c.args.marked.now.items c.loop-self.self c.loop-self.self.done s.2 less in
    omega (arith, inside, ap (λ (x : Step). x.node) at, ap length c.loop-self.invariant.places, c.requires.shape, c.args.marked.now.ok)

pub loop-self-preserved : goal.loop-self-preserved
loop-self-preserved c =
    let less : c.loop-self.self.done < length c.loop-self.self.steps.items = omega arith in
    let at : c.index.result.now ≡ step_at c.loop-self.self.steps.items c.loop-self.self.done = get_or_read _ _ _ less c.index.ensures (record { node = 0; parent = 0; letter = 0 }) in
    let s = c.loop-self.invariant.some in
    let inside = kept_inside s.0 s.1 c.args.marked.now.items c.loop-self.self c.loop-self.self.done s.2 less in
    let room : c.index.result.now.node < length c.args.marked.now.items = omega (arith, inside, ap (λ (x : Step). x.node) at, ap length c.loop-self.invariant.places, c.requires.shape) in
    let read : c.index-in-loop-self.result.now ≡ get_or c.args.marked.now.items c.index.result.now.node false = get_or_read _ _ _ room c.index-in-loop-self.ensures false in
    let on : IsOn c.args.marked.now.items (step_at c.loop-self.self.steps.items c.loop-self.self.done).node =
    subst (λ (x : Step). IsOn c.args.marked.now.items x.node) at (sym read ∙ c.if-index.true) in
    record {
      some = (s.0, s.1, kept_met s.0 s.1 c.args.marked.now.items (listing_of c.loop-self.self) s.2 less on);
      kept = λ k g h. kept_met k g c.args.marked.now.items (listing_of c.loop-self.self) (c.loop-self.invariant.kept k g h) less on;
      steps = c.loop-self.invariant.steps;
      places = c.loop-self.invariant.places;
      row = c.loop-self.invariant.row;
      letter = c.loop-self.invariant.letter;
    }
