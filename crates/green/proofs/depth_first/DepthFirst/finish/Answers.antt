use Rattle.std.proofs.Common.{◌≡◌, ◌+◌, ◌<◌, ◌∙◌, ℕ, ap, subst, sym, length, List, slice_index, take, get_or, set, arith}
use Rattle.std.proofs.lemmas.List.{get_or_default}
use Rattle.green.specs.Touring.{Tour, ArePlaced, HasClosed, state_at}
use Rattle.green.specs.declared.states.State.{State}
use Rattle.green.specs.declared.states.State.TheVariants.{Done}
use Rattle.green.proofs.TourLaws.{closed_none, closed_more, seen_below, unseen_or_on}
use Rattle.green.proofs.depth_first.DepthFirst.finish.Goals as goal

pub loop-later-init : goal.loop-later-init
loop-later-init c = record {
  closed = subst (λ (t : Tour). HasClosed c.args.place c.args.place c.index.result.now t.states c.self.inside.states.items) c.self.view_is
      (closed_none c.args.place c.index.result.now c.self.inside.states.items);
  path = ap (λ (t : Tour). t.path) c.self.view_is;
  ahead = ap (λ (t : Tour). t.ahead) c.self.view_is;
  starts = ap (λ (t : Tour). t.starts) c.self.view_is;
}

-- the number at the place, where the path is as at the start
number_is : (path items : List ℕ) (later number : ℕ) → items ≡ path → later < length path → number ≡ get_or items later number → number ≡ slice_index path later
number_is path items later number same less e =
    e ∙ get_or_default items later number 0 (omega (arith, less, ap length same)) ∙ ap (λ (xs : List ℕ). slice_index xs later) same

number_small : (states now : List State) (path : List ℕ) (place later name number : ℕ) → ArePlaced states path → HasClosed place later name states now
    → later < length path → number ≡ slice_index path later → number < length now
number_small states now path place later name number placed closed less e =
    let on = placed.on_path later less in
    let seen = seen_below states (slice_index path later) (λ d. unseen_or_on later (state_at states (slice_index path later)) d on) in
    omega (arith, seen, e, closed.count)

pub index-requires-in-loop-later : goal.index-requires-in-loop-later
index-requires-in-loop-later c =
    let long : c.len-later-end.result ≡ length c.args.self.now.path = omega (arith, c.len-later-end.ensures, ap (λ (t : Tour). length t.path) c.self.view_is) in
    omega (arith, long, c.loop-later-test.true, ap length c.loop-later.invariant.path)

pub index_mut-requires : goal.index_mut-requires
index_mut-requires c =
    let inside : c.loop-later.later < length c.args.self.now.path =
    omega (arith, c.loop-later-test.true, c.len-later-end.ensures, ap (λ (t : Tour). length t.path) c.self.view_is) in
    let small = number_small c.args.self.now.states c.loop-later.self-inside.states.items c.args.self.now.path c.args.place c.loop-later.later c.index.result.now c.index-in-loop-later.result.now
    c.requires.placed c.loop-later.invariant.closed inside
    (number_is c.args.self.now.path c.loop-later.self-inside.path.items c.loop-later.later c.index-in-loop-later.result.now c.loop-later.invariant.path inside c.index-in-loop-later.ensures) in
    omega (arith, small)

pub loop-later-preserved : goal.loop-later-preserved
loop-later-preserved c =
    let inside : c.loop-later.later < length c.args.self.now.path =
    omega (arith, c.loop-later-test.true, c.len-later-end.ensures, ap (λ (t : Tour). length t.path) c.self.view_is) in
    record {
      closed = subst (λ done. HasClosed c.args.place (c.loop-later.later + 1) c.index.result.now c.args.self.now.states (set c.loop-later.self-inside.states.items c.index-in-loop-later.result.now done))
          (sym c.in_ok-self-inside.ensures)
          (subst (λ i. HasClosed c.args.place (c.loop-later.later + 1) c.index.result.now c.args.self.now.states (set c.loop-later.self-inside.states.items i (Done c.index.result.now)))
          (sym (number_is c.args.self.now.path c.loop-later.self-inside.path.items c.loop-later.later c.index-in-loop-later.result.now c.loop-later.invariant.path inside c.index-in-loop-later.ensures))
          (closed_more c.args.place c.loop-later.later c.index.result.now c.args.self.now.states c.args.self.now.path c.loop-later.self-inside.states.items
          c.requires.placed c.loop-later.auto.later inside c.loop-later.invariant.closed));
      path = c.loop-later.invariant.path;
      ahead = c.loop-later.invariant.ahead;
      starts = c.loop-later.invariant.starts;
    }

pub returns-clause-closed : goal.returns-clause-closed
returns-clause-closed c =
    let long : c.len-later-end.result ≡ length c.args.self.now.path = omega (arith, c.len-later-end.ensures, ap (λ (t : Tour). length t.path) c.self.view_is) in
    let end : c.loop-later.later ≡ length c.args.self.now.path = omega (arith, long, c.loop-later-test.false, c.loop-later.auto.later-end, c.requires.place) in
    let inner : c.args.place < length c.self.inside.path.items = omega (arith, c.requires.place, ap (λ (t : Tour). length t.path) c.self.view_is) in
    let name : c.index.result.now ≡ slice_index c.args.self.now.path c.args.place =
    c.index.ensures ∙ get_or_default c.self.inside.path.items c.args.place c.index.result.now 0 inner
    ∙ ap (λ (t : Tour). slice_index t.path c.args.place) c.self.view_is in
    subst (λ m. HasClosed c.args.place m (slice_index c.args.self.now.path c.args.place) c.args.self.now.states c.loop-later.self-inside.states.items) end
    (subst (λ m. HasClosed c.args.place c.loop-later.later m c.args.self.now.states c.loop-later.self-inside.states.items) name c.loop-later.invariant.closed)

pub returns-clause-path : goal.returns-clause-path
returns-clause-path c = c.truncate.ensures.items ∙ ap (take c.args.place) c.loop-later.invariant.path
