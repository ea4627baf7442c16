use Rattle.std.proofs.Common.{◌≡◌, ℕ, refl, sym, subst, arith, ◌+◌}
use Rattle.coincidence.specs.Absorbing.{absorbing_of}
use Rattle.coincidence.proofs.AbsorbLaws.{IsAbsorbedTo, absorb_start, absorb_step, absorb_end, merge_still, rest_kept}
use Rattle.coincidence.proofs.cosets.Cosets.absorb.Goals as goal

pub loop-number-init : goal.loop-number-init
loop-number-init c = record { so_far = absorb_start (absorbing_of c.args.self.now) c.args.merge; rest = refl }

pub redirect-requires : goal.redirect-requires
redirect-requires c = merge_still c.args.self.now.edges.graph c.loop-number.self.edges.graph c.args.merge c.loop-number.invariant.so_far.shape c.requires

pub move_edge-requires : goal.move_edge-requires
move_edge-requires c =
    let m = merge_still c.args.self.now.edges.graph c.loop-number.self.edges.graph c.args.merge c.loop-number.invariant.so_far.shape c.requires in
    merge_still c.loop-number.self.edges.graph c.redirect.new.self.edges.graph c.args.merge c.in_ok-redirect.ensures.ok.0.shape m

pub loop-number-preserved : goal.loop-number-preserved
loop-number-preserved c =
    let first = absorbing_of c.args.self.now in
    let now = absorbing_of c.loop-number.self in
    let new = absorbing_of c.move_edge.new.self in
    let letter : c.new-letter.result ≡ c.loop-number.number = c.new-letter.ensures in
    record {
      so_far = subst (λ (z : ℕ). IsAbsorbedTo first new c.args.merge (z + 1)) letter
          (absorb_step first now (absorbing_of c.redirect.new.self) new c.args.merge c.new-letter.result c.requires.less
          (subst (λ (z : ℕ). IsAbsorbedTo first now c.args.merge z) (sym letter) c.loop-number.invariant.so_far) c.in_ok-redirect.ensures.ok c.in_ok-move_edge.ensures.ok);
      rest = rest_kept c.args.self.now c.redirect.new.self c.move_edge.new.self (rest_kept c.args.self.now c.loop-number.self c.redirect.new.self c.loop-number.invariant.rest c.in_ok-redirect.ensures.rest) c.in_ok-move_edge.ensures.rest;
    }

pub returns : goal.returns
returns c = record {
  ok =
      let end : c.loop-number.number ≡ c.letters-letters.result = omega arith in
      absorb_end c.letters-letters.result (absorbing_of c.args.self.now) (absorbing_of c.loop-number.self) c.args.merge c.letters-letters.ensures.graph
      (subst (λ (z : ℕ). IsAbsorbedTo (absorbing_of c.args.self.now) (absorbing_of c.loop-number.self) c.args.merge z) end c.loop-number.invariant.so_far);
  rest = c.loop-number.invariant.rest;
}
