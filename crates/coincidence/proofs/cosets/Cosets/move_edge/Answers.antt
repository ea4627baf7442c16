use Rattle.std.proofs.Common.{refl, sym}
use Rattle.coincidence.specs.Absorbing.{absorbing_of}
use Rattle.coincidence.specs.declared.cosets.Cosets.{Cosets}
use Rattle.coincidence.proofs.AbsorbLaws.{moved_met, moved_on}
use Rattle.coincidence.proofs.cosets.Cosets.move_edge.Goals as goal

pub returns-in_ok-push_edge-in-None : goal.returns-in_ok-push_edge-in-None
returns-in_ok-push_edge-in-None c =
    let now = c.args.self.now in
    let new : Cosets = record now { edges = c.set_edge.new.self; pending = c.push_edge.new.self } in
    record {
      ok = moved_on c.letters-letters.result (absorbing_of now) (absorbing_of new) c.remove_edge.new.self.graph c.args.merge c.args.letter c.in-Some.to c.letters-letters.ensures.graph c.requires (sym c.in-Some.ensures) c.remove_edge.ensures
          (sym c.in-None.ensures) c.set_edge.ensures c.in_ok-push_edge-in-None.ensures refl;
      rest = refl;
    }

pub returns-in_ok-push-in-Some-target : goal.returns-in_ok-push-in-Some-target
returns-in_ok-push-in-Some-target c =
    let now = c.args.self.now in
    let new : Cosets = record now { edges = c.remove_edge.new.self; queue = c.push.new.self } in
    record {
      ok = moved_met c.letters-letters.result (absorbing_of now) (absorbing_of new) c.remove_edge.new.self.graph c.args.merge c.args.letter c.in-Some.to c.letters-letters.ensures.graph c.requires (sym c.in-Some.ensures) c.remove_edge.ensures
          c.in-Some-target.other (sym c.in-Some-target.ensures) refl refl c.in_ok-push-in-Some-target.ensures.items;
      rest = refl;
    }
