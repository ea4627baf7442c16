use Rattle.std.proofs.Common.{refl, sym, ◌∙◌}
use Rattle.coincidence.specs.Absorbing.{absorbing_of}
use Rattle.coincidence.specs.declared.cosets.Cosets.{Cosets}
use Rattle.coincidence.proofs.AbsorbLaws.{first_leads, first_there, freed, merge_still, none_leads, redirect_start, redirect_step, remade, rest_kept}
use Rattle.coincidence.proofs.cosets.Cosets.redirect.Goals as goal

pub loop-source-init : goal.loop-source-init
loop-source-init c = record { redirecting = redirect_start (absorbing_of c.args.self.now) c.args.merge c.args.letter; rest = refl }

pub remove_edge-requires : goal.remove_edge-requires
remove_edge-requires c =
    let m = merge_still c.args.self.now.edges.graph c.loop-source.self.edges.graph c.args.merge c.loop-source.invariant.redirecting.shape c.requires in
    first_there c.letters-letters.result c.loop-source.self.edges c.args.merge c.in-Some.source c.args.letter c.letters-letters.ensures m (sym c.in-Some.ensures)

pub set_edge-requires : goal.set_edge-requires
set_edge-requires c =
    let m = merge_still c.args.self.now.edges.graph c.loop-source.self.edges.graph c.args.merge c.loop-source.invariant.redirecting.shape c.requires in
    let f = freed c.letters-letters.result c.loop-source.self.edges c.args.merge c.in-Some.source c.args.letter c.letters-letters.ensures m (sym c.in-Some.ensures) c.remove_edge.new.self c.remove_edge.ensures in
    record { node = f.node; letter = f.letter; to = f.to; missing = f.missing }

pub loop-source-smaller : goal.loop-source-smaller
loop-source-smaller c =
    let m = merge_still c.args.self.now.edges.graph c.loop-source.self.edges.graph c.args.merge c.loop-source.invariant.redirecting.shape c.requires in
    (remade c.letters-letters.result c.loop-source.self.edges c.args.merge c.in-Some.source c.args.letter c.letters-letters.ensures m (sym c.in-Some.ensures) c.remove_edge.new.self c.remove_edge.ensures c.set_edge.new.self.graph c.set_edge.ensures).fewer

pub loop-source-preserved : goal.loop-source-preserved
loop-source-preserved c =
    let now = c.loop-source.self in
    let new : Cosets = record now { edges = c.set_edge.new.self; pending = c.push_edge.new.self } in
    let m = merge_still c.args.self.now.edges.graph now.edges.graph c.args.merge c.loop-source.invariant.redirecting.shape c.requires in
    let made = remade c.letters-letters.result now.edges c.args.merge c.in-Some.source c.args.letter c.letters-letters.ensures m (sym c.in-Some.ensures) c.remove_edge.new.self c.remove_edge.ensures c.set_edge.new.self.graph c.set_edge.ensures in
    record {
      redirecting = redirect_step (absorbing_of c.args.self.now) (absorbing_of now) (absorbing_of new) c.args.merge c.args.letter c.in-Some.source c.loop-source.invariant.redirecting
          (first_leads c.letters-letters.result now.edges c.args.merge.lost c.args.letter c.in-Some.source c.letters-letters.ensures (sym c.in-Some.ensures)) made c.in_ok-push_edge.ensures refl;
      rest = rest_kept c.args.self.now now new c.loop-source.invariant.rest refl;
    }

pub returns : goal.returns
returns c = record {
  ok = (
    c.loop-source.invariant.redirecting,
    λ n e. none_leads c.letters-letters-2.result c.loop-source.self.edges c.args.merge.lost c.args.letter n c.letters-letters-2.ensures (sym c.first_source.ensures ∙ c.in_default.is) e,
  );
  rest = c.loop-source.invariant.rest;
}
