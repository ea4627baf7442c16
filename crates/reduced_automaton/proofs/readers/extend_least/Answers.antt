use Rattle.std.proofs.Common.{◌≡◌, ◌+◌, ◌-◌, arith}
use Rattle.reduced_automaton.proofs.PathLaws.{allows_less, goes_as}
use Rattle.reduced_automaton.proofs.NextPaths.{least_more, least_all, without_ends}
use Rattle.reduced_automaton.proofs.readers.extend_least.Goals as goal

pub least_edge-requires : goal.least_edge-requires
least_edge-requires g c = allows_less (g.P.KnownPaths.known c.args.paths.now) c.args.count (c.loop-rest.rest - 1) (let low = c.loop-rest.auto.rest in omega (arith, low)) c.requires.known

pub unreachable-requires : goal.unreachable-requires
unreachable-requires g c =
    let p = g.P.KnownPaths.paths c.args.paths.now in
    let back : c.loop-rest.rest ≡ (c.loop-rest.rest - 1) + 1 = omega arith in
    without_ends p c.letters-letters.ensures.graph c.loop-rest.at (c.loop-rest.rest - 1) c.in_default.ensures
    (goes_as p c.loop-rest.at c.loop-rest.rest ((c.loop-rest.rest - 1) + 1) back c.loop-rest.invariant.goes)

pub loop-rest-preserved : goal.loop-rest-preserved
loop-rest-preserved g c =
    record {
      goes = c.in-Some.ensures.goes;
      path =
          let p = g.P.KnownPaths.paths c.args.paths.now in
          let back : c.loop-rest.rest ≡ (c.loop-rest.rest - 1) + 1 = omega arith in
          let so = c.loop-rest.invariant.path in
          least_more p c.letters-letters.ensures.graph c.args.word.now c.loop-rest.word c.push.new.self so.0 c.args.node c.args.count c.loop-rest.at c.loop-rest.rest (c.loop-rest.rest - 1)
          c.in-Some.edge.0 c.in-Some.edge.1 so.1 c.in_ok-push.ensures.ok so.2 back c.in-Some.ensures;
    }

pub returns : goal.returns
returns g c =
    let p = g.P.KnownPaths.paths c.args.paths.now in
    let none : c.loop-rest.rest ≡ 0 = omega arith in
    let so = c.loop-rest.invariant.path in
    least_all p c.letters-letters.ensures.graph c.args.word.now c.loop-rest.word so.0 c.args.node c.args.count c.loop-rest.at c.loop-rest.rest so.1 so.2 none c.loop-rest.invariant.goes
