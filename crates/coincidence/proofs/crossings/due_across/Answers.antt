use Rattle.std.proofs.Common.{[], take}
use Rattle.coincidence.specs.declared.due.Due.TheVariants.{Nothing}
use Rattle.coincidence.proofs.ReadLaws.{behind_here, met_quiet}
use Rattle.coincidence.proofs.SeenLaws.{reached_behind, sides_meet}
use Rattle.coincidence.proofs.crossings.due_across.Goals as goal

pub due_behind-requires-clause-reached : goal.due_behind-requires-clause-reached
due_behind-requires-clause-reached c = λ n e. reached_behind c.args.edges.now.graph c.args.node n (take c.args.place c.args.one.now.side.now) c.requires.reached c.requires.node e

pub returns-then-has-clause-due : goal.returns-then-has-clause-due
returns-then-has-clause-due c =
    let g = c.args.edges.now.graph in
    let side = c.args.one.now.side.now in
    let other = c.args.one.now.other.now in
    let met = sides_meet c.args.one.now.pairs.now c.args.one.now.number side other g c.args.node ([], []) c.requires.pair
    (c.requires.seen c.args.node c.args.one.now.number ([], []) (c.has.ensures c.if-has.true) c.requires.node) in
    behind_here g c.args.node c.args.place side side other Nothing c.if-place-eq0.true (met_quiet g c.args.node met.0 side other met.1 met.2)
