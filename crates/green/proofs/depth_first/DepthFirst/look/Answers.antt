use Rattle.std.proofs.Common.{◌<◌, sym, length, arith}
use Rattle.cayley.specs.Tables.{edge}
use Rattle.green.specs.Touring.{IsEdgeFrom}
use Rattle.green.proofs.Results.{on_ok}
use Rattle.green.proofs.StepLaws.{top_small, some_start, led_small, new_looked, back_looked, done_looked}
use Rattle.green.proofs.depth_first.DepthFirst.look.Goals as goal

-- the number is in the graph
inside : (c : goal.Start) → c.args.number < length c.args.rows.now
inside c =
    top_small (length c.args.rows.now) c.args.letters (edge c.args.rows.now) (IsEdgeFrom c.args.number c.args.letter) c.args.self.now c.requires.tour c.args.number c.requires.top

pub at-next-requires-clause-row : goal.at-next-requires-clause-row
at-next-requires-clause-row c = inside c

pub at-next-requires-clause-letter : goal.at-next-requires-clause-letter
at-next-requires-clause-letter c = omega (arith, c.requires.letter, c.requires.edges.width c.args.number (inside c))

pub state-requires : goal.state-requires
state-requires c =
    led_small (length c.args.rows.now) c.args.letters (edge c.args.rows.now) (IsEdgeFrom c.args.number c.args.letter)
    c.args.self.now c.requires.tour c.args.number c.requires.top c.requires.edges.within c.at-next.result
    (c.args.letter, c.requires.letter, sym c.at-next.ensures)

pub join-requires-clause-some : goal.join-requires-clause-some
join-requires-clause-some c =
    some_start (length c.args.rows.now) c.args.letters (edge c.args.rows.now) (IsEdgeFrom c.args.number c.args.letter)
    c.args.self.now c.requires.tour c.args.number c.requires.top

pub join-requires-clause-first : goal.join-requires-clause-first
join-requires-clause-first c =
    c.requires.tour.starts.first
    (some_start (length c.args.rows.now) c.args.letters (edge c.args.rows.now) (IsEdgeFrom c.args.number c.args.letter)
    c.args.self.now c.requires.tour c.args.number c.requires.top)

pub returns-in-Unseen-clause-tour : goal.returns-in-Unseen-clause-tour
returns-in-Unseen-clause-tour c =
    on_ok c.put_ahead.result _ _ c.put_ahead.ensures.ok (λ e.
    (new_looked (length c.args.rows.now) c.args.letters (edge c.args.rows.now) c.args.self.now c.args.number c.args.letter
    c.requires.tour c.requires.top c.requires.letter c.at-next.result c.at-next.ensures c.put_ahead.new.self e).0)

pub returns-in-Unseen-clause-top : goal.returns-in-Unseen-clause-top
returns-in-Unseen-clause-top c =
    on_ok c.put_ahead.result _ _ c.put_ahead.ensures.ok (λ e.
    (new_looked (length c.args.rows.now) c.args.letters (edge c.args.rows.now) c.args.self.now c.args.number c.args.letter
    c.requires.tour c.requires.top c.requires.letter c.at-next.result c.at-next.ensures c.put_ahead.new.self e).1)

pub returns-in-Unseen-clause-left : goal.returns-in-Unseen-clause-left
returns-in-Unseen-clause-left c =
    on_ok c.put_ahead.result _ _ c.put_ahead.ensures.ok (λ e.
    (new_looked (length c.args.rows.now) c.args.letters (edge c.args.rows.now) c.args.self.now c.args.number c.args.letter
    c.requires.tour c.requires.top c.requires.letter c.at-next.result c.at-next.ensures c.put_ahead.new.self e).2)

pub returns-in-OnPath-clause-tour : goal.returns-in-OnPath-clause-tour
returns-in-OnPath-clause-tour c =
    (back_looked (length c.args.rows.now) c.args.letters (edge c.args.rows.now) c.args.self.now c.args.number c.args.letter
    c.requires.tour c.requires.top c.requires.letter c.at-next.result c.at-next.ensures
    c.join.new.self c.in-OnPath.back (sym c.in-OnPath.ensures) c.join.ensures.joined c.join.ensures.states c.join.ensures.path c.join.ensures.ahead).0

pub returns-in-OnPath-clause-top : goal.returns-in-OnPath-clause-top
returns-in-OnPath-clause-top c =
    (back_looked (length c.args.rows.now) c.args.letters (edge c.args.rows.now) c.args.self.now c.args.number c.args.letter
    c.requires.tour c.requires.top c.requires.letter c.at-next.result c.at-next.ensures
    c.join.new.self c.in-OnPath.back (sym c.in-OnPath.ensures) c.join.ensures.joined c.join.ensures.states c.join.ensures.path c.join.ensures.ahead).1

pub returns-in-OnPath-clause-left : goal.returns-in-OnPath-clause-left
returns-in-OnPath-clause-left c =
    (back_looked (length c.args.rows.now) c.args.letters (edge c.args.rows.now) c.args.self.now c.args.number c.args.letter
    c.requires.tour c.requires.top c.requires.letter c.at-next.result c.at-next.ensures
    c.join.new.self c.in-OnPath.back (sym c.in-OnPath.ensures) c.join.ensures.joined c.join.ensures.states c.join.ensures.path c.join.ensures.ahead).2

pub returns-in-Done-clause-tour : goal.returns-in-Done-clause-tour
returns-in-Done-clause-tour c =
    (done_looked (length c.args.rows.now) c.args.letters (edge c.args.rows.now) c.args.self.now c.args.number c.args.letter
    c.requires.tour c.requires.top c.requires.letter c.at-next.result c.at-next.ensures c.in-Done.field-0 (sym c.in-Done.ensures)).0
