use Rattle.std.proofs.Common.{◌≢◌, ◌-◌, ◌<◌, ◌∙◌, ap, subst, sym, length, arith}
use Rattle.cayley.specs.Tables.{edge}
use Rattle.green.specs.Touring.{Tour, IsTour, start_at}
use Rattle.green.proofs.StepLaws.{Stepped, Taken, ended, number_taken}
use Rattle.green.proofs.depth_first.DepthFirst.step.Goals as goal

-- the last component has ended
now_ended : (c : goal.After-drop_start) → Stepped (length c.args.rows.now) c.args.letters (edge c.args.rows.now)
    c.args.self.now c.drop_start.new.self
now_ended c =
    ended (length c.args.rows.now) c.args.letters (edge c.args.rows.now) c.args.self.now c.requires.tour c.requires.some
    c.top-start.result c.top-start.ensures (omega (arith, ap (λ (t : Tour). length t.ahead) c.self.view_is, c.len.ensures, c.if-len-start.true))
    c.finish.new.self c.drop_start.new.self c.in_ok-finish.ensures.closed c.in_ok-finish.ensures.path c.in_ok-finish.ensures.ahead c.in_ok-finish.ensures.starts c.drop_start.ensures

pub returns-then-len-start-clause-tour : goal.returns-then-len-start-clause-tour
returns-then-len-start-clause-tour c = (now_ended c).0

pub returns-then-len-start-clause-kept : goal.returns-then-len-start-clause-kept
returns-then-len-start-clause-kept c = (now_ended c).1

pub returns-then-len-start-clause-falls : goal.returns-then-len-start-clause-falls
returns-then-len-start-clause-falls c = (now_ended c).2

-- the last number ahead is taken
now_taken : (c : goal.After-arrive-arg-1) → Taken (length c.args.rows.now) c.args.letters (edge c.args.rows.now) c.in-Some.number c.args.self.now
    (record { states = c.self.inside.states.items; path = c.self.inside.path.items; ahead = c.pop.new.self.items; starts = c.self.inside.starts.items })
now_taken c =
    let t : Tour = record { states = c.self.inside.states.items; path = c.self.inside.path.items; ahead = c.self.inside.ahead.items; starts = c.self.inside.starts.items } in
    let u : Tour = record { states = t.states; path = t.path; ahead = c.pop.new.self.items; starts = t.starts } in
    let tour = subst (IsTour (length c.args.rows.now) c.args.letters (edge c.args.rows.now)) (sym c.self.view_is) c.requires.tour in
    let some = subst (λ (t : Tour). 0 < length t.starts) (sym c.self.view_is) c.requires.some in
    let start = c.top-start.ensures ∙ ap (λ (t : Tour). start_at t.starts (length t.starts - 1)) (sym c.self.view_is) in
    let not_all : length c.self.inside.ahead.items ≢ c.top-start.result.ahead = λ e. c.if-len-start.false (omega (arith, e, c.len.ensures)) in
    subst (λ (t : Tour). Taken (length c.args.rows.now) c.args.letters (edge c.args.rows.now) c.in-Some.number t u) c.self.view_is
    (number_taken (length c.args.rows.now) c.args.letters (edge c.args.rows.now) t tour some c.pop.new.self.items c.in-Some.number
    c.in-Some.ensures.items c.top-start.result start not_all)

pub arrive-requires-clause-tour : goal.arrive-requires-clause-tour
arrive-requires-clause-tour c = (now_taken c).0

pub arrive-requires-clause-led : goal.arrive-requires-clause-led
arrive-requires-clause-led c = (now_taken c).1
