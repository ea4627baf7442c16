use Rattle.std.proofs.Common.{◌≡◌, ◌<◌, ◌∙◌, Vec, Global, ℕ, ap, length, map, subst, arith}
use Rattle.coincidence.specs.Starts.{list_for, start_in}
use Rattle.coincidence.specs.Uses.{IsNoted}
use Rattle.coincidence.proofs.StartLaws.{starts_step, starts_end}
use Rattle.coincidence.proofs.starts.Starts.new.Goals as goal

pub returns : goal.returns
returns c =
    let end : c.loop-number.number ≡ length c.args.pairs.now = omega arith in
    starts_end c.args.pairs.now (map (λ (v : Vec (ℕ × ℕ) Global). v.items) c.loop-number.lists.items) c.loop-number.number end c.loop-number.invariant

pub loop-number-preserved : goal.loop-number-preserved
loop-number-preserved c =
    let less : c.loop-number.number < length c.args.pairs.now = omega arith in
    let list = c.list_for-list.ensures ∙ ap (λ z. list_for z c.start_in-in-loop-number.result) c.start_in.ensures ∙ ap (list_for (start_in c.pair-pair.result.now.0)) c.start_in-in-loop-number.ensures in
    let was = map (λ (v : Vec (ℕ × ℕ) Global). v.items) c.loop-number.lists.items in
    let is = map (λ (v : Vec (ℕ × ℕ) Global). v.items) c.note.new.lists.items in
    starts_step c.args.pairs.now was is c.loop-number.number c.pair-pair.result.now less c.pair-pair.ensures
    (subst (λ a. IsNoted was is a (c.loop-number.number, 0)) list c.in_ok-note.ensures) c.loop-number.invariant
