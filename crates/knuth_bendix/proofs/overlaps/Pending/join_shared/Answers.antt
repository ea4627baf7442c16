use Rattle.std.proofs.Common.{refl, ◌≡◌, ◌+◌, ◌-◌, ◌<◌, get_or, ℕ, length, List, sym, ap, ◌∙◌, subst, subst₂, arith}
use Rattle.knuth_bendix.specs.declared.overlaps.Pending.{Pending}
use Rattle.knuth_bendix.specs.Logs.{KeepsLog}
use Rattle.knuth_bendix.proofs.LogLaws.{keeps_after, keeps_none}
use Rattle.knuth_bendix.proofs.OverlapSteps.{IsJoinedTo, gains_more, joined_elsewhere, joined_end, joined_start, joined_there, shared_read}
use Rattle.rewriting.proofs.Standing.{rule_read}
use Rattle.theory.specs.Word.{Word}
use Rattle.knuth_bendix.specs.Overlaps.{overlaps_by, rule_at}
use Rattle.knuth_bendix.proofs.overlaps.Pending.join_shared.Goals as goal
use Rattle.knuth_bendix.proofs.overlaps.Pending.join_shared.Goals.{then-overlap+in_ok-join_overlap, else-overlap}

-- the length of the left side of a rule that was read
left_size : (rules : List (Word × Word)) (place n : ℕ) (rule : Word × Word) → place < length rules → rule ≡ get_or rules place rule → n ≡ length rule.0
    → n ≡ length (rule_at rules place).0
left_size rules place n rule within read size = size ∙ ap (λ (r : Word × Word). length r.0) (rule_read rules rules place rule refl within read)

pub loop-shared-init : goal.loop-shared-init
loop-shared-init c =
    let m = left_size c.args.rules.now c.args.first c.len.result c.rule.result.now c.requires.first c.rule.ensures.rule c.len.ensures in
    let n = left_size c.args.rules.now c.args.second c.len-2.result c.rule-2.result.now c.requires.second c.rule-2.ensures.rule c.len-2.ensures in
    let within = shared_read c.args.lengths c.args.rules.now c.args.first c.args.second c.shared_by-fewest.result.0 c.shared_by-fewest.result.1 c.len.result c.len-2.result
    m n c.shared_by-fewest.ensures.within in
    record {
      joined = joined_start c.args.lengths c.args.rules.now c.args.self.now.equations c.args.first c.args.second c.shared_by-fewest.result.0 c.shared_by-fewest.result.1 within;
      logged = keeps_none c.args.self.now.log c.args.rules.now c.args.self.now.equations c.requires.held;
      few = omega (arith, m, c.shared_by-fewest.ensures.few);
    }

pub loop-shared-preserved : goal.loop-shared-preserved
loop-shared-preserved c =
    let Joined : Pending → Type 0 = λ s. IsJoinedTo c.args.lengths c.args.rules.now c.args.self.now.equations s.equations (record { first = c.args.first; second = c.args.second; shared = c.loop-shared.shared + 1 }) in
    let m = left_size c.args.rules.now c.args.first c.len.result c.rule.result.now c.requires.first c.rule.ensures.rule c.len.ensures in
    let n = left_size c.args.rules.now c.args.second c.len-2.result c.rule-2.result.now c.requires.second c.rule-2.ensures.rule c.len-2.ensures in
    let within = shared_read c.args.lengths c.args.rules.now c.args.first c.args.second c.shared_by-fewest.result.0 c.shared_by-fewest.result.1 c.len.result c.len-2.result
    m n c.shared_by-fewest.ensures.within in
    let first = rule_read c.args.rules.now c.args.rules.now c.args.first c.rule-in-loop-shared.result.now refl c.requires.first c.rule-in-loop-shared.ensures.rule in
    let second = rule_read c.args.rules.now c.args.rules.now c.args.second c.rule-in-loop-shared-2.result.now refl c.requires.second c.rule-in-loop-shared-2.ensures.rule in
    let some : 0 < c.loop-shared.shared = omega (arith, c.shared_by-fewest.ensures.some, c.loop-shared.auto.shared) in
    let Keeps : Pending → Type 0 = λ s. KeepsLog c.args.self.now.log s.log c.args.rules.now s.equations in
    record {
      logged = elim c.if-overlap.branch [
        | then-overlap+in_ok-join_overlap w ↦
            subst Keeps (sym w.self-is)
            (keeps_after c.args.self.now.log c.loop-shared.self.log w.join_overlap.new.self.log c.args.rules.now w.join_overlap.new.self.equations c.loop-shared.invariant.logged.grows
            w.in_ok-join_overlap.ensures.logged)
        | else-overlap w ↦ subst Keeps (sym w.self-is) c.loop-shared.invariant.logged
      ];
      joined = elim c.if-overlap.branch [
        | then-overlap+in_ok-join_overlap w ↦
            subst Joined (sym w.self-is)
            (joined_there c.args.lengths c.args.rules.now c.args.self.now.equations c.loop-shared.self.equations (record { first = c.args.first; second = c.args.second; shared = c.loop-shared.shared })
            c.rule-in-loop-shared.result.now c.rule-in-loop-shared-2.result.now c.overlap.result first second c.overlap.ensures some c.loop-shared.invariant.joined
            w.join_overlap.new.self.equations c.shared_by-fewest.result.0 c.shared_by-fewest.result.1 within c.loop-shared.auto.shared c.loop-shared-test.true
            (omega (arith, m, c.loop-shared-test.true, c.shared_by-fewest.ensures.first)) (omega (arith, n, c.loop-shared-test.true, c.shared_by-fewest.ensures.second))
            w.if-overlap.true w.in_ok-join_overlap.ensures.gains w.in_ok-join_overlap.ensures.joined)
        | else-overlap w ↦
            subst Joined (sym w.self-is)
            (joined_elsewhere c.args.lengths c.args.rules.now c.args.self.now.equations c.loop-shared.self.equations (record { first = c.args.first; second = c.args.second; shared = c.loop-shared.shared })
            c.rule-in-loop-shared.result.now c.rule-in-loop-shared-2.result.now c.overlap.result first second c.overlap.ensures some c.loop-shared.invariant.joined
            w.if-overlap.false)
      ];
      few = omega (arith, m, c.loop-shared-test.true, c.shared_by-fewest.ensures.first);
    }

pub join_overlap-requires-clause-overlaps : goal.join_overlap-requires-clause-overlaps
join_overlap-requires-clause-overlaps c =
    let first = rule_read c.args.rules.now c.args.rules.now c.args.first c.rule-in-loop-shared.result.now refl c.requires.first c.rule-in-loop-shared.ensures.rule in
    let second = rule_read c.args.rules.now c.args.rules.now c.args.second c.rule-in-loop-shared-2.result.now refl c.requires.second c.rule-in-loop-shared-2.ensures.rule in
    subst₂ (λ (p q : Word × Word). overlaps_by p.0 q.0 c.loop-shared.shared) first second (c.overlap.ensures.0 c.if-overlap.true)

pub returns : goal.returns
returns c =
    let m = left_size c.args.rules.now c.args.first c.len.result c.rule.result.now c.requires.first c.rule.ensures.rule c.len.ensures in
    let n = left_size c.args.rules.now c.args.second c.len-2.result c.rule-2.result.now c.requires.second c.rule-2.ensures.rule c.len-2.ensures in
    record {
      gains =
          gains_more c.args.lengths c.args.rules.now c.args.self.now.equations c.loop-shared.self.equations (c.loop-shared.shared - 1) (length (rule_at c.args.rules.now c.args.first).0)
          c.loop-shared.invariant.few c.loop-shared.invariant.joined.gains;
      joined =
          joined_end c.args.lengths c.args.rules.now c.args.self.now.equations c.loop-shared.self.equations c.args.first c.args.second c.shared_by-fewest.result.0 c.shared_by-fewest.result.1
          c.loop-shared.shared
          (shared_read c.args.lengths c.args.rules.now c.args.first c.args.second c.shared_by-fewest.result.0 c.shared_by-fewest.result.1 c.len.result c.len-2.result m n
          c.shared_by-fewest.ensures.within)
          c.loop-shared-test.false c.loop-shared.invariant.joined;
      logged = c.loop-shared.invariant.logged;
    }
