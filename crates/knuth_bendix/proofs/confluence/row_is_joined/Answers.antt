use Rattle.std.proofs.Common.{ℕ, ◌<◌, [], IfOk, MatchBool, ◌≡◌, ◌+◌, ◌-◌, length, refl, sym, ◌∙◌, ap, subst}
use Rattle.theory.specs.Word.{Word}
use Rattle.rewriting.proofs.Standing.{rule_read}
use Rattle.knuth_bendix.specs.declared.lengths.Lengths.{Lengths}
use Rattle.knuth_bendix.specs.Overlaps.{AreJoined, HasLength, IsSplit, rule_at}
use Rattle.knuth_bendix.proofs.confluence.row_is_joined.Goals as goal

pub returns-then-not-may_stand_in : goal.returns-then-not-may_stand_in
returns-then-not-may_stand_in c = λ second within shared o.
    let read = rule_read c.args.rules.now c.args.rules.now c.args.first c.rule.result.now refl c.requires.first c.rule.ensures.rule in
    let size : c.len.result ≡ length (rule_at c.args.rules.now c.args.first).0 = c.len.ensures ∙ ap (λ (r : Word × Word). length r.0) read in
    absurd
    (c.may_stand_in.ensures c.if-not-may_stand_in.true (length (rule_at c.args.rules.now second).0) shared (c.requires.longest second within) o.some o.second
    (subst (λ n. HasLength c.args.lengths (n + (length (rule_at c.args.rules.now second).0 - shared))) (sym size) o.within))

pub returns : goal.returns
returns c =
    subst (λ (n : Lengths). IfOk c.all_are_joined.result (λ joined. MatchBool joined
    ((second : ℕ) → second < length c.args.rules.now → AreJoined n c.args.rules.now [] (rule_at c.args.rules.now c.args.first) (rule_at c.args.rules.now second))
    ((u : Word) × (v : Word) × IsSplit n c.args.rules.now u v)))
    c.shares_ahead-ahead.ensures.lengths c.all_are_joined.ensures
