use Rattle.std.proofs.Common.{◌≡◌, ◌+◌, ◌-◌, ◌++◌, ◌∷◌, [], List, length, length-append, ap, subst, sym, refl, ◌∙◌, arith, get_or, set, None, Some, ◌≤◌}
use Rattle.std.proofs.lemmas.List.{get_or_push}
use Rattle.theory.specs.Word.{Word}
use Rattle.rewriting.specs.Newer.{AreNewer, end_key}
use Rattle.rewriting.proofs.Standing.{rule_read}
use Rattle.rewriting.proofs.NewerLaws.{newer_with_last}
use Rattle.rewriting.proofs.newer.Newer.put_last.Goals as goal

pub returns : goal.returns
returns c =
    let others = c.requires.0 in
    let last = c.requires.1 in
    let same = c.requires.2 in
    let size : length c.args.rules.now ≡ length others + 1 = ap length same ∙ length-append others (last ∷ []) in
    let read = rule_read c.args.rules.now c.args.rules.now (c.len.result - 1) c.rule.result.now refl (omega (arith, size, c.len.ensures.len)) c.rule.ensures.rule in
    let place : c.len.result - 1 ≡ length others = omega (arith, size, c.len.ensures.len) in
    let left : c.letters-left.result.now ≡ last.0 =
    c.letters-left.ensures
    ∙ ap (λ (r : Word × Word). r.0) (read ∙ ap (λ i. get_or c.args.rules.now i ([], [])) place ∙ ap (λ (rs : List (Word × Word)). get_or rs (length others) ([], [])) same ∙ get_or_push others last ([], []) (length others) refl) in
    subst (λ (rs : List (Word × Word)). AreNewer rs c.args.first c.push.new.self) (sym same)
    (newer_with_last others c.args.first c.args.self.now c.push.new.self last c.requires.3 (c.takes.ensures c.if-not-takes.false).1 (subst (λ (w : Word). c.args.self.now.depth ≤ length w) left (c.takes.ensures c.if-not-takes.false).0)
    c.in_ok-push.ensures.depth (subst (λ (w : Word). c.push.new.self.before.items ≡ c.args.self.now.before.items ++ get_or c.args.self.now.latest.items (end_key c.args.self.now.depth w) None ∷ []) left c.in_ok-push.ensures.before)
    (subst (λ (w : Word). c.push.new.self.latest.items ≡ set c.args.self.now.latest.items (end_key c.args.self.now.depth w) (Some (length c.args.self.now.before.items))) left c.in_ok-push.ensures.latest))
