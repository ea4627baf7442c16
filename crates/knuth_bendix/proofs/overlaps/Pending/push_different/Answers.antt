use Rattle.std.proofs.Common.{[], ◌∷◌, ◌++◌}
use Rattle.std.proofs.lemmas.List.Elements.{All-push}
use Rattle.std.proofs.lemmas.List.Sorted.{All-permutation}
use Rattle.knuth_bendix.specs.Logs.{IsLogged}
use Rattle.knuth_bendix.proofs.LogLaws.{all_still_logged}
use Rattle.knuth_bendix.proofs.OverlapSteps.{different_tested}
use Rattle.knuth_bendix.proofs.overlaps.Pending.push_different.Goals as goal

pub returns-in_ok-push-2-clause-same : goal.returns-in_ok-push-2-clause-same
returns-in_ok-push-2-clause-same c =
    λ e. absurd ((different_tested c.args.left c.args.right c.letters.result.now c.letters-2.result.now c.ne.result
    c.letters.ensures c.letters-2.ensures c.ne.ensures).0 c.if-ne.true e)

pub returns-else-ne-clause-different : goal.returns-else-ne-clause-different
returns-else-ne-clause-different c =
    λ n. absurd (n ((different_tested c.args.left c.args.right c.letters.result.now c.letters-2.result.now c.ne.result
    c.letters.ensures c.letters-2.ensures c.ne.ensures).1 c.if-ne.false))

pub returns-in_ok-push-2-clause-logged : goal.returns-in_ok-push-2-clause-logged
returns-in_ok-push-2-clause-logged c =
    let differ = (different_tested c.args.left c.args.right c.letters.result.now c.letters-2.result.now c.ne.result
    c.letters.ensures c.letters-2.ensures c.ne.ensures).0 c.if-ne.true in
    All-permutation (IsLogged c.push.new.self) (c.args.self.now.equations ++ (c.args.left, c.args.right) ∷ []) c.push-then-ne.new.self c.in_ok-push-2.ensures
    (All-push (IsLogged c.push.new.self) c.args.self.now.equations (c.args.left, c.args.right)
    (all_still_logged c.args.self.now.log c.push.new.self c.args.self.now.equations c.in_ok-push.ensures.grows c.requires.logged) c.in_ok-push.ensures.logged)
