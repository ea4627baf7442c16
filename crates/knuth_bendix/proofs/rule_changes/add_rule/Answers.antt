use Rattle.std.proofs.Common.{◌≡◌, ◌-◌, ◌++◌, ◌∷◌, [], List, length, length-append, not, refl, sym, ap, subst, arith}
use Rattle.std.specs.List.{filter}
use Rattle.std.specs.List.Sorted.{IsPermutation}
use Rattle.std.proofs.lemmas.List.Elements.{All-append, All-filter, All-push}
use Rattle.std.proofs.lemmas.List.Sorted.{All-permutation}
use Rattle.theory.specs.Word.{Word}
use Rattle.rewriting.specs.Rules.{stands_in}
use Rattle.knuth_bendix.specs.Logs.{AreLogged, IsLogged}
use Rattle.knuth_bendix.proofs.LogLaws.{all_still_logged, keeps_after}
use Rattle.knuth_bendix.proofs.RuleChanges.{adds_rule}
use Rattle.knuth_bendix.proofs.rule_changes.add_rule.Goals as goal

pub returns-clause-adds : goal.returns-clause-adds
returns-clause-adds c =
    let kept : List (Word × Word) = filter (λ r. not (stands_in c.args.left r.0)) c.args.rules.now in
    let newest : c.len-newest.result - 1 ≡ length kept =
    omega (arith, c.len-newest.ensures.len, ap length c.in_ok-gone.ensures.kept, length-append kept ((c.args.left, c.args.right) ∷ [])) in
    adds_rule c.args.length c.args.left c.args.right c.args.rules.now kept c.add.new.self c.rewrite_rights.new.rules
    c.args.pending.now.equations c.extend.new.self c.join_all.new.self.equations (c.len-newest.result - 1)
    (record { kept_is = refl; moved = subst (λ (es : List (Word × Word)). IsPermutation (c.args.pending.now.equations ++ es) c.extend.new.self) c.in_ok-gone.ensures.gone c.in_ok-extend.ensures }) newest
    c.in_ok-gone.ensures.kept c.in_ok-rewrite_rights.ensures.rewrites c.in_ok-rewrite_rights.ensures.done c.in_ok-join_all.ensures.gains
    c.in_ok-join_all.ensures.joined

pub rewrite_rights-requires-clause-logged : goal.rewrite_rights-requires-clause-logged
rewrite_rights-requires-clause-logged c =
    let kept : List (Word × Word) = filter (λ r. not (stands_in c.args.left r.0)) c.args.rules.now in
    subst (AreLogged c.args.pending.now.log) (sym c.in_ok-gone.ensures.kept)
    (All-push (IsLogged c.args.pending.now.log) kept (c.args.left, c.args.right)
    (All-filter (λ r. not (stands_in c.args.left r.0)) (IsLogged c.args.pending.now.log) c.args.rules.now c.requires.held.each_rule) c.requires.rule)

pub join_all-requires-clause-held : goal.join_all-requires-clause-held
join_all-requires-clause-held c =
    let gone : AreLogged c.args.pending.now.log c.in_ok-gone.gone.items =
    subst (AreLogged c.args.pending.now.log) (sym c.in_ok-gone.ensures.gone)
    (All-filter (λ r. stands_in c.args.left r.0) (IsLogged c.args.pending.now.log) c.args.rules.now c.requires.held.each_rule) in
    let between : AreLogged c.args.pending.now.log c.extend.new.self =
    All-permutation (IsLogged c.args.pending.now.log) (c.args.pending.now.equations ++ c.in_ok-gone.gone.items) c.extend.new.self c.in_ok-extend.ensures
    (All-append (IsLogged c.args.pending.now.log) c.args.pending.now.equations c.in_ok-gone.gone.items c.requires.held.each_equation gone) in
    record {
      each_rule = c.in_ok-rewrite_rights.ensures.logged;
      each_equation = all_still_logged c.args.pending.now.log c.rewrite_rights.new.log c.extend.new.self c.in_ok-rewrite_rights.ensures.grows between;
    }

pub returns-clause-logged : goal.returns-clause-logged
returns-clause-logged c =
    keeps_after c.args.pending.now.log c.rewrite_rights.new.log c.join_all.new.self.log c.rewrite_rights.new.rules c.join_all.new.self.equations
    c.in_ok-rewrite_rights.ensures.grows c.in_ok-join_all.ensures.logged
