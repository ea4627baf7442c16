use Rattle.std.proofs.Common.{◌∙◌, ap, sym, map, string_bytes}
use Rattle.clap.specs.Words.{App, app_of, fault_of, is_simple, is_simple_and_free, matches_of}
use Rattle.clap.proofs.WalkLemmas.{both}
use Rattle.settings.proofs.Semi.{semi_is_simple, semi_numbers, semi_refuses, semi_takes}
use Rattle.settings.proofs.matches_in.Goals as goal

pub returns-in_err-try_get_matches_from_mut-clause-refused : goal.returns-in_err-try_get_matches_from_mut-clause-refused
returns-in_err-try_get_matches_from_mut-clause-refused c =
    semi_refuses (app_of c.in_ok-command.command) _ c.in_err-try_get_matches_from_mut.field-0.0 _ c.in_ok-command.ensures
    c.in_err-try_get_matches_from_mut.ensures.passes c.from_residual-in_err-try_get_matches_from_mut.ensures.1

pub returns-clause-taken : goal.returns-clause-taken
returns-clause-taken c =
    let is = c.in_ok-command.ensures in
    semi_takes (map (λ s. string_bytes s) c.args.words.now)
    (ap (λ (a : App). fault_of a (map (λ s. string_bytes s) c.args.words.now)) (sym is) ∙ c.in_ok-try_get_matches_from_mut.ensures.kinds (ap is_simple_and_free is ∙ semi_is_simple))

pub returns-clause-rows : goal.returns-clause-rows
returns-clause-rows c =
    let is = c.in_ok-command.ensures in
    (c.in_ok-try_get_matches_from_mut.ensures.ok.2 (ap is_simple is ∙ (both _ _ semi_is_simple).0)).0 ∙ ap (λ (a : App). matches_of a (map (λ s. string_bytes s) c.args.words.now)) is

pub returns-clause-numbers : goal.returns-clause-numbers
returns-clause-numbers c =
    semi_numbers c.in_ok-command.command c.try_get_matches_from_mut.new.self c.in_ok-try_get_matches_from_mut.field-0 c.in_ok-command.ensures
    c.in_ok-try_get_matches_from_mut.ensures.after c.in_ok-try_get_matches_from_mut.ensures.fails c.in_ok-try_get_matches_from_mut.ensures.ok.1
