use Rattle.std.proofs.Common.{◌≡◌, ◌∙◌, ap, subst, map, string_bytes, List, false, true}
use Rattle.clap.specs.Words.{Text, found_of, matches_of, rows_of, takes}
use Rattle.settings.specs.Settings.{semi_app}
use Rattle.settings.proofs.Semi.{semi_reads, semi_refused}
use Rattle.settings.proofs.settings_of.Goals as goal

pub returns-in_err-matches-clause-refused : goal.returns-in_err-matches-clause-refused
returns-in_err-matches-clause-refused c =
    let texts = map (λ s. string_bytes s) c.args.words.now.items in
    let same : map (λ s. string_bytes s) c.as_slice.result.now ≡ texts = ap (map (λ s. string_bytes s)) c.as_slice.ensures.value in
    semi_refused texts c.in_err-matches.field-0.0 c.matches_in.result _ c.in_err-matches.was
    (λ refused. subst (λ (ws : List Text). takes semi_app ws ≡ false) same (c.matches_in.ensures.refused refused)) c.from_residual.ensures.1

pub returns-clause-ok : goal.returns-clause-ok
returns-clause-ok c =
    let texts = map (λ s. string_bytes s) c.args.words.now.items in
    let same : map (λ s. string_bytes s) c.as_slice.result.now ≡ texts = ap (map (λ s. string_bytes s)) c.as_slice.ensures.value in
    semi_reads texts (rows_of (found_of c.in_ok-matches.matches)) _
    (subst (λ (ws : List Text). takes semi_app ws ≡ true) same c.in_ok-matches.ensures.taken) (c.in_ok-matches.ensures.rows ∙ ap (matches_of semi_app) same)
    c.number_of.ensures c.number_of-2.ensures c.number_of-3.ensures c.number_of-4.ensures c.number_of-5.ensures c.number_of-6.ensures c.given_number_of.ensures
