use Rattle.std.proofs.Common.{◌≡◌, ◌∙◌, ap, codes, false}
use Rattle.std.proofs.lemmas.Result.{IfOk-weaker}
use Rattle.clap.specs.Words.{AddsArg, App, Rule, app_of, new_app, rule_of, with_rule}
use Rattle.clap.specs.declared.builder.arg.Arg.{Arg}
use Rattle.clap.specs.declared.builder.command.Command.{Command}
use Rattle.settings.specs.Settings.{classes_rule, defs_rule, elements_rule, length_rule, make_rule, rows_rule, semi_app, workers_rule}
use Rattle.settings.proofs.semi_command.Goals as goal

-- an argument more is a rule more
rule_more : (old new : Command) (a : Arg) (app : App) (rule : Rule) → AddsArg old a new → a.global ≡ false → rule_of a ≡ rule → app_of old ≡ app → app_of new ≡ with_rule app rule
rule_more old new a app rule adds local is same = adds.shape local ∙ ap (λ x. with_rule x (rule_of a)) same ∙ ap (with_rule app) is

abbrev bare : App
bare = new_app (codes "semi")

abbrev with_rows : App
with_rows = with_rule bare rows_rule

abbrev with_defs : App
with_defs = with_rule with_rows defs_rule

abbrev with_length : App
with_length = with_rule with_defs length_rule

abbrev with_elements : App
with_elements = with_rule with_length elements_rule

abbrev with_classes : App
with_classes = with_rule with_elements classes_rule

abbrev with_workers : App
with_workers = with_rule with_classes workers_rule

pub returns : goal.returns
unfolding semi_app
returns c =
    let first : app_of c.in_ok-arg.field-0 ≡ with_rows
    = rule_more c.new.result c.in_ok-arg.field-0 c.number_option.result bare rows_rule c.in_ok-arg.ensures c.number_option.ensures.local c.number_option.ensures.rule c.new.ensures.app in
    let second : app_of c.in_ok-arg-2.field-0 ≡ with_defs
    = rule_more c.in_ok-arg.field-0 c.in_ok-arg-2.field-0 c.number_option-2.result with_rows defs_rule c.in_ok-arg-2.ensures c.number_option-2.ensures.local c.number_option-2.ensures.rule first in
    let third : app_of c.in_ok-arg-3.field-0 ≡ with_length
    = rule_more c.in_ok-arg-2.field-0 c.in_ok-arg-3.field-0 c.number_option-3.result with_defs length_rule c.in_ok-arg-3.ensures c.number_option-3.ensures.local c.number_option-3.ensures.rule second in
    let fourth : app_of c.in_ok-arg-4.field-0 ≡ with_elements
    = rule_more c.in_ok-arg-3.field-0 c.in_ok-arg-4.field-0 c.number_option-4.result with_length elements_rule c.in_ok-arg-4.ensures c.number_option-4.ensures.local c.number_option-4.ensures.rule third in
    let fifth : app_of c.in_ok-arg-5.field-0 ≡ with_classes
    = rule_more c.in_ok-arg-4.field-0 c.in_ok-arg-5.field-0 c.number_option-5.result with_elements classes_rule c.in_ok-arg-5.ensures c.number_option-5.ensures.local c.number_option-5.ensures.rule fourth in
    let sixth : app_of c.in_ok-arg-6.field-0 ≡ with_workers
    = rule_more c.in_ok-arg-5.field-0 c.in_ok-arg-6.field-0 c.number_option-6.result with_classes workers_rule c.in_ok-arg-6.ensures c.number_option-6.ensures.local c.number_option-6.ensures.rule fifth in
    IfOk-weaker c.arg-7.result _ _
    (λ new adds. rule_more c.in_ok-arg-6.field-0 new c.optional_number.result with_workers make_rule adds c.optional_number.ensures.local c.optional_number.ensures.rule sixth)
    c.arg-7.ensures
