use Rattle.std.proofs.Common.{ap, inr, map, refl, string_bytes, Bool, Err, Result}
use Rattle.semi.specs.Ends.{EndsBy}
use Rattle.run_parts.specs.declared.fault.Fault.{Fault}
use Rattle.semi.proofs.RunLaws.{none_set, passed_on, set_by}
use Rattle.semi.proofs.top.run.Goals as goal

pub returns-in_err-settings : goal.returns-in_err-settings
returns-in_err-settings g c =
    passed_on (λ (r : Result Bool Fault). EndsBy g.S.Source g.O.Sink c.args.source.now c.args.source.now c.args.out.now c.args.out.now (map (λ s. string_bytes s) c.args.words.now.items) r) _ _ c.from_residual.ensures.1
    (inr (none_set g.S.Source g.O.Sink c.args.source.now c.args.source.now c.args.out.now c.args.out.now _ _ (λ e. c.in_err-settings.ensures.refused (ap Err e)) refl refl))

pub returns : goal.returns
returns g c =
    set_by g.S.Source g.O.Sink c.args.source.now c.run_under.new.source c.args.out.now c.run_under.new.out _ c.in_ok-settings.settings c.run_under.result c.in_ok-settings.ensures.ok c.run_under.ensures
