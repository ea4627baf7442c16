use Rattle.std.proofs.Common.{◌∙◌, ◌∷◌, ◌++◌, [], ap}
use Rattle.report_lines.proofs.LineLaws.{line_more}
use Rattle.report_lines.proofs.class_lines.ClassLinesCollector.begin.Goals as goal

pub returns-clause-holds : goal.returns-clause-holds
returns-clause-holds c = λ classes so_far.
    line_more c.args.self.now c.self.inside.texts.now c.self.inside.lines.items c.push.new.self.items c.args.number c.text-text.result.now c.self.view_is classes so_far
    (c.in_ok-push.ensures.items ∙ ap (λ line. c.self.inside.lines.items ++ line ∷ []) c.in_ok-with_room.ensures) c.text-text.ensures
