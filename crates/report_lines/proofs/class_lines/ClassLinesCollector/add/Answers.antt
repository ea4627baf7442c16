use Rattle.std.proofs.Common.{◌≡◌, length, ap, arith}
use Rattle.std.proofs.lemmas.Result.{on_ok_weaker}
use Rattle.report_lines.specs.Collected.{TextLines}
use Rattle.report_lines.proofs.LineLaws.{text_more}
use Rattle.report_lines.proofs.class_lines.ClassLinesCollector.add.Goals as goal

pub returns-clause-holds : goal.returns-clause-holds
returns-clause-holds c =
    on_ok_weaker c.put.result
    (λ put classes so_far.
    let lines : length c.self.inside.lines.items ≡ length c.args.self.now.lines = ap (λ (s : TextLines). length s.lines) c.self.view_is in
    text_more c.args.self.now c.self.inside.texts.now c.self.inside.lines.items c.put.new.lines.items c.args.number c.behind_space-text.result.now c.self.view_is classes so_far
    c.args.place (omega (arith, so_far.count, c.requires.place.1.count, c.requires.place.2)) put c.behind_space-text.ensures)
    c.put.ensures
