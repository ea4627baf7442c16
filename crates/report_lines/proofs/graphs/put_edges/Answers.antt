use Rattle.report_lines.proofs.ListingLemmas.{put_behind}
use Rattle.report_lines.proofs.graphs.put_edges.Goals as goal

pub returns : goal.returns
returns c = put_behind c.put_row.result c.args.line.now c.args.name.now c.text.new.self _ c.put_row.new.line c.in_ok-text.ensures c.put_row.ensures
