use Rattle.semi.proofs.UniqueReport.{one_report, same_status}
use Rattle.semi.proofs.whole.report_is_one.Goals as goal

pub returns : goal.returns
returns c = record { status = same_status; report = one_report }
