use Rattle.coverage.proofs.TableSeen.{table_between_kept}
use Rattle.coverage.proofs.TableJudged.{replied_given}
use Rattle.coverage.proofs.TableScans.{table_scan_finds, replied_finds, marked_finds}
use Rattle.coverage.proofs.table_laws.table_scans_miss_nothing.Goals as goal

pub returns : goal.returns
returns c = record {
  found = table_scan_finds;
  replied = replied_finds;
  replies = λ s b k w v scan kept does is done reads sees. replied_finds v s b k scan (table_between_kept s w v kept does) is done reads sees;
  finds_only = λ w s b k scan kept is has. kept.finds s scan is b k has;
  to_mark = λ s b k w v scan marking ids kept does is onward sees. marked_finds v b k scan s marking ids (table_between_kept s w v kept does) is onward sees;
  marks = λ w s scan ids id kept is among. kept.marks s scan ids is id among;
  given = λ s w v scan kept does is done b. replied_given v scan ((table_between_kept s w v kept does).exact s scan is) done b;
}
