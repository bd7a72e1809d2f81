use Rattle.coverage.specs.Table.{index_view_at}
use Rattle.coverage.proofs.TableScans.{judge_once, reads_once}
use Rattle.coverage.proofs.ScanHasStep.{judge_some, read_some}
use Rattle.coverage.proofs.table_laws.scans_are_exact.Goals as goal

pub returns : goal.returns
returns c = record {
  judged = λ w old p q one two. judge_once (index_view_at old.at w) old p q one two;
  read = reads_once;
  some_judged = λ w scan honest. judge_some (index_view_at scan.at w) scan honest;
  some_read = λ w scan b reads judged candidate more. read_some w scan reads judged b candidate more;
}
