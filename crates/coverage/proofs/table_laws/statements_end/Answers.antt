use Rattle.coverage.proofs.ScansEndAlone.{scan_within, marks_within_ids}
use Rattle.coverage.proofs.DesummariseEnds.{desummarise_within}
use Rattle.coverage.proofs.SweepsEnd.{cleaning_fewer}
use Rattle.coverage.proofs.table_laws.statements_end.Goals as goal

pub returns : goal.returns
returns c = record {
  scans = λ s n rows w scan kept is few alone. scan_within s n rows w scan kept is few alone;
  marks = λ s n w scan ids kept is alone. marks_within_ids s n w scan ids kept is alone;
  desummarises = λ s n only at range w phase kept is alone. desummarise_within s n only at range w phase kept is alone;
  cleans = λ s w v step p kept point was cleaning. cleaning_fewer s w v step kept p point was cleaning;
}
