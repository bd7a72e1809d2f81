use Rattle.coverage.proofs.NothingSkipped.{no_range_skipped, no_block_skipped, no_page_skipped, begins_at_first, no_first_range_skipped}
use Rattle.coverage.proofs.table_laws.nothing_is_skipped.Goals as goal

pub returns : goal.returns
returns c = record {
  ranges = λ s w v job at range old step is. no_range_skipped s w v step job at range old is;
  blocks = λ s w v step extent next is. no_block_skipped s w v step extent next is;
  begins = λ s w v step is. begins_at_first s w v step is;
  restarts = λ s w v at step is. no_first_range_skipped s w v step at is;
  pages = λ s w v step at page is. no_page_skipped s w v step at page is;
}
