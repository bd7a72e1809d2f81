use Rattle.coverage.proofs.RangesExact.{whole_ranges, each_range, asks_first}
use Rattle.coverage.proofs.table_laws.ranges_are_exact.Goals as goal

pub returns : goal.returns
returns c = record {
  whole = λ w at range extent some. whole_ranges w at some range extent;
  each = λ w at range extent some. each_range w at some range extent;
  asks = λ w at b k some. asks_first w at some b k;
}
