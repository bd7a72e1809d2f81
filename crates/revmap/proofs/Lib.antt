pub mod RangeEntries
