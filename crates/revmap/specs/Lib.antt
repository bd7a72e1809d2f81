pub mod MapEntries
