-- what a scan knows of its table's indexes
use Rattle.std.specs.Prelude.{ℕ, ◌==◌, Bool, List, [], ◌∷◌, map, if◌then◌else◌}
use Rattle.block_model.specs.declared.schema.Index.{Index}
use Rattle.block_model.specs.declared.schema.Schema.{Schema}
use Rattle.block_model.specs.IndexedColumns.{columns_of}
use Rattle.block_model.specs.declared.row.Query.{Query}
use Rattle.range_tuple.specs.Tuples.{empty_column, parts_of}
use Rattle.bitmap_scan.specs.declared.readers.IndexReader.{IndexReader}
use Rattle.bitmap_scan.specs.declared.stage.Stage.{Stage}
use Rattle.bitmap_scan.specs.ScanHands.{ScanHand, ScannedIndex}

-- the index of a reader
abbrev pub scanned : IndexReader → ScannedIndex
scanned reader = record { number = reader.number; pages_per_range = reader.pages_per_range; classes = parts_of reader.tuple.columns }

abbrev pub all_scanned : List IndexReader → List ScannedIndex
all_scanned readers = map scanned readers

-- an index of a schema, which has this number
abbrev pub scanned_in : Schema → (number : ℕ) → Index → ScannedIndex
scanned_in schema number index =
    record { number = number; pages_per_range = index.pages_per_range; classes = parts_of (map (empty_column (columns_of schema index)) index.parts) }

-- if it is one of the table
abbrev pub scanned_if : Schema → (table number : ℕ) → Index → List ScannedIndex
scanned_if schema table number index = if index.table == table then scanned_in schema number index ∷ [] else []

-- what a scan with these readers has in hand
abbrev pub hand_at : Query → List IndexReader → Stage → (extent : ℕ) → List Bool → ScanHand
hand_at query readers stage extent candidates = record { query = query; indexes = all_scanned readers; stage = stage; extent = extent; candidates = candidates }
