-- the limits of a store's tables, indexes and sizes: twelve rules
use Rattle.std.specs.Prelude.{ℕ, ◌/◌, ◌==◌, nat_lt, nat_le, Bool, true, not, ◌&&◌, List, [], ◌∷◌, ◌++◌, length, map, codes}
use Rattle.std.specs.List.{list_all, list_any}
use Rattle.std.specs.Str.{bytes_eq}
use Rattle.block_model.specs.declared.limits.TheConstants.{MAX_TUPLE, PAGE_ROOM}
use Rattle.block_model.specs.declared.schema.Table.{Table}
use Rattle.block_model.specs.declared.schema.Index.{Index}
use Rattle.block_model.specs.declared.schema.Schema.{Schema}
use Rattle.block_model.specs.declared.schema.Sizes.{Sizes}
use Rattle.block_model.specs.IndexedColumns.{columns_of}
use Rattle.block_model.specs.ClassLimits.{is_within, class_is_lawful}
use Rattle.block_model.specs.RowSize.{row_size}
use Rattle.block_model.specs.TupleSize.{tuple_size}

-- no element equals a later one
abbrev pub are_distinct : {X : Type 0} → (X → X → Bool) → List X → Bool
are_distinct equal [] = true
are_distinct equal (x ∷ xs) = not (list_any (equal x) xs) && are_distinct equal xs

-- the name is among them
abbrev pub has_name : List ℕ → List (List ℕ) → Bool
has_name name names = list_any (bytes_eq name) names

-- the tables' names, and then the indexes'
abbrev pub relation_names : Schema → List (List ℕ)
relation_names schema = map (λ t. t.name) schema.tables ++ map (λ i. i.name) schema.indexes

-- Rule 1: 1 to 8 tables; the names of tables and indexes are distinct, and none is `status`.
abbrev pub has_lawful_tables : Schema → Bool
has_lawful_tables schema =
    is_within 1 8 (length schema.tables) && are_distinct bytes_eq (relation_names schema) && not (has_name (codes "status") (relation_names schema))

-- a table's columns
abbrev pub columns_are_lawful : Table → Bool
columns_are_lawful table = is_within 1 8 (length table.columns) && are_distinct (λ a b. bytes_eq a.name b.name) table.columns

-- an index's columns
abbrev pub parts_are_lawful : Index → Bool
parts_are_lawful index = is_within 1 8 (length index.parts) && are_distinct (λ a b. a.column == b.column) index.parts

-- Rule 2: 1 to 8 columns in a table, with distinct names, and in an index, each once.
abbrev pub has_lawful_columns : Schema → Bool
has_lawful_columns schema = list_all columns_are_lawful schema.tables && list_all parts_are_lawful schema.indexes

-- the table is declared, and has each column
abbrev pub is_on_a_table : Schema → Index → Bool
is_on_a_table schema index =
    nat_lt index.table (length schema.tables) && list_all (λ p. nat_lt p.column (length (columns_of schema index))) index.parts

-- Rule 3: at most 8 indexes, each of a declared table and of columns of that table.
abbrev pub has_lawful_indexes : Schema → Bool
has_lawful_indexes schema = nat_le (length schema.indexes) 8 && list_all (is_on_a_table schema) schema.indexes

-- the page's 8160 bytes behind its header have room for the rows
abbrev pub rows_fit : Table → Bool
rows_fit table = is_within 1 (PAGE_ROOM / row_size (map (λ c. c.kind) table.columns)) table.rows_per_page

-- Rule 4: a table has 1 row per page, or more as far as they fit.
abbrev pub has_lawful_rows_per_page : Schema → Bool
has_lawful_rows_per_page schema = list_all rows_fit schema.tables

-- Rule 5: 1 to 131072 pages per range.
abbrev pub has_lawful_pages_per_range : Schema → Bool
has_lawful_pages_per_range schema = list_all (λ i. is_within 1 131072 i.pages_per_range) schema.indexes

-- Rule 6: each class takes its column's kind, and has lawful parameters.
abbrev pub has_lawful_classes : Schema → Bool
has_lawful_classes schema = list_all (λ i. list_all (class_is_lawful (columns_of schema i)) i.parts) schema.indexes

-- Rule 7: the greatest tuple of an index has at most 8156 bytes.
abbrev pub has_lawful_tuples : Schema → Bool
has_lawful_tuples schema = list_all (λ i. nat_le (tuple_size (columns_of schema i) i.parts) MAX_TUPLE) schema.indexes

-- Rule 8: 1 to 131072 blocks of a table.
abbrev pub has_lawful_heap_blocks : Sizes → Bool
has_lawful_heap_blocks sizes = is_within 1 131072 sizes.heap_blocks

-- Rule 9: 3 to 16384 blocks of an index.
abbrev pub has_lawful_index_blocks : Sizes → Bool
has_lawful_index_blocks sizes = is_within 3 16384 sizes.index_blocks

-- Rule 10: 1 to 64 blocks of statuses.
abbrev pub has_lawful_status_blocks : Sizes → Bool
has_lawful_status_blocks sizes = is_within 1 64 sizes.status_blocks

-- Rule 11: 16 to 4096 pages of the log.
abbrev pub has_lawful_log_pages : Sizes → Bool
has_lawful_log_pages sizes = is_within 16 4096 sizes.log_pages

-- Rule 12: 16 to 65536 frames.
abbrev pub has_lawful_frames : Sizes → Bool
has_lawful_frames sizes = is_within 16 65536 sizes.frames
