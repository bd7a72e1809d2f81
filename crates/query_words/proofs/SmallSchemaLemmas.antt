-- a schema within the limits is small
use Rattle.std.proofs.Common.{◌≡◌, ℕ, nat_le, true, not, ◌&&◌, length, codes}
use Rattle.std.specs.List.{list_all, slice_index_or}
use Rattle.std.specs.Str.{bytes_eq}
use Rattle.std.proofs.lemmas.Bool.{leb-true, and_parts}
use Rattle.std.proofs.lemmas.List.Sums.{AllPass-from_list_all}
use Rattle.block_model.specs.declared.schema.Schema.{Schema}
use Rattle.block_model.specs.declared.schema.Sizes.{Sizes}
use Rattle.block_model.specs.declared.schema.Table.{Table}
use Rattle.store_layout.specs.FirstBrokenRule.{KeepsLimits}
use Rattle.store_layout.specs.Limits.{are_distinct, has_name, relation_names, columns_are_lawful, parts_are_lawful, is_on_a_table}
use Rattle.query_words.specs.SmallSchemas.{HasFewColumns, IsSmallSchema}

few_columns : (table : Table) → columns_are_lawful table ≡ true → HasFewColumns table
few_columns table h =
    let size = and_parts (nat_le 1 (length table.columns) && nat_le (length table.columns) 8) (are_distinct (λ a b. bytes_eq a.name b.name) table.columns) h in
    leb-true (length table.columns) 8 (and_parts (nat_le 1 (length table.columns)) (nat_le (length table.columns) 8) size.0).1

pub small_schema : (schema : Schema) (sizes : Sizes) → KeepsLimits schema sizes → IsSmallSchema schema
small_schema schema sizes h =
    let n : ℕ = length schema.tables in
    let outer = and_parts ((nat_le 1 n && nat_le n 8) && are_distinct bytes_eq (relation_names schema)) (not (has_name (codes "status") (relation_names schema))) (h 1) in
    let inner = and_parts (nat_le 1 n && nat_le n 8) (are_distinct bytes_eq (relation_names schema)) outer.0 in
    let indexes = and_parts (nat_le (length schema.indexes) 8) (list_all (is_on_a_table schema) schema.indexes) (h 3) in
    let columns = and_parts (list_all columns_are_lawful schema.tables) (list_all parts_are_lawful schema.indexes) (h 2) in
    record {
      tables = leb-true n 8 (and_parts (nat_le 1 n) (nat_le n 8) inner.0).1;
      columns = λ k d low. few_columns (slice_index_or schema.tables k d) (AllPass-from_list_all columns_are_lawful schema.tables columns.0 k d low);
      indexes = leb-true (length schema.indexes) 8 indexes.0;
    }
