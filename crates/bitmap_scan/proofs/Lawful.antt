-- indexes within the limits
use Rattle.std.proofs.Common.{◌≡◌, true, ℕ, ◌≤◌, List, [], ◌∷◌, All, length}
use Rattle.std.specs.Prelude.{nat_le}
use Rattle.std.specs.List.{list_all}
use Rattle.std.proofs.lemmas.Bool.{and_parts, leb-true}
use Rattle.std.proofs.lemmas.List.Elements.{All-nil, All-cons}
use Rattle.block_model.specs.declared.limits.TheConstants.{MAX_TUPLE}
use Rattle.block_model.specs.declared.schema.Index.{Index}
use Rattle.block_model.specs.declared.schema.Schema.{Schema}
use Rattle.block_model.specs.declared.schema.Sizes.{Sizes}
use Rattle.block_model.specs.IndexedColumns.{columns_of}
use Rattle.block_model.specs.ClassLimits.{class_is_lawful, is_within}
use Rattle.block_model.specs.TupleSize.{tuple_size}
use Rattle.store_layout.specs.FirstBrokenRule.{KeepsLimits}
use Rattle.store_layout.specs.Limits.{columns_are_lawful, parts_are_lawful}
use Rattle.bitmap_scan.specs.ReadableIndexes.{AreReadable, IsReadable}

within_low : (low high n : ℕ) → is_within low high n ≡ true → low ≤ n
within_low low high n e = leb-true low n (and_parts (nat_le low n) (nat_le n high) e).0

one_index : (schema : Schema) (index : Index) → parts_are_lawful index ≡ true → is_within 1 131072 index.pages_per_range ≡ true → list_all (class_is_lawful (columns_of schema index)) index.parts ≡ true
    → nat_le (tuple_size (columns_of schema index) index.parts) MAX_TUPLE ≡ true → IsReadable schema index
one_index schema index parts pages classes size = record {
  some_columns = within_low 1 8 (length index.parts) (and_parts _ _ parts).0;
  classes = classes;
  size = leb-true (tuple_size (columns_of schema index) index.parts) MAX_TUPLE size;
  some_pages = within_low 1 131072 index.pages_per_range pages;
}

each_index : (schema : Schema) (indexes : List Index) → list_all parts_are_lawful indexes ≡ true → list_all (λ (i : Index). is_within 1 131072 i.pages_per_range) indexes ≡ true
    → list_all (λ (i : Index). list_all (class_is_lawful (columns_of schema i)) i.parts) indexes ≡ true → list_all (λ (i : Index). nat_le (tuple_size (columns_of schema i) i.parts) MAX_TUPLE) indexes ≡ true → All (IsReadable schema) indexes
each_index schema [] parts pages classes sizes = All-nil (IsReadable schema)
each_index schema (i ∷ is) parts pages classes sizes =
    All-cons (IsReadable schema) i is (one_index schema i (and_parts _ _ parts).0 (and_parts _ _ pages).0 (and_parts _ _ classes).0 (and_parts _ _ sizes).0)
    (each_index schema is (and_parts _ _ parts).1 (and_parts _ _ pages).1 (and_parts _ _ classes).1 (and_parts _ _ sizes).1)

-- what the limits say of a schema's indexes
pub lawful_indexes : (schema : Schema) (sizes : Sizes) → KeepsLimits schema sizes → AreReadable schema
lawful_indexes schema sizes limits = record {
  few = leb-true (length schema.indexes) 8 (and_parts (nat_le (length schema.indexes) 8) _ (limits 3)).0;
  indexes = each_index schema schema.indexes (and_parts (list_all columns_are_lawful schema.tables) _ (limits 2)).1 (limits 5) (limits 6) (limits 7);
}
