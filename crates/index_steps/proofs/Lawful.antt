-- what the limits of a layout say of an index
use Rattle.std.proofs.Common.{◌≡◌, true, ℕ, ◌≤◌, ◌<◌, length, Bool}
use Rattle.std.specs.Prelude.{nat_le, nat_lt}
use Rattle.std.specs.List.{list_all}
use Rattle.std.proofs.lemmas.Bool.{and_parts, leb-true, ltb-true}
use Rattle.std.proofs.lemmas.List.Sums.{AllPass-from_list_all}
use Rattle.block_model.specs.declared.limits.TheConstants.{MAX_TUPLE}
use Rattle.block_model.specs.declared.schema.Index.{Index}
use Rattle.block_model.specs.declared.schema.Part.{Part}
use Rattle.block_model.specs.ClassLimits.{class_is_lawful, is_within}
use Rattle.block_model.specs.IndexedColumns.{columns_of}
use Rattle.block_model.specs.TupleSize.{tuple_size}
use Rattle.store_layout.specs.DiskLayout.{DiskLayout}
use Rattle.store_layout.specs.FirstBrokenRule.{KeepsLimits}
use Rattle.store_layout.specs.Limits.{columns_are_lawful, is_on_a_table, parts_are_lawful}
use Rattle.index_steps.specs.IndexTuples.{index_at, no_index}

within_low : (low high n : ℕ) → is_within low high n ≡ true → low ≤ n
within_low low high n e = leb-true low n (and_parts (nat_le low n) (nat_le n high) e).0

within_high : (low high n : ℕ) → is_within low high n ≡ true → n ≤ high
within_high low high n e = leb-true n high (and_parts (nat_le low n) (nat_le n high) e).1

module _ (layout : DiskLayout) (index : ℕ) (there : index < length layout.schema.indexes) (limits : KeepsLimits layout.schema layout.sizes) where
  abbrev its : Index
  its = index_at layout index

  of_all : (holds : Index → Bool) → list_all holds layout.schema.indexes ≡ true → holds its ≡ true
  of_all holds all = AllPass-from_list_all holds layout.schema.indexes all index no_index there

  on_a_table : is_on_a_table layout.schema its ≡ true
  on_a_table = of_all (is_on_a_table layout.schema) (and_parts (nat_le (length layout.schema.indexes) 8) (list_all (is_on_a_table layout.schema) layout.schema.indexes) (limits 3)).1

  pub its_table : its.table < length layout.schema.tables
  its_table = ltb-true its.table (length layout.schema.tables) (and_parts (nat_lt its.table (length layout.schema.tables)) (list_all (λ (p : Part). nat_lt p.column (length (columns_of layout.schema its))) its.parts) on_a_table).0

  pub its_columns : list_all (λ (p : Part). nat_lt p.column (length (columns_of layout.schema its))) its.parts ≡ true
  its_columns = (and_parts (nat_lt its.table (length layout.schema.tables)) (list_all (λ (p : Part). nat_lt p.column (length (columns_of layout.schema its))) its.parts) on_a_table).1

  pub its_parts : 1 ≤ length its.parts
  its_parts = within_low 1 8 (length its.parts) (and_parts (is_within 1 8 (length its.parts)) _
      (of_all parts_are_lawful (and_parts (list_all columns_are_lawful layout.schema.tables) (list_all parts_are_lawful layout.schema.indexes) (limits 2)).1)).0

  pub its_classes : list_all (class_is_lawful (columns_of layout.schema its)) its.parts ≡ true
  its_classes = of_all (λ (i : Index). list_all (class_is_lawful (columns_of layout.schema i)) i.parts) (limits 6)

  pub its_size : tuple_size (columns_of layout.schema its) its.parts ≤ MAX_TUPLE
  its_size = leb-true (tuple_size (columns_of layout.schema its) its.parts) MAX_TUPLE (of_all (λ (i : Index). nat_le (tuple_size (columns_of layout.schema i) i.parts) MAX_TUPLE) (limits 7))

  lawful_pages : is_within 1 131072 its.pages_per_range ≡ true
  lawful_pages = of_all (λ (i : Index). is_within 1 131072 i.pages_per_range) (limits 5)

  pub its_pages : (1 ≤ its.pages_per_range) × (its.pages_per_range ≤ 131072)
  its_pages = (within_low 1 131072 its.pages_per_range lawful_pages, within_high 1 131072 its.pages_per_range lawful_pages)
