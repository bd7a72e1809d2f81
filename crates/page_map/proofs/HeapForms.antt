-- the rows of a page of each table of a layout fit it
use Rattle.std.proofs.Common.{◌≡◌, ◌*◌, ◌/◌, ◌≤◌, ◌&&◌, nat_le, true, length, map, get_or, refl, arith}
use Rattle.std.specs.List.{All, list_all}
use Rattle.std.specs.Str.{bytes_eq}
use Rattle.std.proofs.lemmas.Bool.{and_parts, leb-true}
use Rattle.std.proofs.lemmas.List.Sums.{AllPass-from_list_all}
use Rattle.std.proofs.Math.Nat.{mul-le-mul_right, div-mul-le_self}
use Rattle.block_model.specs.declared.schema.Schema.{Schema}
use Rattle.block_model.specs.declared.schema.Sizes.{Sizes}
use Rattle.block_model.specs.declared.schema.Table.{Table}
use Rattle.block_model.specs.RowSize.{row_size}
use Rattle.page_redo.specs.FirstBrokenRule.{KeepsLimits}
use Rattle.page_redo.specs.Limits.{are_distinct, columns_are_lawful, parts_are_lawful, rows_fit}
use Rattle.page_map.specs.Forms.{HasForm}

has_form : (table : Table) → columns_are_lawful table ≡ true → rows_fit table ≡ true → HasForm table
has_form table lawful fit =
    let kinds = map (λ c. c.kind) table.columns in
    let size = (and_parts (nat_le 1 (length table.columns) && nat_le (length table.columns) 8) (are_distinct (λ a b. bytes_eq a.name b.name) table.columns) lawful).0 in
    let few = leb-true (length table.columns) 8 (and_parts (nat_le 1 (length table.columns)) (nat_le (length table.columns) 8) size).1 in
    let most = leb-true table.rows_per_page (8160 / row_size kinds) (and_parts (nat_le 1 table.rows_per_page) (nat_le table.rows_per_page (8160 / row_size kinds)) fit).1 in
    let room : table.rows_per_page * row_size kinds ≤ 8160 = omega (arith, mul-le-mul_right (row_size kinds) most, div-mul-le_self 8160 (row_size kinds)) in
    record { few = few; form = (refl, room, refl) }

pub have_forms : (schema : Schema) (sizes : Sizes) → KeepsLimits schema sizes → All HasForm schema.tables
have_forms schema sizes keeps =
    let columns = (and_parts (list_all columns_are_lawful schema.tables) (list_all parts_are_lawful schema.indexes) (keeps 2)).0 in
    λ n d below. has_form (get_or schema.tables n d) (AllPass-from_list_all columns_are_lawful schema.tables columns n d below) (AllPass-from_list_all rows_fit schema.tables (keeps 4) n d below)
