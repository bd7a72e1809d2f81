-- the room that tables have for rows ("Database Page Layout": a heap page has a fixed number of slots here)
use Rattle.std.specs.Prelude.{ℕ, ◌*◌, List, [], slice_get, Option, None, Some}
use Rattle.block_model.specs.declared.reply.Refusal.{Refusal}
use Rattle.block_model.specs.declared.reply.Refusal.TheVariants as refusals
use Rattle.block_model.specs.declared.schema.Table.{Table}
use Rattle.store_layout.specs.DiskLayout.{DiskLayout}

-- how many slots a table has on so many blocks
abbrev slots_on : ℕ → Option Table → ℕ
slots_on blocks None = 0
slots_on blocks (Some table) = blocks * table.rows_per_page

-- how many rows the table of that number may have
abbrev pub table_slots : DiskLayout → ℕ → ℕ
table_slots layout table = slots_on layout.sizes.heap_blocks (slice_get layout.schema.tables table)

abbrev name_in : Option Table → List ℕ
name_in None = []
name_in (Some table) = table.name

-- a full table is told by its name, with the number of its slots
abbrev pub full_table : DiskLayout → ℕ → Refusal
full_table layout table = refusals.Full (name_in (slice_get layout.schema.tables table)) (table_slots layout table)
