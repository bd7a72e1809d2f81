-- the store of the demo
use Rattle.std.specs.Prelude.{◌≡◌, ℕ, ◌+◌, ◌/◌, List, [], ◌∷◌, codes}
use Rattle.block_model.specs.declared.schema.Sizes.{Sizes}
use Rattle.store_layout.specs.DiskLayout.{DiskLayout}
use Rattle.command_line.specs.DeclaredSchema.{Denotes}

-- its declarations: a table of four columns, and an index on them with the four operator classes
unfoldable pub demo_declarations : List (List ℕ)
demo_declarations =
    codes "table d(k int8,v int8,r int8range,a inet) rows_per_page 16"
    ∷ codes "index di on d(k minmax,v multi 16,r inclusion,a bloom 4096 3) pages_per_range 16"
    ∷ []

-- its sizes: so many rows fill the blocks of the table, sixteen a block
abbrev pub demo_sizes : ℕ → Sizes
demo_sizes rows = record { heap_blocks = (rows + 15) / 16; index_blocks = 256; status_blocks = 1; log_pages = 128; frames = 256 }

-- the layout of these sizes and of what is declared
pub record IsDemoLayout (rows : ℕ) (layout : DiskLayout) : Type 0 where
  pub sizes_are : layout.sizes ≡ demo_sizes rows
  pub schema : Denotes demo_declarations layout.schema
