-- a layout of nothing
use Rattle.std.specs.Prelude.{[]}
use Rattle.store_layout.specs.DiskLayout.{DiskLayout}

-- no table, no index and no block
abbrev pub no_layout : DiskLayout
no_layout = record { schema = record { tables = []; indexes = [] }; sizes = record { heap_blocks = 0; index_blocks = 0; status_blocks = 0; log_pages = 0; frames = 0 } }
