use Rattle.std.proofs.Common.{ℕ, ◌<◌, Bool, [], length, subst}
use Rattle.block_model.specs.DatabaseState.{initial_state}
use Rattle.heap_rows.specs.HeapBlocks.{HasBlocks}
use Rattle.index_contents.specs.IndexContents.{index_page}
use Rattle.recovery.specs.PageOrder.{IsIndexInOrder}
use Rattle.page_map.specs.PageMap.{PageMap}
use Rattle.store_layout.specs.DiskLayout.{DiskLayout}
use Rattle.coverage.specs.TableCovered.{IsNewTable}
use Rattle.transactions.specs.CountedRows.{counts as counts_of}
use Rattle.transactions.specs.ShowsDatabase.{ShowsDatabase}
use Rattle.tx_table.specs.Statuses.{HasStatuses}
use Rattle.script_semantics.specs.Place.{Place}
use Rattle.script_semantics.specs.Starts.{IsLaidOut, IsStart}
use Rattle.session_parts.specs.ShowsPlace.{IsPlaceOf}
use Rattle.session_starts.specs.NewTables.{new_table}
use Rattle.session_starts.proofs.Starts.{of_fresh, of_store, start_shown}
use Rattle.session_starts.proofs.opening_laws.a_new_store_is_at_its_start.Goals as goal

pub returns : goal.returns
returns c = λ s same new.
    let layout = c.args.layout.now in
    let law = c.fresh_pages_show_a_new_database.ensures in
    let shows = c.fresh_pages_show_new_tables.ensures in
    let has = of_fresh (λ (l : DiskLayout) (p : PageMap). HasStatuses l p new.stored) layout s.layout s.pages same new.pages new.has in
    let database = of_store (λ (l : DiskLayout) (p : PageMap). ShowsDatabase l p s.transactions initial_state) layout s.layout s.pages same new.pages (law.database s.transactions new.stored has new.next new.opened) in
    let counts : ℕ → Bool = counts_of s.transactions database.stored in
    let blocks = of_store (λ (l : DiskLayout) (p : PageMap). (table : ℕ) → table < length l.schema.tables → HasBlocks l p table []) layout s.layout s.pages same new.pages law.blocks in
    let tables = of_store (λ (l : DiskLayout) (p : PageMap). (table : ℕ) → table < length l.schema.tables → IsNewTable (new_table l p s.locks table counts)) layout s.layout s.pages same new.pages
    (λ table below. shows.tables s.locks table counts new.unlocked) in
    let laid_out = of_store (λ (l : DiskLayout) (p : PageMap). (table : ℕ) → table < length l.schema.tables → IsLaidOut l table (new_table l p s.locks table counts)) layout s.layout s.pages same new.pages
    (λ table below. shows.laid_out s.locks table counts) in
    let order = of_store (λ (l : DiskLayout) (p : PageMap). (index : ℕ) → index < length l.schema.indexes → IsIndexInOrder l.sizes.index_blocks (index_page l p index)) layout s.layout s.pages same new.pages shows.order in
    subst (λ (l : DiskLayout). (p : Place) × IsStart l p × IsPlaceOf s p) same
    (start_shown s new database blocks tables laid_out order c.table_stays_covered.ensures.new c.an_opened_store_is_shown.ensures)
