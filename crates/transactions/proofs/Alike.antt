-- Pages with the same statuses and tables show alike.
use Rattle.std.proofs.Common.{◌≡◌, ℕ, ◌<◌, List, [], length, Some, sym, ap, subst, ◌∙◌}
use Rattle.std.proofs.lemmas.List.FromFn.{fill_by_all, length-map-range_with_len}
use Rattle.block_model.specs.declared.row.RowId.{RowId}
use Rattle.block_model.specs.DatabaseState.{DatabaseState}
use Rattle.store_layout.specs.DiskLayout.{DiskLayout}
use Rattle.page_map.specs.PageMap.{PageMap, block_at}
use Rattle.heap_rows.specs.Heaps.{relation_of}
use Rattle.snapshot_core.specs.declared.table.Version.{Version}
use Rattle.snapshot_core.specs.StoredVersions.{AreVersions, stored}
use Rattle.snapshot_core.specs.VisibleState.{all_versions, visible_state}
use Rattle.transactions.specs.ShownVersions.{shown_tables, versions_of_table}
use Rattle.transactions.proofs.Tables.{same_versions, shown_at}
use Rattle.tx_table.specs.Kept.{HasSameStatusPages, started_blocks_kept, statuses_kept}
use Rattle.transactions.specs.GivenStatuses.{given_statuses}
use Rattle.transactions.specs.ShowsDatabase.{HaveBegun, ShowsDatabase}
use Rattle.transactions.specs.TransactionsState.{TransactionsState}
use Rattle.transactions.proofs.Shown.{blocks_kept}

-- the pages of each table are as before
abbrev pub HasSameTables : DiskLayout → PageMap → PageMap → Type 0
HasSameTables layout old new = (table block : ℕ) → table < length layout.schema.tables → block_at new (relation_of table) block ≡ block_at old (relation_of table) block

pub same_shown : (layout : DiskLayout) (old new : PageMap) → HasSameTables layout old new → shown_tables layout old ≡ shown_tables layout new
same_shown layout old new same =
    fill_by_all (versions_of_table layout new) (shown_tables layout old) (length layout.schema.tables) [] (length-map-range_with_len (versions_of_table layout old) 0 (length layout.schema.tables)) (λ k low.
    shown_at layout old k low ∙ sym (same_versions layout old new k (λ block. same k block low)))

pub shown_alike : (layout : DiskLayout) (old new : PageMap) (t : TransactionsState) (s : DatabaseState) → HasSameStatusPages old new → HasSameTables layout old new → ShowsDatabase layout old t s → ShowsDatabase layout new t s
shown_alike layout old new t s statuses tables shows =
    let same = same_shown layout old new tables in
    let gs = given_statuses t.tx shows.stored in
    record {
      stored = shows.stored;
      has = statuses_kept layout old new shows.stored statuses shows.has;
      next = shows.next;
      started = started_blocks_kept layout old new statuses shows.started;
      blocks = λ table below.
          let blocks = shows.blocks table below in
          (blocks.0, blocks_kept layout old new table blocks.0 (λ block. tables table block below) blocks.1);
      versions = subst (λ (ts : List (List Version)). AreVersions ts gs t.opens) same shows.versions;
      used = subst (λ (ts : List (List Version)). (id : RowId) (v : Version) → stored (all_versions ts) id ≡ Some v → HaveBegun t.tx.first shows.stored v) same shows.used;
      database = sym (ap (λ (ts : List (List Version)). visible_state (all_versions ts) gs t.opens) same) ∙ shows.database;
    }
