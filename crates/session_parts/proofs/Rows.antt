-- the rows of the table that pages show
use Rattle.std.proofs.Common.{◌≡◌, Bool, true, false, cond, List, Option, None, Some, refl, sym, ap, ◌∙◌}
use Rattle.std.specs.Option.{is_some}
use Rattle.std.specs.FinMap.{contains_key}
use Rattle.std.proofs.lemmas.Map.Entries.{option_filter}
use Rattle.std.proofs.lemmas.Bool.{false≢true}
use Rattle.block_model.specs.declared.row.RowId.{RowId}
use Rattle.block_model.specs.DatabaseState.{DatabaseState}
use Rattle.store_layout.specs.DiskLayout.{DiskLayout}
use Rattle.page_map.specs.PageMap.{PageMap}
use Rattle.snapshot_core.specs.declared.statuses.Status.{Status}
use Rattle.snapshot_core.specs.declared.table.Version.{Version}
use Rattle.snapshot_core.specs.StoredVersions.{stored}
use Rattle.snapshot_core.specs.VisibleState.{is_of_commit}
use Rattle.snapshot_core.proofs.Stored.{get-table_of, row_of}
use Rattle.transactions.specs.GivenStatuses.{given_statuses}
use Rattle.transactions.specs.ShowsDatabase.{ShowsDatabase}
use Rattle.transactions.specs.TransactionsState.{TransactionsState}
use Rattle.transactions.proofs.Shown.{versions_on_pages, whole}

-- a version that passes
passed : (p : Version → Bool) (found : Option Version) → is_some (row_of (option_filter p found)) ≡ true → (v : Version) × (found ≡ Some v) × (p v ≡ true)
passed p None there = absurd (false≢true there)
passed p (Some v) there = go (p v) refl there
  where
    go : (b : Bool) → p v ≡ b → is_some (row_of (cond b (Some v) None)) ≡ true → (w : Version) × (Some v ≡ Some w) × (p w ≡ true)
    go true is there = (v, refl, is)
    go false is there = absurd (false≢true there)

module _ {layout : DiskLayout} {pages : PageMap} {t : TransactionsState} {s : DatabaseState} (shows : ShowsDatabase layout pages t s) (id : RowId) where
  abbrev versions : List Version
  versions = versions_on_pages layout pages

  abbrev statuses : List Status
  statuses = given_statuses t.tx shows.stored

  in_table : contains_key s.table id ≡ is_some (row_of (option_filter (is_of_commit statuses) (stored versions id)))
  in_table = ap (λ (s : DatabaseState). contains_key s.table id) (sym shows.database) ∙ ap is_some (get-table_of (is_of_commit statuses) versions id (whole shows).ids_differ)

  -- each row of the table is a version of a commit
  pub row_is_version : contains_key s.table id ≡ true → (v : Version) × (stored versions id ≡ Some v) × (is_of_commit statuses v ≡ true)
  row_is_version there = passed (is_of_commit statuses) (stored versions id) (sym in_table ∙ there)

  -- and each of these is a row of the table
  pub version_is_row : (v : Version) → stored versions id ≡ Some v → is_of_commit statuses v ≡ true → contains_key s.table id ≡ true
  version_is_row v there is =
      in_table ∙ ap (λ (found : Option Version). is_some (row_of (option_filter (is_of_commit statuses) found))) there ∙ ap (λ b. is_some (row_of (cond b (Some v) None))) is
