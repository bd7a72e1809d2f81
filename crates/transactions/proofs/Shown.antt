-- What is known of pages, numbers and open transactions that show a database.
use Rattle.std.proofs.Common.{◌≡◌, ◌≢◌, ℕ, ◌<◌, List, length, Some, sym, ap, subst, ◌∙◌, arith, ltb-false}
use Rattle.block_model.specs.DatabaseState.{DatabaseState}
use Rattle.store_layout.specs.DiskLayout.{DiskLayout}
use Rattle.page_layout.specs.PageContents.{HasSlots, IsUnstarted, Slot}
use Rattle.page_map.specs.PageMap.{PageMap, block_at}
use Rattle.heap_rows.specs.Heaps.{form_at, relation_of}
use Rattle.heap_rows.specs.HeapBlocks.{HasBlocks, slots_of}
use Rattle.snapshot_core.specs.declared.statuses.Status.{Status}
use Rattle.snapshot_core.specs.declared.statuses.Status.TheVariants.{Unused, Begun}
use Rattle.snapshot_core.specs.declared.table.Version.{Version}
use Rattle.snapshot_core.specs.declared.sessions.Open.{Open}
use Rattle.snapshot_core.specs.StoredVersions.{IsStored, transaction_of}
use Rattle.snapshot_core.specs.VisibleState.{all_versions, status_of, visible_state}
use Rattle.snapshot_core.proofs.Sights.{begun_known}
use Rattle.transactions.specs.ShownVersions.{shown_tables}
use Rattle.tx_table.specs.Statuses.{HasStatuses}
use Rattle.tx_table.specs.TxState.{IsOwn}
use Rattle.tx_table.proofs.Pages.{statuses_one}
use Rattle.transactions.specs.GivenStatuses.{given_status, given_statuses}
use Rattle.transactions.specs.ShowsDatabase.{ShowsDatabase}
use Rattle.transactions.specs.TransactionsState.{TransactionsState}
use Rattle.transactions.proofs.Given.{begun_given, length_given, status_given}

-- the versions that pages show, and the statuses of the transactions with a number
abbrev pub versions_on_pages : DiskLayout → PageMap → List Version
versions_on_pages layout pages = all_versions (shown_tables layout pages)

-- whichever statuses the pages have are those of the record
pub one_list_shown : {layout : DiskLayout} {pages : PageMap} {t : TransactionsState} {s : DatabaseState} (shows : ShowsDatabase layout pages t s) (stored : List Status) → HasStatuses layout pages stored → stored ≡ shows.stored
one_list_shown {layout} {pages} shows stored has = statuses_one layout pages stored shows.stored has shows.has

pub one_shown : (layout : DiskLayout) (pages : PageMap) (t : TransactionsState) (a b : DatabaseState) → ShowsDatabase layout pages t a → ShowsDatabase layout pages t b → a ≡ b
one_shown layout pages t a b one two =
    sym one.database
    ∙ ap (λ (stored : List Status). visible_state (versions_on_pages layout pages) (given_statuses t.tx stored) t.opens) (one_list_shown two one.stored one.has)
    ∙ two.database

-- the versions fit each other
pub whole : {layout : DiskLayout} {pages : PageMap} {t : TransactionsState} {s : DatabaseState} (shows : ShowsDatabase layout pages t s) → IsStored (versions_on_pages layout pages) (given_statuses t.tx shows.stored) t.opens
whole shows = shows.versions.stored

-- ---- an open transaction

-- it is one of this opening, and stored as begun
pub record IsOpenOne (t : TransactionsState) (stored : List Status) (o : Open) : Type 0 where
  pub some : o.t ≢ 0
  pub own : IsOwn t.tx o.t
  pub given : given_status t.tx.first stored o.t ≡ Begun
  pub begun : status_of stored o.t ≡ Begun
  pub within : o.t < length stored

pub open_one : {layout : DiskLayout} {pages : PageMap} {t : TransactionsState} {s : DatabaseState} (shows : ShowsDatabase layout pages t s) (session : ℕ) (o : Open) → transaction_of t.opens session ≡ Some o → IsOpenOne t shows.stored o
open_one {layout} {pages} {t} shows session o was =
    let under = (whole shows).under_way session o was in
    let some : o.t ≢ 0 = λ e. omega (arith, e, under.numbered) in
    let given : given_status t.tx.first shows.stored o.t ≡ Begun = sym (status_given t.tx shows.stored o.t shows.next) ∙ under.begun in
    let parts = begun_given t.tx.first shows.stored o.t given some in
    let low = begun_known (given_statuses t.tx shows.stored) o.t under.begun in
    record {
      some = some;
      own = record { opened = ltb-false o.t t.tx.first parts.0; given = omega (arith, low, length_given t.tx shows.stored) };
      given = given;
      begun = parts.1;
      within = begun_known shows.stored o.t parts.1;
    }

-- ---- blocks whose pages are as before

pub blocks_kept : (layout : DiskLayout) (old new : PageMap) (table : ℕ) (blocks : List (List Slot)) → ((block : ℕ) → block_at new (relation_of table) block ≡ block_at old (relation_of table) block) → HasBlocks layout old table blocks → HasBlocks layout new table blocks
blocks_kept layout old new table blocks same has = record {
  within = has.within;
  started = λ block low. subst (λ (page : List ℕ). HasSlots (form_at layout table) page (slots_of blocks block)) (sym (same block)) (has.started block low);
  unstarted = λ block past below. subst IsUnstarted (sym (same block)) (has.unstarted block past below);
}

-- statuses that differ where one isn't unused
pub begun_is_used : Begun ≢ Unused
begun_is_used e = absurd cc
