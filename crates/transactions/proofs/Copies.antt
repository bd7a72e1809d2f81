-- What a session has in its copy of the tables.
use Rattle.std.proofs.Common.{◌≡◌, Bool, true, false, cond, ℕ, ◌<◌, List, length, Option, None, Some, refl, sym, ap, subst, ◌∙◌, arith}
use Rattle.std.specs.Option.{is_some, option_map}
use Rattle.std.specs.FinMap.{get}
use Rattle.std.proofs.lemmas.Map.Entries.{option_filter}
use Rattle.block_model.specs.declared.place.Spot.{Spot}
use Rattle.block_model.specs.declared.row.Row.{Row}
use Rattle.block_model.specs.declared.row.RowId.{RowId}
use Rattle.block_model.specs.DatabaseState.{DatabaseState, OpenTransaction}
use Rattle.store_layout.specs.DiskLayout.{DiskLayout}
use Rattle.page_layout.specs.PageContents.{Slot}
use Rattle.page_layout.specs.RowBytes.{StoredRow}
use Rattle.page_map.specs.PageMap.{PageMap}
use Rattle.heap_rows.specs.RowPlaces.{slot_at}
use Rattle.snapshot_core.specs.declared.statuses.Status.{Status}
use Rattle.snapshot_core.specs.Visibility.{sees}
use Rattle.snapshot_core.specs.declared.table.Version.{Version}
use Rattle.snapshot_core.specs.declared.sessions.Open.{Open}
use Rattle.snapshot_core.specs.StoredVersions.{stored, transaction_of}
use Rattle.snapshot_core.specs.VersionsState.{standing_of}
use Rattle.snapshot_core.specs.VisibleState.{is_seen, table_of, visible_transaction}
use Rattle.snapshot_core.proofs.Stored.{get-table_of, row_of as its_row, stored_id}
use Rattle.snapshot_core.proofs.Copies.{get_open, get_visible, is_idle}
use Rattle.snapshot_core.proofs.Conflicts.{its_open}
use Rattle.transactions.specs.ShownVersions.{version_of}
use Rattle.tx_table.specs.Statuses.{HasStatuses}
use Rattle.transactions.specs.GivenStatuses.{given_statuses}
use Rattle.transactions.specs.Laws.{IsOfTransactions, IsSeenInCopy}
use Rattle.transactions.specs.Sessions.{HaveTransactions, IsCopyOf, open_standing}
use Rattle.transactions.specs.ShowsDatabase.{HaveBegun, ShowsDatabase}
use Rattle.transactions.specs.StoredRows.{StandsAt, StandsOnce, sees_row}
use Rattle.transactions.specs.TransactionsState.{TransactionsState}
use Rattle.transactions.proofs.Given.{length_given, status_given}
use Rattle.transactions.proofs.Marks.{row_stored}
use Rattle.transactions.proofs.Shown.{one_list_shown, versions_on_pages, whole}
use Rattle.transactions.proofs.Standing.{Stands, one_blocks, one_spot, stored_stands}

-- ---- the transaction

copy_of : (vs : List Version) (gs : List Status) (o : Open) (x : OpenTransaction) → visible_transaction gs vs o ≡ x → IsCopyOf o x
copy_of vs gs o x is = record { t = ap (λ (x : OpenTransaction). x.t) (sym is); next_k = ap (λ (x : OpenTransaction). x.next_k) (sym is); failed = ap (λ (x : OpenTransaction). x.failed) (sym is) }

its_standing : (gs : List Status) (vs : List Version) (o : Option Open) → standing_of (option_map (visible_transaction gs vs) o) ≡ open_standing o
its_standing gs vs None = refl
its_standing gs vs (Some o) = refl

pub sessions_shown : (layout : DiskLayout) (pages : PageMap) (t : TransactionsState) (s : DatabaseState) → ShowsDatabase layout pages t s → HaveTransactions t s
sessions_shown layout pages t s shows = record {
  next = ap (λ (s : DatabaseState). s.next) (sym shows.database) ∙ length_given t.tx shows.stored;
  shown = λ session o was. (visible_transaction gs vs o, get_open vs gs t.opens session o s shows.database was, copy_of vs gs o (visible_transaction gs vs o) refl);
  opened = λ session x there. let o = its_open gs vs (transaction_of t.opens session) x (sym (is session) ∙ there) in (o.0, o.1, copy_of vs gs o.0 x o.2);
  none = λ session none. is session ∙ ap (option_map (visible_transaction gs vs)) none;
  idle = λ session none. is_idle vs gs t.opens session s shows.database none;
  stands = λ session. ap standing_of (is session) ∙ its_standing gs vs (transaction_of t.opens session);
}
  where
    vs : List Version
    vs = versions_on_pages layout pages

    gs : List Status
    gs = given_statuses t.tx shows.stored

    is : (session : ℕ) → get s.sessions session ≡ option_map (visible_transaction gs vs) (transaction_of t.opens session)
    is session = ap (λ (s : DatabaseState). get s.sessions session) (sym shows.database) ∙ get_visible gs vs t.opens session

-- the session's transaction, as it is in the database
pub copy_is : {layout : DiskLayout} {pages : PageMap} {t : TransactionsState} {s : DatabaseState} (shows : ShowsDatabase layout pages t s) (session : ℕ) (o : Open) (x : OpenTransaction) → transaction_of t.opens session ≡ Some o → get s.sessions session ≡ Some x
    → x ≡ visible_transaction (given_statuses t.tx shows.stored) (versions_on_pages layout pages) o
copy_is {layout} {pages} {t} {s} shows session o x was there =
    let vs = versions_on_pages layout pages in
    let gs = given_statuses t.tx shows.stored in
    let same : Some x ≡ Some (visible_transaction gs vs o) = sym there ∙ get_open vs gs t.opens session o s shows.database was in
    cc

-- ---- what it sees

-- by the statuses that are stored
pub sees_as : {layout : DiskLayout} {pages : PageMap} {t : TransactionsState} {s : DatabaseState} (shows : ShowsDatabase layout pages t s) (o : Open) (table : ℕ) (row : StoredRow) → is_seen (given_statuses t.tx shows.stored) o (version_of table row) ≡ sees_row t.tx.first shows.stored o row
sees_as {t = t} shows o table row = λ i. sees o.snapshot o.t row.id.t row.deleter (status_given t.tx shows.stored row.id.t shows.next i) (status_given t.tx shows.stored row.deleter shows.next i)

seen_there : (b : Bool) (v : Version) → is_some (its_row (cond b (Some v) None)) ≡ b
seen_there true v = refl
seen_there false v = refl

-- a row in a slot, in the table of what passes
in_table : (p : Version → Bool) (vs : List Version) (v : Version) (got : get (table_of p vs) v.row.id ≡ its_row (option_filter p (stored vs v.row.id))) → stored vs v.row.id ≡ Some v → get (table_of p vs) v.row.id ≡ its_row (cond (p v) (Some v) None)
in_table p vs v got there = got ∙ ap (λ (o : Option Version). its_row (option_filter p o)) there

pub seen_in_copy : (layout : DiskLayout) (pages : PageMap) (t : TransactionsState) (s : DatabaseState) (stored : List Status) (session table : ℕ) (o : Open) (x : OpenTransaction) (spot : Spot) (row : StoredRow)
    → ShowsDatabase layout pages t s → HasStatuses layout pages stored → transaction_of t.opens session ≡ Some o → get s.sessions session ≡ Some x
    → table < length layout.schema.tables → StandsAt layout pages table spot row → IsSeenInCopy table x row (sees_row t.tx.first stored o row)
seen_in_copy layout pages t s ss session table o x spot row shows has was there below stands =
    let vs = versions_on_pages layout pages in
    let gs = given_statuses t.tx shows.stored in
    let v : Version = version_of table row in
    let is = copy_is shows session o x was there in
    let sees : is_seen gs o v ≡ sees_row t.tx.first ss o row = sees_as shows o table row ∙ ap (λ (stored : List Status). sees_row t.tx.first stored o row) (sym (one_list_shown shows ss has)) in
    let got : get x.view row.id ≡ its_row (cond (sees_row t.tx.first ss o row) (Some v) None) =
    ap (λ (x : OpenTransaction). get x.view row.id) is
    ∙ in_table (is_seen gs o) vs v (get-table_of (is_seen gs o) vs row.id (whole shows).ids_differ) (row_stored shows table spot row below stands)
    ∙ ap (λ (b : Bool). its_row (cond b (Some v) None)) sees in
    record {
      seen = ap is_some got ∙ seen_there (sees_row t.tx.first ss o row) v;
      is = λ yes. got ∙ ap (λ (b : Bool). its_row (cond b (Some v) None)) yes;
    }

-- ---- where its rows stand

-- a row that passes is of a version that does
passes : (p : Version → Bool) (o : Option Version) (row : Row) → its_row (option_filter p o) ≡ Some row → (v : Version) × (o ≡ Some v) × (v.row ≡ row) × (p v ≡ true)
passes p None row e = absurd (cc)
passes p (Some v) row e = go (p v) refl e
  where
    go : (b : Bool) → p v ≡ b → its_row (cond b (Some v) None) ≡ Some row → (w : Version) × (Some v ≡ Some w) × (w.row ≡ row) × (p w ≡ true)
    go true so e = (v, refl, (let same : v.row ≡ row = cc in same), so)
    go false not_so e = absurd (cc)

-- the version of a row of a copy
pub copied_version : {layout : DiskLayout} {pages : PageMap} {t : TransactionsState} {s : DatabaseState} (shows : ShowsDatabase layout pages t s) (session : ℕ) (o : Open) (x : OpenTransaction) (id : RowId) (row : Row) → transaction_of t.opens session ≡ Some o → get s.sessions session ≡ Some x → get x.view id ≡ Some row
    → (v : Version) × (stored (versions_on_pages layout pages) id ≡ Some v) × (v.row ≡ row) × (is_seen (given_statuses t.tx shows.stored) o v ≡ true)
copied_version {layout} {pages} {t} {s} shows session o x id row was there has =
    let vs = versions_on_pages layout pages in
    let gs = given_statuses t.tx shows.stored in
    passes (is_seen gs o) (stored vs id) row
    (sym (get-table_of (is_seen gs o) vs id (whole shows).ids_differ) ∙ ap (λ (x : OpenTransaction). get x.view id) (sym (copy_is shows session o x was there)) ∙ has)

stands_at : {layout : DiskLayout} {pages : PageMap} {v : Version} (stands : Stands layout pages v) → StandsAt layout pages v.row.table stands.spot stands.row
stands_at stands = record { blocks = stands.blocks; has = stands.has; there = stands.there }

-- it stands once
once : {layout : DiskLayout} {pages : PageMap} {t : TransactionsState} {s : DatabaseState} (shows : ShowsDatabase layout pages t s) (v : Version) → Stands layout pages v → StandsOnce layout pages v.row.table v.row
once {layout} {pages} shows v stands = record {
  spot = stands.spot;
  stored = stands.row;
  stands = stands_at stands;
  is = ap (λ (v : Version). v.row) stands.is;
  once = λ other row at same.
      let blocks = one_blocks layout pages v.row.table at.blocks stands.blocks at.has stands.has in
      one_spot layout pages v.row.table stands.blocks stands.spot other stands.row row (whole shows).ids_differ stands.below stands.has stands.there
      (ap (λ (blocks : List (List Slot)). slot_at blocks other) (sym blocks) ∙ at.there)
      (same ∙ ap (λ (v : Version). v.row.id) stands.is);
}

pub copy_stands : (layout : DiskLayout) (pages : PageMap) (t : TransactionsState) (s : DatabaseState) (session : ℕ) (x : OpenTransaction) (id : RowId) (row : Row)
    → ShowsDatabase layout pages t s → get s.sessions session ≡ Some x → get x.view id ≡ Some row
    → (row.table < length layout.schema.tables) × (row.id ≡ id) × StandsOnce layout pages row.table row
copy_stands layout pages t s session x id row shows there has =
    let o = (sessions_shown layout pages t s shows).opened session x there in
    let v = copied_version shows session o.0 x id row o.1 there has in
    let stands = stored_stands layout pages id v.0 shows.blocks v.1 in
    subst (λ (row : Row). (row.table < length layout.schema.tables) × (row.id ≡ id) × StandsOnce layout pages row.table row) v.2
    (stands.below, stored_id (versions_on_pages layout pages) id v.0 v.1, once shows v.0 stands)

-- ---- rows and their transactions

pub row_is_of : (layout : DiskLayout) (pages : PageMap) (t : TransactionsState) (s : DatabaseState) (stored : List Status) (table : ℕ) (spot : Spot) (row : StoredRow)
    → ShowsDatabase layout pages t s → HasStatuses layout pages stored → table < length layout.schema.tables → StandsAt layout pages table spot row → IsOfTransactions t stored row
row_is_of layout pages t s ss table spot row shows has below stands =
    let there = row_stored shows table spot row below stands in
    let known = (whole shows).known row.id (version_of table row) there in
    let long = length_given t.tx shows.stored in
    let begun = subst (λ (stored : List Status). HaveBegun t.tx.first stored (version_of table row)) (sym (one_list_shown shows ss has)) (shows.used row.id (version_of table row) there) in
    record { put = omega (arith, known.put, long); used = begun.put; gone = omega (arith, known.gone, long); deleted = begun.gone }

pub ids_apart : (layout : DiskLayout) (pages : PageMap) (t : TransactionsState) (s : DatabaseState) (table other : ℕ) (spot there : Spot) (row stands : StoredRow)
    → ShowsDatabase layout pages t s → table < length layout.schema.tables → other < length layout.schema.tables
    → StandsAt layout pages table spot row → StandsAt layout pages other there stands → row.id ≡ stands.id → (table ≡ other) × (spot ≡ there) × (row ≡ stands)
ids_apart layout pages t s table other spot there row stands shows below other_below at at_other same =
    let vs = versions_on_pages layout pages in
    let one : Some (version_of table row) ≡ Some (version_of other stands) = sym (row_stored shows table spot row below at) ∙ ap (stored vs) same ∙ row_stored shows other there stands other_below at_other in
    let is : version_of table row ≡ version_of other stands = cc in
    let tables : table ≡ other = ap (λ (v : Version). v.row.table) is in
    let at_one : StandsAt layout pages table there stands = subst (λ (k : ℕ). StandsAt layout pages k there stands) (sym tables) at_other in
    let blocks = one_blocks layout pages table at.blocks at_one.blocks at.has at_one.has in (
      tables,
      one_spot layout pages table at_one.blocks there spot stands row (whole shows).ids_differ below at_one.has at_one.there (ap (λ (blocks : List (List Slot)). slot_at blocks spot) (sym blocks) ∙ at.there) same,
      λ i. record { id = (is i).row.id; deleter = (is i).deleter; values = (is i).row.values },
    )
