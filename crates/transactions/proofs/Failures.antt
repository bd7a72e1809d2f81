-- A session's transaction that fails.
use Rattle.std.proofs.Common.{◌≡◌, ℕ, set, Option, Some, IfSome, refl, ap, subst, ◌∙◌}
use Rattle.std.specs.FinMap.{get}
use Rattle.block_model.specs.declared.request.Request.{Request}
use Rattle.block_model.specs.declared.request.Request.TheVariants as requests
use Rattle.block_model.specs.declared.request.Tag.{Tag}
use Rattle.block_model.specs.declared.request.Tag.TheVariants as tags
use Rattle.block_model.specs.declared.row.Query.{Query}
use Rattle.block_model.specs.DatabaseState.{DatabaseState, OpenTransaction}
use Rattle.block_model.specs.RequestEffect as model
use Rattle.store_layout.specs.StatementRequests.{request_entry, tagged_entry}
use Rattle.store_layout.specs.DiskLayout.{DiskLayout}
use Rattle.page_map.specs.PageMap.{PageMap}
use Rattle.snapshot_core.specs.declared.sessions.Open.{Open}
use Rattle.snapshot_core.specs.SessionChanges.{failed_open}
use Rattle.snapshot_core.specs.StoredVersions.{transaction_of}
use Rattle.snapshot_core.specs.VisibleState.{visible_state}
use Rattle.snapshot_core.proofs.Copies.{Becomes, rewritten, still_all}
use Rattle.snapshot_core.proofs.Puttings.{failed_shown, failed_stored}
use Rattle.transactions.specs.GivenStatuses.{given_statuses}
use Rattle.transactions.specs.Laws.{FailsOnly}
use Rattle.transactions.specs.ShowsDatabase.{ShowsDatabase}
use Rattle.transactions.specs.TransactionsState.{TransactionsState, with_failed}
use Rattle.transactions.proofs.Shown.{versions_on_pages, whole}

pub failing : (t : TransactionsState) (session : ℕ) (o : Open) → transaction_of t.opens session ≡ Some o → Becomes t.opens (set t.opens session (Some (failed_open o))) session (Some (failed_open o))
failing t session o was = rewritten t.opens (set t.opens session (Some (failed_open o))) session o (Some (failed_open o)) was refl

-- the pages show what they show with it failed
pub shows_failed : (layout : DiskLayout) (pages : PageMap) (t : TransactionsState) (s : DatabaseState) (session : ℕ) (o : Open) (shows : ShowsDatabase layout pages t s) → transaction_of t.opens session ≡ Some o
    → ShowsDatabase layout pages (with_failed t session o) (visible_state (versions_on_pages layout pages) (given_statuses t.tx shows.stored) (set t.opens session (Some (failed_open o))))
shows_failed layout pages t s session o shows was =
    let at = failing t session o was in
    let vs = versions_on_pages layout pages in
    let now = set t.opens session (Some (failed_open o)) in
    record {
      stored = shows.stored;
      has = shows.has;
      next = shows.next;
      started = shows.started;
      blocks = shows.blocks;
      versions = record {
        places = still_all t.opens now session (Some (failed_open o)) shows.versions.places refl;
        own_table = shows.versions.own_table;
        stored = failed_stored vs (given_statuses t.tx shows.stored) t.opens now session o (whole shows) was at;
      };
      used = shows.used;
      database = refl;
    }

pub failure_shown : (layout : DiskLayout) (pages : PageMap) (t : TransactionsState) (s : DatabaseState) (session : ℕ) (o : Open) (x : OpenTransaction) → ShowsDatabase layout pages t s → transaction_of t.opens session ≡ Some o → get s.sessions session ≡ Some x
    → ShowsDatabase layout pages (with_failed t session o) (model.after_failure s session x)
failure_shown layout pages t s session o x shows was under_way =
    let vs = versions_on_pages layout pages in
    let gs = given_statuses t.tx shows.stored in
    let now = set t.opens session (Some (failed_open o)) in
    let is = failed_shown vs gs t.opens now session o s shows.database was (failing t session o was) in
    subst (ShowsDatabase layout pages (with_failed t session o)) (subst (λ (x : Option OpenTransaction). IfSome x (λ x. visible_state vs gs now ≡ model.after_failure s session x)) under_way is)
    (shows_failed layout pages t s session o shows was)

-- so it is told
refused : (s : DatabaseState) (session table : ℕ) (x : OpenTransaction) (request : Request) (tag : Tag) → get s.sessions session ≡ Some x
    → model.effect s (tagged_entry session table request tag) ≡ model.effect_within s session x table request tag
refused s session table x request tag under_way =
    model.effect_is s (tagged_entry session table request tag) ∙ ap (λ o. model.effect_at o s (tagged_entry session table request tag)) under_way

pub fails_only : (s : DatabaseState) (session table : ℕ) (x : OpenTransaction) → get s.sessions session ≡ Some x → FailsOnly s session table x
fails_only s session table x under_way = record {
  full = λ values. refused s session table x (requests.Put values) tags.Full under_way;
  short = λ values. refused s session table x (requests.Put values) tags.NoMemory under_way;
  blind = λ query. refused s session table x (requests.Look query) tags.NoMemory under_way;
}

pub look_shown : (s : DatabaseState) (session : ℕ) (x : OpenTransaction) (query : Query) → get s.sessions session ≡ Some x → model.effect s (request_entry session query.table (requests.Look query)) ≡ (s, model.Found (model.rows_found x query))
look_shown s session x query under_way = refused s session query.table x (requests.Look query) tags.Ok under_way
