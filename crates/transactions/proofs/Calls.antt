-- A begin and an end of a session's transaction.
use Rattle.std.proofs.Common.{◌≡◌, ◌≢◌, Bool, true, false, cond, not, ℕ, ◌+◌, ◌<◌, ◌≤◌, List, [], ◌∷◌, ◌++◌, length, replicate, set, Option, None, Some, inl, inr, refl, sym, ap, subst, ◌∙◌, arith}
use Rattle.std.specs.FinMap.{get}
use Rattle.std.specs.Option.{IfSome, IsSome, IsSomeAnd, option_map}
use Rattle.std.specs.Ordering.{eq_by_cmp, nat_cmp}
use Rattle.std.proofs.lemmas.Bool.{cases_eq, false≢true}
use Rattle.std.proofs.lemmas.List.{length-replicate}
use Rattle.disk_trait.specs.Told.{Told}
use Rattle.block_model.specs.declared.place.Place.{Place}
use Rattle.block_model.specs.declared.request.Entry.{Entry}
use Rattle.block_model.specs.declared.request.Request.TheVariants as requests
use Rattle.block_model.specs.declared.row.RowId.{RowId}
use Rattle.block_model.specs.DatabaseState.{DatabaseState, OpenTransaction}
use Rattle.block_model.specs.RequestEffect as model
use Rattle.block_model.specs.RequestLaws.{failed_commit_ends}
use Rattle.store_layout.specs.declared.limits.TheConstants.{MAX_SESSIONS}
use Rattle.store_layout.specs.StatementRequests.{request_entry}
use Rattle.store_layout.specs.DiskLayout.{DiskLayout}
use Rattle.heap_rows.specs.Survives.{Survives, survives_weaker}
use Rattle.page_map.specs.Keeps.{Keeps, Leaves, Tells}
use Rattle.page_map.specs.PageMap.{PageMap, View, block_at, page_at}
use Rattle.heap_rows.specs.Heaps.{relation_of}
use Rattle.snapshot_core.specs.declared.statuses.Status.{Status}
use Rattle.snapshot_core.specs.declared.statuses.Status.TheVariants.{Unused, Begun, Committed, RolledBack}
use Rattle.snapshot_core.specs.declared.table.Version.{Version}
use Rattle.snapshot_core.specs.declared.sessions.Open.{Open}
use Rattle.snapshot_core.specs.SessionChanges.{ended}
use Rattle.snapshot_core.specs.StoredVersions.{IsStored, stored, transaction_of}
use Rattle.snapshot_core.specs.VisibleState.{all_versions, status_of, visible_state, visible_transaction}
use Rattle.snapshot_core.proofs.Begins.{begun_effect, begun_stored, new_open}
use Rattle.snapshot_core.proofs.Copies.{Becomes, becomes, get_open, get_visible, rewritten, still_all}
use Rattle.snapshot_core.proofs.Ends.{committed_effect, ended_stored, rolled_effect}
use Rattle.snapshot_core.proofs.Fresh.{nobody_at}
use Rattle.transactions.specs.ShownVersions.{shown_tables}
use Rattle.transactions.proofs.Tables.{own_table}
use Rattle.tx_table.specs.Durable.{HasPart, IsBefore}
use Rattle.tx_table.specs.LeavesRest.{AreStarted, LeavesRest}
use Rattle.tx_table.specs.Statuses.{HasStatuses, OfStatuses, number_limit, status_relation}
use Rattle.tx_table.specs.TxState.{IsNext, IsOver, IsOwn, TxState}
use Rattle.tx_table.proofs.Lists.{next_begun, next_kept}
use Rattle.tx_table.proofs.Parts.{part_none}
use Rattle.transactions.specs.GivenStatuses.{given_status, given_statuses}
use Rattle.transactions.specs.ShowsDatabase.{DoesRequest, HaveBegun, OfDatabase, ShowsDatabase, ShowsSome}
use Rattle.transactions.specs.TransactionsState.{AreOpen, TransactionsState, next_open, with_begun, with_open}
use Rattle.transactions.proofs.Alike.{same_shown}
use Rattle.transactions.proofs.Given.{ended_stays, given_begun, given_changed, given_ended, given_other, given_unused, length_given, still_begun}
use Rattle.transactions.proofs.Shown.{begun_is_used, blocks_kept, one_list_shown, open_one, versions_on_pages, whole}

-- the pages of every other relation are as before
abbrev pub OnlyStatuses : PageMap → PageMap → Type 0
OnlyStatuses old new = (place : Place) → place.relation ≢ status_relation → page_at new place ≡ page_at old place

-- so each table's are
table_pages : (old new : PageMap) → OnlyStatuses old new → (table block : ℕ) → block_at new (relation_of table) block ≡ block_at old (relation_of table) block
table_pages old new rest table block = rest (record { relation = relation_of table; block = block }) (λ e. absurd (let none : table + 1 ≡ 0 = e in omega arith))

-- ---- statuses and open transactions that change, while each row stays

module _ (layout : DiskLayout) (old new : PageMap) (t now : TransactionsState) (s : DatabaseState) (shows : ShowsDatabase layout old t s) (rest : OnlyStatuses old new) where
  tables : shown_tables layout old ≡ shown_tables layout new
  tables = same_shown layout old new (λ table block below. table_pages old new rest table block)

  pub moved : (stored_now : List Status) → HasStatuses layout new stored_now → IsNext stored_now now.tx.next → AreStarted layout new → length now.opens ≡ MAX_SESSIONS
      → IsStored (versions_on_pages layout old) (given_statuses now.tx stored_now) now.opens
      → ((id : RowId) (v : Version) → stored (versions_on_pages layout old) id ≡ Some v → HaveBegun now.tx.first stored_now v)
      → ShowsDatabase layout new now (visible_state (versions_on_pages layout old) (given_statuses now.tx stored_now) now.opens)
  moved stored_now has next started places fit used =
      let gs = given_statuses now.tx stored_now in
      record {
        stored = stored_now;
        has = has;
        next = next;
        started = started;
        blocks = λ table below.
            let was = shows.blocks table below in
            (was.0, blocks_kept layout old new table was.0 (λ block. table_pages old new rest table block) was.1);
        versions = record {
          places = places;
          own_table = own_table layout new;
          stored = subst (λ (ts : List (List Version)). IsStored (all_versions ts) gs now.opens) tables fit;
        };
        used = subst (λ (ts : List (List Version)). (id : RowId) (v : Version) → stored (all_versions ts) id ≡ Some v → HaveBegun now.tx.first stored_now v) tables used;
        database = sym (ap (λ (ts : List (List Version)). visible_state (all_versions ts) gs now.opens) tables);
      }

-- ---- a begin

pub begin_shown : (layout : DiskLayout) (old new : PageMap) (t : TransactionsState) (s : DatabaseState) (session : ℕ) (shows : ShowsDatabase layout old t s) → OnlyStatuses old new → HasStatuses layout new (set shows.stored t.tx.next Begun) → AreStarted layout new
    → t.tx.first ≤ t.tx.next → t.tx.next < number_limit layout → session < MAX_SESSIONS → transaction_of t.opens session ≡ None
    → DoesRequest layout new (with_begun t session) s (request_entry session 0 requests.Begin) (model.Begun t.tx.next)
begin_shown layout old new t s session shows rest has started opened below small idle =
    let vs = versions_on_pages layout old in
    let gs = given_statuses t.tx shows.stored in
    let long : length gs ≡ t.tx.next = length_given t.tx shows.stored in
    let now = set t.opens session (Some (next_open t)) in
    let o = new_open (length gs) t.opens in
    let place : session < length t.opens = omega (arith, small, shows.versions.places) in
    let is : now ≡ set t.opens session (Some o) = ap (λ (k : ℕ). set t.opens session (Some (new_open k t.opens))) (sym long) in
    let at : Becomes t.opens now session (Some o) = becomes t.opens now session (Some o) place is in
    let within : t.tx.next < length shows.stored = omega (arith, below, shows.has.counted) in
    let stored_now = set shows.stored t.tx.next Begun in
    let given : given_statuses (record t.tx { next = t.tx.next + 1 }) stored_now ≡ gs ++ Begun ∷ [] = given_begun t.tx shows.stored shows.next opened within in
    let none : get s.sessions session ≡ None = nobody vs gs t.opens session s shows.database idle in (
      _,
      begun_effect vs gs t.opens now session s shows.database none (whole shows) at
          ∙ (λ i. (visible_state vs (sym given i) now, model.Begun (long i))),
      moved layout old new t (with_begun t session) s shows rest stored_now has
          (next_begun shows.stored t.tx.next (t.tx.next + 1) Begun shows.next refl within begun_is_used) started
          (still_all t.opens now session (Some (next_open t)) shows.versions.places refl)
          (subst (λ (ss : List Status). IsStored vs ss now) (sym given) (begun_stored vs gs t.opens now session (whole shows) idle at))
          (λ id v there. still_begun t.tx.first t.tx.first shows.stored stored_now v (λ u before none. before (sym (given_other t.tx.first shows.stored t.tx.next u Begun (not_next u before)) ∙ none)) (shows.used id v there)),
    )
  where
    not_next : (u : ℕ) → given_status t.tx.first shows.stored u ≢ Unused → u ≢ t.tx.next
    not_next u before same = before (ap (given_status t.tx.first shows.stored) same ∙ given_unused t.tx.first shows.stored t.tx.next (shows.next.unused t.tx.next (omega arith)))

    nobody : (vs : List Version) (gs : List Status) (os : List (Option Open)) (n : ℕ) (s : DatabaseState) → visible_state vs gs os ≡ s → transaction_of os n ≡ None → get s.sessions n ≡ None
    nobody vs gs os n s view none = ap (λ (s : DatabaseState). get s.sessions n) (sym view) ∙ get_visible gs vs os n ∙ ap (option_map (visible_transaction gs vs)) none

-- ---- an end

module _ (layout : DiskLayout) (old new : PageMap) (t : TransactionsState) (s : DatabaseState) (session : ℕ) (o : Open) (e : Status) (shows : ShowsDatabase layout old t s) (rest : OnlyStatuses old new) (has : HasStatuses layout new (set shows.stored o.t e)) (started : AreStarted layout new)
    (within : t.tx.next ≤ number_limit layout) (was : transaction_of t.opens session ≡ Some o) (ends : e ≢ Begun) (used : e ≢ Unused) where
  now : List (Option Open)
  now = set t.opens session None

  pub given_now : given_statuses t.tx (set shows.stored o.t e) ≡ set (given_statuses t.tx shows.stored) o.t e
  given_now = let one = open_one shows session o was in given_ended t.tx shows.stored o.t e shows.next one.some one.own.given one.within ends

  pub ending : Becomes t.opens (set t.opens session None) session None
  ending = rewritten t.opens (set t.opens session None) session o None was refl

  pub end_shows : ShowsDatabase layout new (with_open t session None) (visible_state (versions_on_pages layout old) (given_statuses t.tx (set shows.stored o.t e)) (set t.opens session None))
  end_shows =
      let vs = versions_on_pages layout old in
      let gs = given_statuses t.tx shows.stored in
      let one = open_one shows session o was in
      moved layout old new t (with_open t session None) s shows rest (set shows.stored o.t e) has
      (next_kept shows.stored t.tx.next o.t e shows.next one.own.given (omega (arith, within, shows.has.counted)) used) started
      (still_all t.opens (set t.opens session None) session None shows.versions.places refl)
      (subst (λ (ss : List Status). IsStored vs ss (set t.opens session None)) (sym given_now) (ended_stored vs gs t.opens (set t.opens session None) session o e (whole shows) was ending ends))
      (λ id v there. still_begun t.tx.first t.tx.first shows.stored (set shows.stored o.t e) v used_now (shows.used id v there))
    where
      used_now : (u : ℕ) → given_status t.tx.first shows.stored u ≢ Unused → given_status t.tx.first (set shows.stored o.t e) u ≢ Unused
      used_now u before = elim (cases_eq u o.t) [
        | inl same ↦
            let one = open_one shows session o was in
            λ none. used (sym (ap (given_status t.tx.first (set shows.stored o.t e)) same ∙ given_changed t.tx.first shows.stored o.t e one.some one.within ∙ ended_stays _ e ends) ∙ none)
        | inr apart ↦ λ none. before (sym (given_other t.tx.first shows.stored o.t u e apart) ∙ none)
      ]

pub committed_shown : (layout : DiskLayout) (old new : PageMap) (t : TransactionsState) (s : DatabaseState) (session : ℕ) (o : Open) (shows : ShowsDatabase layout old t s) → OnlyStatuses old new → HasStatuses layout new (set shows.stored o.t Committed) → AreStarted layout new
    → t.tx.next ≤ number_limit layout → transaction_of t.opens session ≡ Some o → o.failed ≡ false → DoesRequest layout new (with_open t session None) s (request_entry session 0 requests.Commit) model.Committed
committed_shown layout old new t s session o shows rest has started within was unfailed =
    let vs = versions_on_pages layout old in
    let gs = given_statuses t.tx shows.stored in
    let given = given_now layout old new t s session o Committed shows rest has started within was committed_ends committed_used in
    let as_said : (visible_state vs (set gs o.t (ended o.failed)) (set t.opens session None), cond (not o.failed) model.Committed model.RolledBack) ≡ (visible_state vs (set gs o.t Committed) (set t.opens session None), model.Committed) =
    ap (λ (b : Bool). (visible_state vs (set gs o.t (ended b)) (set t.opens session None), cond (not b) model.Committed model.RolledBack)) unfailed in (
      _,
      committed_effect vs gs t.opens (set t.opens session None) session o s shows.database (whole shows) was (ending layout old new t s session o Committed shows rest has started within was committed_ends committed_used)
          ∙ as_said
          ∙ (λ i. (visible_state vs (sym given i) (set t.opens session None), model.Committed)),
      end_shows layout old new t s session o Committed shows rest has started within was committed_ends committed_used,
    )
  where
    committed_ends : Committed ≢ Begun
    committed_ends e = absurd cc

    committed_used : Committed ≢ Unused
    committed_used e = absurd cc

pub rolled_shown : (layout : DiskLayout) (old new : PageMap) (t : TransactionsState) (s : DatabaseState) (session : ℕ) (o : Open) (shows : ShowsDatabase layout old t s) → OnlyStatuses old new → HasStatuses layout new (set shows.stored o.t RolledBack) → AreStarted layout new
    → t.tx.next ≤ number_limit layout → transaction_of t.opens session ≡ Some o → DoesRequest layout new (with_open t session None) s (request_entry session 0 requests.Rollback) model.RolledBack
rolled_shown layout old new t s session o shows rest has started within was =
    let vs = versions_on_pages layout old in
    let gs = given_statuses t.tx shows.stored in
    let given = given_now layout old new t s session o RolledBack shows rest has started within was rolled_ends rolled_used in (
      _,
      rolled_effect vs gs t.opens (set t.opens session None) session o s shows.database (whole shows) was (ending layout old new t s session o RolledBack shows rest has started within was rolled_ends rolled_used)
          ∙ (λ i. (visible_state vs (sym given i) (set t.opens session None), model.RolledBack)),
      end_shows layout old new t s session o RolledBack shows rest has started within was rolled_ends rolled_used,
    )
  where
    rolled_ends : RolledBack ≢ Begun
    rolled_ends e = absurd cc

    rolled_used : RolledBack ≢ Unused
    rolled_used e = absurd cc

-- a commit of a failed transaction is its rollback
pub failed_commit : (layout : DiskLayout) (old new : PageMap) (t now : TransactionsState) (s : DatabaseState) (session : ℕ) (o : Open) → ShowsDatabase layout old t s → transaction_of t.opens session ≡ Some o → o.failed ≡ true
    → DoesRequest layout new now s (request_entry session 0 requests.Rollback) model.RolledBack → DoesRequest layout new now s (request_entry session 0 requests.Commit) model.RolledBack
failed_commit layout old new t now s session o shows was failed does =
    let vs = versions_on_pages layout old in
    let gs = given_statuses t.tx shows.stored in
    let x : OpenTransaction = visible_transaction gs vs o in
    let there : get s.sessions session ≡ Some x = get_open vs gs t.opens session o s shows.database was in
    let commit = request_entry session 0 requests.Commit in
    let rollback = request_entry session 0 requests.Rollback in (
      does.0,
      model.effect_is s commit
          ∙ ap (λ (x : Option OpenTransaction). model.effect_at x s commit) there
          ∙ (λ i. (failed_commit_ends s session x failed i, ap (λ (b : Bool). cond b model.RolledBack model.Committed) failed i))
          ∙ sym (model.effect_is s rollback ∙ ap (λ (x : Option OpenTransaction). model.effect_at x s rollback) there)
          ∙ does.1,
      does.2,
    )

-- ---- the calls, over a store

module _ {D : Type 0} (told : D → Told) (old new : View D) (t now : TransactionsState) where
  -- what is shown once a request is done
  pub does_shows : {answer : model.Answer} (entry : Entry) → Leaves told old new → ShowsSome told old t → OfDatabase told old t (λ s. DoesRequest old.layout new.pages now s entry answer) → ShowsSome told new now
  does_shows entry leaves shown does = λ tells_now.
      let tells : Tells told old = sym leaves.tells ∙ tells_now in
      let was = shown tells in
      let made = does tells was.0 was.1 in
      (made.0, subst (λ (layout : DiskLayout). ShowsDatabase layout new.pages now made.0) (sym leaves.layout) made.2)

  -- a call that changes nothing
  pub kept_shows : Keeps told old new → now ≡ t → ShowsSome told old t → ShowsSome told new now
  kept_shows kept same shown = λ tells_now.
      let tells : Tells told old = sym kept.leaves.tells ∙ tells_now in
      let was = shown tells in (
        was.0,
        subst (λ (layout : DiskLayout). ShowsDatabase layout new.pages now was.0) (sym kept.leaves.layout)
            (subst (λ (pages : PageMap). ShowsDatabase old.layout pages now was.0) (sym (kept.pages tells)) (subst (λ (t : TransactionsState). ShowsDatabase old.layout old.pages t was.0) (sym same) was.1)),
      )

  started_now : LeavesRest told old new → Tells told old → AreStarted old.layout old.pages → AreStarted old.layout new.pages
  started_now rest tells started = λ block below. rest.started tells block (started block below)

  pub begin_does : (session number : ℕ) → IsOver told t.tx old → LeavesRest told old new → OfStatuses told old (λ stored. HasStatuses old.layout new.pages (set stored t.tx.next Begun)) → number ≡ t.tx.next → t.tx.next < number_limit old.layout
      → session < MAX_SESSIONS → transaction_of t.opens session ≡ None → now ≡ with_begun t session → OfDatabase told old t (λ s. DoesRequest old.layout new.pages now s (request_entry session 0 requests.Begin) (model.Begun number))
  begin_does session number over rest begun is below small idle now_is = λ tells s shows.
      subst (λ (number : ℕ). DoesRequest old.layout new.pages now s (request_entry session 0 requests.Begin) (model.Begun number)) (sym is)
      (subst (λ (now : TransactionsState). DoesRequest old.layout new.pages now s (request_entry session 0 requests.Begin) (model.Begun t.tx.next)) (sym now_is)
      (begin_shown old.layout old.pages new.pages t s session shows (rest.pages tells) (begun tells shows.stored shows.has) (started_now rest tells shows.started) over.opened below small idle))

  pub commit_does : (session : ℕ) (o : Open) → IsOver told t.tx old → LeavesRest told old new → OfStatuses told old (λ stored. HasStatuses old.layout new.pages (set stored o.t Committed)) → transaction_of t.opens session ≡ Some o → o.failed ≡ false → now ≡ with_open t session None
      → OfDatabase told old t (λ s. DoesRequest old.layout new.pages now s (request_entry session 0 requests.Commit) model.Committed)
  commit_does session o over rest made was unfailed now_is = λ tells s shows.
      subst (λ (now : TransactionsState). DoesRequest old.layout new.pages now s (request_entry session 0 requests.Commit) model.Committed) (sym now_is)
      (committed_shown old.layout old.pages new.pages t s session o shows (rest.pages tells) (made tells shows.stored shows.has) (started_now rest tells shows.started) over.within was unfailed)

  pub rollback_does : (session : ℕ) (o : Open) → IsOver told t.tx old → LeavesRest told old new → OfStatuses told old (λ stored. HasStatuses old.layout new.pages (set stored o.t RolledBack)) → transaction_of t.opens session ≡ Some o → now ≡ with_open t session None
      → OfDatabase told old t (λ s. DoesRequest old.layout new.pages now s (request_entry session 0 requests.Rollback) model.RolledBack)
  rollback_does session o over rest made was now_is = λ tells s shows.
      subst (λ (now : TransactionsState). DoesRequest old.layout new.pages now s (request_entry session 0 requests.Rollback) model.RolledBack) (sym now_is)
      (rolled_shown old.layout old.pages new.pages t s session o shows (rest.pages tells) (made tells shows.stored shows.has) (started_now rest tells shows.started) over.within was)

  -- a failed one's rollback is its commit
  pub failed_does : (session : ℕ) (o : Open) → transaction_of t.opens session ≡ Some o → o.failed ≡ true → OfDatabase told old t (λ s. DoesRequest old.layout new.pages now s (request_entry session 0 requests.Rollback) model.RolledBack)
      → OfDatabase told old t (λ s. DoesRequest old.layout new.pages now s (request_entry session 0 requests.Commit) model.RolledBack)
  failed_does session o was failed does = λ tells s shows. failed_commit old.layout old.pages new.pages t now s session o shows was failed (does tells s shows)

  -- an open transaction is stored as begun
  pub begun_on_pages : (session : ℕ) (o : Open) → ShowsSome told old t → transaction_of t.opens session ≡ Some o → OfStatuses told old (λ stored. status_of stored o.t ≡ Begun)
  begun_on_pages session o shown was = λ tells stored has.
      let shows = shown tells in
      ap (λ (stored : List Status). status_of stored o.t) (one_list_shown shows.1 stored has) ∙ (open_one shows.1 session o was).begun

-- ---- what holds of the open transactions on any disk

pub still_open : (t : TransactionsState) (session : ℕ) (o : Open) (x : Option Open) → AreOpen t → transaction_of t.opens session ≡ Some o → ((p : Open) → x ≡ Some p → p.t ≡ o.t) → AreOpen (with_open t session x)
still_open t session o x are was same = record {
  places = still_all t.opens (set t.opens session x) session x are.places refl;
  own = λ m p h. go m p (eq_by_cmp nat_cmp m session) (sym (rewritten t.opens (set t.opens session x) session o x was refl m) ∙ h);
}
  where
    go : (m : ℕ) (p : Open) (b : Bool) → cond b x (transaction_of t.opens m) ≡ Some p → IsOwn t.tx p.t
    go m p true e = subst (IsOwn t.tx) (sym (same p e)) (are.own session o was)
    go m p false e = are.own m p e

pub none_open : (tx : TxState) (os : List (Option Open)) → os ≡ replicate MAX_SESSIONS None → AreOpen (record { tx = tx; opens = os })
none_open tx os is = subst (λ (os : List (Option Open)). AreOpen (record { tx = tx; opens = os })) (sym is)
    (record {
      places = length-replicate {A = Option Open} MAX_SESSIONS None;
      own = λ m p h. absurd (let none : None ≡ Some p = sym (nobody_at MAX_SESSIONS m) ∙ h in cc);
    })

-- a session's transaction that keeps its number
pub changed_open : (tx : TxState) (os os' : List (Option Open)) (session : ℕ) (f : Open → Open) → ((o : Open) → (f o).t ≡ o.t) → AreOpen (record { tx = tx; opens = os }) → IsSome (transaction_of os session)
    → IfSome (transaction_of os session) (λ o. os' ≡ set os session (Some (f o))) → AreOpen (record { tx = tx; opens = os' })
changed_open tx os os' session f same are there is =
    elim (transaction_of os session) as (λ p. transaction_of os session ≡ p → IsSome p → IfSome p (λ o. os' ≡ set os session (Some (f o))) → AreOpen (record { tx = tx; opens = os' })) [
      | None ↦ λ e there is. absurd (false≢true there)
      | Some o ↦ λ e there is.
          subst (λ (l : List (Option Open)). AreOpen (record { tx = tx; opens = l })) (sym is)
          (still_open (record { tx = tx; opens = os }) session o (Some (f o)) are e (λ p h. let it : f o ≡ p = cc in ap (λ (o : Open). o.t) (sym it) ∙ same o))
    ] refl there is

pub some_and : (o : Option Open) (P : Open → Type 0) → IsSomeAnd o P → IsSome o
some_and None P h = absurd h
some_and (Some o) P h = refl

-- a call that passes no other pages passes no part of a list
pub no_part : {D : Type 0} (told : D → Told) (old new : View D) (list : List ℕ) (status : Status) → Survives told (IsBefore old) old new → Survives told (HasPart old.layout old.pages list status) old new
no_part told old new list status survives =
    survives_weaker told (IsBefore old) old new survives (HasPart old.layout old.pages list status) (λ tells pages was. subst (HasPart old.layout old.pages list status) (sym was) (part_none old.layout old.pages list status))
