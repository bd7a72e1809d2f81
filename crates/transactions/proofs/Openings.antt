-- What an opened store shows.
use Rattle.std.proofs.Common.{◌≡◌, ◌≢◌, Bool, true, false, cond, not, ◌&&◌, eqb, ltb, ltb-false, ℕ, zero, suc, ◌<◌, List, [], ◌∷◌, length, replicate, Option, None, Some, inl, inr, refl, sym, ap, subst, ◌∙◌, arith}
use Rattle.std.specs.FinMap.{empty}
use Rattle.std.proofs.lemmas.Bool.{cases_eq, cases_lt}
use Rattle.std.proofs.lemmas.List.{length-replicate, get_or-replicate}
use Rattle.std.proofs.lemmas.List.FromFn.{fill_by_all}
use Rattle.block_model.specs.declared.row.RowId.{RowId}
use Rattle.block_model.specs.DatabaseState.{DatabaseState, initial_state}
use Rattle.store_layout.specs.declared.limits.TheConstants.{MAX_SESSIONS}
use Rattle.store_layout.specs.DiskLayout.{DiskLayout}
use Rattle.page_layout.specs.PageContents.{IsUnstarted, Slot}
use Rattle.page_map.specs.PageMap.{PageMap, block_at}
use Rattle.heap_rows.specs.Heaps.{relation_of}
use Rattle.heap_rows.specs.HeapBlocks.{HasBlocks}
use Rattle.snapshot_core.specs.declared.statuses.Status.{Status}
use Rattle.snapshot_core.specs.declared.statuses.Status.TheVariants.{Unused, Begun, Committed, RolledBack}
use Rattle.snapshot_core.specs.Visibility.{is_committed}
use Rattle.snapshot_core.specs.declared.table.Version.{Version}
use Rattle.snapshot_core.specs.declared.sessions.Open.{Open}
use Rattle.snapshot_core.specs.StoredVersions.{IsStored, stored}
use Rattle.snapshot_core.specs.VisibleState.{all_versions, is_of_commit, status_of, table_of}
use Rattle.snapshot_core.proofs.Fresh.{empty_state, new_versions, no_sessions, stored_at_rest}
use Rattle.snapshot_core.proofs.Stored.{AreDistinct}
use Rattle.transactions.specs.ShownVersions.{shown_tables, versions_of_table}
use Rattle.transactions.proofs.Tables.{own_table, table_by_blocks}
use Rattle.tx_table.specs.LeavesRest.{AreStarted}
use Rattle.tx_table.specs.Statuses.{HasStatuses, after_stop}
use Rattle.tx_table.specs.TxState.{IsNext, TxState}
use Rattle.tx_table.proofs.Lists.{next_one}
use Rattle.transactions.specs.GivenStatuses.{given_status, given_statuses}
use Rattle.transactions.specs.Laws.{IsOpened, without_sessions}
use Rattle.transactions.specs.ShowsDatabase.{HaveBegun, ShowsDatabase}
use Rattle.transactions.specs.TransactionsState.{TransactionsState}
use Rattle.transactions.proofs.Given.{begun_given, given_none, given_unused, is_used, length_given, status_given, still_begun, was_used}
use Rattle.transactions.proofs.PageSlots.{are_read}
use Rattle.transactions.proofs.Shown.{one_list_shown, versions_on_pages, whole}

-- ---- statuses of another opening

-- a stop makes no commit and undoes none
pub committed_after : (earlier : Bool) (e : Status) → is_committed (after_stop earlier e) ≡ is_committed e
committed_after true Unused = refl
committed_after true Begun = refl
committed_after true Committed = refl
committed_after true RolledBack = refl
committed_after false e = refl

pub committed_given : (first other : ℕ) (ss : List Status) (u : ℕ) → is_committed (given_status first ss u) ≡ is_committed (given_status other ss u)
committed_given first other ss u = go (eqb u 0)
  where
    go : (b : Bool) → is_committed (cond b Unused (after_stop (ltb u first) (status_of ss u))) ≡ is_committed (cond b Unused (after_stop (ltb u other) (status_of ss u)))
    go true = refl
    go false = committed_after (ltb u first) (status_of ss u) ∙ sym (committed_after (ltb u other) (status_of ss u))

used_given : (first other : ℕ) (ss : List Status) (u : ℕ) → given_status first ss u ≢ Unused → given_status other ss u ≢ Unused
used_given first other ss u used = let was = was_used first ss u used in is_used other ss u was.0 was.1

-- nothing is begun where none began since the opening
none_begun : (next : ℕ) (ss : List Status) (u : ℕ) → IsNext ss next → given_status next ss u ≢ Begun
none_begun next ss u is begun = elim (cases_eq u 0) [
  | inl none ↦ begun_no_unused (sym begun ∙ given_none next ss u none)
  | inr some ↦
      let parts = begun_given next ss u begun some in
      begun_no_unused (sym parts.1 ∙ is.unused u (ltb-false u next parts.0))
]
  where
    begun_no_unused : Begun ≡ Unused → ⊥
    begun_no_unused e = absurd cc

-- ---- rows at rest

-- Where nobody is under way, pages show the database of their commits if the ids of their rows differ, and each row's transaction and deleter have begun.
module _ (layout : DiskLayout) (pages : PageMap) (next : ℕ) (ss : List Status) (has : HasStatuses layout pages ss) (is : IsNext ss next) (started : AreStarted layout pages)
    (blocks : (table : ℕ) → table < length layout.schema.tables → (blocks : List (List Slot)) × HasBlocks layout pages table blocks) (distinct : AreDistinct (versions_on_pages layout pages))
    (begun : (id : RowId) (v : Version) → stored (versions_on_pages layout pages) id ≡ Some v → HaveBegun next ss v) where
  -- the statuses of an opening
  abbrev opened : List Status
  opened = given_statuses (record { first = next; next = next }) ss

  long : length opened ≡ next
  long = length_given (record { first = next; next = next }) ss

  numbered : (u : ℕ) → given_status next ss u ≢ Unused → u < length opened
  numbered u used = elim (cases_lt u next) [ inl low ↦ omega (arith, low, long) | inr past ↦ absurd (used (given_unused next ss u (is.unused u past))) ]

  its_numbers : (v : Version) → HaveBegun next ss v → (v.row.id.t < length opened) × (v.deleter < length opened)
  its_numbers v have = (numbered v.row.id.t have.put, elim (cases_eq v.deleter 0) [ inl none ↦ omega (arith, none, long, is.some) | inr some ↦ numbered v.deleter (have.gone some) ])

  stopped : IsStored (versions_on_pages layout pages) opened (replicate MAX_SESSIONS None)
  stopped =
      let given = λ (u : ℕ). status_given (record { first = next; next = next }) ss u is in
      stored_at_rest (versions_on_pages layout pages) opened MAX_SESSIONS (given 0) (omega (arith, long, is.some)) distinct (λ u begins. none_begun next ss u is (sym (given u) ∙ begins)) (λ id v there. its_numbers v (begun id v there))

  pub rest_shown : ShowsDatabase layout pages (record { tx = record { first = next; next = next }; opens = replicate MAX_SESSIONS None })
      (record { next = next; table = table_of (is_of_commit (given_statuses (record { first = next; next = next }) ss)) (versions_on_pages layout pages); sessions = empty })
  rest_shown = record {
    stored = ss;
    has = has;
    next = is;
    started = started;
    blocks = blocks;
    versions = record { places = length-replicate {A = Option Open} MAX_SESSIONS None; own_table = own_table layout pages; stored = stopped };
    used = begun;
    database = λ i. record { next = long i; table = table_of (is_of_commit opened) (versions_on_pages layout pages); sessions = no_sessions opened (versions_on_pages layout pages) MAX_SESSIONS i };
  }

-- ---- behind a stop

module _ (layout : DiskLayout) (pages : PageMap) (t : TransactionsState) (s : DatabaseState) (shows : ShowsDatabase layout pages t s) where
  committed_alike : (u : ℕ) → is_committed (status_of (given_statuses (record { first = t.tx.next; next = t.tx.next }) shows.stored) u) ≡ is_committed (status_of (given_statuses t.tx shows.stored) u)
  committed_alike u =
      ap is_committed (status_given (record { first = t.tx.next; next = t.tx.next }) shows.stored u shows.next)
      ∙ committed_given t.tx.next t.tx.first shows.stored u
      ∙ sym (ap is_committed (status_given t.tx shows.stored u shows.next))

  alike : (v : Version) → is_of_commit (given_statuses (record { first = t.tx.next; next = t.tx.next }) shows.stored) v ≡ is_of_commit (given_statuses t.tx shows.stored) v
  alike v = λ i. committed_alike v.row.id.t i && not (committed_alike v.deleter i)

  pub stop_shown : ShowsDatabase layout pages (record { tx = record { first = t.tx.next; next = t.tx.next }; opens = replicate MAX_SESSIONS None }) (without_sessions s)
  stop_shown =
      subst (ShowsDatabase layout pages (record { tx = record { first = t.tx.next; next = t.tx.next }; opens = replicate MAX_SESSIONS None }))
      ((λ i. record { next = sym (length_given t.tx shows.stored) i; table = table_of (λ v. alike v i) (versions_on_pages layout pages); sessions = empty }) ∙ ap without_sessions shows.database)
      (rest_shown layout pages t.tx.next shows.stored shows.has shows.next shows.started shows.blocks (whole shows).ids_differ
      (λ id v there. still_begun t.tx.first t.tx.next shows.stored shows.stored v (used_given t.tx.first t.tx.next shows.stored) (shows.used id v there)))

pub opening_shown : (layout : DiskLayout) (pages : PageMap) (t now : TransactionsState) (s : DatabaseState) (stored : List Status)
    → ShowsDatabase layout pages t s → HasStatuses layout pages stored → IsNext stored now.tx.next → IsOpened now → ShowsDatabase layout pages now (without_sessions s)
opening_shown layout pages t now s ss shows has next opened =
    let same : t.tx.next ≡ now.tx.next = next_one shows.stored t.tx.next now.tx.next shows.next (subst (λ (l : List Status). IsNext l now.tx.next) (one_list_shown shows ss has) next) in
    subst (λ (now : TransactionsState). ShowsDatabase layout pages now (without_sessions s)) (λ i. record { tx = record { first = (same ∙ sym opened.first) i; next = same i }; opens = sym opened.opens i }) (stop_shown layout pages t s shows)

-- ---- a new store

-- no page of a table is started
nothing_shown : (layout : DiskLayout) (pages : PageMap) → ((table block : ℕ) → table < length layout.schema.tables → block < layout.sizes.heap_blocks → IsUnstarted (block_at pages (relation_of table) block)) → shown_tables layout pages ≡ replicate (length layout.schema.tables) []
nothing_shown layout pages zeros =
    let n = length layout.schema.tables in
    sym (fill_by_all (versions_of_table layout pages) (replicate n []) n [] (length-replicate {A = List Version} n []) (λ k low.
    get_or-replicate {A = List Version} n k [] [] low ∙ sym (table_by_blocks are_read layout pages k [] (no_blocks k low))))
  where
    no_blocks : (k : ℕ) → k < length layout.schema.tables → HasBlocks layout pages k []
    no_blocks k low = record {
      within = omega (arith);
      started = λ block there. absurd (omega (arith, there));
      unstarted = λ block past below. zeros k block low below;
    }

nothing_in : (n : ℕ) → all_versions (replicate n []) ≡ []
nothing_in zero = refl
nothing_in (suc n) = nothing_in n

pub new_shown : (layout : DiskLayout) (pages : PageMap) (now : TransactionsState) (ss : List Status) → HasStatuses layout pages ss → IsNext ss 1 → AreStarted layout pages
    → ((table block : ℕ) → table < length layout.schema.tables → block < layout.sizes.heap_blocks → IsUnstarted (block_at pages (relation_of table) block))
    → IsOpened now → now.tx.next ≡ 1 → ShowsDatabase layout pages now initial_state
new_shown layout pages now ss has next started zeros opened one =
    let n = length layout.schema.tables in
    let ts = nothing_shown layout pages zeros in
    let none : List (Option Open) = replicate MAX_SESSIONS None in
    let tx : TxState = record { first = 1; next = 1 } in
    let gs : given_statuses tx ss ≡ Unused ∷ [] = refl in
    subst (λ (now : TransactionsState). ShowsDatabase layout pages now initial_state) (λ i. record { tx = record { first = sym (opened.first ∙ one) i; next = sym one i }; opens = sym opened.opens i })
    (record {
      stored = ss;
      has = has;
      next = next;
      started = started;
      blocks = λ table below. (
        [],
        record {
          within = omega (arith);
          started = λ block there. absurd (omega (arith, there));
          unstarted = λ block past low. zeros table block below low;
        },
      );
      versions = new_versions (shown_tables layout pages) (given_statuses tx ss) none n ts gs refl;
      used = λ id v there. absurd (let it : None ≡ Some v = ap (λ (vs : List Version). stored vs id) (sym (ap all_versions ts ∙ nothing_in n)) ∙ there in cc);
      database = empty_state (shown_tables layout pages) (given_statuses tx ss) none n ts gs refl;
    })
