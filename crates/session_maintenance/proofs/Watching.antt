-- the rows that other sessions' statements want, by their open transactions
use Rattle.std.proofs.Common.{◌≡◌, ◌≢◌, ◌⊎◌, inl, inr, ℕ, zero, suc, ◌<◌, Bool, true, false, not, eqb, List, [], ◌∷◌, length, Option, None, Some, refl, sym, ap, subst, ◌∙◌, arith}
use Rattle.std.specs.Prelude.{IsTrue, Contains}
use Rattle.std.specs.List.{list_all}
use Rattle.std.proofs.lemmas.Bool.{and_left, and_parts, and_right, cases_eq, eq-eqb, eqb-true, false_from_ne_true, false≢true, not_from_true, or_cases, or_from, or_left, or_parts}
use Rattle.std.proofs.lemmas.Option.{same_Some}
use Rattle.block_model.specs.declared.place.Spot.{Spot}
use Rattle.block_model.specs.declared.row.Row.{Row}
use Rattle.page_layout.specs.PageContents.{Slot}
use Rattle.page_layout.specs.RowBytes.{StoredRow}
use Rattle.heap_rows.specs.RowPlaces.{slot_at}
use Rattle.snapshot_core.specs.declared.snapshots.Snapshot.{Snapshot}
use Rattle.snapshot_core.specs.declared.statuses.Status.{Status}
use Rattle.snapshot_core.specs.declared.statuses.Status.TheVariants.{Begun, Committed, RolledBack, Unused}
use Rattle.snapshot_core.specs.Dead.{is_deleted_for_all, is_rolled_back}
use Rattle.snapshot_core.specs.Visibility.{had_ended, has_done, in_snapshot, is_committed}
use Rattle.snapshot_core.specs.declared.sessions.Open.{Open}
use Rattle.snapshot_core.specs.StoredVersions.{transaction_of}
use Rattle.transactions.specs.ShownVersions.{version_of}
use Rattle.transactions.specs.GivenStatuses.{given_status}
use Rattle.transactions.specs.ShowsDatabase.{ShowsDatabase}
use Rattle.transactions.specs.StoredRows.{StandsAt}
use Rattle.transactions.specs.TransactionsState.{TransactionsState}
use Rattle.transactions.proofs.Given.{given_none, status_given}
use Rattle.transactions.proofs.Marks.{row_stored}
use Rattle.transactions.proofs.Shown.{open_one, whole}
use Rattle.index_steps.specs.ShownRows.{row_in, shown_by}
use Rattle.coverage.specs.Machines.{table_state}
use Rattle.coverage.specs.Table.{TableState}
use Rattle.coverage.specs.TableCovered.{IsTableKept}
use Rattle.coverage.specs.TableSteps.{HasPut, SeesPlace}
use Rattle.vacuum_core.specs.DeadRows.{DropsTheDead, Living, is_dead}
use Rattle.vacuum_core.specs.SparedRows.{AreWatched, IsPutLive, IsSeenLive}
use Rattle.vacuum_core.specs.TableSteps.{has_gone}
use Rattle.script_semantics.specs.Place.{Place, database_at}
use Rattle.session_parts.specs.declared.hand.Hand.TheVariants as hands
use Rattle.session_parts.specs.ShowsPlace.{IsPlaceOf, IsRowOf, ShowsTable, is_put}
use Rattle.session_parts.specs.StoreStates.{ShownStore, hand_in}
use Rattle.session_maintenance.specs.DeadToAll.{living_of, snapshots_of}
use Rattle.session_maintenance.specs.Watched.{MarkedAreSeen, OwnDeleteIsUnseen, SeenBeforeIsSpared, TableIsSpared, TableIsWatched}
use Rattle.session_maintenance.proofs.Oldest.{each_snapshot}
use Rattle.session_maintenance.proofs.Wanted.{IsPutBy, IsSeenBy, TellsWho, put_stands, tells_who}

-- an open transaction's snapshot is among those of all
among : (os : List (Option Open)) (n : ℕ) (o : Open) → transaction_of os n ≡ Some o → Contains (snapshots_of os) o.snapshot
among [] n o was = absurd (cc)
among (None ∷ os) zero o was = absurd (cc)
among (None ∷ os) (suc n) o was = among os n o was
among (Some x ∷ os) zero o was = let same : x ≡ o = cc in (0, omega arith, ap (λ (o : Open). o.snapshot) same)
among (Some x ∷ os) (suc n) o was = let rest = among os n o was in (suc rest.0, (let low = rest.1 in omega (arith, low)), rest.2)

begun_not_rolled : (e : Status) → e ≡ Begun → e ≢ RolledBack
begun_not_rolled e begun rolled = let both : Begun ≡ RolledBack = sym begun ∙ rolled in absurd cc

begun_not_committed : (e : Status) → e ≡ Begun → e ≢ Committed
begun_not_committed e begun committed = let both : Begun ≡ Committed = sym begun ∙ committed in absurd cc

unused_not_committed : (e : Status) → e ≡ Unused → e ≢ Committed
unused_not_committed e unused committed = let both : Unused ≡ Committed = sym unused ∙ committed in absurd cc

module _ (s : ShownStore) (p : Place) (table : ℕ) (w : TableState) (shown : IsPlaceOf s p) (shows : ShowsTable s shown.database.stored table w) (below : table < length s.layout.schema.tables) where
  abbrev t : TransactionsState
  t = s.transactions

  abbrev base : ShowsDatabase s.layout s.pages t (database_at p)
  base = shown.database

  abbrev by : Living
  by = living_of t base.stored

  abbrev kept_table : TableState
  kept_table = table_state (shown_by s.layout s.pages s.locks table shows.blocks) shows.unseen

  kept : IsTableKept kept_table
  kept = subst IsTableKept shows.shown shows.kept

  begun : (n : ℕ) (o : Open) → transaction_of t.opens n ≡ Some o → given_status t.tx.first base.stored o.t ≡ Begun
  begun n o was = (open_one base n o was).given

  -- who deleted a row of an open transaction is itself, or none
  deleter_uncommitted : (x : Spot) (row : StoredRow) → slot_at shows.blocks x ≡ Some row → given_status t.tx.first base.stored row.id.t ≡ Begun → given_status t.tx.first base.stored row.deleter ≢ Committed
  deleter_uncommitted x row there is = elim (cases_eq row.deleter 0) [
    | inl none ↦ unused_not_committed (given_status t.tx.first base.stored row.deleter) (given_none t.tx.first base.stored row.deleter none)
    | inr some ↦
        let stands : StandsAt s.layout s.pages table x row = record { blocks = shows.blocks; has = shows.has; there = there } in
        let known = (whole base).known row.id (version_of table row) (row_stored base table x row below stands) in
        let own : row.deleter ≡ row.id.t = known.own (status_given t.tx base.stored row.id.t base.next ∙ is) some in
        begun_not_committed (given_status t.tx.first base.stored row.deleter) (ap (given_status t.tx.first base.stored) own ∙ is)
  ]

  -- the row of an insert is its session's
  its_number : (m : ℕ) (x : Spot) (row : StoredRow) → slot_at shows.blocks x ≡ Some row → (put : IsPutBy (hand_in s.hands m) x.block x.slot (shows.unseen.task m)) → row.id.t ≡ put.insert.row.id.t
  its_number m x row there put =
      let its : Row = record { table = table; id = row.id; values = row.values } in
      let same : put.insert.row ≡ its = same_Some put.insert.row its (sym (put_stands kept_table m x.block x.slot put.at put.insert.row kept put.is) ∙ ap (row_in table) there) in
      ap (λ (r : Row). r.id.t) (sym same)

  put_lives : (m : ℕ) (x : Spot) (row : StoredRow) → slot_at shows.blocks x ≡ Some row → IsPutBy (hand_in s.hands m) x.block x.slot (shows.unseen.task m) → IsPutLive by row
  put_lives m x row there put =
      let own : IsRowOf (transaction_of t.opens m) (is_put put.insert.place) put.insert.row.id.t put.insert.row.id.k = shown.own m (hands.Inserts put.insert) put.hand_is in
      let is : given_status t.tx.first base.stored row.id.t ≡ Begun = ap (given_status t.tx.first base.stored) (its_number m x row there put ∙ own.number) ∙ begun m own.own own.is in
      (begun_not_rolled (given_status t.tx.first base.stored row.id.t) is, deleter_uncommitted x row there is)

  seen_lives : (m : ℕ) (x : Spot) (row : StoredRow) → slot_at shows.blocks x ≡ Some row → IsSeenBy shows.blocks t.tx base.stored (transaction_of t.opens m) x.block x.slot → IsSeenLive by row
  seen_lives m x row there seen = record {
    snapshot = seen.own.snapshot;
    own = seen.own.t;
    live = among t.opens m seen.own seen.is;
    seen = seen.seen row there;
    alive = λ own. begun_not_rolled (given_status t.tx.first base.stored row.id.t) (ap (given_status t.tx.first base.stored) own ∙ begun m seen.own seen.is);
  }

  who : (m : ℕ) (x : Spot) → TellsWho x.block x.slot s.layout table shows.blocks t.tx base.stored (shows.unseen.task m) (transaction_of t.opens m) (hand_in s.hands m)
  who m x = tells_who x.block x.slot s.layout table shows.blocks t.tx base.stored (shows.unseen.task m) (transaction_of t.opens m) (hand_in s.hands m) (shows.tasks m)

  pub watched : (n : ℕ) → MarkedAreSeen by n shows.blocks shows.unseen → AreWatched by n shows.blocks shows.unseen
  watched n marked = record {
    put = λ m x row other there has. put_lives m x row there ((who m x).0 has);
    seen = λ m x row other there sees. elim ((who m x).1 sees) [
      | inl seen ↦ seen_lives m x row there seen
      | inr marks ↦ marked m marks.scan marks.ids x row other marks.is there marks.sees
    ];
  }

pub table_is_watched : TableIsWatched
table_is_watched s p n table w shown shows below marked = watched s p table w shown shows below n marked

-- ---- the rows that a delete saw

pub own_delete_is_unseen : OwnDeleteIsUnseen
own_delete_is_unseen by row own live =
    let done : Bool = has_done live.snapshot live.own row.id.t (by.status row.id.t) in
    let parts = and_parts done (not (has_done live.snapshot live.own row.deleter (by.status row.deleter))) live.seen in
    false≢true (sym (not_from_true done parts.0) ∙ ap (λ u. not (has_done live.snapshot live.own u (by.status u))) (sym own) ∙ parts.1)

pub false_from_not : (b : Bool) → not b ≡ true → b ≡ false
false_from_not true is = absurd (false≢true is)
false_from_not false is = refl

not_committed : (e : Status) → e ≢ Committed → is_committed e ≡ false
not_committed Unused other = refl
not_committed Begun other = refl
not_committed Committed other = absurd (other refl)
not_committed RolledBack other = refl

begun_stays : (e : Status) → e ≡ Begun → is_rolled_back e ≡ false
begun_stays e begun = ap is_rolled_back begun

committed_stays : (e : Status) → is_committed e ≡ true → is_rolled_back e ≡ false
committed_stays Unused is = refl
committed_stays Begun is = refl
committed_stays Committed is = refl
committed_stays RolledBack is = absurd (false≢true is)

pub seen_before_is_spared : SeenBeforeIsSpared
seen_before_is_spared s p n o row shown was seen =
    let status : ℕ → Status = (living_of s.transactions shown.database.stored).status in
    let live : List Snapshot = snapshots_of s.transactions.opens in
    or_from (is_rolled_back (status row.id.t)) (is_deleted_for_all live row.deleter (status row.deleter))
    (elim (or_cases (eqb row.id.t o.t) (in_snapshot o.snapshot row.id.t (status row.id.t)) seen.put) [
      | inl own ↦ begun_stays (status row.id.t) (ap status (eqb-true row.id.t o.t own) ∙ (open_one shown.database n o was).given)
      | inr within ↦ committed_stays (status row.id.t) (and_parts (is_committed (status row.id.t)) (had_ended o.snapshot row.id.t) within).0
    ])
    (and_right (is_committed (status row.deleter)) (list_all (λ sn. in_snapshot sn row.deleter (status row.deleter)) live)
    (false_from_ne_true (list_all (λ sn. in_snapshot sn row.deleter (status row.deleter)) live) (λ all.
    false≢true (sym seen.undeleted ∙ each_snapshot s.transactions.opens (λ sn. in_snapshot sn row.deleter (status row.deleter)) all n o was))))

-- ---- the rows that go

module _ (s : ShownStore) (p : Place) (n table block : ℕ) (w : TableState) (shown : IsPlaceOf s p) (shows : ShowsTable s shown.database.stored table w) (below : table < length s.layout.schema.tables) where
  abbrev status : ℕ → Status
  status u = given_status s.transactions.tx.first shown.database.stored u

  abbrev live : Living
  live = living_of s.transactions shown.database.stored

  -- what an insert put its transaction saw, and so did each scan's what it sees
  put_spared : (m : ℕ) (x : Spot) (row : StoredRow) → slot_at shows.blocks x ≡ Some row → IsPutBy (hand_in s.hands m) x.block x.slot (shows.unseen.task m) → is_dead live row ≡ false
  put_spared m x row there put =
      let own : IsRowOf (transaction_of s.transactions.opens m) (is_put put.insert.place) put.insert.row.id.t put.insert.row.id.k = shown.own m (hands.Inserts put.insert) put.hand_is in
      let lives = put_lives s p table w shown shows below m x row there put in
      seen_before_is_spared s p m own.own row shown own.is (record {
        put = or_left (eqb row.id.t own.own.t) (in_snapshot own.own.snapshot row.id.t (status row.id.t)) (eq-eqb row.id.t own.own.t (its_number s p table w shown shows below m x row there put ∙ own.number));
        undeleted = and_left (is_committed (status row.deleter)) (had_ended own.own.snapshot row.deleter) (not_committed (status row.deleter) lives.1);
      })

  seen_spared : (m : ℕ) (x : Spot) (row : StoredRow) → slot_at shows.blocks x ≡ Some row → IsSeenBy shows.blocks s.transactions.tx shown.database.stored (transaction_of s.transactions.opens m) x.block x.slot → is_dead live row ≡ false
  seen_spared m x row there seen =
      let o = seen.own in
      let parts = and_parts (has_done o.snapshot o.t row.id.t (status row.id.t)) (not (has_done o.snapshot o.t row.deleter (status row.deleter))) (seen.seen row there) in
      let undone : has_done o.snapshot o.t row.deleter (status row.deleter) ≡ false = false_from_not (has_done o.snapshot o.t row.deleter (status row.deleter)) parts.1 in
      seen_before_is_spared s p m o row shown seen.is (record { put = parts.0; undeleted = (or_parts (eqb row.deleter o.t) (in_snapshot o.snapshot row.deleter (status row.deleter)) undone).1 })

  wanted_spared : (m : ℕ) (x : Spot) (row : StoredRow) → m ≢ n → slot_at shows.blocks x ≡ Some row → HasPut x.block x.slot (shows.unseen.task m) ⊎ SeesPlace x.block x.slot (shows.unseen.task m) → is_dead live row ≡ false
  wanted_spared m x row other there wants = elim wants [
    | inl has ↦ put_spared m x row there ((who s p table w shown shows below m x).0 has)
    | inr sees ↦ elim ((who s p table w shown shows below m x).1 sees) [ inl seen ↦ seen_spared m x row there seen | inr marks ↦ seen_before_is_spared s p m marks.own row shown marks.own_is (marks.saw row there) ]
  ]

  by_slots : (blocked : List (List Slot)) → DropsTheDead live shows.blocks blocked block → (m b k : ℕ) → m ≢ n → (before after : Slot) → slot_at shows.blocks (record { block = b; slot = k }) ≡ before → slot_at blocked (record { block = b; slot = k }) ≡ after
      → IsTrue (has_gone (row_in table before) (row_in table after)) → HasPut b k (shows.unseen.task m) ⊎ SeesPlace b k (shows.unseen.task m) → ⊥
  by_slots blocked drops m b k other None after was is gone wants = false≢true gone
  by_slots blocked drops m b k other (Some row) (Some now) was is gone wants = false≢true gone
  by_slots blocked drops m b k other (Some row) None was is gone wants =
      let x : Spot = record { block = b; slot = k } in
      false≢true (sym (wanted_spared m x row other was wants) ∙ (drops.gone x row was is).1)

pub table_is_spared : TableIsSpared
table_is_spared s p n table block w paged locked blocked shown shows below drops m b k other gone wants =
    let x : Spot = record { block = b; slot = k } in
    by_slots s p n table block w shown shows below blocked drops m b k other (slot_at shows.blocks x) (slot_at blocked x) refl refl gone wants
