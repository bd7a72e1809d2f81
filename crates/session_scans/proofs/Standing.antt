-- where a session's scan stands, as the parts of a store show it
use Rattle.std.proofs.Common.{◌≡◌, ◌≢◌, inl, inr, ℕ, Bool, true, false, List, Option, None, Some, All, refl, sym, ap, subst, ◌∙◌}
use Rattle.std.specs.Prelude.{IsTrue}
use Rattle.std.proofs.lemmas.Bool.{cases_eq, false≢true}
use Rattle.std.proofs.lemmas.List.Elements.{All-nil}
use Rattle.std.proofs.lemmas.Option.{same_Some}
use Rattle.block_model.specs.declared.place.Spot.{Spot}
use Rattle.block_model.specs.declared.row.Row.{Row}
use Rattle.store_layout.specs.DiskLayout.{DiskLayout}
use Rattle.page_layout.specs.PageContents.{Slot}
use Rattle.page_layout.specs.RowBytes.{StoredRow}
use Rattle.heap_rows.specs.RowPlaces.{slot_at}
use Rattle.snapshot_core.specs.declared.statuses.Status.{Status}
use Rattle.snapshot_core.specs.declared.sessions.Open.{Open}
use Rattle.snapshot_core.specs.StoredVersions.{transaction_of}
use Rattle.index_steps.specs.ShownRows.{row_in, shown_by}
use Rattle.coverage.specs.Accounts.{no_account}
use Rattle.coverage.specs.Machines.{ShownTable, Unseen, table_state}
use Rattle.coverage.specs.Table.{Resting, TableState, Task}
use Rattle.coverage.specs.TableCovered.{IsTableKept}
use Rattle.coverage.specs.TableSteps.{HasPut}
use Rattle.bitmap_scan.specs.declared.stage.Stage.{Stage}
use Rattle.bitmap_scan.specs.declared.stage.Stage.TheVariants as stages
use Rattle.bitmap_scan.specs.Finds.{FindHand, IsFindOf, Sight, is_found, scanning, sees_stored}
use Rattle.bitmap_scan.specs.LastStatuses.{Remembers}
use Rattle.bitmap_scan.specs.TableScans.{BeginsAt, BeginsScanning, task_of}
use Rattle.bitmap_scan.proofs.Remembered.{none_remembered}
use Rattle.script_semantics.specs.Place.{Place, new_hand}
use Rattle.session_parts.specs.declared.hand.Hand.{Hand}
use Rattle.session_parts.specs.declared.hand.Hand.TheVariants as hands
use Rattle.session_parts.specs.Hands.{HandShows}
use Rattle.session_parts.specs.HandsInTables.{IsScanAt, IsTaskOf, sight_of}
use Rattle.session_parts.specs.ShowsPlace.{IsPlaceOf, IsRowOf, ShowsTable, is_put}
use Rattle.session_parts.specs.StoreStates.{ShownStore, hand_in}
use Rattle.session_scans.specs.declared.looking.Looking.{Looking}
use Rattle.session_scans.specs.declared.looking.Looking.TheVariants as lookings
use Rattle.session_scans.specs.LookLaws.{LookLaws}
use Rattle.session_scans.specs.Looks.{deletes_of, first_hand_of, hand_before, scan_hand_of, statement_for}
use Rattle.session_scans.specs.ScanSteps.{IsFresh}
use Rattle.session_scans.proofs.Puts.{IsPutBy, put_by, put_stands}
use Rattle.session_scans.proofs.Words.{IsShownInHand, hand_is}

-- the session has this scan in hand, or is before its first step; its table is one of the layout; and its transaction hasn't failed
pub record LooksThere (s : ShownStore) (n : ℕ) (looking : Looking) (before : FindHand) (o : Open) : Type 0 where
  pub was : hand_in s.hands n ≡ Some (hand_before looking before before.judging.stage)
  pub find : IsFindOf s.layout before
  pub opened : transaction_of s.transactions.opens n ≡ Some o
  pub whole : o.failed ≡ false
  pub fresh : before.judging.stage ≡ stages.Extent → IsFresh before

-- what the scan is at: which rows its session sees, which are those that its transaction sees in each slot now; what it made of the ranges; what
-- it found stands there; and what it remembers of transactions stands
pub record ScansAt (layout : DiskLayout) (shown : ShownTable) (u : Unseen) (n : ℕ) (blocks : List (List Slot)) (sight : Sight) (deletes : Bool) (before : FindHand) : Type 0 where
  pub sees : ℕ → ℕ → Bool
  pub judged : ℕ → ℕ → Option Bool
  pub is : u.task n ≡ task_of layout before.judging.stage before.judging (scanning sees judged deletes before)
  pub begins : BeginsAt before.judging.stage shown u (scanning sees judged deletes before)
  pub now : (b k : ℕ) (row : StoredRow) → slot_at blocks (record { block = b; slot = k }) ≡ Some row → sees b k ≡ sees_stored sight row
  pub stand : All (λ (f : Row × Spot). row_in before.judging.query.table (slot_at blocks f.1) ≡ Some f.0) before.found
  pub remembers : Remembers sight before.last

-- the row of a slot is seen
seen_in : Sight → Slot → Bool
seen_in sight None = false
seen_in sight (Some row) = sees_stored sight row

module _ (layout : DiskLayout) (blocks : List (List Slot)) (s : ShownStore) (stored : List Status) (o : Open) (before : FindHand) (task : Task) where
  at_rest : (looking : Looking) → IsTaskOf layout before.judging.query.table blocks s.transactions.tx stored (Some o) (Some (first_hand_of looking before.judging.query)) task → task ≡ Resting
  at_rest lookings.Select at = at
  at_rest lookings.Delete at = at

  in_scan : (looking : Looking) → IsTaskOf layout before.judging.query.table blocks s.transactions.tx stored (Some o) (Some (scan_hand_of looking before)) task
      → IsScanAt layout blocks (sight_of s.transactions.tx stored o) (deletes_of looking) before task
  in_scan lookings.Select at = at.0 refl
  in_scan lookings.Delete at = at.0 refl

module _ (laws : LookLaws) (s : ShownStore) (n : ℕ) (looking : Looking) (before : FindHand) (o : Open) (there : LooksThere s n looking before o) (p : Place) (shown : IsPlaceOf s p) where
  abbrev pub table : ℕ
  table = before.judging.query.table

  abbrev pub stored : List Status
  stored = shown.database.stored

  abbrev pub shows : ShowsTable s stored table (p.tables table)
  shows = shown.tables table there.find.judging.table

  abbrev pub pages_show : ShownTable
  pages_show = shown_by s.layout s.pages s.locks table shows.blocks

  abbrev pub w : TableState
  w = table_state pages_show shows.unseen

  abbrev pub sight : Sight
  sight = sight_of s.transactions.tx stored o

  pub kept : IsTableKept w
  kept = subst IsTableKept shows.shown shows.kept

  hand_shown : IsShownInHand looking before.judging.query (p.hands n) (p.accounts n)
  hand_shown = (hand_is looking before before.judging.stage).shows (p.hands n) (p.accounts n) (subst (λ (h : Option Hand). HandShows h (p.hands n) (p.accounts n)) there.was (shown.hands n))

  pub in_hand : p.hands n ≡ Some (new_hand (statement_for looking before.judging.query))
  in_hand = hand_shown.in_hand

  pub account_is : p.accounts n ≡ no_account
  account_is = hand_shown.account_is

  -- ---- before the first step

  abbrev seen_now : ℕ → ℕ → Bool
  seen_now b k = seen_in sight (slot_at shows.blocks (record { block = b; slot = k }))

  module _ (rests : shows.unseen.task n ≡ Resting) (b k : ℕ) (row : StoredRow) (there_is : slot_at shows.blocks (record { block = b; slot = k }) ≡ Some row) (seen : sees_stored sight row ≡ true) where
    abbrev its_row : Row
    its_row = record { table = table; id = row.id; values = row.values }

    stands : w.row b k ≡ Some its_row
    stands = ap (row_in table) there_is

    -- none that another session's insert has put: it isn't seen
    put_by_another : (m : ℕ) → m ≢ n → IsPutBy (hand_in s.hands m) b k (shows.unseen.task m) → ⊥
    put_by_another m apart put =
        let own : IsRowOf (transaction_of s.transactions.opens m) (is_put put.insert.place) put.insert.row.id.t put.insert.row.id.k = shown.own m (hands.Inserts put.insert) put.hand_is in
        let same : put.insert.row ≡ its_row = same_Some put.insert.row its_row (sym (put_stands w m b k put.at put.insert.row kept put.is) ∙ stands) in
        let unseen : sees_stored sight row ≡ false = laws.unseen s.layout s.pages s.transactions _ stored m n own.own o row shown.database own.is there.opened (λ is. apart (sym is))
        (sym (ap (λ (r : Row). r.id.t) same) ∙ own.number) in
        false≢true (sym unseen ∙ seen)

    put_by_none : (m : ℕ) → HasPut b k (shows.unseen.task m) → ⊥
    put_by_none m put = elim (cases_eq m n) [
      | inl is ↦ subst (HasPut b k) (ap shows.unseen.task is ∙ rests) put
      | inr apart ↦ put_by_another m apart (put_by b k s.layout table shows.blocks s.transactions.tx stored (transaction_of s.transactions.opens m) (shows.unseen.task m) (hand_in s.hands m) (shows.tasks m) put)
    ]

    seen_row : (r : Row) × (w.row b k ≡ Some r) × IsTrue (shows.unseen.counts r.id.t) × ((m : ℕ) → HasPut b k (shows.unseen.task m) → ⊥)
    seen_row = (its_row, stands, shows.counts row.id.t ∙ laws.seen s.transactions stored n o row there.opened there.whole seen, put_by_none)

  module _ (rests : shows.unseen.task n ≡ Resting) (fresh : IsFresh before) where
    seen_rows : (b k : ℕ) (slot : Slot) → slot_at shows.blocks (record { block = b; slot = k }) ≡ slot → IsTrue (seen_in sight slot)
        → (r : Row) × (w.row b k ≡ Some r) × IsTrue (shows.unseen.counts r.id.t) × ((m : ℕ) → HasPut b k (shows.unseen.task m) → ⊥)
    unfolding seen_in
    seen_rows b k None is seen = absurd (false≢true seen)
    seen_rows b k (Some row) is seen = seen_row rests b k row is seen

    begins_now : BeginsScanning pages_show shows.unseen (scanning seen_now (λ i range. None) (deletes_of looking) before)
    begins_now = record {
      sees = λ b k seen. seen_rows b k (slot_at shows.blocks (record { block = b; slot = k })) refl seen;
      explain = λ wrong. absurd (false≢true wrong);
      judged = λ i range. refl;
      read = fresh.read;
      found = λ b k. ap (λ (found : List (Row × Spot)). is_found found b k) fresh.found;
    }

    sees_now : (b k : ℕ) (row : StoredRow) → slot_at shows.blocks (record { block = b; slot = k }) ≡ Some row → seen_now b k ≡ sees_stored sight row
    unfolding seen_in
    sees_now b k row is = ap (seen_in sight) is

    first_scan : before.judging.stage ≡ stages.Extent → ScansAt s.layout pages_show shows.unseen n shows.blocks sight (deletes_of looking) before
    first_scan is = record {
      sees = seen_now;
      judged = λ i range. None;
      is = rests ∙ sym (ap (λ (stage : Stage). task_of s.layout stage before.judging (scanning seen_now (λ i range. None) (deletes_of looking) before)) is);
      begins = subst (λ (stage : Stage). BeginsAt stage pages_show shows.unseen (scanning seen_now (λ i range. None) (deletes_of looking) before)) (sym is) begins_now;
      now = sees_now;
      stand = subst (All (λ (f : Row × Spot). row_in table (slot_at shows.blocks f.1) ≡ Some f.0)) (sym fresh.found) (All-nil (λ (f : Row × Spot). row_in table (slot_at shows.blocks f.1) ≡ Some f.0));
      remembers = subst (Remembers sight) (sym fresh.last) (none_remembered sight);
    }

  -- ---- and later

  later_scan : IsScanAt s.layout shows.blocks sight (deletes_of looking) before (shows.unseen.task n)
      → ((sees : ℕ → ℕ → Bool) (judged : ℕ → ℕ → Option Bool) → BeginsAt before.judging.stage pages_show shows.unseen (scanning sees judged (deletes_of looking) before))
      → ScansAt s.layout pages_show shows.unseen n shows.blocks sight (deletes_of looking) before
  later_scan at begins = record {
    sees = at.sees;
    judged = at.judged;
    is = at.task_is;
    begins = begins at.sees at.judged;
    now = at.now;
    stand = at.stand;
    remembers = at.remembers;
  }

  begun_at : (stage : Stage) → before.judging.stage ≡ stage → ((sees : ℕ → ℕ → Bool) (judged : ℕ → ℕ → Option Bool) → BeginsAt stage pages_show shows.unseen (scanning sees judged (deletes_of looking) before))
      → (sees : ℕ → ℕ → Bool) (judged : ℕ → ℕ → Option Bool) → BeginsAt before.judging.stage pages_show shows.unseen (scanning sees judged (deletes_of looking) before)
  begun_at stage is begins sees judged = subst (λ (x : Stage). BeginsAt x pages_show shows.unseen (scanning sees judged (deletes_of looking) before)) (sym is) (begins sees judged)

  at_stage : (stage : Stage) → before.judging.stage ≡ stage → IsTaskOf s.layout table shows.blocks s.transactions.tx stored (Some o) (Some (hand_before looking before stage)) (shows.unseen.task n)
      → ScansAt s.layout pages_show shows.unseen n shows.blocks sight (deletes_of looking) before
  at_stage stages.Extent is at = first_scan (at_rest s.layout shows.blocks s stored o before (shows.unseen.task n) looking at) (there.fresh is) is
  at_stage stage is at = later_scan (in_scan s.layout shows.blocks s stored o before (shows.unseen.task n) looking at) (begun_at stage is (λ sees judged. tt))

  pub scans_at : ScansAt s.layout pages_show shows.unseen n shows.blocks sight (deletes_of looking) before
  scans_at = at_stage before.judging.stage refl
      (subst (λ (x : Option Open). IsTaskOf s.layout table shows.blocks s.transactions.tx stored x (Some (hand_before looking before before.judging.stage)) (shows.unseen.task n)) there.opened
      (subst (λ (h : Option Hand). IsTaskOf s.layout table shows.blocks s.transactions.tx stored (transaction_of s.transactions.opens n) h (shows.unseen.task n)) there.was (shows.tasks n)))

  -- before its first step its session is at nothing, in each table
  pub rests_first : before.judging.stage ≡ stages.Extent → shows.unseen.task n ≡ Resting
  rests_first is = scans_at.is ∙ ap (λ (stage : Stage). task_of s.layout stage before.judging (scanning scans_at.sees scans_at.judged (deletes_of looking) before)) is
