-- a step of a scan that goes on
use Rattle.std.proofs.Common.{◌≡◌, ◌≢◌, ℕ, ◌≤◌, Bool, List, length, Option, Some, All, refl, sym, ap, subst, ◌∙◌}
use Rattle.std.specs.FinMap as finite
use Rattle.std.proofs.lemmas.Option.{same_Some}
use Rattle.block_model.specs.declared.reply.Point.{Point}
use Rattle.block_model.specs.declared.request.Entry.{Entry}
use Rattle.block_model.specs.declared.row.Query.{Query}
use Rattle.store_layout.specs.DiskLayout.{DiskLayout}
use Rattle.page_layout.specs.PageContents.{Slot}
use Rattle.page_locks.specs.declared.did.Did.TheVariants as did
use Rattle.snapshot_core.specs.declared.statuses.Status.{Status}
use Rattle.store_layout.specs.declared.limits.TheConstants.{MAX_ENTRIES}
use Rattle.snapshot_core.specs.declared.sessions.Open.{Open}
use Rattle.snapshot_core.specs.StoredVersions.{transaction_of}
use Rattle.tx_table.specs.TxState.{TxState}
use Rattle.transactions.specs.CountedRows.{counts as counts_of}
use Rattle.transactions.specs.TransactionsState.{TransactionsState}
use Rattle.coverage.specs.Accounts.{Account, no_account}
use Rattle.coverage.specs.Machines.{table_state, task_turned}
use Rattle.coverage.specs.Table.{Resting, Scans, TableState, Task}
use Rattle.coverage.specs.TableSteps.{Onward, Stays}
use Rattle.coverage.proofs.Views.{pick_same}
use Rattle.bitmap_scan.specs.declared.stage.Stage.{Stage}
use Rattle.bitmap_scan.specs.declared.stage.Stage.TheVariants as stages
use Rattle.bitmap_scan.specs.Finds.{FindHand, scanning}
use Rattle.bitmap_scan.specs.LastStatuses.{Remembers}
use Rattle.bitmap_scan.specs.ScanHands.{ScanHand}
use Rattle.bitmap_scan.specs.ScanSteps.{ScanGoes, account_at, point_at}
use Rattle.bitmap_scan.specs.TableScans.{Beside, table_scan, task_of}
use Rattle.script_semantics.specs.Place.{Hand as HandAt, Place, database_at, new_hand}
use Rattle.script_semantics.specs.StatementSteps.{MakesAt, Moved, Steps, StepsTo, course_of}
use Rattle.session_parts.specs.HandsAsk.{IsNoInsert}
use Rattle.session_parts.specs.declared.hand.Hand.{Hand}
use Rattle.session_parts.specs.Hands.{HandShows}
use Rattle.session_parts.specs.HandsInTables.{IsScanAt, IsTaskOf, sight_of, table_in}
use Rattle.session_parts.specs.Leaving.{LeadsTo}
use Rattle.session_parts.specs.PlacesAfter.{place_after}
use Rattle.session_parts.specs.ShowsPlace.{IsOfTransaction, IsPlaceOf}
use Rattle.session_parts.specs.StoreStates.{ShownStore, hand_in}
use Rattle.session_parts.proofs.Steps.{turn_goes_on}
use Rattle.session_scans.specs.declared.looking.Looking.{Looking}
use Rattle.session_scans.specs.declared.looking.Looking.TheVariants as lookings
use Rattle.session_scans.specs.LookLaws.{LookLaws}
use Rattle.session_scans.specs.Looks.{deletes_of, scan_hand_of, statement_for}
use Rattle.session_scans.proofs.Led.{IsInHand, ScanLeft, nothing_entered, place_shown}
use Rattle.session_scans.proofs.Standing.{LooksThere, ScansAt, account_is, in_hand, pages_show, scans_at, shows, sight}
use Rattle.session_scans.proofs.Stands.{IsThere}
use Rattle.session_scans.proofs.Stepped.{MakesStep, stepped}
use Rattle.session_scans.proofs.Turns.{between, done, reads, scan_after, tells_nothing, turns_there}
use Rattle.session_scans.proofs.Words.{scan_is, scan_is_own, scan_is_shown}

-- one that has begun scans
pub begun_task : (layout : DiskLayout) (stage : Stage) (hand : ScanHand) (beside : Beside) → stage ≢ stages.Extent → task_of layout stage hand beside ≡ Scans (table_scan layout hand beside)
begun_task layout stages.Extent hand beside apart = absurd (apart refl)
begun_task layout stage hand beside apart = refl

-- a step under a scan's point enters nothing
pub enters_nothing : (p : Place) (n : ℕ) (hand : HandAt) (stage : Stage) → MakesAt (point_at stage) p n hand (course_of p hand)
enters_nothing p n hand stages.Extent = refl
enters_nothing p n hand stage = refl

scan_task : (layout : DiskLayout) (number : ℕ) (blocks : List (List Slot)) (tx : TxState) (stored : List Status) (o : Open) (looking : Looking) (after : FindHand) (task : Task) → after.judging.query.table ≡ number
    → IsScanAt layout blocks (sight_of tx stored o) (deletes_of looking) after task → IsTaskOf layout number blocks tx stored (Some o) (Some (scan_hand_of looking after)) task
scan_task layout number blocks tx stored o lookings.Select after task is at = ((λ own. at), (λ away. absurd (away is)))
scan_task layout number blocks tx stored o lookings.Delete after task is at = ((λ own. at), (λ away. absurd (away is)))

-- a step behind which the session has this in hand, which is at that in its table
module _ (laws : LookLaws) (old new : ShownStore) (n : ℕ) (looking : Looking) (before after : FindHand) (o : Open) (there : LooksThere old n looking before o) (p : Place) (shown : IsPlaceOf old p)
    (left : ScanLeft old new n old.transactions) (few : length old.entries ≤ MAX_ENTRIES) (same_entries : new.entries ≡ old.entries) (same : after.judging.query ≡ before.judging.query) (point : Point) (named : point ≡ point_at before.judging.stage)
    (now : ℕ → ℕ → Option Bool) (goes : ScanGoes n (pages_show laws old n looking before o there p shown) (shows laws old n looking before o there p shown).unseen point (account_at before.judging.stage)
    (scan_after laws old n looking before o there p shown after same now point))
    (next : Task) (busy : next ≢ Resting) (comes : Onward (between laws old n looking before o there p shown after same now point goes) (Scans (done laws old n looking before o there p shown after same now point goes)) next)
    (then : Hand) (is : hand_in new.hands n ≡ Some then) (asks : IsNoInsert (Some then)) (is_in : (other : ℕ) → table_in old.layout (Some then) ≡ Some other → other ≡ after.judging.query.table)
    (task : IsTaskOf old.layout before.judging.query.table (shows laws old n looking before o there p shown).blocks old.transactions.tx shown.database.stored (Some o) (Some then) next)
    (shows_then : HandShows (Some then) (Some (new_hand (statement_for looking after.judging.query))) no_account)
    (own : IsOfTransaction (transaction_of new.transactions.opens n) (finite.get (database_at p).sessions n) then) where
  abbrev number : ℕ
  number = before.judging.query.table

  abbrev hand : HandAt
  hand = new_hand (statement_for looking before.judging.query)

  abbrev account : Account
  account = account_at before.judging.stage (p.accounts n)

  empty : account ≡ no_account
  empty = tells_nothing before.judging.stage (p.accounts n) (account_is laws old n looking before o there p shown)

  in_hand_then : IsInHand old new n number (shows laws old n looking before o there p shown).blocks shown.database.stored next
  in_hand_then = record {
    asks = subst IsNoInsert (sym is) asks;
    is_in = λ other there_is. is_in other (sym (ap (table_in old.layout) is) ∙ there_is) ∙ ap (λ (q : Query). q.table) same;
    task = subst (λ (h : Option Hand). IsTaskOf old.layout number (shows laws old n looking before o there p shown).blocks new.transactions.tx shown.database.stored (transaction_of new.transactions.opens n) h next) (sym is)
        (subst (λ (t : TransactionsState). IsTaskOf old.layout number (shows laws old n looking before o there p shown).blocks t.tx shown.database.stored (transaction_of t.opens n) (Some then) next) (sym left.transactions)
        (subst (λ (x : Option Open). IsTaskOf old.layout number (shows laws old n looking before o there p shown).blocks old.transactions.tx shown.database.stored x (Some then) next) (sym there.opened) task));
  }

  leads : LeadsTo old new p n (Some hand) account
  leads = nothing_entered old new n p shown left same_entries (Some hand) account
      (subst (λ (h : Option Hand). HandShows h (Some hand) account) (sym is)
      (subst (λ (a : Account). HandShows (Some then) (Some hand) a) (sym empty)
      (subst (λ (q : Query). HandShows (Some then) (Some (new_hand (statement_for looking q))) no_account) same shows_then)))
      (λ h here. subst (λ (x : Hand). IsOfTransaction (transaction_of new.transactions.opens n) (finite.get (database_at p).sessions n) x) (same_Some then h (sym is ∙ here)) own)

  pub moves_on : (q : Place) × IsPlaceOf new q × Steps p n (Moved point) q
  moves_on =
      let turns = turns_there laws old n looking before o there p shown after same now point goes next comes (λ is_prune. reads before.judging.stage (sym named ∙ is_prune)) in
      let v : TableState = table_state (pages_show laws old n looking before o there p shown) (task_turned n next (shows laws old n looking before o there p shown).unseen) in
      let counts : ℕ → Bool = counts_of new.transactions shown.database.stored in (
        place_after p n number (Some hand) v account counts new.entries,
        place_shown laws old new n looking before o there p shown left next (Some hand) account in_hand_then leads turns.0 empty,
        record {
          hand = hand;
          in_hand = in_hand laws old n looking before o there p shown;
          steps = subst (λ (e : List Entry). StepsTo p n hand (Moved point) (place_after p n number (Some hand) v account counts e)) (shown.journal ∙ sym same_entries)
              (turn_goes_on p n number hand v account counts point (course_of p hand) turns.0 turns.1
              (λ rests. busy (sym (pick_same n next ((shows laws old n looking before o there p shown).unseen.task n)) ∙ rests))
              (subst (λ (q : Point). MakesAt q p n hand (course_of p hand)) (sym named) (enters_nothing p n hand before.judging.stage)));
          fits = subst (λ (e : List Entry). length e ≤ MAX_ENTRIES) (sym same_entries) few;
        },
      )

-- the scan goes on
module _ (laws : LookLaws) (old new : ShownStore) (n : ℕ) (looking : Looking) (before after : FindHand) (o : Open) (there : LooksThere old n looking before o) (p : Place) (shown : IsPlaceOf old p)
    (left : ScanLeft old new n old.transactions) (few : length old.entries ≤ MAX_ENTRIES) (same_entries : new.entries ≡ old.entries) (same : after.judging.query ≡ before.judging.query)
    (point : Point) (named : point ≡ point_at before.judging.stage) (steps : MakesStep laws old n looking before after o there p shown (did.Moved point)) (begun : after.judging.stage ≢ stages.Extent)
    (is : hand_in new.hands n ≡ Some (scan_hand_of looking after))
    (stand : All (IsThere before.judging.query.table (shows laws old n looking before o there p shown).blocks) after.found) (remembers : Remembers (sight laws old n looking before o there p shown) after.last) where
  abbrev at : ScansAt old.layout (pages_show laws old n looking before o there p shown) (shows laws old n looking before o there p shown).unseen n (shows laws old n looking before o there p shown).blocks
      (sight laws old n looking before o there p shown) (deletes_of looking) before
  at = scans_at laws old n looking before o there p shown

  abbrev now : ℕ → ℕ → Option Bool
  now = (stepped laws old n looking before after o there p shown (did.Moved point) steps).0

  abbrev next : Task
  next = Scans (scan_after laws old n looking before o there p shown after same now point)

  scans_then : IsScanAt old.layout (shows laws old n looking before o there p shown).blocks (sight laws old n looking before o there p shown) (deletes_of looking) after next
  scans_then = record {
    begun = begun;
    sees = at.sees;
    judged = now;
    task_is = sym (begun_task old.layout after.judging.stage after.judging (scanning at.sees now (deletes_of looking) after) begun);
    now = at.now;
    stand = subst (λ (q : Query). All (IsThere q.table (shows laws old n looking before o there p shown).blocks) after.found) (sym same) stand;
    remembers = remembers;
  }

  pub scan_goes_on : (q : Place) × IsPlaceOf new q × Steps p n (Moved point) q
  scan_goes_on =
      let made = (stepped laws old n looking before after o there p shown (did.Moved point) steps).1 in
      moves_on laws old new n looking before after o there p shown left few same_entries same point named now made.0 next (λ rests. cc) (made.0.onward next (Stays next made.1))
      (scan_hand_of looking after) is (scan_is looking after).asks ((scan_is looking after).in_table old.layout)
      (scan_task old.layout before.judging.query.table (shows laws old n looking before o there p shown).blocks old.transactions.tx shown.database.stored o looking after next (ap (λ (q : Query). q.table) same) scans_then)
      (scan_is_shown looking after) (scan_is_own (transaction_of new.transactions.opens n) (finite.get (database_at p).sessions n) looking after)
