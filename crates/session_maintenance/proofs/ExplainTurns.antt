-- a step of an explain, in a place that the store shows
use Rattle.std.proofs.Common.{◌≡◌, ◌≢◌, ◌⊎◌, inl, inr, ℕ, Bool, true, false, ◌&&◌, List, Option, None, Some, refl, sym, ap, subst, ◌∙◌}
use Rattle.std.proofs.lemmas.Bool.{cases_eq}
use Rattle.block_model.specs.declared.reply.Point.{Point}
use Rattle.block_model.specs.declared.reply.Point.TheVariants as points
use Rattle.block_model.specs.declared.row.Query.{Query}
use Rattle.block_model.specs.declared.row.Row.{Row}
use Rattle.coverage.specs.IndexView.{IndexTuple}
use Rattle.block_model.specs.RowMatches.{row_matches}
use Rattle.page_locks.specs.declared.did.Did.{Did}
use Rattle.heap_rows.specs.Heaps.{kinds_at}
use Rattle.heap_rows.specs.RowPlaces.{slot_at}
use Rattle.snapshot_core.specs.declared.statuses.Status.{Status}
use Rattle.store_layout.specs.declared.statement.Statement.{Statement}
use Rattle.store_layout.specs.declared.statement.Statement.TheVariants as statements
use Rattle.store_layout.specs.DiskLayout.{DiskLayout}
use Rattle.snapshot_core.specs.StoredVersions.{transaction_of}
use Rattle.index_steps.specs.IndexTuples.{are_values}
use Rattle.index_steps.specs.ShownRows.{shown_by}
use Rattle.coverage.specs.Accounts.{Account, no_account}
use Rattle.coverage.specs.Machines.{ShownTable, table_state, task_turned}
use Rattle.coverage.specs.Table.{Scans, TableScan, TableState, Task, pick}
use Rattle.coverage.specs.TableSteps.{GoesOn, Onward, Settles, TaskTurns}
use Rattle.coverage.proofs.Views.{pick_other, pick_same}
use Rattle.bitmap_scan.specs.declared.stage.Stage.{Stage}
use Rattle.bitmap_scan.specs.declared.stage.Stage.TheVariants as stages
use Rattle.bitmap_scan.specs.Explains.{ExplainHand, JudgesNoneAt, explaining}
use Rattle.bitmap_scan.specs.ScanHands.{IsScanOf, ScanHand}
use Rattle.bitmap_scan.specs.ScanSteps.{ScanGoes, account_at, point_at}
use Rattle.bitmap_scan.specs.TableScans.{is_match, table_scan, task_of}
use Rattle.bitmap_scan.proofs.FoundRows.{slot_of_row, values_there}
use Rattle.script_semantics.specs.Beginnings.{Begins, IsScanOf as IsScanOfQuery}
use Rattle.script_semantics.specs.Place.{Place, new_hand}
use Rattle.session_parts.specs.declared.hand.Hand.{Hand}
use Rattle.session_parts.specs.declared.hand.Hand.TheVariants as hands
use Rattle.session_parts.specs.Hands.{HandShows}
use Rattle.session_parts.specs.HandsInTables.{IsExplainAt, IsTaskOf}
use Rattle.session_parts.specs.PlacesAfter.{TurnsIn, point_in}
use Rattle.session_parts.specs.ShowsPlace.{IsPlaceOf, ShowsTable}
use Rattle.session_parts.specs.StoreStates.{ShownStore, hand_in}
use Rattle.session_parts.proofs.Steps.{machine_turns}

-- what the explain made of the ranges so far; before its first step nothing
pub record JudgedSo (layout : DiskLayout) (hand : ScanHand) (stage : Stage) (task : Task) : Type 0 where
  pub judged : ℕ → ℕ → Option Bool
  pub is : task ≡ task_of layout stage hand (explaining judged)
  pub none : JudgesNoneAt stage judged

judged_so : (layout : DiskLayout) (hand : ScanHand) (stage : Stage) (task : Task) (judged : ℕ → ℕ → Option Bool) → task ≡ task_of layout stage hand (explaining judged) → JudgedSo layout hand stage task
judged_so layout hand stages.Extent task judged is = record { judged = λ i range. None; is = is; none = λ i range. refl }
judged_so layout hand (stages.Map at range) task judged is = record { judged = judged; is = is; none = tt }
judged_so layout hand (stages.Tuple at range spot) task judged is = record { judged = judged; is = is; none = tt }
judged_so layout hand stages.Judged task judged is = record { judged = judged; is = is; none = tt }

-- a step of a scan doesn't prune
pub reads : (stage : Stage) → point_at stage ≢ points.Prune
reads stages.Extent is = cc
reads (stages.Map at range) is = cc
reads (stages.Tuple at range spot) is = cc
reads stages.Judged is = cc

-- where the account is empty, it stays so
pub tells_nothing : (stage : Stage) (account : Account) → account ≡ no_account → account_at stage account ≡ no_account
tells_nothing stages.Extent account is = refl
tells_nothing (stages.Map at range) account is = is
tells_nothing (stages.Tuple at range spot) account is = is
tells_nothing stages.Judged account is = is

true_false : true ≡ false → ⊥
true_false is = cc

-- a row of a table has values of the table's kinds
and_left : (a b : Bool) → a ≡ true → (a && b) ≡ b
and_left a b is = ap (λ (x : Bool). x && b) is

-- the session has this explain in hand, over a table of the layout
pub record ExplainsThere (old : ShownStore) (n : ℕ) (before : ExplainHand) : Type 0 where
  pub was : hand_in old.hands n ≡ Some (hands.Explains before)
  pub scan : IsScanOf old.layout before.judging

module _ (old : ShownStore) (n : ℕ) (before : ExplainHand) (there : ExplainsThere old n before) (p : Place) (shown : IsPlaceOf old p) where
  abbrev pub table : ℕ
  table = before.judging.query.table

  abbrev pub statement : Statement
  statement = statements.Explain before.judging.query

  abbrev pub stored : List Status
  stored = shown.database.stored

  abbrev pub shows : ShowsTable old stored table (p.tables table)
  shows = shown.tables table there.scan.table

  abbrev pub pages_show : ShownTable
  pages_show = shown_by old.layout old.pages old.locks table shows.blocks

  abbrev pub w : TableState
  w = table_state pages_show shows.unseen

  at_task : IsExplainAt old.layout before.judging (shows.unseen.task n)
  at_task =
      let it : IsTaskOf old.layout table shows.blocks old.transactions.tx stored (transaction_of old.transactions.opens n) (Some (hands.Explains before)) (shows.unseen.task n) =
      subst (λ (h : Option Hand). IsTaskOf old.layout table shows.blocks old.transactions.tx stored (transaction_of old.transactions.opens n) h (shows.unseen.task n)) there.was (shows.tasks n) in
      it.0 refl

  pub judged : JudgedSo old.layout before.judging before.judging.stage (shows.unseen.task n)
  judged = judged_so old.layout before.judging before.judging.stage (shows.unseen.task n) at_task.0 at_task.1

  hand_shown : HandShows (Some (hands.Explains before)) (p.hands n) (p.accounts n)
  hand_shown = subst (λ (h : Option Hand). HandShows h (p.hands n) (p.accounts n)) there.was (shown.hands n)

  pub hand_is : p.hands n ≡ Some (new_hand statement)
  hand_is = hand_shown.1 ∙ ap Some (λ i. record { statement = hand_shown.2 i; answers = hand_shown.3 i })

  pub told_is : p.accounts n ≡ no_account
  told_is = hand_shown.4

  -- a scan of the query judges by its conditions, and finds its matches
  matches_there : (b k : ℕ) (r : Row) → w.row b k ≡ Some r → is_match old.layout before.judging.query r ≡ row_matches before.judging.query r
  matches_there b k r is =
      let slot = slot_of_row table (slot_at shows.blocks (record { block = b; slot = k })) r is in
      and_left (are_values (kinds_at old.layout table) r.values) (row_matches before.judging.query r)
      (ap (λ (x : Row). are_values (kinds_at old.layout table) x.values) slot.2 ∙ values_there old.layout old.pages table shows.blocks b k slot.0 shows.has slot.1)

  module _ (answer : Did) (after : ScanHand) (same : after.query ≡ before.judging.query) where
    abbrev pub scan_after : (ℕ → ℕ → Option Bool) → TableScan
    scan_after now = table_scan old.layout after (explaining now)

    module _ (now : ℕ → ℕ → Option Bool) (point : Point) (goes : ScanGoes n pages_show shows.unseen point (account_at before.judging.stage) (scan_after now)) where
      abbrev pub done : TableScan
      done = goes.done

      -- the table when the step has done its work
      abbrev pub between : TableState
      between = table_state pages_show (task_turned n (Scans done) shows.unseen)

      is_query : IsScanOfQuery p n w before.judging.query true false done
      is_query = record {
        keeps = ap (λ (s : TableScan). s.keeps) (sym goes.same) ∙ ap (λ (q : Query). λ (i : ℕ) (t : IndexTuple). t.keeps q.conds) same;
        matches = λ b k r is. ap (λ (s : TableScan). s.matches r) (sym goes.same) ∙ ap (λ (q : Query). is_match old.layout q r) same ∙ matches_there b k r is;
        explain = ap (λ (s : TableScan). s.explains) (sym goes.same);
        deletes = ap (λ (s : TableScan). s.deletes) (sym goes.same);
        sees = λ wrong. absurd (true_false wrong);
      }

      begins : Begins p n w statement (between.task n)
      begins = (done, is_query, pick_same n (Scans done) (shows.unseen.task n))

      module _ (next : Task) (comes : Onward between (Scans done) next) where
        abbrev pub v : TableState
        v = table_state pages_show (task_turned n next shows.unseen)

        turned : TaskTurns n between v (Scans done) next
        turned = record { was = pick_same n (Scans done) (shows.unseen.task n); now = pick_same n next (shows.unseen.task n); others = other }
          where
            other : (m : ℕ) → (m ≡ n) ⊎ (pick m n next (shows.unseen.task m) ≡ pick m n (Scans done) (shows.unseen.task m))
            other m = elim (cases_eq m n) [
              | inl is ↦ inl is
              | inr apart ↦ inr (pick_other m n next (shows.unseen.task m) apart ∙ sym (pick_other m n (Scans done) (shows.unseen.task m) apart))
            ]

        settles : Settles n between v
        settles = GoesOn (Scans done) next comes turned (record {
          rows = record { layout = record { indexes = refl; rows_per_page = refl; heap_limit = refl }; blocks = refl; row = λ b k. refl; counts = λ t. refl };
          indexes = record { index = λ i. refl };
          summarise_lock = refl;
        })

        pub turns_there : point ≢ points.Prune
            → (turns : TurnsIn p n statement table v (account_at before.judging.stage (p.accounts n))) × (point_in turns ≡ Some point) × (turns.step.between ≡ between)
        turns_there no_prune = machine_turns p n table statement w between v point (account_at before.judging.stage) shows.shown not_work refl goes.does no_prune settles (inr begins)
          where
            not_work : statement ≢ statements.Work
            not_work is = cc
