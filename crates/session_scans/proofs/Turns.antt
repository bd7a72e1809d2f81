-- a step of a scan, in a place that the store shows
use Rattle.std.proofs.Common.{◌≡◌, ◌≢◌, ◌⊎◌, inl, inr, ℕ, Bool, false, ◌&&◌, Option, Some, refl, sym, ap, ◌∙◌}
use Rattle.std.specs.Prelude.{IsTrue}
use Rattle.std.specs.FinMap as finite
use Rattle.std.proofs.lemmas.Bool.{cases_eq}
use Rattle.block_model.specs.declared.reply.Point.{Point}
use Rattle.block_model.specs.declared.reply.Point.TheVariants as points
use Rattle.block_model.specs.declared.row.Query.{Query}
use Rattle.block_model.specs.declared.row.Row.{Row}
use Rattle.block_model.specs.DatabaseState.{OpenTransaction}
use Rattle.block_model.specs.RowMatches.{row_matches}
use Rattle.coverage.specs.IndexView.{IndexTuple}
use Rattle.heap_rows.specs.Heaps.{kinds_at}
use Rattle.heap_rows.specs.RowPlaces.{slot_at}
use Rattle.page_layout.specs.RowBytes.{StoredRow}
use Rattle.snapshot_core.specs.declared.sessions.Open.{Open}
use Rattle.transactions.specs.Sessions.{IsCopyOf}
use Rattle.index_steps.specs.IndexTuples.{are_values}
use Rattle.coverage.specs.Accounts.{Account, no_account}
use Rattle.coverage.specs.Machines.{table_state, task_turned}
use Rattle.coverage.specs.Table.{Scans, TableScan, TableState, Task, pick}
use Rattle.coverage.specs.TableCovered.{IsTableKept}
use Rattle.coverage.specs.TableSteps.{GoesOn, Onward, Settles, TaskTurns}
use Rattle.coverage.proofs.TableSeen.{table_between_kept}
use Rattle.coverage.proofs.Views.{pick_other, pick_same}
use Rattle.bitmap_scan.specs.declared.stage.Stage.{Stage}
use Rattle.bitmap_scan.specs.declared.stage.Stage.TheVariants as stages
use Rattle.bitmap_scan.specs.Finds.{FindHand, scanning}
use Rattle.bitmap_scan.specs.ScanSteps.{ScanGoes, account_at, point_at}
use Rattle.bitmap_scan.specs.TableScans.{is_match, table_scan}
use Rattle.bitmap_scan.proofs.FoundRows.{slot_of_row, values_there}
use Rattle.script_semantics.specs.Beginnings.{Begins, IsScanOf as IsScanOfQuery}
use Rattle.script_semantics.specs.Place.{Place, database_at}
use Rattle.session_parts.specs.PlacesAfter.{TurnsIn, point_in}
use Rattle.session_parts.specs.ShowsPlace.{IsPlaceOf}
use Rattle.session_parts.specs.StoreStates.{ShownStore}
use Rattle.session_parts.proofs.Steps.{machine_turns}
use Rattle.session_scans.specs.declared.looking.Looking.{Looking}
use Rattle.session_scans.specs.declared.looking.Looking.TheVariants as lookings
use Rattle.session_scans.specs.LookLaws.{LookLaws}
use Rattle.session_scans.specs.Looks.{deletes_of, statement_for}
use Rattle.session_scans.proofs.Standing.{LooksThere, ScansAt, kept, pages_show, scans_at, shows, sight, w}
use Rattle.session_scans.proofs.Words.{looks}

-- a step of a scan doesn't prune
pub reads : (stage : Stage) → point_at stage ≢ points.Prune
reads stages.Extent is = cc
reads stage is = cc

-- where the account is empty, it stays so
pub tells_nothing : (stage : Stage) (account : Account) → account ≡ no_account → account_at stage account ≡ no_account
tells_nothing stages.Extent account is = refl
tells_nothing stage account is = is

-- a select or a delete begins with its scan
begins_with : (looking : Looking) (query : Query) (p : Place) (n : ℕ) (v : TableState) (task : Task) (scan : TableScan) → IsScanOfQuery p n v query false (deletes_of looking) scan → task ≡ Scans scan
    → Begins p n v (statement_for looking query) task
begins_with lookings.Select query p n v task scan of is = (scan, of, is)
begins_with lookings.Delete query p n v task scan of is = (scan, of, is)

module _ (laws : LookLaws) (s : ShownStore) (n : ℕ) (looking : Looking) (before : FindHand) (o : Open) (there : LooksThere s n looking before o) (p : Place) (shown : IsPlaceOf s p) where
  abbrev at : ScansAt s.layout (pages_show laws s n looking before o there p shown) (shows laws s n looking before o there p shown).unseen n (shows laws s n looking before o there p shown).blocks
      (sight laws s n looking before o there p shown) (deletes_of looking) before
  at = scans_at laws s n looking before o there p shown

  abbrev here : TableState
  here = w laws s n looking before o there p shown

  abbrev query : Query
  query = before.judging.query

  -- a row there, in its slot, with values of its table's kinds
  its_slot : (b k : ℕ) (r : Row) → here.row b k ≡ Some r → (row : StoredRow) × (slot_at (shows laws s n looking before o there p shown).blocks (record { block = b; slot = k }) ≡ Some row)
      × (r ≡ record { table = query.table; id = row.id; values = row.values })
  its_slot b k r is = slot_of_row query.table (slot_at (shows laws s n looking before o there p shown).blocks (record { block = b; slot = k })) r is

  pub matches_there : (b k : ℕ) (r : Row) → here.row b k ≡ Some r → is_match s.layout query r ≡ row_matches query r
  matches_there b k r is =
      let slot = its_slot b k r is in
      ap (λ (x : Bool). x && row_matches query r)
      (ap (λ (x : Row). are_values (kinds_at s.layout query.table) x.values) slot.2
      ∙ values_there s.layout s.pages query.table (shows laws s n looking before o there p shown).blocks b k slot.0 (shows laws s n looking before o there p shown).has slot.1)

  pub copy : (x : OpenTransaction) × (finite.get (database_at p).sessions n ≡ Some x) × IsCopyOf o x
  copy = (laws.sessions s.layout s.pages s.transactions (database_at p) shown.database).shown n o there.opened

  -- what its session sees is what is in its copy
  in_copy : (b k : ℕ) (r : Row) → here.row b k ≡ Some r → at.sees b k ≡ finite.contains_key copy.0.view r.id
  in_copy b k r is =
      let slot = its_slot b k r is in
      at.now b k slot.0 slot.1
      ∙ sym ((laws.copies s.layout s.pages s.transactions (database_at p) shown.database.stored n query.table o copy.0 (record { block = b; slot = k }) slot.0 shown.database shown.database.has there.opened copy.1
      there.find.judging.table (record { blocks = (shows laws s n looking before o there p shown).blocks; has = (shows laws s n looking before o there p shown).has; there = slot.1 })).seen)
      ∙ ap (λ (x : Row). finite.contains_key copy.0.view x.id) (sym slot.2)

  module _ (after : FindHand) (same : after.judging.query ≡ before.judging.query) (now : ℕ → ℕ → Option Bool) (point : Point) where
    abbrev pub scan_after : TableScan
    scan_after = table_scan s.layout after.judging (scanning at.sees now (deletes_of looking) after)

    module _ (goes : ScanGoes n (pages_show laws s n looking before o there p shown) (shows laws s n looking before o there p shown).unseen point (account_at before.judging.stage) scan_after) where
      abbrev pub done : TableScan
      done = goes.done

      -- the table when the step has done its work
      abbrev pub between : TableState
      between = table_state (pages_show laws s n looking before o there p shown) (task_turned n (Scans done) (shows laws s n looking before o there p shown).unseen)

      pub between_kept : IsTableKept between
      between_kept = table_between_kept n here between (kept laws s n looking before o there p shown) goes.does.does

      pub done_there : between.task n ≡ Scans done
      done_there = pick_same n (Scans done) ((shows laws s n looking before o there p shown).unseen.task n)

      is_query : IsScanOfQuery p n here query false (deletes_of looking) done
      is_query = record {
        keeps = ap (λ (x : TableScan). x.keeps) (sym goes.same) ∙ ap (λ (q : Query). λ (i : ℕ) (t : IndexTuple). t.keeps q.conds) same;
        matches = λ b k r is. ap (λ (x : TableScan). x.matches r) (sym goes.same) ∙ ap (λ (q : Query). is_match s.layout q r) same ∙ matches_there b k r is;
        explain = ap (λ (x : TableScan). x.explains) (sym goes.same);
        deletes = ap (λ (x : TableScan). x.deletes) (sym goes.same);
        sees = λ reads. (
          copy.0,
          copy.1,
          λ b k r is.
              let alike : done.sees b k ≡ finite.contains_key copy.0.view r.id = ap (λ (x : TableScan). x.sees b k) (sym goes.same) ∙ in_copy b k r is in
              ((λ (seen : IsTrue (done.sees b k)). sym alike ∙ seen), (λ (has : IsTrue (finite.contains_key copy.0.view r.id)). alike ∙ has)),
        );
      }

      begins : Begins p n here (statement_for looking query) (between.task n)
      begins = begins_with looking query p n here (between.task n) done is_query done_there

      module _ (next : Task) (comes : Onward between (Scans done) next) where
        abbrev pub v : TableState
        v = table_state (pages_show laws s n looking before o there p shown) (task_turned n next (shows laws s n looking before o there p shown).unseen)

        turned : TaskTurns n between v (Scans done) next
        turned = record { was = done_there; now = pick_same n next ((shows laws s n looking before o there p shown).unseen.task n); others = other }
          where
            other : (m : ℕ) → (m ≡ n) ⊎ (pick m n next ((shows laws s n looking before o there p shown).unseen.task m) ≡ pick m n (Scans done) ((shows laws s n looking before o there p shown).unseen.task m))
            other m = elim (cases_eq m n) [
              | inl is ↦ inl is
              | inr apart ↦ inr (pick_other m n next ((shows laws s n looking before o there p shown).unseen.task m) apart ∙ sym (pick_other m n (Scans done) ((shows laws s n looking before o there p shown).unseen.task m) apart))
            ]

        settles : Settles n between v
        settles = GoesOn (Scans done) next comes turned (record {
          rows = record { layout = record { indexes = refl; rows_per_page = refl; heap_limit = refl }; blocks = refl; row = λ b k. refl; counts = λ t. refl };
          indexes = record { index = λ i. refl };
          summarise_lock = refl;
        })

        pub turns_there : point ≢ points.Prune
            → (turns : TurnsIn p n (statement_for looking query) query.table v (account_at before.judging.stage (p.accounts n))) × (point_in turns ≡ Some point) × (turns.step.between ≡ between)
        turns_there no_prune = machine_turns p n query.table (statement_for looking query) here between v point (account_at before.judging.stage) (shows laws s n looking before o there p shown).shown
            (looks looking query).not_work ((looks looking query).on_table p n) goes.does no_prune settles (inr begins)
