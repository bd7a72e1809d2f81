-- a step of a scan that goes on, or ends, in its table
use Rattle.std.proofs.Common.{◌≡◌, ◌⊎◌, inl, inr, ℕ, suc, refl, sym, ◌∙◌}
use Rattle.std.proofs.lemmas.Bool.{cases_eq}
use Rattle.block_model.specs.declared.reply.Point.{Point}
use Rattle.page_locks.specs.declared.did.Did.TheVariants as did
use Rattle.coverage.specs.Accounts.{Account}
use Rattle.coverage.specs.Machines.{ShownTable, Unseen, table_state, task_turned}
use Rattle.coverage.specs.Table.{Resting, Scans, TableScan, Task, pick}
use Rattle.coverage.specs.TableSteps.{Does, GoesOn, HasNothingToMark, JudgesNext, Onward, OnlyTurns, Scanned, Stays, TableStep, TaskTurns, ToMarks}
use Rattle.coverage.proofs.Views.{pick_other, pick_same}
use Rattle.bitmap_scan.specs.ScanAnswers.{ScanStepped}
use Rattle.bitmap_scan.specs.ScanLaws.{ScanGoesTo}
use Rattle.bitmap_scan.specs.ScanSteps.{ScanGoes}

-- where a scan comes is the same whatever the sessions are at
module _ (shown : ShownTable) (u : Unseen) (s : ℕ) (task : Task) where
  pub onward_turned : (scan : TableScan) (next : Task) → Onward (table_state shown u) (Scans scan) next → Onward (table_state shown (task_turned s task u)) (Scans scan) next
  onward_turned scan _ (Stays _ has) = Stays (Scans scan) has
  onward_turned scan _ (Scanned _ read nothing) = Scanned scan read nothing
  onward_turned scan _ (ToMarks _ id rest read selects deletes lists) = ToMarks scan id rest read selects deletes (record { ordered = lists.ordered; all = lists.all; only = lists.only })
  onward_turned scan next (JudgesNext _ _ inside all empty more) = JudgesNext scan next inside all empty (onward_turned (record scan { at = suc scan.at; range = 0 }) next more)

module _ (s : ℕ) (shown : ShownTable) (u : Unseen) where
  -- a session that turns from one task to another
  turned : (one two : Task) → TaskTurns s (table_state shown (task_turned s one u)) (table_state shown (task_turned s two u)) one two
  turned one two = record { was = pick_same s one (u.task s); now = pick_same s two (u.task s); others = other }
    where
      other : (n : ℕ) → (n ≡ s) ⊎ (pick n s two (u.task n) ≡ pick n s one (u.task n))
      other n = elim (cases_eq n s) [
        | inl same ↦ inl same
        | inr apart ↦ inr (pick_other n s two (u.task n) apart ∙ sym (pick_other n s one (u.task n) apart))
      ]

  -- and nothing else
  alone : (one two : Task) → OnlyTurns (table_state shown (task_turned s one u)) (table_state shown (task_turned s two u))
  alone one two = record {
    rows = record { layout = record { indexes = refl; rows_per_page = refl; heap_limit = refl }; blocks = refl; row = λ b k. refl; counts = λ t. refl };
    indexes = record { index = λ i. refl };
    summarise_lock = refl;
  }

  pub steps : (account : Account → Account) (next : Task) (point : Point) → ScanGoesTo s shown u account next point → TableStep s (table_state shown u) (table_state shown (task_turned s next u))
  steps account next point to = record { between = table_state shown (task_turned s to.0 u); does = to.1.does; settles = to.2 }

module _ (s : ℕ) (shown : ShownTable) (u : Unseen) (account : Account → Account) (after : TableScan) (point : Point) where
  -- wherever the scan comes from what its step did
  pub comes_to : (next : Task) → ScanGoes s shown u point account after → Onward (table_state shown u) (Scans after) next → ScanGoesTo s shown u account next point
  comes_to next goes onward =
      let done = Scans goes.done in
      (done, goes.does, GoesOn done next (goes.onward next (onward_turned shown u s done after next onward)) (turned s shown u done next) (alone s shown u done next))

  pub goes : ScanStepped s shown u account after (did.Moved point) → ScanGoesTo s shown u account (Scans after) point
  goes (scan_goes, has_step) = comes_to (Scans after) scan_goes (Stays (Scans after) has_step)

  pub ends : (next : Task) → ScanStepped s shown u account after (did.Finished point) → Onward (table_state shown u) (Scans after) next → ScanGoesTo s shown u account next point
  ends next (scan_goes, read) onward = comes_to next scan_goes onward

  pub replies : ScanStepped s shown u account after (did.Finished point) → HasNothingToMark after
      → (last : TableScan) × (after ≡ record last { at = after.at; range = after.range }) × Does s (table_state shown u) (table_state shown (task_turned s (Scans last) u))
      × Onward (table_state shown (task_turned s (Scans last) u)) (Scans last) Resting
  replies (scan_goes, read) nothing = (scan_goes.done, scan_goes.same, scan_goes.does.does, scan_goes.onward Resting (Scanned after read nothing))
