-- A machine's step, its end and a scan's reply, as the table takes them up.
use Rattle.std.proofs.Common.{◌≡◌, ◌≢◌, ◌⊎◌, inl, inr, ⊎_elim, ℕ, Some, None, Bool, [], ◌∷◌, sym, ◌∙◌, subst}
use Rattle.std.specs.Prelude.{refl, false, IsTrue}
use Rattle.block_model.specs.declared.row.Row.{Row}
use Rattle.block_model.specs.declared.place.Spot.{Spot}
use Rattle.coverage.specs.Table.{TableScan, Task, Resting, Scans, TableState, pick}
use Rattle.coverage.specs.TableSteps.{GivesLock, TableNext, TableDone}
use Rattle.coverage.specs.TableCovered.{IsTableKept}
use Rattle.coverage.specs.Machines.{ShownTable, Unseen, table_state, task_turned, IsFewer, MachineSteps, MachineEnds, MachineWaits, ScanReplies, ScanSteps}
use Rattle.coverage.specs.TablePoints.{WaitedFor, SummariseLock, PageLock, waits_for, IsHeldBy}
use Rattle.coverage.proofs.TableBlocked.{blocked_by}
use Rattle.coverage.proofs.Views.{pick_same, pick_there}
use Rattle.coverage.proofs.TableSeen.{table_run_kept, table_between_kept}
use Rattle.coverage.proofs.TableScans.{replied_finds}

pub steps_keep : (s : ℕ) (old new : ShownTable) (before after : Task) (u : Unseen) → MachineSteps s old new before after → u.task s ≡ before
    → IsTableKept (table_state old u)
    → (unnamed : ℕ → Spot → Bool) × IsFewer u.unnamed unnamed × IsTableKept (table_state new (task_turned s after (record u { unnamed = unnamed })))
steps_keep s old new before after u step is kept =
    let did = step u is kept in (did.0, did.1, table_run_kept (s ∷ []) _ _ kept (TableNext s [] _ _ _ did.2 (TableDone _)))

pub ends_keep : (s : ℕ) (old new : ShownTable) (before : Task) (u : Unseen) → MachineEnds s old new before → u.task s ≡ before
    → IsTableKept (table_state old u) → IsTableKept (table_state new (record (task_turned s Resting u) { summarise_lock = None }))
ends_keep s old new before u step is kept =
    let end = step u is kept in
    table_run_kept (s ∷ []) _ _ kept (TableNext s [] _ _ (table_state new (record (task_turned s Resting u) { summarise_lock = None }))
    (record {
      between = table_state new (task_turned s end.0 u);
      does = end.1;
      settles = GivesLock end.0 end.2
          (record {
            was = pick_same s end.0 (u.task s);
            now = pick_same s Resting (u.task s);
            others = λ n. ⊎_elim
                (λ (at : n ≡ s). inl at)
                (λ (e : pick n s Resting (u.task n) ≡ u.task n). elim (pick_there n s end.0 (u.task n)) [ inl at ↦ inl at | inr e' ↦ inr (e ∙ sym e') ])
                (pick_there n s Resting (u.task n));
          })
          refl
          (record { layout = record { indexes = refl; rows_per_page = refl; heap_limit = refl }; blocks = refl; row = λ b k. refl; counts = λ t. refl })
          (record { index = λ i. refl });
    })
    (TableDone _))

pub reply_finds : (s b k : ℕ) (old new : ShownTable) (before : Task) (scan : TableScan) (u : Unseen) → ScanReplies s old new before scan → u.task s ≡ before
    → IsTableKept (table_state old u) → scan.explains ≡ false → IsTrue (scan.sees b k)
    → (r : Row) × (new.row b k ≡ Some r) × (IsTrue (scan.matches r) → IsTrue (scan.found b k))
reply_finds s b k old new before scan u step is kept reads sees =
    let last = step u is kept in
    replied_finds (table_state new (task_turned s (Scans scan) u)) s b k scan
    (table_between_kept s (table_state old u) (table_state new (task_turned s (Scans scan) u)) kept last.0) (pick_same s (Scans scan) (u.task s)) last.1 reads
    sees

-- what a blocked machine waits for, another session holds
held_cases : (w : TableState) (n : ℕ) (what : WaitedFor) → IsHeldBy w what n
    → (w.summarise_lock ≡ Some n) ⊎ ((at : ℕ) × (page : ℕ) × ((w.index at).lock page ≡ Some n))
held_cases w n SummariseLock held = inl held
held_cases w n (PageLock at page) held = inr (at, page, held)

pub waits_held : (s : ℕ) (shown : ShownTable) (task : Task) (u : Unseen) → MachineWaits s shown task → u.task s ≡ task → IsTableKept (table_state shown u)
    → (n : ℕ) × (n ≢ s) × ((u.summarise_lock ≡ Some n) ⊎ ((at : ℕ) × (page : ℕ) × ((shown.index at).lock page ≡ Some n)))
waits_held s shown task u waits is kept =
    let blocked = waits u is kept in
    let by = blocked_by s (table_state shown u) task blocked in
    (by.0, by.2, held_cases (table_state shown u) by.0 (waits_for (table_state shown u) s task blocked) by.1)

-- a scan's machine leaves the page locks as they are
pub scans_step : (s : ℕ) (old new : ShownTable) (before after : Task) → ScanSteps old new before after
    → ((i : ℕ) → (new.index i).lock ≡ (old.index i).lock) → MachineSteps s old new before after
scans_step s old new before after steps same =
    subst (λ (n : ShownTable). MachineSteps s old n before after) (λ j. record new { index = λ i. record (new.index i) { lock = sym (same i) j } })
    (steps s (λ i. (old.index i).lock))
